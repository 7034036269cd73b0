use Rattle.state_parts.specs.Same.{same_lists}
use Rattle.state_parts.specs.SameLaws.{lists_decide}
use Rattle.state_parts.proofs.Ends.{answered}
use Rattle.state_parts.proofs.standing.Standing.same_sleepers.Goals as goal

pub returns : goal.returns
returns c =
    let here = c.args.self.now.queues.sleepers in
    let there = c.args.other.now.queues.sleepers in
    answered c.sleepers_same.result (same_lists here there) (lists_decide here there) c.sleepers_same.ensures
