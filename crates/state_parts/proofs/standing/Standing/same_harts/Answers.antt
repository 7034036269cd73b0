use Rattle.state_parts.specs.Same.{same_harts}
use Rattle.state_parts.specs.SameLaws.{harts_decide}
use Rattle.state_parts.proofs.Ends.{answered}
use Rattle.state_parts.proofs.standing.Standing.same_harts.Goals as goal

pub returns : goal.returns
returns c =
    let here = c.args.self.now.queues.harts in
    let there = c.args.other.now.queues.harts in
    answered c.harts_same.result (same_harts here there) (harts_decide here there) c.harts_same.ensures
