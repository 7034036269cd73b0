use Rattle.state_parts.specs.Same.{same_lists}
use Rattle.state_parts.specs.SameLaws.{lists_decide}
use Rattle.state_parts.proofs.Ends.{answered}
use Rattle.state_parts.proofs.lists.same_ready.Goals as goal

pub returns : goal.returns
returns c = answered c.ready_same.result (same_lists c.args.a.now.ready c.args.b.now.ready) (lists_decide c.args.a.now.ready c.args.b.now.ready) c.ready_same.ensures
