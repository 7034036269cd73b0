use Rattle.ready_service.proofs.Served.{served}
use Rattle.ready_service.proofs.served_in_order.Goals as goal

pub returns : goal.returns
returns c = served
