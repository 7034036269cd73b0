use Rattle.separation_policy.proofs.SendingViews.{send_noninterference}
use Rattle.separation_policy.proofs.sending.send_noninterference.Goals as goal

pub returns : goal.returns
returns c = send_noninterference c.isolation.ensures
