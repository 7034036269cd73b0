use Rattle.separation_policy.proofs.SendingViews.{send_view_law}
use Rattle.separation_policy.proofs.sending.send_view_law.Goals as goal

pub returns : goal.returns
returns c = send_view_law
