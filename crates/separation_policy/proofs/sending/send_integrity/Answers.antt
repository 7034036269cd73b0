use Rattle.separation_policy.proofs.SendingRuns.{send_integrity}
use Rattle.separation_policy.proofs.sending.send_integrity.Goals as goal

pub returns : goal.returns
returns c = send_integrity
