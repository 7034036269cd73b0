use Rattle.kernel_core.proofs.Told.{few_records}
use Rattle.kernel_core.proofs.laws.few_records.Goals as goal

pub returns : goal.returns
returns c = few_records
