use Rattle.confinement.proofs.Operating.{finds, memory_operation-may, control_operation-may}
use Rattle.confinement.proofs.operation_law.Goals as goal

pub returns : goal.returns
returns c = record {
  memory = λ cut side s cap r each may sent. memory_operation-may cut side s cap may (finds cut side s each cap may) r sent;
  control = λ cut side reading s cap r each may sent. control_operation-may cut side s cap may (finds cut side s each cap may) r sent reading;
}
