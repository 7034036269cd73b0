use Rattle.read_back.proofs.Objects.{objects_listed}
use Rattle.read_back.proofs.objects_are_listed.Goals as goal

pub returns : goal.returns
returns c = objects_listed
