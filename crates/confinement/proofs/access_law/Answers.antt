use Rattle.confinement.proofs.Walks.{access_ends}
use Rattle.confinement.proofs.access_law.Goals as goal

pub returns : goal.returns
returns c cut side s space address kind each may = access_ends cut side s.items each.slots kind space address may
