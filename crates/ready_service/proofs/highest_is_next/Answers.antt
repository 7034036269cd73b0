use Rattle.ready_service.proofs.Served.{next, first_performs}
use Rattle.ready_service.proofs.highest_is_next.Goals as goal

pub returns-clause-highest : goal.returns-clause-highest
returns-clause-highest c = next

pub returns-clause-first : goal.returns-clause-first
returns-clause-first c = first_performs
