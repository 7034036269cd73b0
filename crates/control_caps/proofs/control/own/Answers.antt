use Rattle.std.proofs.Common.{sym, subst, List}
use Rattle.process_objects.specs.Process.{ProcessValue}
use Rattle.schedules.specs.Ready.{runs, Agrees}
use Rattle.control_caps.proofs.control.own.Goals as goal

pub returns-in-Endpoint-clause-agrees : goal.returns-in-Endpoint-clause-agrees
returns-in-Endpoint-clause-agrees c = subst (λ (processes : List ProcessValue). Agrees (runs processes c.args.queues.now)) (sym c.endpoint.ensures.processes) c.requires.agrees
