use Rattle.std.proofs.Common.{drop}
use Rattle.schedules.specs.Ready.{runs_of, schedule_of, woken}
use Rattle.schedules.proofs.Waking.{IsWaking}
use Rattle.schedules.proofs.queues.Queues.wake.Given as goal

abbrev pub invariant-waking : goal.invariant-waking
invariant-waking l = IsWaking l.fn.objects l.fn.self (woken (schedule_of l.fn.objects) l.fn.on (runs_of l.fn.objects l.fn.self)) (drop l.i l.sleepers) l.objects l.self
