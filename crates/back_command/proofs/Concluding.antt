-- What the command comes to where not all lines are read.
use Rattle.std.proofs.Common.{ℕ, List, refl}
use Rattle.machine_state.specs.declared.event.Event.{Event}
use Rattle.machine_state.specs.State.{State}
use Rattle.schedule_replay.specs.Scheduled.{AtEnd, AtFault, AtLimit}
use Rattle.courses.specs.declared.exit.Exit.TheVariants.{ScheduleRefused}
use Rattle.courses.proofs.Rests.{TellsAlone, at}
use Rattle.back_command.specs.Back.{undoing}

-- no more is told than why
pub tells : (number : ℕ) (s : State) (events : List Event)
    → TellsAlone (undoing number s) (at events AtEnd) (λ line fault. at events (AtFault line fault)) (at events AtLimit) ScheduleRefused
tells number s events = record {
  refusal = λ line fault. refl;
  limit = refl;
  given = λ line fault. record { read = λ bad. cc; write = λ bad. cc; memory = λ bad. cc };
  form = λ line fault bad. cc;
  unfinished = λ line fault. refl;
  going = refl;
  records = refl;
  touches = refl;
}
