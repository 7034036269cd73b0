-- What a process does.
use Rattle.process_objects.specs.declared.state.State.{State}
use Rattle.process_objects.specs.declared.state.State.TheVariants.{Running, Receiving, Faulted}
use Rattle.process_objects.specs.Accept.{IsAccept}

-- what each state keeps: a receiver's acceptance is in its ranges (this project's)
abbrev pub IsState : State → Type 0
IsState Running = Unit {0}
IsState (Receiving accept) = IsAccept accept
IsState (Faulted code address) = Unit {0}
