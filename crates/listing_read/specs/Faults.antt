-- How the faults of a line are tried: each step only where those before it found none, so that the first fault that
-- holds is the line's.
use Rattle.std.specs.Prelude.{Bool, true, false, Result, Ok, Err}

infixl 10 ◌>>=◌
-- the next step, on what the step before it gave
abbrev pub ◌>>=◌ : {A B E : Type 0} → Result A E → (A → Result B E) → Result B E
(Ok x) >>= next = next x
(Err fault) >>= next = Err fault

-- the fault, unless the test holds
abbrev pub ensured : {E : Type 0} → Bool → E → Result (Unit {0}) E
ensured true fault = Ok tt
ensured false fault = Err fault
