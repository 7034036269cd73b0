-- Reading one thing after the other, as long as each can be read.
use Rattle.std.specs.Prelude.{Bool, true, false, Option, Some, None}

infixl 10 ◌>>=◌
-- what is read after something else was, where that could be read
abbrev pub ◌>>=◌ : {A B : Type 0} → Option A → (A → Option B) → Option B
None >>= next = None
(Some x) >>= next = next x

-- goes on where the test holds
abbrev pub given : Bool → Option (Unit {0})
given true = Some tt
given false = None
