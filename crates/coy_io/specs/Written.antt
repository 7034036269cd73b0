-- What a call that writes a text did: it wrote all of it where it succeeded, and a front part otherwise.
use Rattle.std.specs.Prelude.{ℕ, List, Option, Result, Ok, Err}
use Rattle.std.specs.Io.KnownBytes.{Appends}
use Rattle.coy_io.specs.Causes.{HasCause}
use Rattle.coy_io.specs.Pieces.{AppendsSome}

-- the bytes that the sink took before and after a call differ by the whole text, or by a part of its front after a fault
abbrev pub Writes : {T E : Type 0} → Option (List ℕ) → Option (List ℕ) → Result T E → List ℕ → Type 0
Writes old new (Ok x) text = Appends old new text
Writes old new (Err e) text = AppendsSome old new text

-- what it wrote, by the bytes that the sink took, and why it failed, by the count of the sink's faults
pub record Wrote {T E : Type 0} (old new : Option (List ℕ)) (was now : ℕ) (result : Result T E) (all : List ℕ) : Type 0 where
  pub text : Writes old new result all
  pub cause : HasCause was now result

-- the same of a sink, by what it tells of itself
abbrev pub WroteTo : {K T E : Type 0} → (K → Option (List ℕ)) → (K → ℕ) → K → K → Result T E → List ℕ → Type 0
WroteTo taken faults old new result text = Wrote (taken old) (taken new) (faults old) (faults new) result text
