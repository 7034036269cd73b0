-- What goes to standard error where a program failed.
use Rattle.std.specs.Prelude.{◌≡◌, ℕ, List, [], ◌++◌, ⊤, Option, Result, codes}
use Rattle.coy_io.specs.Written.{WroteTo}
use Rattle.coy_io.specs.declared.writing.WriteFault.{WriteFault}
use Rattle.courses.specs.declared.exit.Exit.{Exit}
use Rattle.courses.specs.declared.exit.Exit.TheVariants as exits

-- what the system said of a failure, behind a colon, if it said anything
abbrev pub behind_colon : List ℕ → List ℕ
behind_colon [] = []
behind_colon words = codes ": " ++ words

-- the line of a failure: the program's name, what failed, and what the system said of it
abbrev pub line_of : List ℕ → List ℕ → List ℕ → List ℕ
line_of name failure words = name ++ (codes ": " ++ (failure ++ (behind_colon words ++ codes "\n")))

-- the line of a failure was written, or where the sink failed, a front of it
pub record SaysFailure {K : Type 0} (taken : K → Option (List ℕ)) (faults : K → ℕ) (old new : K) (name failure : List ℕ) : Type 0 where
  -- what the system said
  pub words : List ℕ
  pub result : Result ⊤ WriteFault
  pub wrote : WroteTo taken faults old new result (line_of name failure words)

-- the same where the system said nothing
pub record SaysPlainly {K : Type 0} (taken : K → Option (List ℕ)) (faults : K → ℕ) (old new : K) (name failure : List ℕ) : Type 0 where
  pub result : Result ⊤ WriteFault
  pub wrote : WroteTo taken faults old new result (line_of name failure [])

-- what a program says of how it ended: a line where reading or writing failed, or memory was wanting, and nothing otherwise
abbrev pub Says : {K : Type 0} → (K → Option (List ℕ)) → (K → ℕ) → K → K → List ℕ → Exit → Type 0
Says taken faults old new name exits.ReadFault = SaysFailure taken faults old new name (codes "standard input could not be read")
Says taken faults old new name exits.WriteFault = SaysFailure taken faults old new name (codes "standard output could not be written")
Says taken faults old new name exits.OutOfMemory = SaysPlainly taken faults old new name (codes "there was not enough memory")
Says taken faults old new name other = new ≡ old
