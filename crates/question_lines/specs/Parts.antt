-- The parts of a line between the words that part it. (Own.)
use Rattle.std.specs.Prelude.{◌≡◌, ℕ, suc, if◌then◌else◌, List, [], ◌∷◌, ◌++◌, bytes_eq, Result, Ok, Err}
use Rattle.listing_read.specs.Faults.{◌>>=◌}
use Rattle.listing_read.specs.declared.object_fault.QuestionFault.{QuestionFault}

-- how many words stand before the first that is this one
unfoldable pub before : List ℕ → List (List ℕ) → ℕ
before separator [] = 0
before separator (word ∷ words) = if bytes_eq word separator then 0 else suc (before separator words)

-- the words between each such word and the next, of an unfinished part and the words behind it
unfoldable pub parted : List ℕ → List (List ℕ) → List (List ℕ) → List (List (List ℕ))
parted separator part [] = part ∷ []
parted separator part (word ∷ words) =
    (if bytes_eq word separator then part ∷ [] else [])
    ++ parted separator (if bytes_eq word separator then [] else part ++ word ∷ []) words

-- what each part says, or the first fault
abbrev pub each_part : {A : Type 0} → (List (List ℕ) → Result A QuestionFault) → List (List (List ℕ)) → Result (List A) QuestionFault
each_part read [] = Ok []
each_part read (part ∷ parts) = do
  said ← read part
  all ← each_part read parts
  Ok (said ∷ all)

-- what was read was put down behind others
abbrev pub IsPushed : {A : Type 0} → Result A QuestionFault → List A → List A → Type 0
IsPushed (Ok said) old new = new ≡ old ++ said ∷ []
IsPushed (Err fault) old new = ⊥
