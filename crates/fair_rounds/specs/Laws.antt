-- Laws of rounds, for states of any kind.
use Rattle.std.specs.Prelude.{◌≡◌, ◌<◌, ℕ, Bool, true, List, length}
use Rattle.reaches_back.specs.Edges.{end_of}
use Rattle.fair_rounds.specs.Rounds.{passes, MustWithin, AlwaysComes, IsEvasion, IsShortest}
use Rattle.fair_rounds.specs.Fair.{IsFair, part}
use Rattle.fair_rounds.specs.Table.{is_marked}
use Rattle.fair_rounds.specs.Meaning.{StandsFor}

-- An evasion and a bound exclude each other.
abbrev pub BoundsLaw : Type 0 → Type 0
BoundsLaw S = (next : S → ℕ → S) (goal first : S → Bool) (width : ℕ) (start : S) (path cycle : List ℕ) (most : ℕ)
    → IsEvasion next goal width first start path cycle → AlwaysComes next goal width first start most → ⊥

-- What always comes to nodes always comes to the states for which they stand.
abbrev pub ComesLaw : Type 0 → Type 0
ComesLaw S = (next : S → ℕ → S) (goal first : S → Bool) (width : ℕ) (ends : List ℕ) (goals firsts : List Bool) (means : ℕ → S) (start most : ℕ)
    → StandsFor next goal first width ends goals firsts means → start < length goals
    → AlwaysComes (end_of width ends) (is_marked goals) width (is_marked firsts) start most
    → AlwaysComes next goal width first (means start) most

-- A shortest evasion of nodes is one of the states for which they stand.
abbrev pub EvadesLaw : Type 0 → Type 0
EvadesLaw S = (next : S → ℕ → S) (goal first : S → Bool) (width : ℕ) (ends : List ℕ) (goals firsts : List Bool) (means : ℕ → S) (start : ℕ) (path cycle : List ℕ)
    → StandsFor next goal first width ends goals firsts means → start < length goals
    → IsShortest (end_of width ends) (is_marked goals) width (is_marked firsts) start path cycle
    → IsShortest next goal width first (means start) path cycle

-- Where so many rounds pass a goal, some first part of each fair schedule without end does.
abbrev pub FairLaw : Type 0 → Type 0
FairLaw S = (next : S → ℕ → S) (goal : S → Bool) (width : ℕ) (s : S) (most : ℕ) (schedule : ℕ → ℕ)
    → MustWithin next goal width s most → IsFair width schedule
    → (n : ℕ) × (passes next goal s (part schedule 0 n) ≡ true)
