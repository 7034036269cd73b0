-- What is told of rounds and goals.
use Rattle.std.specs.Prelude.{◌≡◌, ℕ, List, Bool, length, Option, MatchOption, Some, slice_get}
use Rattle.reaches_back.specs.Edges.{end_of}
use Rattle.fair_rounds.specs.declared.breadth.Found.{Found}
use Rattle.fair_rounds.specs.declared.evading.Evasion.{Evasion}
use Rattle.fair_rounds.specs.declared.evading.Caught.{Caught}
use Rattle.fair_rounds.specs.Rounds.{AlwaysComes, IsShortest}
use Rattle.fair_rounds.specs.Table.{is_marked}
use Rattle.fair_rounds.specs.Loops.{NoneFrom, IsFirstCaught}

-- the first of those found from whose node a round leads back to it, or no round does from any
abbrev pub IsCaught : ℕ → List ℕ → ℕ → List Found → Option Caught → Type 0
IsCaught width walls nodes found caught = MatchOption caught ((i : ℕ) (f : Found) → slice_get found i ≡ Some f → NoneFrom width walls nodes f.node)
    (λ c. IsFirstCaught width walls nodes found c.place c.cycle.items)

-- a shortest evasion, or as many rounds as there are nodes always pass a goal
abbrev pub IsAnswer : ℕ → List ℕ → List Bool → List Bool → ℕ → Option Evasion → Type 0
IsAnswer width ends goals firsts start answer =
    MatchOption answer (AlwaysComes (end_of width ends) (is_marked goals) width (is_marked firsts) start (length goals))
    (λ e. IsShortest (end_of width ends) (is_marked goals) width (is_marked firsts) start e.path.items e.cycle.items)
