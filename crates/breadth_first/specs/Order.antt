-- The breadth-first order: by the number of choices, then by the state before, then by the order of choices.
use Rattle.std.specs.Prelude.{ℕ, zero, suc, List, [], ◌∷◌, ◌++◌, length, Option, None, Some, slice_get}
use Rattle.indexmap.specs.IndexSet.{insert_all}
use Rattle.breadth_first.specs.System.{System}

module _ {S : Type 0} (g : System S) where
  -- where the first `n` choices lead from a state
  abbrev pub successors : S → ℕ → List S
  successors s zero = []
  successors s (suc c) = successors s c ++ g.next s c ∷ []

  -- the states that were found, and behind them the new ones among those to which the first `n` choices lead from a state
  abbrev pub trying : List S → S → ℕ → List S
  trying states s n = insert_all g.same states (successors s n)

  -- the same with all choices, if there is such a state
  abbrev pub opening : List S → Option S → List S
  opening states None = states
  opening states (Some s) = trying states s g.choices

  -- the states in the order in which they are found, once all choices of the first `n` of them were tried
  unfoldable pub opened : ℕ → List S
  opened zero = g.start ∷ []
  opened (suc n) = opening (opened n) (slice_get (opened n) n)

  -- the states that at most `d` choices lead to, in breadth-first order
  unfoldable pub reached : ℕ → List S
  reached zero = g.start ∷ []
  reached (suc d) = opened (length (reached d))
