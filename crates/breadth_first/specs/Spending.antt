-- What a search spends.
use Rattle.std.specs.Prelude.{◌≡◌, ℕ, zero, suc, ◌+◌, ◌*◌, ◌<◌, ◌≤◌, List, length, Option, None, Some, IfSome, IfOk, Result, slice_get, ⊤}
use Rattle.breadth_first.specs.System.{System}
use Rattle.breadth_first.specs.Marks.{tests_of}
use Rattle.breadth_first.specs.Order.{opened}
use Rattle.breadth_first.specs.declared.answer.Limits.{Limits}
use Rattle.breadth_first.specs.declared.answer.Want.{Want}
use Rattle.breadth_first.specs.declared.answer.Explored.{Explored}
use Rattle.breadth_first.specs.declared.answer.Explored.TheVariants.{Found, Closed, Open}

-- from one moment to a later one no more than so much was spent
pub record SpendsAtMost (most before after : ℕ) : Type 0 where
  pub grows : before ≤ after
  pub few : after ≤ before + most

-- how many looks a search needs at most that kept so many states and tried choices of so many: one for the start, and one in
-- which it may fail; at each state that it kept one for properties, and one for each count where a limit ends it; at each whose
-- choices it tried one for each test
abbrev pub looks : List Want → List ℕ → ℕ → ℕ → ℕ
looks wants counts kept parents = 2 + kept * (1 + length counts) + parents * (length (tests_of wants) + length counts)

module _ {S : Type 0} (g : System S) where
  -- the most that the first `n` choices of a state cost
  abbrev pub choices_cost : S → ℕ → ℕ
  choices_cost s zero = 0
  choices_cost s (suc c) = choices_cost s c + g.cost s c

  -- the same, if there is such a state
  abbrev pub opening_cost : Option S → ℕ → ℕ
  opening_cost None n = 0
  opening_cost (Some s) n = choices_cost s n

  -- the most that all choices of the first `n` states cost, in the order in which states are found
  unfoldable pub opened_cost : ℕ → ℕ
  opened_cost zero = 0
  opened_cost (suc n) = opened_cost n + opening_cost (slice_get (opened g n) n) g.choices

  -- the told size is that of a search that kept so many states, and tried choices of so many
  abbrev pub HasSize : ℕ → ℕ → Explored → Type 0
  HasSize kept parents (Found property path) = ⊤
  HasSize kept parents (Closed size counts missed) = (size.states ≡ kept) × (parents ≡ kept)
  HasSize kept parents (Open size counts) = (size.states ≡ kept) × (parents * g.choices < size.tried + g.choices)

  -- a search that ended so kept the first `kept` states, and tried choices of the first `parents` of them: it spent no more than
  -- all choices of these cost, and as many looks
  pub record SpendsFor {E : Type 0} (limits : Limits) (wants : List Want) (counts : List ℕ) (answer : Result Explored E) (before after : ℕ) : Type 0 where
    pub kept : ℕ
    pub parents : ℕ
    pub size : IfOk answer (HasSize kept parents)
    pub room : IfSome limits.states (λ n. kept ≤ n)
    pub few : parents ≤ kept
    pub inside : kept ≤ length (opened g parents)
    pub spends : SpendsAtMost (opened_cost parents + looks wants counts kept parents * g.look) before after
