-- Lists of choices, and where they lead.
use Rattle.std.specs.Prelude.{◌≡◌, ℕ, ◌<◌, Bool, true, List, All}
use Rattle.fair_rounds.specs.Rounds.{IsEarlier as comes_before, after as led_to, MustWithin}
use Rattle.breadth_first.specs.System.{System}

-- in the order of choices the first list comes before the other, which is as long: where they first differ it has the earlier
-- choice
abbrev pub IsEarlier : List ℕ → List ℕ → Type 0
IsEarlier other path = comes_before other path

module _ {S : Type 0} (g : System S) where
  -- the state after a list of choices, the first first
  abbrev pub after : S → List ℕ → S
  after s path = led_to g.next s path

  -- the list has choices of the system alone
  abbrev pub AreChoices : List ℕ → Type 0
  AreChoices path = All (λ c. c < g.choices) path

  -- some choices lead from a state to one that passes the test
  abbrev pub CanCome : ℕ → S → Type 0
  CanCome t s = (path : List ℕ) × AreChoices path × (g.test t (after s path) ≡ true)

  -- whichever choices lead to a state that begins so, each so many rounds behind it pass a state that passes the test; the one
  -- that begins counts
  abbrev pub MustCome : (S → Bool) → ℕ → ℕ → Type 0
  MustCome first t most = (path : List ℕ) → AreChoices path → first (after g.start path) ≡ true → MustWithin g.next (g.test t) g.choices (after g.start path) most
