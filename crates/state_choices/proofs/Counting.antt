-- The choices of a path with their steps counted, as they are made one after the other.
use Rattle.std.proofs.Common.{◌≡◌, ◌∙◌, ℕ, ◌+◌, ◌<◌, List, [], ◌∷◌, ◌++◌, length, get_or, drop, refl, sym, ap, append-nil, append_assoc}
use Rattle.std.proofs.lemmas.List.{at_drop_more}
use Rattle.machine_state.specs.State.{State}
use Rattle.quiet_runs.specs.Runs.{Watch}
use Rattle.questions.specs.declared.choice.Choice.{Choice}
use Rattle.questions.specs.Choice.{after_choice, choice_at, counted_choice, counted_path}

module _ (watch : Watch) (choices : List Choice) where
  -- no choices come to none
  pub counted_nil : (s : State) → counted_path watch choices s [] ≡ []
  unfolding counted_path
  counted_nil s = refl

  counted-cons : (s : State) (i : ℕ) (path : List ℕ) → counted_path watch choices s (i ∷ path)
      ≡ counted_choice watch s (choice_at choices i) ∷ counted_path watch choices (after_choice watch s (choice_at choices i)) path
  unfolding counted_path
  counted-cons s i path = refl

  -- What was made, and what is left from this state on, are all choices of a path from its start.
  abbrev pub IsCounting : State → List ℕ → State → ℕ → List Choice → Type 0
  IsCounting s path t place done = done ++ counted_path watch choices t (drop place path) ≡ counted_path watch choices s path

  pub counting-none : (s t : State) (path : List ℕ) → t ≡ s → IsCounting s path t 0 []
  counting-none s t path is = ap (λ (x : State). counted_path watch choices x path) is

  pub counting-more : (s t u : State) (path : List ℕ) (place e : ℕ) (c d : Choice) (done : List Choice) → IsCounting s path t place done → place < length path
      → c ≡ choice_at choices (get_or path place e) → d ≡ counted_choice watch t c → u ≡ after_choice watch t c
      → IsCounting s path u (place + 1) (done ++ d ∷ [])
  counting-more s t u path place e c d done counting below is counted led =
      let rest = drop (place + 1) path in
      let i = get_or path place e in
      let next = at_drop_more (λ (left : List ℕ). counted_path watch choices t left) path place e below ∙ counted-cons t i rest in
      let made : d ≡ counted_choice watch t (choice_at choices i) = counted ∙ ap (counted_choice watch t) is in
      let here : u ≡ after_choice watch t (choice_at choices i) = led ∙ ap (after_choice watch t) is in
      append_assoc done (d ∷ []) (counted_path watch choices u rest)
      ∙ ap (λ (x : Choice). done ++ x ∷ counted_path watch choices u rest) made
      ∙ ap (λ (x : State). done ++ counted_choice watch t (choice_at choices i) ∷ counted_path watch choices x rest) here
      ∙ ap (λ (left : List Choice). done ++ left) (sym next) ∙ counting

  pub counting-all : (s t : State) (path : List ℕ) (place : ℕ) (done : List Choice) → IsCounting s path t place done → drop place path ≡ [] → done ≡ counted_path watch choices s path
  counting-all s t path place done counting none =
      sym (append-nil done) ∙ ap (λ (left : List Choice). done ++ left) (sym (ap (counted_path watch choices t) none ∙ counted_nil t)) ∙ counting
