-- Choices that lead to a cycle, and behind them those of the cycle.
use Rattle.std.proofs.Common.{◌≡◌, ◌∙◌, ℕ, suc, List, [], ◌∷◌, ◌++◌, length, take, drop, refl, sym, ap, subst}
use Rattle.std.proofs.Math.Seq.{drop-append_seam, take-append_seam}
use Rattle.kernel_core.specs.State.{State}
use Rattle.separation_policy.specs.Policy.{PolicyValue}
use Rattle.fair_rounds.specs.Rounds.{after as after_in}
use Rattle.quiet_runs.specs.Runs.{Watch}
use Rattle.questions.specs.declared.choice.Choice.{Choice}
use Rattle.questions.specs.Choice.{after, after_choice, choice_at, counted_choice, counted_path}
use Rattle.questions.specs.Question.{QuestionValue, choices_of, watch_for}
use Rattle.exploration.specs.Explored.{Avoids, come_to, next_state}

module _ (watch : Watch) (choices : List Choice) where
  -- ---- with their steps counted

  counted-length : (s : State) (path : List ℕ) → length (counted_path watch choices s path) ≡ length path
  unfolding counted_path
  counted-length s [] = refl
  counted-length s (i ∷ path) = ap (λ (n : ℕ). suc n) (counted-length (after_choice watch s (choice_at choices i)) path)

  counted-append : (s : State) (path cycle : List ℕ)
      → counted_path watch choices s (path ++ cycle) ≡ counted_path watch choices s path ++ counted_path watch choices (after watch choices s path) cycle
  unfolding after counted_path
  counted-append s [] cycle = refl
  counted-append s (i ∷ path) cycle =
      ap (λ (all : List Choice). counted_choice watch s (choice_at choices i) ∷ all) (counted-append (after_choice watch s (choice_at choices i)) path cycle)

  module _ (s : State) (path cycle : List ℕ) where
    abbrev front : List Choice
    front = counted_path watch choices s path

    abbrev behind : List Choice
    behind = counted_path watch choices (after watch choices s path) cycle

    pub counted-front : take (length path) (counted_path watch choices s (path ++ cycle)) ≡ front
    counted-front =
        ap (λ (n : ℕ). take n (counted_path watch choices s (path ++ cycle))) (sym (counted-length s path))
        ∙ ap (take (length front)) (counted-append s path cycle) ∙ take-append_seam front behind

    pub counted-behind : drop (length path) (counted_path watch choices s (path ++ cycle)) ≡ behind
    counted-behind =
        ap (λ (n : ℕ). drop n (counted_path watch choices s (path ++ cycle))) (sym (counted-length s path))
        ∙ ap (drop (length front)) (counted-append s path cycle) ∙ drop-append_seam front behind

  -- ---- the states to which they lead

  after-append : (s : State) (path on : List ℕ) → after watch choices s (path ++ on) ≡ after watch choices (after watch choices s path) on
  unfolding after
  after-append s [] on = refl
  after-append s (i ∷ path) on = after-append (after_choice watch s (choice_at choices i)) path on

module _ (question : QuestionValue) (policy : PolicyValue) (s : State) where
  abbrev after_of : State → List ℕ → State
  after_of t path = after (watch_for question.properties) (choices_of question) t path

  pub rounds-after : (t : State) (path : List ℕ) → after_in (next_state question) t path ≡ after_of t path
  unfolding after
  rounds-after t [] = refl
  rounds-after t (i ∷ path) = rounds-after (next_state question t i) path

  -- a cycle that avoids something leads from the state behind its path back to it
  pub avoids-back : (n : ℕ) (path cycle : List ℕ) → Avoids question policy s n path cycle
      → come_to question policy (come_to question policy s path) cycle ≡ come_to question policy s path
  avoids-back n path cycle avoids =
      let start : State = come_to question policy s avoids.stem in
      let back = avoids.lasso.back in
      let end : come_to question policy s path ≡ after_in (next_state question) start avoids.rest =
      ap (after_of s) avoids.parts ∙ after-append (watch_for question.properties) (choices_of question) s avoids.stem avoids.rest
      ∙ sym (rounds-after start avoids.rest) in
      subst (λ (t : State). after_of t cycle ≡ t) (sym end) (sym (rounds-after (after_in (next_state question) start avoids.rest) cycle) ∙ back)
