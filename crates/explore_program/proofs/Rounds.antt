-- What comes within rounds of choices comes within rounds of steps.
use Rattle.std.proofs.Common.{◌≡◌, ◌∙◌, ℕ, ◌*◌, Bool, true, List, length, inl, inr, sym, ap, subst}
use Rattle.kernel_core.specs.State.{State}
use Rattle.fair_rounds.specs.Rounds.{Evades, IsEvasion, IsLasso}
use Rattle.breadth_first.specs.System.{IsEquality}
use Rattle.questions.specs.Question.{choices_of, first_holds, holds}
use Rattle.exploration.specs.Explored.{AllMustCome, Avoids, IsAskedFrom, MustCome, come_to, next_state}
use Rattle.interleavings.specs.Laws.{EachHartRuns, FirstSeesOnlyLaw, OnlyRuns, SeesOnlyLaw}
use Rattle.interleavings.specs.Rounds.{AlwaysStepwiseLaw, EvasionStepwiseLaw, MustStepwiseLaw, RunsOnce}
use Rattle.explore_program.specs.declared.asked.Asked.{Asked}
use Rattle.explore_program.specs.Told.{AllMustStep, AvoidsByStep}
use Rattle.explore_program.proofs.Cycles.{rounds-after}

pub must-steps : MustStepwiseLaw → AlwaysStepwiseLaw → SeesOnlyLaw → FirstSeesOnlyLaw → (asked : Asked) (s : State) (rounds : ℕ)
    → AllMustCome asked.question asked.policy s rounds → RunsOnce asked.question → AllMustStep asked s (rounds * 4097)
must-steps here always sees first_sees asked s rounds all runs =
    let question = asked.question in
    let policy = asked.policy in
    record {
      must = λ n asks. here question (λ t. holds question policy t n) s rounds runs (sees question policy n) (all.must n asks);
      after = λ n asks.
          always question (λ t. holds question policy t n) (λ t. first_holds question policy t n) s rounds runs (sees question policy n) (first_sees question policy n)
          (λ stem are begins.
          let same = rounds-after question policy s s stem in
          subst (λ (t : State). MustCome question policy s rounds n t) (sym same)
          (all.after n asks stem are (ap (λ (t : State). first_holds question policy t n) (sym same) ∙ begins)));
    }

-- What avoids a property by choices avoids it by their steps. Where it has to come from the start, equality of states tells which
-- state that is.
module _ (law : EvasionStepwiseLaw) (sees : SeesOnlyLaw) (same : State → State → Bool) (decides : IsEquality same) (asked : Asked) (s : State) (n : ℕ) (path cycle : List ℕ) where
  abbrev goal : State → Bool
  goal t = holds asked.question asked.policy t n

  -- a test that tells from which states it is asked, and passes the one by which the path goes
  evasion : (first : State → Bool) (avoids : Avoids asked.question asked.policy s n path cycle) → first (come_to asked.question asked.policy s avoids.stem) ≡ true
      → IsEvasion (next_state asked.question) goal (length (choices_of asked.question)) first s path cycle
  evasion first avoids begins =
      let to = sym (rounds-after asked.question asked.policy s s avoids.stem) in
      record {
        stem = avoids.stem;
        rest = avoids.rest;
        parts = avoids.parts;
        choices = avoids.choices;
        begins = ap first (sym to) ∙ begins;
        lasso = subst (λ (t : State). IsLasso (next_state asked.question) goal (length (choices_of asked.question)) t avoids.rest cycle) to avoids.lasso;
        evades = λ most. subst (λ (t : State). Evades (next_state asked.question) goal (length (choices_of asked.question)) t most) to (avoids.evades most);
      }

  by-steps : (first : State → Bool) → ((t : State) → first t ≡ true → IsAskedFrom asked.question asked.policy s n t) → EachHartRuns asked.question → OnlyRuns asked.question
      → IsEvasion (next_state asked.question) goal (length (choices_of asked.question)) first s path cycle → AvoidsByStep asked s n path cycle
  by-steps first asks each only evades = record {
    first = first;
    asks = asks;
    evasion = law asked.question goal first s path cycle each only (sees asked.question asked.policy n) evades;
  }

  pub avoids-steps : Avoids asked.question asked.policy s n path cycle → EachHartRuns asked.question → OnlyRuns asked.question → AvoidsByStep asked s n path cycle
  avoids-steps avoids each only = elim avoids.asked [
    | inl must ↦
        by-steps (same s) (λ t is. inl (must.0, sym ((decides s t).0 is))) each only
        (evasion (same s) avoids ((decides s (come_to asked.question asked.policy s avoids.stem)).1 (sym must.1)))
    | inr after ↦
        by-steps (λ t. first_holds asked.question asked.policy t n) (λ t is. inr (after.0, is)) each only
        (evasion (λ t. first_holds asked.question asked.policy t n) avoids after.1)
  ]
