use Rattle.std.proofs.Common.{◌≡◌, ◌∙◌, ◌++◌, ◌∷◌, [], List, ap, sym, arith, append-nil}
use Rattle.std.proofs.lemmas.List.{append_assoc}
use Rattle.std.proofs.lemmas.List.Elements.{All-push, All-same}
use Rattle.questions.specs.declared.choice.Choice.{Choice}
use Rattle.questions.specs.declared.choice.Choice.TheVariants.{Steps, Tick}
use Rattle.questions.specs.Choice.{IsChoiceOf, step_below, tick_below}
use Rattle.questions.proofs.Choices.{step_more, tick_more, ticks_none}
use Rattle.questions.proofs.choice.all_choices.Goals as goal

pub steps-preserved : goal.steps-preserved
steps-preserved c =
    let choice : Choice = Steps c.steps.hart 1 in
    let pushed : c.push.new.self.items ≡ c.steps.choices.items ++ choice ∷ [] = c.in_ok-push.ensures.items in
    record {
      value = pushed ∙ ap (λ (xs : List Choice). xs ++ choice ∷ []) c.steps.invariant.value ∙ sym (step_more c.steps.hart);
      range =
          All-same (IsChoiceOf c.args.harts) _ _ pushed
          (All-push (IsChoiceOf c.args.harts) c.steps.choices.items choice c.steps.invariant.range (omega arith, omega arith, omega arith));
    }

pub ticks-init : goal.ticks-init
ticks-init c =
    let end : c.steps.hart ≡ c.args.harts = omega arith in
    record {
      value =
          c.steps.invariant.value ∙ ap step_below end
          ∙ sym (append-nil (step_below c.args.harts)) ∙ ap (λ (xs : List Choice). step_below c.args.harts ++ xs) (sym ticks_none);
      range = c.steps.invariant.range;
    }

pub ticks-preserved : goal.ticks-preserved
ticks-preserved c =
    let choice : Choice = Tick c.ticks.hart in
    let pushed : c.push-in-ticks.new.self.items ≡ c.ticks.choices.items ++ choice ∷ [] = c.in_ok-push-2.ensures.items in
    record {
      value =
          pushed ∙ ap (λ (xs : List Choice). xs ++ choice ∷ []) c.ticks.invariant.value
          ∙ append_assoc (step_below c.args.harts) (tick_below c.ticks.hart) (choice ∷ [])
          ∙ ap (λ (xs : List Choice). step_below c.args.harts ++ xs) (sym (tick_more c.ticks.hart));
      range =
          All-same (IsChoiceOf c.args.harts) _ _ pushed
          (All-push (IsChoiceOf c.args.harts) c.ticks.choices.items choice c.ticks.invariant.range (omega arith));
    }
