use Rattle.std.proofs.Common.{◌∙◌, sym, ap, subst}
use Rattle.std.proofs.lemmas.List.Elements.{All-push, All-same}
use Rattle.questions.specs.Choice.{EachOnce, IsChoiceOf, is_among}
use Rattle.questions.specs.Question.{QuestionValue}
use Rattle.questions.proofs.Choices.{once-push}
use Rattle.questions.proofs.question.Question.may.Goals as goal

pub invariant_of-self-2 : goal.invariant_of-self-2
invariant_of-self-2 c =
    let pushed = c.in_ok-push.ensures.items in
    let old = c.self.inside.choices.items in
    let other = ap (λ (q : QuestionValue). is_among q.choices c.args.choice) c.self.view_is ∙ c.requires.new in
    let range = subst (λ (q : QuestionValue). IsChoiceOf q.sizes.harts c.args.choice) (sym c.self.view_is) c.requires.range in
    record {
      choices = All-same (IsChoiceOf c.self.inside.sizes.harts) _ _ pushed (All-push (IsChoiceOf c.self.inside.sizes.harts) old c.args.choice c.self.invariant.choices range);
      once = subst EachOnce (sym pushed) (once-push old c.args.choice c.self.invariant.once other);
      properties = c.self.invariant.properties;
      some_state = c.self.invariant.some_state;
    }
