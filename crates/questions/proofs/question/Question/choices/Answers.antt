use Rattle.std.proofs.Common.{ℕ, List, [], ◌∷◌, subst}
use Rattle.questions.specs.declared.choice.Choice.{Choice}
use Rattle.questions.specs.Choice.{EachOnce}
use Rattle.questions.specs.Question.{QuestionValue, choices_by, choices_of}
use Rattle.questions.proofs.Choices.{all-once}
use Rattle.questions.proofs.question.Question.choices.Goals as goal

-- the choices that lines state are there once each, and so are all events
once_by : (harts : ℕ) (choices : List Choice) → EachOnce choices → EachOnce (choices_by harts choices)
once_by harts [] once = all-once harts
once_by harts (first ∷ rest) once = once

pub returns-then-is_empty-clause-once : goal.returns-then-is_empty-clause-once
returns-then-is_empty-clause-once c =
    subst (λ (q : QuestionValue). EachOnce (choices_of q)) c.self.view_is
    (once_by c.self.inside.sizes.harts c.self.inside.choices.items c.self.invariant.once)
