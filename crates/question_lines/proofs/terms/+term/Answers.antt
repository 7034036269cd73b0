use Rattle.std.proofs.Common.{◌≡◌, ◌∙◌, ◌-◌, ℕ, IfErr, IfOk, Ok, Result, sym, ap, subst, arith}
use Rattle.listing_read.specs.declared.object_fault.QuestionFault.{QuestionFault}
use Rattle.questions.specs.Term.{TermValue}
use Rattle.question_lines.specs.QuestionLine.{IsUntaken}
use Rattle.question_lines.specs.TermLine.{leaf_at, node_at, operator_of, term_at}
use Rattle.question_lines.proofs.TermSteps.{term-leaf, term-node}
use Rattle.question_lines.proofs.terms.+term.Goals as goal

-- a term that begins with an operator is what that makes of the two behind it
as_node : (t : ℕ) (c : goal.term-After-node t)
    → term_at c.args.sizes c.args.words.now c.args.deepest c.args.at ≡ node_at (term_at c.args.sizes c.args.words.now (c.args.deepest - 1)) c.args.at c.in-Some.operator
as_node t c =
    term-node c.args.sizes c.args.words.now c.args.deepest c.args.at c.in-Some.operator c.if-deepest-eq0.false
    (omega (arith, c.if-at-count.false, c.count.ensures))
    (ap operator_of (sym c.word.ensures) ∙ sym c.operator_of.ensures ∙ c.in-Some.is)

-- one that begins with none is an operand
as_leaf : (t : ℕ) (c : goal.term-After-leaf t)
    → term_at c.args.sizes c.args.words.now c.args.deepest c.args.at ≡ leaf_at c.args.sizes c.args.words.now c.args.at
as_leaf t c =
    term-leaf c.args.sizes c.args.words.now c.args.deepest c.args.at c.if-deepest-eq0.false
    (omega (arith, c.if-at-count.false, c.count.ensures))
    (ap operator_of (sym c.word.ensures) ∙ sym c.operator_of.ensures ∙ c.in-None.is)

pub term-returns-in-Some-clause-value : goal.term-returns-in-Some-clause-value
term-returns-in-Some-clause-value t c =
    subst (λ (said : Result (TermValue × ℕ) QuestionFault). IfOk c.node.result (λ read. said ≡ Ok read)) (sym (as_node t c)) c.node.ensures.value

pub term-returns-in-Some-clause-untaken : goal.term-returns-in-Some-clause-untaken
term-returns-in-Some-clause-untaken t c =
    subst (λ (said : Result (TermValue × ℕ) QuestionFault). IfErr c.node.result (IsUntaken said)) (sym (as_node t c)) c.node.ensures.untaken

pub term-returns-in-None-clause-value : goal.term-returns-in-None-clause-value
term-returns-in-None-clause-value t c =
    subst (λ (said : Result (TermValue × ℕ) QuestionFault). IfOk c.leaf.result (λ read. said ≡ Ok read)) (sym (as_leaf t c)) c.leaf.ensures.value

pub term-returns-in-None-clause-untaken : goal.term-returns-in-None-clause-untaken
term-returns-in-None-clause-untaken t c =
    subst (λ (said : Result (TermValue × ℕ) QuestionFault). IfErr c.leaf.result (IsUntaken said)) (sym (as_leaf t c)) c.leaf.ensures.untaken
