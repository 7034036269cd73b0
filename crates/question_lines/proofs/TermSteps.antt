-- A term, by its first word.
use Rattle.std.proofs.Common.{◌≡◌, ◌∙◌, ℕ, zero, suc, ◌-◌, ◌<◌, nat_lt, Bool, List, length, Some, None, refl, ap, arith}
use Rattle.std.proofs.lemmas.Bool.{lt-ltb}
use Rattle.coy_text.specs.Words.{field}
use Rattle.object_store.specs.declared.sizes.Sizes.{Sizes}
use Rattle.listing_read.specs.Faults.{◌>>=◌, ensured}
use Rattle.listing_read.specs.declared.object_fault.QuestionFault.TheVariants.{WrongWords}
use Rattle.questions.specs.declared.operand.Operator.{Operator}
use Rattle.question_lines.specs.TermLine.{leaf_at, node_at, operator_of, term_at, term_by}

module _ (sizes : Sizes) (words : List (List ℕ)) where
  term-suc : (deepest at : ℕ)
      → term_at sizes words (suc deepest) at ≡ (ensured (nat_lt at (length words)) WrongWords >>= (λ _. term_by (term_at sizes words deepest) sizes words at (operator_of (field words at))))
  unfolding term_at
  term-suc deepest at = refl

  -- a term that may stand where it does, and that there are words for
  term-there : (deepest at : ℕ) → at < length words
      → term_at sizes words (suc deepest) at ≡ term_by (term_at sizes words deepest) sizes words at (operator_of (field words at))
  term-there deepest at there =
      term-suc deepest at
      ∙ ap (λ (b : Bool). ensured b WrongWords >>= (λ _. term_by (term_at sizes words deepest) sizes words at (operator_of (field words at)))) (lt-ltb at (length words) there)

  term-next : (deepest at : ℕ) → (deepest ≡ 0 → ⊥) → at < length words
      → term_at sizes words deepest at ≡ term_by (term_at sizes words (deepest - 1)) sizes words at (operator_of (field words at))
  term-next zero at some there = absurd (some refl)
  term-next (suc deepest) at some there =
      let same : deepest ≡ suc deepest - 1 = omega arith in
      term-there deepest at there
      ∙ ap (λ d. term_by (term_at sizes words d) sizes words at (operator_of (field words at))) same

  -- it begins with an operator
  pub term-node : (deepest at : ℕ) (operator : Operator) → (deepest ≡ 0 → ⊥) → at < length words → operator_of (field words at) ≡ Some operator
      → term_at sizes words deepest at ≡ node_at (term_at sizes words (deepest - 1)) at operator
  unfolding term_by
  term-node deepest at operator some there is =
      term-next deepest at some there ∙ ap (term_by (term_at sizes words (deepest - 1)) sizes words at) is

  -- it begins with none
  pub term-leaf : (deepest at : ℕ) → (deepest ≡ 0 → ⊥) → at < length words → operator_of (field words at) ≡ None
      → term_at sizes words deepest at ≡ leaf_at sizes words at
  unfolding term_by
  term-leaf deepest at some there is =
      term-next deepest at some there ∙ ap (term_by (term_at sizes words (deepest - 1)) sizes words at) is
