-- How a proof tells two terms apart: each has a code, and no two have one code. (Own.)
use Rattle.std.proofs.Common.{◌≡◌, ◌≢◌, ℕ, ap, arith}
use Rattle.std.specs.Coded.{Coded}
use base.Stored.{Gv, gnil, gnum, gcons}
use Rattle.questions.specs.contracts.operand.Operand as operands
use Rattle.questions.specs.contracts.operand.Operator as operators
use Rattle.questions.specs.Term.{TermValue}
use Rattle.questions.specs.Term.TermValue.{Leaf, Node}

-- the first of a pair
abbrev front : Gv → Gv
front gnil = gnil
front (gnum n) = gnil
front (gcons a b) = a

-- the second of a pair
abbrev behind : Gv → Gv
behind gnil = gnil
behind (gnum n) = gnil
behind (gcons a b) = b

-- pairs that begin with different numbers are not the same
apart : (m n : ℕ) {a b : Gv} → gcons (gnum m) a ≡ gcons (gnum n) b → m ≢ n → ⊥
apart m n same other = other (cc)

-- the code of a term: 0 and its operand, or 1, its operator and its two terms
abbrev pub term_code : TermValue → Gv
term_code (Leaf operand) = gcons (gnum 0) (operands.the_row.coded.code operand)
term_code (Node operator first second) =
    gcons (gnum 1) (gcons (operators.the_row.coded.code operator) (gcons (term_code first) (term_code second)))

-- terms of one code are the same
pub term_code-injective : (s t : TermValue) → term_code s ≡ term_code t → s ≡ t
term_code-injective (Leaf x) (Leaf y) same = ap Leaf (operands.the_row.coded.inj x y (ap behind same))
term_code-injective (Leaf x) (Node operator c d) same = absurd (apart 0 1 same (omega arith))
term_code-injective (Node operator a b) (Leaf y) same = absurd (apart 1 0 same (omega arith))
term_code-injective (Node operator a b) (Node other c d) same = λ i.
    Node (operators.the_row.coded.inj operator other (ap (λ g. front (behind g)) same) i)
    (term_code-injective a c (ap (λ g. front (behind (behind g))) same) i)
    (term_code-injective b d (ap (λ g. behind (behind (behind g))) same) i)

-- the code of terms, for the logic
abbrev pub term_coded : Coded TermValue
term_coded = record { code = term_code; inj = term_code-injective }
