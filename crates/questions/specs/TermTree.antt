-- The term that a tree of the code is. (Own.)
use Rattle.std.specs.Prelude.{ℕ, ◌+◌}
use Rattle.questions.specs.declared.term.Tree.{Tree}
use Rattle.questions.specs.declared.term.Tree.TheVariants as trees
use Rattle.questions.specs.Term.{TermValue}
use Rattle.questions.specs.Term.TermValue.{Leaf, Node}

-- a tree as a term
abbrev pub tree_value : Tree → TermValue
tree_value (trees.Leaf operand) = Leaf operand
tree_value (trees.Node operator first second) = Node operator first.value second.value

-- how many operators a term has
abbrev pub term_size : TermValue → ℕ
term_size (Leaf operand) = 0
term_size (Node operator first second) = 1 + (term_size first + term_size second)
