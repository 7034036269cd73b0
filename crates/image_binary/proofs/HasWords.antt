-- The instruction of every statement of a listing has a word.
use Rattle.std.proofs.Common.{ℕ, ◌≡◌, ◌<◌, List, length, get_or, subst, sym}
use Rattle.std.specs.List.{All}
use Rattle.object_store.specs.declared.sizes.Sizes.{Sizes}
use Rattle.listing_read.specs.Statement.{IsStatement}
use Rattle.listing_read.specs.declared.statement.Statement.{Statement}
use Rattle.listing_read.specs.declared.statement.Statement.TheVariants.{Code}
use Rattle.image_binary.specs.Statements.{HasWord}

has_word : (sizes : Sizes) (x : Statement) → IsStatement sizes x → HasWord x
has_word sizes (Code number at insn) is = is.2
has_word sizes _ is = tt

-- statement `i` of them
pub stated_has_word : (sizes : Sizes) (all xs : List Statement) (i : ℕ) (x : Statement) → xs ≡ all → i < length xs → x ≡ get_or xs i x → All (IsStatement sizes) all → HasWord x
stated_has_word sizes all xs i x same there at range =
    has_word sizes x (rw at (subst (All (IsStatement sizes)) (sym same) range i x there))
