-- Every statement of a listing has a line.
use Rattle.std.proofs.Common.{ℕ, ◌≡◌, ◌<◌, List, length, get_or, subst, sym, arith}
use Rattle.std.specs.List.{All}
use Rattle.object_store.specs.declared.sizes.Sizes.{Sizes}
use Rattle.listing_read.specs.Statement.{IsStatement}
use Rattle.listing_read.specs.declared.statement.Statement.{Statement}
use Rattle.listing_read.specs.declared.statement.Statement.TheVariants.{Page, Code}
use Rattle.statement_text.specs.ReadsBack.{HasLine}

has_line : (sizes : Sizes) (x : Statement) → IsStatement sizes x → HasLine x
has_line sizes (Page number at bytes) is = omega (arith, is.1, is.2)
has_line sizes (Code number at insn) is = (omega (arith, is.1), is.2)
has_line sizes _ is = tt

-- statement `i` of them
pub stated_has_line : (sizes : Sizes) (all xs : List Statement) (i : ℕ) (x : Statement) → xs ≡ all → i < length xs → x ≡ get_or xs i x → All (IsStatement sizes) all → HasLine x
stated_has_line sizes all xs i x same there at range =
    has_line sizes x (rw at (subst (All (IsStatement sizes)) (sym same) range i x there))
