-- Text that is read as what it was written for.
use Rattle.std.specs.Prelude.{ℕ, ◌≡◌, ◌≤◌, ◌<◌, ⊤, true, List, ◌++◌, length, Ok}
use Rattle.coy_io.specs.Limits.{line_limit}
use Rattle.coy_io.specs.Lines.{line_feed, IsUnfinished}
use Rattle.rv32_decode.specs.InRange.{InRange}
use Rattle.listing_read.specs.declared.place.Place.TheVariants.{Statements}
use Rattle.listing_read.specs.declared.place.Said.TheVariants.{Says}
use Rattle.listing_read.specs.declared.statement.Statement.{Statement}
use Rattle.listing_read.specs.declared.statement.Statement.TheVariants.{Page, Code, Region}
use Rattle.listing_read.specs.declared.terms.Terms.{Terms}
use Rattle.listing_read.specs.declared.terms.Version.{Version}
use Rattle.listing_read.specs.Terms.{has_names}
use Rattle.listing_read.specs.Listing.{judged}

-- the text is a line and the line feed behind it; the line has none in it, is no longer than a reader takes, and says
-- this statement among those that are judged by these terms
pub record ReadsBack (terms : Terms) (text : List ℕ) (statement : Statement) : Type 0 where
  pub line : List ℕ
  pub text_is : text ≡ line ++ line_feed
  pub short : length line ≤ line_limit
  pub whole : IsUnfinished line
  pub said : judged (Statements terms) line ≡ Ok (Says statement)

-- the statement has a line: its offset is one of a page, and its instruction is one of the assembler's
abbrev pub HasLine : Statement → Type 0
HasLine (Page number at bytes) = at < 4096
HasLine (Code number at insn) = (at < 4096) × InRange insn
HasLine _ = ⊤

-- a listing of this version may say the statement
abbrev pub IsSayable : Version → Statement → Type 0
IsSayable version (Region gpt slot count page restr) = has_names version ≡ true
IsSayable version _ = ⊤
