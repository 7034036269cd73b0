-- Text that is read as statements, one behind the other.
use Rattle.std.specs.Prelude.{ℕ, ◌≡◌, ◌+◌, ◌-◌, ◌≤◌, List, [], ◌++◌, length}
use Rattle.coy_io.specs.Lines.{parts}
use Rattle.listing_read.specs.declared.place.Place.TheVariants.{Statements}
use Rattle.listing_read.specs.declared.statement.Statement.{Statement}
use Rattle.listing_read.specs.declared.terms.Terms.{Terms}
use Rattle.listing_read.specs.Listing.{listing_of, with_front}

-- wherever the text stands among the statements of a listing, and whatever bytes stand behind it, of which a reader may
-- take so many: it lists these statements, and goes on with what stands behind it, a line further for each of them
pub record Lists (terms : Terms) (text : List ℕ) (statements : List Statement) : Type 0 where
  pub listed : (n room : ℕ) (rest : List ℕ) → length text ≤ room →
      listing_of (Statements terms) n (parts [] room (text ++ rest)) ≡
      with_front statements (listing_of (Statements terms) (n + length statements) (parts [] (room - length text) rest))
