-- The laws of texts of several lines: what is printed of the objects of a state is read as statements again.
use Rattle.std.specs.Prelude.{ℕ, ◌<◌, List}
use Rattle.listing_read.specs.Terms.{terms_of}
use Rattle.listing_read.specs.declared.terms.Terms.{Terms}
use Rattle.listing_read.specs.declared.terms.Version.TheVariants.{One}
use Rattle.object_store.specs.Store.{Store, sizes_of}
use Rattle.listing_read.specs.declared.statement.Statement.{Statement}
use Rattle.run_text.specs.Each.{each_below}
use Rattle.run_text.specs.State.{objects_text}
use Rattle.statement_text.specs.Lists.{Lists}
use Rattle.read_back.specs.Printed.{statements_below, statements_of}
use Rattle.read_back.specs.Listable.{IsListable}

-- where each text lists its statements, the texts of the first n things list theirs, one behind the other
abbrev pub EachIsListed : Type 0
EachIsListed =
    (terms : Terms) (text : ℕ → List ℕ) (statements : ℕ → List Statement) (n : ℕ) →
    ((i : ℕ) → i < n → Lists terms (text i) (statements i)) →
    Lists terms (each_below text n) (statements_below statements n)

-- the printed objects list their statements
abbrev pub ObjectsAreListed : Type 0
ObjectsAreListed = (s : Store) → IsListable s → Lists (terms_of One (sizes_of s)) (objects_text s) (statements_of s)
