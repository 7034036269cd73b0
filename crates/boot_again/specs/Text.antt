-- The text of a whole listing that says the objects of a state.
use Rattle.std.specs.Prelude.{ℕ, ◌≡◌, ◌+◌, ◌≤◌, List, [], ◌++◌, length}
use Rattle.coy_io.specs.Limits.{input_limit}
use Rattle.coy_io.specs.Lines.{parts_of}
use Rattle.object_store.specs.Store.{Store, sizes_of}
use Rattle.listing_read.specs.declared.place.Place.TheVariants.{Header}
use Rattle.listing_read.specs.Listing.{Good, listing_of}
use Rattle.listing_read.specs.declared.terms.Version.TheVariants.{One}
use Rattle.statement_text.specs.Text.{format_text, machine_text, end_text}
use Rattle.run_text.specs.State.{objects_text}
use Rattle.read_back.specs.Printed.{statements_of}
use Rattle.read_back.specs.Listable.{IsListable}
use Rattle.boot_again.specs.Boots.{printed_listing}

-- the two lines that open a listing of version 1, what is printed of the objects, and the last line
unfoldable pub listing_text : Store → List ℕ
listing_text s = format_text One ++ (machine_text (sizes_of s) ++ (objects_text s ++ end_text))

-- where it is no longer than an input may be, it is read to its last line as the listing of these objects
abbrev pub PrintedIsListing : Type 0
PrintedIsListing =
    (s : Store) → IsListable s → length (listing_text s) ≤ input_limit →
    listing_of Header 1 (parts_of (listing_text s)) ≡ Good (printed_listing s) (3 + length (statements_of s)) []
