-- The text of a whole listing is read as that listing.
use Rattle.std.proofs.Common.{ℕ, ◌≡◌, ◌+◌, [], length, refl, ap, ◌∙◌}
use Rattle.coy_io.specs.Lines.{parts}
use Rattle.object_store.specs.Store.{sizes_of}
use Rattle.listing_read.specs.declared.terms.Version.TheVariants.{One}
use Rattle.listing_read.specs.Statement.{ListingValue}
use Rattle.listing_read.specs.Listing.{Good}
use Rattle.statement_text.specs.Text.{format_text, machine_text, end_text}
use Rattle.statement_text.proofs.Listed.{listing_listed}
use Rattle.run_text.specs.State.{objects_text}
use Rattle.read_back.specs.Printed.{statements_of}
use Rattle.read_back.proofs.Stored.{limits}
use Rattle.read_back.proofs.Objects.{objects_listed}
use Rattle.boot_again.specs.Text.{listing_text, PrintedIsListing}

-- no bytes have no parts
no_parts : (room : ℕ) → parts [] room [] ≡ []
unfolding parts
no_parts room = refl

pub printed_is_listing : PrintedIsListing
unfolding listing_text
printed_is_listing s is fits =
    let sizes = sizes_of s in
    let front : ℕ = length (format_text One) + (length (machine_text sizes) + (length (objects_text s) + length end_text)) in
    listing_listed One sizes (objects_text s) (statements_of s) [] (limits s is) (objects_listed s is) fits
    ∙ ap (λ rest. let l : ListingValue = record { sizes = sizes; statements = statements_of s } in Good l (3 + length (statements_of s)) rest) (no_parts _)
