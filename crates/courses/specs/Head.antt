-- How a call ends that has no listing, whatever it does with one (this project's own).
use Rattle.std.specs.Prelude.{◌≡◌, ◌≢◌, ℕ, false, List, [], Option, IfSome, ⊤}
use Rattle.coy_io.specs.Lines.{parts_of}
use Rattle.kernel_core.specs.Outcome.{Touch}
use Rattle.listing_read.specs.Listing.{Listed, Good, Refused, Past, listing_of}
use Rattle.listing_read.specs.declared.place.Place.TheVariants.{Header}
use Rattle.courses.specs.Exit.{is_finished}
use Rattle.courses.specs.Listed.{Behind}
use Rattle.courses.specs.Taken.{TakesListing}
use Rattle.courses.specs.declared.exit.Exit.{Exit}
use Rattle.courses.specs.declared.exit.Exit.TheVariants.{ReadFault, OutOfMemory}

-- lines make no listing
abbrev pub MakesNone : Listed → Type 0
MakesNone (Good listing last rest) = ⊥
MakesNone (Refused line fault) = ⊤
MakesNone Past = ⊤

-- the call ends here, with no slot fetched, however the slots of touches are counted: it did what any does with its input
pub record EndsUnlisted {S K : Type 0} (held : S → Option (List ℕ)) (source_faults : S → ℕ) (taken : K → Option (List ℕ)) (sink_faults : K → ℕ)
    (old new : S) (out out' : K) (exit : Exit) : Type 0 where
  pub takes : (behind : Behind) (count : List Touch → ℕ) → count [] ≡ 0 → (fetches : ℕ)
      → TakesListing held source_faults taken sink_faults old new out out' fetches fetches exit count behind
  pub unfinished : is_finished exit ≡ false
  pub unlisted : exit ≢ ReadFault → exit ≢ OutOfMemory → IfSome (held old) (λ bytes. MakesNone (listing_of Header 1 (parts_of bytes)))
