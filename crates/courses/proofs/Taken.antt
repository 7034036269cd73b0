-- From what was done with the lines behind a listing to what a call did with its input.
use Rattle.std.proofs.Common.{◌≡◌, ◌+◌, ℕ, List, Option, false, subst}
use Rattle.coy_io.specs.Lines.{Part}
use Rattle.coy_io.specs.Reader.{Reader, new_reader, ahead}
use Rattle.kernel_core.specs.Outcome.{Touch}
use Rattle.listing_read.specs.Listing.{IsListed}
use Rattle.listing_read.specs.Reads.{GivesListing}
use Rattle.listing_read.specs.Statement.{ListingValue}
use Rattle.listing_read.specs.declared.place.Place.TheVariants.{Header}
use Rattle.courses.specs.Course.{Course, ComesTo}
use Rattle.courses.specs.Ending.{HasCauses}
use Rattle.courses.specs.Listed.{Behind}
use Rattle.courses.specs.Taken.{TakesLines, TakesListing}
use Rattle.courses.specs.declared.exit.Exit.{Exit}
use Rattle.courses.proofs.Bytes.{on_bytes, on_parts-same, stands_on-same, sure-behind}

module _ {S K : Type 0} (held : S → Option (List ℕ)) (source_faults : S → ℕ) (taken : K → Option (List ℕ)) (sink_faults : K → ℕ) where
  -- what a call did with the lines behind a listing, it did with its input
  pub takes-listing : (first middle last : Reader) (listing : ListingValue) (old mid new : S) (out halfway out' : K) (fetches fetches' : ℕ) (exit : Exit) (count : List Touch → ℕ) (behind : Behind)
      → first ≡ new_reader → IsListed Header (first.number + 1) (ahead first (held old)) listing middle.number (ahead middle (held mid))
      → (middle.ended ≡ false → GivesListing first middle (held old) (held mid) listing)
      → halfway ≡ out → source_faults mid ≡ source_faults old
      → TakesLines held source_faults taken sink_faults middle last mid new halfway out' fetches fetches' exit count (behind listing middle.number)
      → TakesListing held source_faults taken sink_faults old new out out' fetches fetches' exit count behind
  takes-listing first middle last listing old mid new out halfway out' fetches fetches' exit count behind starts listed given silent quiet did =
      let t = subst (λ k. TakesLines held source_faults taken sink_faults middle last mid new k out' fetches fetches' exit count (behind listing middle.number)) silent did in
      record {
        comes = on_bytes behind (held old) (held mid) first middle listing (ComesTo (taken out) (taken out') fetches fetches' exit count) starts listed t.comes;
        end = t.end;
        sure = λ failed.
            sure-behind behind (held old) (held new) (taken out) (taken out') fetches fetches' count (held mid) first middle last listing starts given
            (t.sure failed);
        usage = t.usage;
        causes = subst (λ n. HasCauses n (source_faults new) (sink_faults out) (sink_faults out') exit) quiet t.causes;
        unwritten = t.unwritten;
        unspent = t.unspent;
      }

  -- by another name of what the lines come to
  pub takes-same : (reader reader' : Reader) (old new : S) (out out' : K) (fetches fetches' : ℕ) (exit : Exit) (count : List Touch → ℕ) (course other : List Part → Course)
      → ((parts : List Part) → course parts ≡ other parts)
      → TakesLines held source_faults taken sink_faults reader reader' old new out out' fetches fetches' exit count course
      → TakesLines held source_faults taken sink_faults reader reader' old new out out' fetches fetches' exit count other
  takes-same reader reader' old new out out' fetches fetches' exit count course other same t = record {
    comes = on_parts-same (ahead reader (held old)) course other (ComesTo (taken out) (taken out') fetches fetches' exit count) same t.comes;
    end = t.end;
    sure = λ failed. stands_on-same reader reader' (held old) (held new) (taken out) (taken out') fetches fetches' count course other same (t.sure failed);
    usage = t.usage;
    causes = t.causes;
    unwritten = t.unwritten;
    unspent = t.unspent;
  }
