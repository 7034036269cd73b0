-- Where the source of a listing stands.
use Rattle.std.proofs.Common.{◌≡◌, ◌+◌, ◌∙◌, [], ℕ, List, Option, length, refl, sym, ap, subst, arith}
use Rattle.std.proofs.KnownBytes.{Consumes-nil}
use Rattle.coy_io.specs.Lines.{Part, whole_lines}
use Rattle.coy_io.specs.Reader.{Reader, new_reader, last_taken}
use Rattle.coy_io.proofs.GivenLaws.{GivesLines-before}
use Rattle.listing_read.specs.Listing.{Refused, listing_of}
use Rattle.listing_read.specs.Reads.{GivesBefore}
use Rattle.listing_read.specs.declared.fault.Fault.TheVariants.{BadHeader}
use Rattle.listing_read.specs.declared.fault.ListingFault.{ListingFault}
use Rattle.listing_read.specs.declared.fault.ListingFault.TheVariants as no_listing
use Rattle.listing_read.specs.declared.place.Place.TheVariants.{Header}
use Rattle.courses.specs.Ending.{Concludes}
use Rattle.courses.specs.Stopped.{listing_exit}
use Rattle.courses.specs.Wanting.{StandsAtListing}
use Rattle.courses.specs.declared.exit.Exit.{Exit}
use Rattle.courses.specs.declared.exit.Exit.TheVariants.{OutOfMemory}
use Rattle.courses.proofs.Concluding.{concludes-own}

-- a reader that was new gave the last line of a listing, or one before it
pub stands-at : (first reader : Reader) (held held' : Option (List ℕ)) → first ≡ new_reader → GivesBefore first reader held held' → StandsAtListing held held'
stands-at first reader held held' starts before =
    let b = subst (λ r. GivesBefore r reader held held') starts before in
    let taken = GivesLines-before (last_taken reader) held held' b.given b.gives in
    let none : 0 + length b.given ≡ length b.given = omega arith in
    record {
      bytes = taken.0;
      last = last_taken reader;
      read = taken.1;
      near = b.near;
      fault = b.fault;
      ends_early =
          subst (λ (parts : List Part). listing_of Header 1 parts ≡ Refused (length parts + 1) b.fault) (sym taken.2)
          (b.ends_early ∙ ap (λ n. Refused (n + 1) b.fault) none);
    }

-- and where nothing was taken
pub stands-unread : (held : Option (List ℕ)) → StandsAtListing held held
unfolding listing_of whole_lines
stands-unread held = record {
  bytes = [];
  last = [];
  read = Consumes-nil held;
  near = omega arith;
  fault = BadHeader;
  ends_early = refl;
}

-- the exit where there is no listing tells that memory was wanting for that reason alone
pub listing-wanting : (fault : ListingFault) → listing_exit fault ≡ OutOfMemory → fault ≡ no_listing.OutOfMemory
listing-wanting (no_listing.Refused line fault) same = cc
listing-wanting no_listing.TooLong same = cc
listing-wanting no_listing.ReadFault same = cc
listing-wanting no_listing.OutOfMemory same = refl

module _ {K : Type 0} (taken : K → Option (List ℕ)) (sink_faults : K → ℕ) (out out' : K) (exit : Exit) where
  -- and so does the exit of a call that it concluded
  pub concludes-wanting : (fault : ListingFault) → Concludes taken sink_faults (listing_exit fault) out out' exit → exit ≡ OutOfMemory → fault ≡ no_listing.OutOfMemory
  concludes-wanting fault c same = listing-wanting fault (concludes-own taken sink_faults out out' exit (listing_exit fault) c OutOfMemory (λ cut. cc) same)
