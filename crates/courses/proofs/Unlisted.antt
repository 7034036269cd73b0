-- How a call ends that has no listing.
use Rattle.std.proofs.Common.{◌≡◌, ◌≢◌, ◌+◌, ◌∙◌, [], ℕ, List, true, false, Option, None, Some, IfSome, Bool, refl, sym, ap, subst, arith}
use Rattle.std.specs.Io.KnownBytes.{Appends}
use Rattle.std.proofs.KnownBytes.{Appends-nil}
use Rattle.coy_io.specs.Causes.{Rose}
use Rattle.coy_io.specs.Lines.{parts_of}
use Rattle.coy_io.specs.Reader.{Reader, new_reader, ahead}
use Rattle.listing_read.specs.Listing.{Listed, Refused, Past, IsCause, listing_of}
use Rattle.listing_read.specs.Reads.{GivesFront}
use Rattle.listing_read.specs.declared.fault.ListingFault.{ListingFault}
use Rattle.listing_read.specs.declared.fault.ListingFault.TheVariants as no_listing
use Rattle.listing_read.specs.declared.place.Place.TheVariants.{Header}
use Rattle.kernel_core.specs.Outcome.{Touch}
use Rattle.courses.specs.Course.{ComesTo, course_output, ends_in}
use Rattle.courses.specs.Ending.{Concludes, EndsIn, IsGiven, Output, Outputs, told_end}
use Rattle.courses.specs.Exit.{is_finished}
use Rattle.courses.specs.Head.{EndsUnlisted, MakesNone}
use Rattle.courses.specs.Listed.{Behind, listed_course, lines_course}
use Rattle.courses.specs.Stopped.{listing_exit}
use Rattle.courses.specs.declared.exit.Exit.{Exit}
use Rattle.courses.specs.declared.exit.Exit.TheVariants.{ListingRefused, Usage, ReadFault, WriteFault, OutOfMemory, TooLong}
use Rattle.courses.proofs.Bytes.{sure-listing}
use Rattle.courses.proofs.Concluding.{outputs_memory}
use Rattle.courses.proofs.Endings.{outputs_none}
use Rattle.courses.proofs.Lasts.{comes-last, ends-causes, ends-open, ends-own, read-causes}

-- where reading failed or memory was wanting, with nothing fetched, that is what any lines come to
comes-nothing : (held taken taken' : Option (List ℕ)) (exit : Exit) → (IsGiven exit → ⊥) → ((o : Output) → Outputs taken taken' exit o)
    → (behind : Behind) (count : List Touch → ℕ) → count [] ≡ 0 → (fetches : ℕ)
    → IfSome held (λ bytes. ComesTo taken taken' fetches fetches exit count (lines_course behind (parts_of bytes)))
comes-nothing None taken taken' exit never outputs behind count none fetches = tt
comes-nothing (Some bytes) taken taken' exit never outputs behind count none fetches = record {
  output = outputs (course_output (lines_course behind (parts_of bytes)));
  fetched = record { whole = λ given. absurd (never given); most = omega arith };
}

module _ {S K : Type 0} (held : S → Option (List ℕ)) (source_faults : S → ℕ) (taken : K → Option (List ℕ)) (sink_faults : K → ℕ) (old new : S) (out out' : K)
    (first reader : Reader) (exit : Exit) (starts : first ≡ new_reader) where
  abbrev Ends_here : Type 0
  Ends_here = EndsUnlisted held source_faults taken sink_faults old new out out' exit

  -- what is so of the one listing that the known lines make is so of what they come to
  by_listing : (listed : Listed) (o : Output) → ((behind : Behind) → listed_course behind listed ≡ ends_in o)
      → (known : Option (List ℕ)) → IfSome known (λ bytes. listing_of Header 1 (parts_of bytes) ≡ listed)
      → EndsIn taken sink_faults out out' exit o → (behind : Behind) (count : List Touch → ℕ) → count [] ≡ 0 → (fetches : ℕ)
      → IfSome known (λ bytes. ComesTo (taken out) (taken out') fetches fetches exit count (lines_course behind (parts_of bytes)))
  by_listing listed o is None cause e behind count none fetches = tt
  by_listing listed o is (Some bytes) cause e behind count none fetches =
      subst (ComesTo (taken out) (taken out') fetches fetches exit count) (sym (ap (listed_course behind) cause ∙ is behind))
      (comes-last (taken out) (taken out') (sink_faults out) (sink_faults out') fetches fetches exit count o e refl none)

  -- known lines make none where the one that they make is none
  unlisted-at : (listed : Listed) → MakesNone listed → (known : Option (List ℕ)) → IfSome known (λ bytes. listing_of Header 1 (parts_of bytes) ≡ listed)
      → IfSome known (λ bytes. MakesNone (listing_of Header 1 (parts_of bytes)))
  unlisted-at listed none None cause = tt
  unlisted-at listed none (Some bytes) cause = subst MakesNone (sym cause) none

  -- a refusal was told
  told : (listed : Listed) (o : Output) → MakesNone listed → ((behind : Behind) → listed_course behind listed ≡ ends_in o) → IsGiven o.exit → o.exit ≢ Usage → is_finished o.exit ≡ false
      → IfSome (held old) (λ bytes. listing_of Header 1 (parts_of bytes) ≡ listed) → EndsIn taken sink_faults out out' exit o → source_faults new ≡ source_faults old → Ends_here
  told listed o none is given form never cause e quiet =
      let own : (x : Exit) → x ≢ WriteFault → exit ≡ x → o.exit ≡ x = ends-own _ _ _ _ exit o e in
      record {
        takes = λ behind count none fetches. record {
          comes = by_listing listed o is (held old) cause e behind count none fetches;
          end = λ done. absurd (ends-open _ _ _ _ exit o e never done);
          sure = λ same. absurd (given.read (own ReadFault (λ cut. cc) same));
          usage = λ same. form (own Usage (λ cut. cc) same);
          causes = ends-causes _ _ _ _ exit o e _ _ _ given.read quiet refl;
          unwritten = λ same. absurd (given.memory (own OutOfMemory (λ cut. cc) same));
          unspent = λ same. refl;
        };
        unfinished = by (is_finished exit) refl (ends-open _ _ _ _ exit o e never);
        unlisted = λ read memory. unlisted-at listed none (held old) cause;
      }
    where
      by : (b : Bool) → is_finished exit ≡ b → (is_finished exit ≡ true → ⊥) → is_finished exit ≡ false
      by true is never = absurd (never is)
      by false is never = is

  -- the call has no listing for this reason, and was concluded by the exit that it gives
  pub ends-unlisted : (fault : ListingFault) → IsCause fault Header (first.number + 1) (ahead first (held old)) → Concludes taken sink_faults (listing_exit fault) out out' exit
      → (fault ≡ no_listing.ReadFault → GivesFront first reader (held old) (held new))
      → (fault ≡ no_listing.ReadFault → Rose (source_faults old) (source_faults new)) → (fault ≢ no_listing.ReadFault → source_faults new ≡ source_faults old) → Ends_here
  ends-unlisted (no_listing.Refused line fault) cause e front rose quiet =
      told (Refused line fault) (told_end (ListingRefused line fault)) tt (λ behind. refl) (record { read = λ bad. cc; write = λ bad. cc; memory = λ bad. cc }) (λ bad. cc) refl
      (refused (held old) (subst (λ reader. IsCause (no_listing.Refused line fault) Header (reader.number + 1) (ahead reader (held old))) starts cause)) e (quiet (λ same. cc))
    where
      refused : (known : Option (List ℕ)) → IsCause (no_listing.Refused line fault) Header 1 (ahead new_reader known) → IfSome known (λ bytes. listing_of Header 1 (parts_of bytes) ≡ Refused line fault)
      refused None cause = tt
      refused (Some bytes) cause = cause
  ends-unlisted no_listing.TooLong cause e front rose quiet =
      told Past (told_end TooLong) tt (λ behind. refl) (record { read = λ bad. cc; write = λ bad. cc; memory = λ bad. cc }) (λ bad. cc) refl
      (past (held old) (subst (λ reader. IsCause no_listing.TooLong Header (reader.number + 1) (ahead reader (held old))) starts cause)) e (quiet (λ same. cc))
    where
      past : (known : Option (List ℕ)) → IsCause no_listing.TooLong Header 1 (ahead new_reader known) → IfSome known (λ bytes. listing_of Header 1 (parts_of bytes) ≡ Past)
      past None cause = tt
      past (Some bytes) cause = cause
  ends-unlisted no_listing.ReadFault cause e front rose quiet =
      subst (λ x. EndsUnlisted held source_faults taken sink_faults old new out out' x) (sym e.0) (record {
        takes = λ behind count none fetches. record {
          comes = comes-nothing (held old) (taken out) (taken out') ReadFault (λ given. given.read refl) (λ o. outputs_none (taken out) (taken out') o) behind count none fetches;
          end = λ done. cc;
          sure = λ read.
              sure-listing behind (held old) (held new) (taken out) (taken out') fetches fetches count first reader starts (front refl)
              (subst (λ k. Appends (taken out) (taken k) []) (sym e.1) (Appends-nil (taken out))) refl none;
          usage = λ usage. cc;
          causes = read-causes _ _ _ _ ReadFault refl (rose refl) (ap sink_faults e.1);
          unwritten = λ memory. cc;
          unspent = λ memory. refl;
        };
        unfinished = refl;
        unlisted = λ read memory. absurd (read refl);
      })
  ends-unlisted no_listing.OutOfMemory cause e front rose quiet =
      subst (λ x. EndsUnlisted held source_faults taken sink_faults old new out out' x) (sym e.0) (record {
        takes = λ behind count none fetches. record {
          comes = comes-nothing (held old) (taken out) (taken out') OutOfMemory (λ given. given.memory refl) (λ o. outputs_memory (taken out) (taken out') o (ap taken e.1)) behind count none fetches;
          end = λ done. cc;
          sure = λ read. cc;
          usage = λ usage. cc;
          causes = record { read = λ same. cc; read_quiet = λ other. quiet (λ same. cc); write = λ same. cc; write_quiet = λ other. ap sink_faults e.1 };
          unwritten = λ memory. ap taken e.1;
          unspent = λ memory. refl;
        };
        unfinished = refl;
        unlisted = λ read memory. absurd (memory refl);
      })
