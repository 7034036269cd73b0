-- What is written of a cut is so.
use Rattle.std.proofs.Common.{◌≡◌, ◌≢◌, ℕ, ◌+◌, List, inl, inr, get_or, Option, Some, None, IfSome, refl, sym, ◌∙◌, ap, subst, arith}
use Rattle.coy_io.specs.Lines.{Part, parts_of}
use Rattle.coy_io.specs.Reader.{Reader, new_reader, ahead}
use Rattle.cap_format.specs.declared.kind.CapKind.{CapKind}
use Rattle.cap_format.specs.Capability.{Capability}
use Rattle.kernel_core.specs.State.{State}
use Rattle.listing_read.specs.Listing.{Listed, IsListed}
use Rattle.listing_read.specs.Statement.{ListingValue}
use Rattle.listing_read.specs.declared.place.Place.TheVariants.{Header}
use Rattle.image_builder.specs.Boot.{booted}
use Rattle.confinement.specs.Cut.{Sides, side_in}
use Rattle.confinement.proofs.Own.{is-closed}
use Rattle.confinement.proofs.Runs.{separation}
use Rattle.confine_check.specs.declared.verdict.Breach.{Breach}
use Rattle.confine_check.specs.declared.verdict.Verdict.TheVariants.{Yes}
use Rattle.confine_check.specs.Breach.{broken_by, found_by, sleeper_of}
use Rattle.confine_check.specs.Found.{meant_of, verdict_in}
use Rattle.confine_check.specs.Sides.{all_right, cut_of}
use Rattle.confine_check.proofs.Broken.{meant-first}
use Rattle.schedule_replay.proofs.Reading.{on_each}
use Rattle.courses.specs.Course.{ComesTo, cached, course_output}
use Rattle.courses.specs.Listed.{lines_course, listed_course}
use Rattle.courses.specs.declared.exit.Exit.TheVariants.{Done}
use Rattle.courses.proofs.Bytes.{on_listed}
use Rattle.confine_command.specs.Confine.{FindsExactly, NobodySleeps, breach_text, checked, confine_course, confined_text, cut_text}
use Rattle.confine_command.specs.Decided.{Decides, DecidesListed, DecidesStated, IsDecided}
use Rattle.confine_command.specs.Stated.{PastEnd, RefusedAt, Stated, StatesSides, stated}
use Rattle.confine_command.proofs.Awake.{awake-none, booted-awake}

-- no line is of both kinds: one begins with `c`, the other with `b`
lines-differ : (sides : Sides) (kind : CapKind) (n place : ℕ) (c : Capability) → confined_text sides ≢ breach_text kind n place c
unfolding confined_text breach_text
lines-differ sides kind n place c same = let first : 99 ≡ 98 = ap (λ (xs : List ℕ). get_or xs 0 0) same in omega (arith, first)

-- what is told of a cut is so
pub decides : (s : State) (sides : Sides) → NobodySleeps s.queues → FindsExactly s sides → Decides s sides (cut_text sides (meant_of (cut_of sides) s.store))
decides s sides awake exactly = by (meant_of (cut_of sides) s.store) refl
  where
    finds : (found : Option Breach) → meant_of (cut_of sides) s.store ≡ found → verdict_in (cut_of sides) s ≡ found_by found None
    finds found is =
        ap (λ (o : Option Breach). found_by o (sleeper_of (cut_of sides) s.queues)) is ∙ ap (found_by found) (awake-none (cut_of sides) s.queues awake)

    by : (found : Option Breach) → meant_of (cut_of sides) s.store ≡ found → Decides s sides (cut_text sides found)
    by None is =
        let holds = exactly.0 (finds None is) in
        record {
          line = inl refl;
          confined = λ same. (holds, separation (cut_of sides) s holds);
          breach = λ kind n place c same. absurd (lines-differ sides kind n place c same);
        }
    by (Some found) is = record {
      line = inr (found, refl, meant-first (cut_of sides) (is-closed (side_in sides)) s.store found is);
      confined = λ same. absurd (lines-differ sides found.kind found.number found.place found.cap (sym same));
      breach = λ kind n place c same holds. let yes : broken_by found ≡ Yes = sym (finds (Some found) is) ∙ exactly.1 holds in cc (yes);
    }

-- so it is of what lines state, where it tells that all of them were read
pub decides-stated : (s : State) → NobodySleeps s.queues → ((sides : Sides) → FindsExactly s sides) → (all : Stated) → (checked s all).last.exit ≡ Done
    → DecidesStated s all (course_output (checked s all)).text
decides-stated s awake exactly (StatesSides sides) done = decides s sides awake (exactly sides)
decides-stated s awake exactly (RefusedAt line fault) done = cc
decides-stated s awake exactly PastEnd done = cc

-- and so of the known bytes, where a call that was done wrote what they come to
pub bytes-decided : (listing : ListingValue) → ((sides : Sides) → FindsExactly (booted listing) sides) → (held mid : Option (List ℕ)) (first middle : Reader) → first ≡ new_reader
    → IsListed Header (first.number + 1) (ahead first held) listing middle.number (ahead middle mid) → (taken taken' : Option (List ℕ)) (fetches fetches' : ℕ)
    → IfSome held (λ bytes. ComesTo taken taken' fetches fetches' Done cached (lines_course confine_course (parts_of bytes)))
    → IfSome held (λ bytes. IsDecided bytes (course_output (lines_course confine_course (parts_of bytes))).text)
bytes-decided listing exactly None mid first middle starts listed taken taken' fetches fetches' comes = tt
bytes-decided listing exactly (Some bytes) mid first middle starts listed taken taken' fetches fetches' comes =
    let whole = comes.output.whole (record { read = λ bad. cc; write = λ bad. cc; memory = λ bad. cc }) in
    on_listed (Some bytes) (ahead middle mid) listing middle.number
    (λ (l : Listed). (listed_course confine_course l).last.exit ≡ Done → DecidesListed l (course_output (listed_course confine_course l)).text)
    (subst (λ reader. IsListed Header (reader.number + 1) (ahead reader (Some bytes)) listing middle.number (ahead middle mid)) starts listed)
    (on_each (ahead middle mid) _ (λ parts known. decides-stated (booted listing) (booted-awake listing) exactly (stated (all_right listing.sizes) middle.number parts)))
    (sym whole.0)

-- ---- behind a listing

-- what lines come to on the machine of the listing is what is done with it and them
pub of-listing : (listing : ListingValue) (last : ℕ) (s : State) (sides : Sides) → s ≡ booted listing → sides ≡ all_right listing.sizes
    → (parts : List Part) → checked s (stated sides last parts) ≡ confine_course listing last parts
of-listing listing last s sides state start parts = rw (state, start) refl
