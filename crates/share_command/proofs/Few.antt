-- How few frames are told, and how few slots are fetched: the laws of shared leaf tables, of the command.
use Rattle.std.proofs.Common.{◌≡◌, ◌+◌, ℕ, List, Option, None, Some, IfSome, refl, sym, ◌∙◌, arith}
use Rattle.coy_io.specs.Lines.{Part, parts_of}
use Rattle.coy_io.specs.Reader.{Reader, new_reader, ahead}
use Rattle.kernel_core.specs.Run.{run_state, run_touches}
use Rattle.kernel_core.specs.State.{State}
use Rattle.image_builder.specs.Boot.{booted}
use Rattle.listing_read.specs.Listing.{IsListed}
use Rattle.listing_read.specs.Statement.{ListingValue}
use Rattle.listing_read.specs.declared.place.Place.TheVariants.{Header}
use Rattle.machine_state.specs.declared.event.Event.{Event}
use Rattle.shared_leaves.specs.Kept.{cost_of, kept_after, kept_without, nothing}
use Rattle.shared_economy.specs.Counts.{frames, kept_by}
use Rattle.shared_economy.proofs.Bound.{bound_in_every_run, round_bound}
use Rattle.shared_economy.proofs.Economic.{round_economy, shared_economy}
use Rattle.shared_economy.proofs.Few.{fewer_frames}
use Rattle.run_economy.proofs.Events.{run-follows}
use Rattle.run_ranges.specs.Ranges.{AreInRanges}
use Rattle.run_ranges.proofs.Events.{run-accesses}
use Rattle.schedule_replay.proofs.Reading.{on_each}
use Rattle.schedule_replay.specs.Counts.{counts_of}
use Rattle.schedule_replay.specs.Replay.{answer_at, run_answer}
use Rattle.schedule_replay.specs.Scheduled.{AtEnd, AtFault, AtLimit, Ending, Scheduled, scheduled}
use Rattle.schedule_replay.specs.declared.replayed.Replayed.{Replayed}
use Rattle.schedule_replay.specs.declared.replayed.Replayed.TheVariants as answers
use Rattle.courses.specs.Course.{ComesTo, Course, course_fetches}
use Rattle.courses.specs.Ending.{IsGiven}
use Rattle.courses.specs.Listed.{lines_course}
use Rattle.courses.specs.Running.{if_ended, run_course}
use Rattle.courses.specs.declared.exit.Exit.{Exit}
use Rattle.courses.specs.declared.exit.Exit.TheVariants.{Done, OutOfMemory, ReadFault, ScheduleRefused, TooLong, WriteFault}
use Rattle.courses.proofs.Bytes.{on_bytes}
use Rattle.courses.proofs.Lasts.{exits-differ}
use Rattle.share_command.specs.Few.{IsSharedBounded, TellsFew}
use Rattle.share_command.specs.Share.{share_course, share_runner, shared_fetched}

-- what the events of a run and its answer come to
abbrev shared_run : State → List Event → Replayed → Course
shared_run s events answer = run_course cost_of kept_after kept_without nothing share_runner s events answer

-- what the bytes of an input come to
abbrev pub bytes_course : List ℕ → Course
bytes_course bytes = lines_course share_course (parts_of bytes)

-- nothing is fetched behind the records
none-behind : (answer : Replayed) → if_ended 0 answer ≡ 0
none-behind (answers.Ended counts) = refl
none-behind _ = refl

-- ---- a run from a state in its ranges

-- all that a run comes to is within the bounds
abbrev IsSharedSound : Course → Type 0
IsSharedSound course = IsSharedBounded 0 (course_fetches shared_fetched course) course

module _ (s : State) (ranged : AreInRanges s.store) (events : List Event) where
  -- the frames that are told where all was done
  run-few : (ending : Ending) → (shared_run s events (answer_at (counts_of s events) ending)).last.exit ≡ Done
      → TellsFew (shared_run s events (answer_at (counts_of s events) ending))
  run-few AtEnd done =
      let touches = run_touches s events in
      let end = (run_state s events).store.items in
      let follows = run-follows s events in
      let accesses = run-accesses s events ranged in
      let few = fewer_frames touches in
      record {
        count = frames (kept_by nothing touches);
        told = refl;
        needed = few.needed;
        most = few.most;
        exact = λ fits. (shared_economy s.store.items end touches follows accesses fits).exact;
      }
  run-few (AtFault line fault) done =
      absurd (exits-differ (ScheduleRefused line fault) Done (λ n. let bad : 3 ≡ 0 = n in omega (arith, bad)) done)
  run-few AtLimit done = absurd (exits-differ TooLong Done (λ n. let bad : 7 ≡ 0 = n in omega (arith, bad)) done)

  -- the slots that are fetched
  run-sound : (answer : Replayed) → IsSharedSound (shared_run s events answer)
  run-sound answer =
      let touches = run_touches s events in
      let end = (run_state s events).store.items in
      let follows = run-follows s events in
      let accesses = run-accesses s events ranged in
      let bound = bound_in_every_run nothing touches in
      let round = round_bound nothing touches in
      let none = none-behind answer in
      record {
        run = omega (arith, round, none);
        sharp_run = omega (arith, bound, none);
        economy = λ fits.
            let few = round_economy s.store.items end touches follows accesses fits in
            omega (arith, few, none);
        sharp_economy = λ fits.
            let few = (shared_economy s.store.items end touches follows accesses fits).few in
            omega (arith, few, none);
      }

-- ---- a listing and the lines behind it

-- few frames are told where all was done, and few slots are fetched
record IsShared (course : Course) : Type 0 where
  few : course.last.exit ≡ Done → TellsFew course
  sound : IsSharedSound course

listing-shared : (listing : ListingValue) → AreInRanges (booted listing).store → (last : ℕ) (rest : List Part)
    → IsShared (share_course listing last rest)
listing-shared listing ranged last rest =
    let all : Scheduled = scheduled listing.sizes.harts last rest in
    record {
      few = run-few (booted listing) ranged all.events all.ending;
      sound = run-sound (booted listing) ranged all.events (run_answer (booted listing) all);
    }

-- the known bytes, whose lines make this listing
bytes-shared : (held mid : Option (List ℕ)) (first middle : Reader) (listing : ListingValue) → first ≡ new_reader
    → IsListed Header (first.number + 1) (ahead first held) listing middle.number (ahead middle mid)
    → AreInRanges (booted listing).store → IfSome held (λ bytes. IsShared (bytes_course bytes))
bytes-shared held mid first middle listing starts listed ranged =
    on_bytes share_course held mid first middle listing IsShared starts listed
    (on_each (ahead middle mid) (λ parts. IsShared (share_course listing middle.number parts))
    (λ parts known. listing-shared listing ranged middle.number parts))

-- ---- a call

-- all was done
done-given : (exit : Exit) → exit ≡ Done → IsGiven exit
done-given exit done = record {
  read = λ same. exits-differ ReadFault Done (λ n. let bad : 4 ≡ 0 = n in omega (arith, bad)) (sym same ∙ done);
  write = λ same. exits-differ WriteFault Done (λ n. let bad : 5 ≡ 0 = n in omega (arith, bad)) (sym same ∙ done);
  memory = λ same. exits-differ OutOfMemory Done (λ n. let bad : 6 ≡ 0 = n in omega (arith, bad)) (sym same ∙ done);
}

-- a call that comes to what the known bytes come to, whose lines make a listing
module _ (held mid taken taken' : Option (List ℕ)) (fetches fetches' : ℕ) (exit : Exit) (first middle : Reader)
    (listing : ListingValue) (starts : first ≡ new_reader)
    (listed : IsListed Header (first.number + 1) (ahead first held) listing middle.number (ahead middle mid))
    (ranged : AreInRanges (booted listing).store)
    (comes : IfSome held (λ bytes. ComesTo taken taken' fetches fetches' exit shared_fetched (bytes_course bytes))) where
  pub call-few : exit ≡ Done → IfSome held (λ bytes. TellsFew (bytes_course bytes))
  call-few done = by held (bytes-shared held mid first middle listing starts listed ranged) comes
    where
      by : (held : Option (List ℕ)) → IfSome held (λ bytes. IsShared (bytes_course bytes))
          → IfSome held (λ bytes. ComesTo taken taken' fetches fetches' exit shared_fetched (bytes_course bytes))
          → IfSome held (λ bytes. TellsFew (bytes_course bytes))
      by None shared comes = tt
      by (Some bytes) shared comes = shared.few (sym (comes.output.whole (done-given exit done)).0 ∙ done)

  pub call-bounded : IfSome held (λ bytes. IsSharedBounded fetches fetches' (bytes_course bytes))
  call-bounded = by held (bytes-shared held mid first middle listing starts listed ranged) comes
    where
      by : (held : Option (List ℕ)) → IfSome held (λ bytes. IsShared (bytes_course bytes))
          → IfSome held (λ bytes. ComesTo taken taken' fetches fetches' exit shared_fetched (bytes_course bytes))
          → IfSome held (λ bytes. IsSharedBounded fetches fetches' (bytes_course bytes))
      by None shared comes = tt
      by (Some bytes) shared comes =
          let most = comes.fetched.most in
          let s = shared.sound in
          let run = s.run in
          let sharp_run = s.sharp_run in
          record {
            run = omega (arith, most, run);
            sharp_run = omega (arith, most, sharp_run);
            economy = λ fits. let economy = s.economy fits in omega (arith, most, economy);
            sharp_economy = λ fits. let economy = s.sharp_economy fits in omega (arith, most, economy);
          }

-- a call that fetches nothing is within the bounds, whatever the bytes
pub unspent-bounded : (held : Option (List ℕ)) (fetches : ℕ)
    → IfSome held (λ bytes. IsSharedBounded fetches fetches (bytes_course bytes))
unspent-bounded None fetches = tt
unspent-bounded (Some bytes) fetches = record {
  run = omega arith;
  sharp_run = omega arith;
  economy = λ fits. omega arith;
  sharp_economy = λ fits. omega arith;
}
