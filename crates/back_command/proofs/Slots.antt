-- How many slots a call read, from what its parts read.
use Rattle.std.proofs.Common.{◌≡◌, ◌≤◌, ◌+◌, ◌*◌, ◌∙◌, ◌++◌, ℕ, List, Option, Some, None, IfSome, length, refl, sym, ap, subst, arith}
use Rattle.std.proofs.lemmas.List.{length-append}
use Rattle.std.specs.Prelude.{min}
use Rattle.cap_format.specs.Capability.{Capability}
use Rattle.cap_format.specs.declared.item.Item.{Item}
use Rattle.cap_format.specs.declared.kind.CapKind.TheVariants.{Gpt}
use Rattle.coy_io.specs.Lines.{Part, parts_of}
use Rattle.coy_io.specs.Reader.{Reader, ahead, new_reader}
use Rattle.object_store.specs.Store.{Items, size_of}
use Rattle.walk_meaning.specs.declared.kind.Kind.{Kind}
use Rattle.machine_state.specs.declared.event.Event.{Event}
use Rattle.machine_state.specs.State.{State}
use Rattle.kernel_core.specs.Outcome.{Touch, spent}
use Rattle.kernel_core.specs.Run.{run_state, run_touches}
use Rattle.kernel_core.proofs.Ran.{run_touches-append, spent-append}
use Rattle.image_builder.specs.Boot.{booted}
use Rattle.listing_read.specs.Listing.{Listed, Good, Refused as ListingRefused, Past, IsListed, listing_of}
use Rattle.listing_read.specs.Statement.{ListingValue}
use Rattle.listing_read.specs.declared.place.Place.TheVariants.{Header}
use Rattle.listing_read.specs.declared.fault.ScheduleFault.{ScheduleFault}
use Rattle.judged_lines.specs.declared.stop.Stop.{Stop}
use Rattle.judged_lines.specs.declared.stop.Stop.TheVariants as stops
use Rattle.reverse_run.specs.History.{History, remembered}
use Rattle.reverse_run.specs.Reads.{a_memento, an_undo}
use Rattle.schedule_replay.specs.Counts.{events_alone}
use Rattle.schedule_replay.specs.Replay.{Accords, count_answer, stop_answer}
use Rattle.schedule_replay.specs.Scheduled.{AtEnd, AtFault, AtLimit, Ending, OnParts, Scheduled, scheduled}
use Rattle.schedule_replay.specs.declared.replayed.Replayed.TheVariants as answers
use Rattle.schedule_replay.proofs.Ended.{ended-at, past-at, refused-at}
use Rattle.schedule_replay.proofs.Reading.{on_all}
use Rattle.map_cache.specs.Kept.{KeptValue, cost_of, kept_after as mapped_after, kept_without as mapped_without, nothing}
use Rattle.courses.specs.Course.{ComesTo, cached, ends_in}
use Rattle.courses.specs.Ending.{Concludes, told_end}
use Rattle.courses.specs.Listed.{Behind, lines_course}
use Rattle.courses.specs.Stopped.{stop_exit}
use Rattle.courses.specs.declared.exit.Exit.{Exit}
use Rattle.courses.specs.declared.exit.Exit.TheVariants as exits
use Rattle.courses.proofs.Bytes.{on_listed}
use Rattle.courses.proofs.Rests.{stop-end}
use Rattle.back_command.specs.Runs.{RunsLines, undos}
use Rattle.back_command.specs.Slots.{FetchesBetween, FetchesListed, FetchesUndoing, own_slots, slots_beside}
use Rattle.back_command.proofs.Histories.{undone-at, undone-count}

module _ {K : Type 0} (cost : K → Items → Capability → ℕ → Kind → ℕ) (after : K → Items → Capability → ℕ → Kind → K) (without : K → Item → K) (start : K) (number : ℕ)
    (harts : ℕ) (s : State) (h : History) (old new : Reader) (held held' : Option (List ℕ)) (f g : ℕ) (stop : Stop ScheduleFault) where
  abbrev count : List Touch → ℕ
  count touches = spent cost after without start touches

  abbrev sched : List Part → Scheduled
  sched parts = scheduled harts old.number parts

  abbrev Reads : ℕ → Exit → Scheduled → Type 0
  Reads k exit all = FetchesUndoing count number s f k exit all

  module _ (r : RunsLines harts s count h old new held held' f g stop) where
    accords-at : (x : Stop ScheduleFault) → stop ≡ x → OnParts (ahead old held) (λ parts. Accords count_answer (stop_answer (events_alone (length r.events)) x) r.events (sched parts))
    accords-at x is =
        subst (λ y. OnParts (ahead old held) (λ parts. Accords count_answer (stop_answer (events_alone (length r.events)) y) r.events (sched parts))) is r.follows.lines

    -- all lines were read, and then the last events were undone and the state before them was written
    pub slots-ended : (k : ℕ) (exit : Exit) → stop_exit exits.ScheduleRefused stop ≡ None
        → FetchesBetween (16 * size_of (undos (min number (remembered h)) h).present.store.items Gpt) (an_undo * min number (remembered h)) g k exit
        → OnParts (ahead old held) (λ parts. Reads k exit (sched parts))
    slots-ended k exit none last = on_all (ahead old held) _ _ (λ parts a. of_all (sched parts) a) (accords-at stops.End (stop-end exits.ScheduleRefused stop none))
      where
        of_all : (all : Scheduled) → Accords count_answer (answers.Ended (events_alone (length r.events))) r.events all → Reads k exit all
        of_all all a =
            subst (λ e. FetchesBetween (own_slots count number s all.events e) (slots_beside number all.events e) f k exit) (sym (ended-at _ _ all.ending a.1))
            (subst (λ es. FetchesBetween (own_slots count number s es AtEnd) (slots_beside number es AtEnd) f k exit) a.0
            (let gpts = ap (λ (t : State). size_of t.store.items Gpt) (undone-at number s h r.events r.history) in
            let few = ap (λ n. an_undo * n) (undone-count number s h r.events r.history) in
            let least = r.fetched.least in
            let most = r.fetched.most in
            let last_most = last.most in
            record { least = λ given. let last_least = last.least given in omega (arith, gpts, least, last_least); most = omega (arith, gpts, few, most, last_most) }))

    -- all events of the lines were run
    all-read : (exit : Exit) → FetchesBetween (count (run_touches s r.events)) (a_memento * length r.events) f g exit
    all-read exit = let least = r.fetched.least in let most = r.fetched.most in record { least = λ given. omega (arith, least); most = omega (arith, most) }

    -- the slots of all events are no fewer than those of the first
    ended-own : (events : List Event) (ending : Ending) → count (run_touches s events) ≤ own_slots count number s events ending
    ended-own events AtEnd = omega arith
    ended-own events (AtFault line fault) = omega arith
    ended-own events AtLimit = omega arith

    ended-beside : (events : List Event) (ending : Ending) → a_memento * length events ≤ slots_beside number events ending
    ended-beside events AtEnd = omega arith
    ended-beside events (AtFault line fault) = omega arith
    ended-beside events AtLimit = omega arith

    -- or some of them
    some-read : (exit : Exit) (all : Scheduled) (rest : List Event) → all.events ≡ r.events ++ rest → exit ≡ exits.ReadFault → Reads g exit all
    some-read exit all rest is failed =
        let touches = ap count (ap (run_touches s) is ∙ run_touches-append s r.events rest)
        ∙ spent-append cost after without start (run_touches s r.events) (run_touches (run_state s r.events) rest) in
        let events = ap length is ∙ length-append r.events rest in
        let own = ended-own all.events all.ending in
        let beside = ended-beside all.events all.ending in
        let most = r.fetched.most in
        record { least = λ given. absurd (given.read failed); most = omega (arith, touches, events, own, beside, most) }

    -- not all lines were read, and why was told
    pub slots-stopped : {O : Type 0} (taken : O → Option (List ℕ)) (sink_faults : O → ℕ) (mid out : O) (exit given : Exit) (x : Stop ScheduleFault) → stop ≡ x
        → stop_exit exits.ScheduleRefused x ≡ Some given → Concludes taken sink_faults given mid out exit → OnParts (ahead old held) (λ parts. Reads g exit (sched parts))
    slots-stopped taken sink_faults mid out exit given stops.End is at c = cc
    slots-stopped taken sink_faults mid out exit given (stops.Refused line fault) is at c =
        on_all (ahead old held) _ _
        (λ parts a. subst (λ e. FetchesBetween (own_slots count number s (sched parts).events e) (slots_beside number (sched parts).events e) f g exit) (sym (refused-at line fault _ (sched parts).ending a.1))
        (subst (λ es. FetchesBetween (count (run_touches s es)) (a_memento * length es) f g exit) a.0 (all-read exit))) (accords-at (stops.Refused line fault) is)
    slots-stopped taken sink_faults mid out exit given stops.TooLong is at c =
        on_all (ahead old held) _ _
        (λ parts a. subst (λ e. FetchesBetween (own_slots count number s (sched parts).events e) (slots_beside number (sched parts).events e) f g exit) (sym (past-at _ (sched parts).ending a.1))
        (subst (λ es. FetchesBetween (count (run_touches s es)) (a_memento * length es) f g exit) a.0 (all-read exit))) (accords-at stops.TooLong is)
    slots-stopped taken sink_faults mid out exit given stops.ReadFault is at c =
        let same : exits.ReadFault ≡ given = cc in
        let told = subst (λ x. Concludes taken sink_faults x mid out exit) (sym same) c in
        on_all (ahead old held) _ _ (λ parts a. some-read exit (sched parts) a.0 a.1 told.0) (accords-at stops.ReadFault is)

-- ---- from the lines to the bytes

-- what was read of the lines behind a listing, over a mapping cache that kept nothing, was read of the input
pub slots-behind : (kept : KeptValue) → kept ≡ nothing → (number : ℕ) (listing : ListingValue) (last : ℕ) (s : State) (harts : ℕ) → s ≡ booted listing → harts ≡ listing.sizes.harts
    → (held mid : Option (List ℕ)) (first middle : Reader) → middle.number ≡ last → first ≡ new_reader
    → IsListed Header (first.number + 1) (ahead first held) listing middle.number (ahead middle mid) → (f h : ℕ) (exit : Exit)
    → OnParts (ahead middle mid) (λ parts. FetchesUndoing (λ touches. spent cost_of mapped_after mapped_without kept touches) number s f h exit (scheduled harts last parts)) → IfSome held (λ bytes. FetchesListed cached number f h exit (listing_of Header 1 (parts_of bytes)))
slots-behind kept blank number listing last s harts state sizes held mid first middle at starts listed f h exit is =
    on_listed held (ahead middle mid) listing last (λ listed. FetchesListed cached number f h exit listed)
    (subst (λ n. IsListed Header 1 (ahead new_reader held) listing n (ahead middle mid)) at
    (subst (λ r. IsListed Header (r.number + 1) (ahead r held) listing middle.number (ahead middle mid)) starts listed))
    (on_behind (ahead middle mid) is)
  where
    on_behind : (left : Option (List Part)) → OnParts left (λ parts. FetchesUndoing (λ touches. spent cost_of mapped_after mapped_without kept touches) number s f h exit (scheduled harts last parts))
        → OnParts left (λ parts. FetchesUndoing cached number (booted listing) f h exit (scheduled listing.sizes.harts last parts))
    on_behind left is = rw (state, sizes, blank) at is

-- a course that comes to the least number of slots and to nothing else
abbrev pub slots_course : (List Touch → ℕ) → ℕ → Behind
slots_course count number listing last rest =
    let all = scheduled listing.sizes.harts last rest in
    record (ends_in (told_end exits.TooLong)) { last_fetches = own_slots count number (booted listing) all.events all.ending }

-- an input of which no listing was read
pub slots-unlisted : (count : List Touch → ℕ) (number : ℕ) (held taken taken' : Option (List ℕ)) (f : ℕ) (exit : Exit)
    → IfSome held (λ bytes. ComesTo taken taken' f f exit cached (lines_course (slots_course count number) (parts_of bytes)))
    → IfSome held (λ bytes. FetchesListed count number f f exit (listing_of Header 1 (parts_of bytes)))
slots-unlisted count number None taken taken' f exit comes = tt
slots-unlisted count number (Some bytes) taken taken' f exit comes = by (listing_of Header 1 (parts_of bytes)) refl
  where
    by : (listed : Listed) → listing_of Header 1 (parts_of bytes) ≡ listed → FetchesListed count number f f exit listed
    by (Good listing last rest) is =
        let comes : ComesTo taken taken' f f exit cached (slots_course count number listing last rest) = rw (is) at comes in
        record { least = λ given. let whole = comes.fetched.whole given in omega (arith, whole); most = omega arith }
    by (ListingRefused line fault) is = record { least = λ given. omega arith; most = omega arith }
    by Past is = record { least = λ given. omega arith; most = omega arith }

-- or where memory was wanting before the lines behind it were read
pub slots_wanting : (count : List Touch → ℕ) (number : ℕ) (held : Option (List ℕ)) (f : ℕ) → IfSome held (λ bytes. FetchesListed count number f f exits.OutOfMemory (listing_of Header 1 (parts_of bytes)))
slots_wanting count number None f = tt
slots_wanting count number (Some bytes) f = by (listing_of Header 1 (parts_of bytes))
  where
    by : (listed : Listed) → FetchesListed count number f f exits.OutOfMemory listed
    by (Good listing last rest) = record { least = λ given. absurd (given.memory refl); most = omega arith }
    by (ListingRefused line fault) = record { least = λ given. absurd (given.memory refl); most = omega arith }
    by Past = record { least = λ given. absurd (given.memory refl); most = omega arith }
