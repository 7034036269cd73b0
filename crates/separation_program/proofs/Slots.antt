-- How many slots a call read, from what its parts read.
use Rattle.std.proofs.Common.{◌≡◌, ◌≢◌, ◌≤◌, ◌+◌, ◌∙◌, ◌++◌, ℕ, List, Option, Some, None, IfSome, Ok, Err, refl, sym, ap, subst, arith}
use Rattle.coy_io.specs.Lines.{Part, parts_of}
use Rattle.coy_io.specs.Reader.{Reader, ahead, new_reader}
use Rattle.walk_engine.specs.declared.translator.Translator.{Ghosts as Translator}
use Rattle.machine_state.specs.declared.event.Event.{Event}
use Rattle.kernel_core.specs.Machine.{MachineValue}
use Rattle.kernel_core.specs.Outcome.{Touch, spent}
use Rattle.kernel_core.specs.Run.{run_state, run_touches}
use Rattle.kernel_core.specs.State.{State, state_of}
use Rattle.kernel_core.proofs.Ran.{run_touches-append, spent-append}
use Rattle.image_builder.specs.Boot.{booted}
use Rattle.listing_read.specs.Listing.{Listed, Good, Refused as ListingRefused, Past, IsListed, listing_of}
use Rattle.listing_read.specs.Statement.{ListingValue}
use Rattle.listing_read.specs.declared.place.Place.TheVariants.{Header}
use Rattle.judged_lines.specs.declared.stop.Stop.{Stop}
use Rattle.judged_lines.specs.declared.stop.Stop.TheVariants as stops
use Rattle.listing_read.specs.declared.object_fault.PolicyFault.{PolicyFault}
use Rattle.separation_policy.specs.Making.{first_policy}
use Rattle.separation_policy.specs.Policy.{PolicyValue}
use Rattle.schedule_replay.specs.Replay.{Accords, Follows, Ran, run_answer}
use Rattle.schedule_replay.specs.Scheduled.{AtEnd, AtFault, AtLimit, Ending, OnParts, Scheduled, scheduled}
use Rattle.schedule_replay.specs.declared.counts.Counts.{Counts}
use Rattle.schedule_replay.specs.declared.replayed.Replayed.{Replayed}
use Rattle.schedule_replay.specs.declared.replayed.Replayed.TheVariants as answers
use Rattle.schedule_replay.proofs.Ended.{ended-at, past-at, refused-at}
use Rattle.schedule_replay.proofs.Reading.{on_all, on_each}
use Rattle.courses.specs.Course.{ComesTo, cached, ends_in}
use Rattle.courses.specs.Ending.{Concludes, Fetches, told_end}
use Rattle.courses.specs.Listed.{Behind, lines_course}
use Rattle.courses.specs.Stopped.{replay_exit, stop_exit}
use Rattle.courses.specs.declared.exit.Exit.{Exit}
use Rattle.courses.specs.declared.exit.Exit.TheVariants as exits
use Rattle.courses.proofs.Bytes.{on_listed}
use Rattle.courses.proofs.Rests.{run-ends}
use Rattle.separation_program.specs.Slots.{LacksBehind, LacksJudging, ended_slots, input_slots, judged_slots, judging_slots, listed_slots, stated_slots, walked}
use Rattle.separation_program.specs.Stated.{AreStated, Stated, StatesRest, stated}
use Rattle.separation_program.specs.declared.words.Aim.{Aim}
use Rattle.separation_program.proofs.Judges.{on_stated}

-- where a fault or want of memory ended a call, it read at most what was to be read
no-more : (f n : ℕ) (exit : Exit) → (exit ≡ exits.ReadFault) → Fetches f f exit n
no-more f n exit is = record { whole = λ given. absurd (given.read is); most = omega arith }

-- nothing was to be read
pub none-read : (f : ℕ) (exit : Exit) → Fetches f f exit 0
none-read f exit = record { whole = λ given. omega arith; most = omega arith }

-- so many were read
pub exact-read : (f g : ℕ) (exit : Exit) (n : ℕ) → g ≡ f + n → Fetches f g exit n
exact-read f g exit n counted = record { whole = λ given. counted; most = omega (arith, counted) }

-- so many were read, and then those of what is left, or no more of them
fetched-behind : (f g h : ℕ) (exit : Exit) (some left : ℕ) → g ≡ f + some → Fetches g h exit left → Fetches f h exit (some + left)
fetched-behind f g h exit some left counted last =
    let most = last.most in
    record { whole = λ given. let whole = last.whole given in omega (arith, counted, whole); most = omega (arith, counted, most) }

module _ {T : Type 0} (t : Translator T) (m n : MachineValue T) (slots : PolicyValue → State → ℕ) (policy : PolicyValue) where
  -- how many slots touches read from what the translator keeps at first
  abbrev count : List Touch → ℕ
  count touches = spent t.cost t.after t.without (t.kept m.translator) touches

  abbrev s : State
  s = state_of m

  -- the slots of a schedule are no fewer than those of its events
  ended-most : (events : List Event) (ending : Ending) → count (run_touches s events) ≤ ended_slots count slots policy s events ending
  ended-most events AtEnd = omega arith
  ended-most events (AtFault line fault) = omega arith
  ended-most events AtLimit = omega arith

  -- and those of its first events
  front-most : (events rest : List Event) (all : Scheduled) → all.events ≡ events ++ rest → count (run_touches s events) ≤ judging_slots count slots policy s all
  front-most events rest all is =
      let more = ap count (ap (run_touches s) is ∙ run_touches-append s events rest)
      ∙ spent-append t.cost t.after t.without (t.kept m.translator) (run_touches s events) (run_touches (run_state s events) rest) in
      let ended = ended-most all.events all.ending in
      omega (arith, more, ended)

  module _ (harts : ℕ) (lines lines' : Reader) (held held' : Option (List ℕ)) (events : List Event) (f g : ℕ) (answer : Replayed)
      (ran : Ran t.kept t.cost t.after t.without m f n g events) (follows : Follows (run_answer s) harts lines lines' held held' events answer) where
    abbrev sched : List Part → Scheduled
    sched parts = scheduled harts lines.number parts

    abbrev Reads : ℕ → Exit → Scheduled → Type 0
    Reads h exit all = Fetches f h exit (judging_slots count slots policy s all)

    accords-at : (a : Replayed) → answer ≡ a → OnParts (ahead lines held) (λ parts. Accords (run_answer s) a events (sched parts))
    accords-at a is = (subst (Follows (run_answer s) harts lines lines' held held' events) is follows).lines

    -- all lines were read, and then the slots that judge the state, or no more of them
    pub slots-ended : (h : ℕ) (exit : Exit) (counts : Counts) → replay_exit answer ≡ Ok counts → Fetches g h exit (slots policy (state_of n))
        → OnParts (ahead lines held) (λ parts. Reads h exit (sched parts))
    slots-ended h exit counts given last = on_all (ahead lines held) _ _ (λ parts a. of_all (sched parts) a) (accords-at (answers.Ended counts) (run-ends counts answer given))
      where
        of_all : (all : Scheduled) → Accords (run_answer s) (answers.Ended counts) events all → Reads h exit all
        of_all all a =
            subst (λ e. Fetches f h exit (ended_slots count slots policy s all.events e)) (sym (ended-at _ _ all.ending a.1))
            (subst (λ es. Fetches f h exit (ended_slots count slots policy s es AtEnd)) a.0
            (fetched-behind f g h exit _ _ ran.counted (subst (λ state. Fetches g h exit (slots policy state)) ran.state last)))

    -- and so were all lines where memory is wanting behind them
    pub lacks-ended : (aim : Aim) (h : ℕ) (counts : Counts) → replay_exit answer ≡ Ok counts → LacksJudging aim policy (state_of n) g h
        → OnParts (ahead lines held) (λ parts. LacksBehind count aim policy s (sched parts) f h)
    lacks-ended aim h counts given last = on_all (ahead lines held) _ _ (λ parts a. of_all (sched parts) a) (accords-at (answers.Ended counts) (run-ends counts answer given))
      where
        of_all : (all : Scheduled) → Accords (run_answer s) (answers.Ended counts) events all → LacksBehind count aim policy s all f h
        of_all all a = record {
          ended = ended-at _ _ all.ending a.1;
          judging = subst (λ es. LacksJudging aim policy (run_state s es) (f + count (run_touches s es)) h) a.0
              (subst (λ x. LacksJudging aim policy (run_state s events) x h) ran.counted
              (subst (λ state. LacksJudging aim policy state g h) ran.state last));
        }

    -- the slots of these events were read, and they are all of them
    all-read : (exit : Exit) → Fetches f g exit (count (run_touches s events))
    all-read exit = let counted = ran.counted in record { whole = λ given. omega (arith, counted); most = omega (arith, counted) }

    -- or some of them
    some-read : (exit : Exit) (all : Scheduled) (rest : List Event) → all.events ≡ events ++ rest → (exit ≡ exits.ReadFault) → Reads g exit all
    some-read exit all rest is failed =
        let counted = ran.counted in
        let front = front-most events rest all is in
        record { whole = λ given. absurd (given.read failed); most = omega (arith, counted, front) }

    -- not all lines were read, and why was told
    pub slots-stopped : {O : Type 0} (taken : O → Option (List ℕ)) (sink_faults : O → ℕ) (mid out : O) (exit given : Exit) (a : Replayed) → answer ≡ a → a ≢ answers.WriteFault
        → replay_exit a ≡ Err given → Concludes taken sink_faults given mid out exit → OnParts (ahead lines held) (λ parts. Reads g exit (sched parts))
    slots-stopped taken sink_faults mid out exit given (answers.Ended counts) is written at c = cc
    slots-stopped taken sink_faults mid out exit given (answers.Refused line fault) is written at c =
        on_all (ahead lines held) _ _
        (λ parts a. subst (λ e. Fetches f g exit (ended_slots count slots policy s (sched parts).events e)) (sym (refused-at line fault _ (sched parts).ending a.1))
        (subst (λ es. Fetches f g exit (count (run_touches s es))) a.0 (all-read exit))) (accords-at (answers.Refused line fault) is)
    slots-stopped taken sink_faults mid out exit given answers.TooLong is written at c =
        on_all (ahead lines held) _ _
        (λ parts a. subst (λ e. Fetches f g exit (ended_slots count slots policy s (sched parts).events e)) (sym (past-at _ (sched parts).ending a.1))
        (subst (λ es. Fetches f g exit (count (run_touches s es))) a.0 (all-read exit))) (accords-at answers.TooLong is)
    slots-stopped taken sink_faults mid out exit given answers.ReadFault is written at c =
        let same : exits.ReadFault ≡ given = cc in
        let told = subst (λ x. Concludes taken sink_faults x mid out exit) (sym same) c in
        on_all (ahead lines held) _ _ (λ parts a. some-read exit (sched parts) a.0 a.1 told.0) (accords-at answers.ReadFault is)
    slots-stopped taken sink_faults mid out exit given answers.WriteFault is written at c = absurd (written refl)

-- lines of a policy that are not all read come to no slot
pub slots-unstated : {O : Type 0} (count : List Touch → ℕ) (slots : PolicyValue → State → ℕ) (taken : O → Option (List ℕ)) (sink_faults : O → ℕ) (first policy : PolicyValue) (s : State) (harts : ℕ) (old new : Reader) (held held' : Option (List ℕ))
    (mid out : O) (exit given : Exit) (f : ℕ) (stop : Stop PolicyFault) → StatesRest first policy old new held held' stop → stop_exit exits.PolicyRefused stop ≡ Some given
    → Concludes taken sink_faults given mid out exit → OnParts (ahead old held) (λ parts. Fetches f f exit (stated_slots count slots s harts (stated first old.number parts)))
slots-unstated count slots taken sink_faults first policy s harts old new held held' mid out exit given f stops.End r at c = cc
slots-unstated count slots taken sink_faults first policy s harts old new held held' mid out exit given f (stops.Refused line fault) r at c =
    on_all (ahead old held) _ _ (λ parts is. subst (λ (st : Stated). Fetches f f exit (stated_slots count slots s harts st)) (sym is) (none-read f exit)) r
slots-unstated count slots taken sink_faults first policy s harts old new held held' mid out exit given f stops.TooLong r at c =
    on_all (ahead old held) _ _ (λ parts is. subst (λ (st : Stated). Fetches f f exit (stated_slots count slots s harts st)) (sym is) (none-read f exit)) r
slots-unstated count slots taken sink_faults first policy s harts old new held held' mid out exit given f stops.ReadFault r at c =
    let same : exits.ReadFault ≡ given = cc in
    let told = subst (λ x. Concludes taken sink_faults x mid out exit) (sym same) c in
    on_each (ahead old held) _ (λ parts known. no-more f _ exit told.0)

-- ---- from the lines to the bytes

-- what is so of the lines behind a listing is so of the lines of the input
pub listed-behind : (P : State → ℕ → Stated → Type 0) (Q : Listed → Type 0)
    → ((listing : ListingValue) (last : ℕ) (rest : List Part) → P (booted listing) listing.sizes.harts (stated (first_policy listing.sizes) last rest) → Q (Good listing last rest))
    → (listing : ListingValue) (last : ℕ) (s : State) (harts : ℕ) (policy : PolicyValue) → s ≡ booted listing → harts ≡ listing.sizes.harts → policy ≡ first_policy listing.sizes
    → (held mid : Option (List ℕ)) (first middle : Reader) → middle.number ≡ last → first ≡ new_reader
    → IsListed Header (first.number + 1) (ahead first held) listing middle.number (ahead middle mid)
    → OnParts (ahead middle mid) (λ parts. P s harts (stated policy last parts)) → IfSome held (λ bytes. Q (listing_of Header 1 (parts_of bytes)))
listed-behind P Q good listing last s harts policy state sizes start held mid first middle number starts listed is =
    on_listed held (ahead middle mid) listing last Q
    (subst (λ n. IsListed Header 1 (ahead new_reader held) listing n (ahead middle mid)) number
    (subst (λ r. IsListed Header (r.number + 1) (ahead r held) listing middle.number (ahead middle mid)) starts listed))
    (on_all (ahead middle mid) _ _ (λ parts here. good listing last parts (rw (state, sizes, start) at here)) is)

-- what was read of the lines behind a listing, was read of the input
pub slots-behind : (aim : Aim) (listing : ListingValue) (last : ℕ) (s : State) (harts : ℕ) (policy : PolicyValue) → s ≡ booted listing → harts ≡ listing.sizes.harts → policy ≡ first_policy listing.sizes
    → (held mid : Option (List ℕ)) (first middle : Reader) → middle.number ≡ last → first ≡ new_reader
    → IsListed Header (first.number + 1) (ahead first held) listing middle.number (ahead middle mid) → (f h : ℕ) (exit : Exit)
    → OnParts (ahead middle mid) (λ parts. Fetches f h exit (stated_slots walked (judged_slots aim) s harts (stated policy last parts))) → IfSome held (λ bytes. Fetches f h exit (input_slots aim bytes))
slots-behind aim listing last s harts policy state sizes start held mid first middle number starts listed f h exit is =
    listed-behind (λ s harts all. Fetches f h exit (stated_slots walked (judged_slots aim) s harts all)) (λ listed. Fetches f h exit (listed_slots walked (judged_slots aim) listed)) (λ listing last rest read. read)
    listing last s harts policy state sizes start held mid first middle number starts listed is

-- a course that comes to these slots and to nothing else
abbrev pub slots_course : Aim → Behind
slots_course aim listing last rest =
    record (ends_in (told_end exits.TooLong)) { last_fetches = stated_slots walked (judged_slots aim) (booted listing) listing.sizes.harts (stated (first_policy listing.sizes) last rest) }

-- an input of which no listing was read
pub slots-unlisted : (aim : Aim) (held taken taken' : Option (List ℕ)) (f : ℕ) (exit : Exit) → IfSome held (λ bytes. ComesTo taken taken' f f exit cached (lines_course (slots_course aim) (parts_of bytes)))
    → IfSome held (λ bytes. Fetches f f exit (input_slots aim bytes))
slots-unlisted aim None taken taken' f exit comes = tt
slots-unlisted aim (Some bytes) taken taken' f exit comes = by (listing_of Header 1 (parts_of bytes)) refl
  where
    by : (listed : Listed) → listing_of Header 1 (parts_of bytes) ≡ listed → Fetches f f exit (listed_slots walked (judged_slots aim) listed)
    by (Good listing last rest) is =
        let comes : ComesTo taken taken' f f exit cached (slots_course aim listing last rest) = rw (is) at comes in
        let most = comes.fetched.most in
        record { whole = λ given. let whole = comes.fetched.whole given in omega (arith, whole); most = omega (arith, most) }
    by (ListingRefused line fault) is = none-read f exit
    by Past is = none-read f exit

-- or where memory was wanting before the lines behind it were read
pub slots_wanting : (aim : Aim) (held : Option (List ℕ)) (f : ℕ) → IfSome held (λ bytes. Fetches f f exits.OutOfMemory (input_slots aim bytes))
slots_wanting aim None f = tt
slots_wanting aim (Some bytes) f = record { whole = λ given. absurd (given.memory refl); most = omega arith }

-- what was read behind the lines of a policy, was read of what these state
pub slots-over : (count : List Touch → ℕ) (slots : PolicyValue → State → ℕ) (first policy : PolicyValue) (s : State) (harts n k : ℕ) (old new : Option (List Part)) (f h : ℕ) (exit : Exit) → AreStated first n old policy k new
    → OnParts new (λ rest. Fetches f h exit (judging_slots count slots policy s (scheduled harts k rest))) → OnParts old (λ parts. Fetches f h exit (stated_slots count slots s harts (stated first n parts)))
slots-over count slots first policy s harts n k old new f h exit known is =
    on_stated first policy n k old new (λ (st : Stated). Fetches f h exit (stated_slots count slots s harts st)) known is
