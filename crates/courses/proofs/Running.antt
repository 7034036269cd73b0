-- From the answer of the lines to what a command did that runs them.
use Rattle.std.proofs.Common.{◌≡◌, ◌≢◌, ◌≤◌, ◌+◌, ◌∙◌, ◌++◌, [], ℕ, List, true, Option, Ok, Err, refl, sym, ap, subst, append_assoc, append-nil, arith}
use Rattle.std.specs.Io.KnownBytes.{Appends, IsAtEnd}
use Rattle.cap_format.specs.Capability.{Capability}
use Rattle.cap_format.specs.declared.item.Item.{Item}
use Rattle.coy_io.specs.Lines.{Part}
use Rattle.coy_io.specs.Pieces.{AppendsSome}
use Rattle.coy_io.specs.Reader.{Reader, ahead}
use Rattle.coy_io.proofs.Texts.{cut_before}
use Rattle.object_store.specs.Store.{Items}
use Rattle.walk_meaning.specs.declared.kind.Kind.{Kind}
use Rattle.machine_state.specs.declared.event.Event.{Event}
use Rattle.kernel_core.specs.Machine.{MachineValue}
use Rattle.kernel_core.specs.Outcome.{Touch, kept_after, spent}
use Rattle.kernel_core.proofs.Ran.{run_touches-append, spent-append}
use Rattle.kernel_core.specs.Run.{run_state, run_touches}
use Rattle.kernel_core.specs.State.{State, state_of}
use Rattle.schedule_replay.specs.Replay.{Accords, HasReasons, Ran, Replays, StopsInLast, WritesRun, run_answer}
use Rattle.schedule_replay.specs.Scheduled.{AtEnd, OnParts, Scheduled, ends, preceded, scheduled}
use Rattle.schedule_replay.specs.Told.{lines_told}
use Rattle.schedule_replay.specs.declared.counts.Counts.{Counts}
use Rattle.schedule_replay.specs.declared.mode.Mode.{Mode}
use Rattle.schedule_replay.specs.declared.replayed.Replayed.{Replayed}
use Rattle.schedule_replay.specs.declared.replayed.Replayed.TheVariants as answers
use Rattle.schedule_replay.proofs.Reading.{on_all}
use Rattle.schedule_replay.proofs.Told.{told-append}
use Rattle.courses.specs.Course.{Course, course_fetches, course_output}
use Rattle.courses.specs.Ending.{AwaitsMore, Concludes, EndsIn, Fetches, Output}
use Rattle.courses.specs.Exit.{is_finished}
use Rattle.courses.specs.Running.{Runner, finished_by, if_ended, run_course, running}
use Rattle.courses.specs.Stopped.{replay_exit}
use Rattle.courses.specs.declared.exit.Exit.{Exit}
use Rattle.courses.specs.declared.exit.Exit.TheVariants.{ReadFault, ScheduleRefused, TooLong, WriteFault}
use Rattle.courses.proofs.Rests.{run-ends}
use Rattle.courses.proofs.Concluding.{Came, CameCut, CameUnread, CameWhole, Did, IsWhole, came-cut, came-unread, came-whole, takes-concluded, takes-whole}

module _ {T K : Type 0} (kept : T → K) (cost : K → Items → Capability → ℕ → Kind → ℕ) (after : K → Items → Capability → ℕ → Kind → K) (without : K → Item → K)
    (start : K) (runner : Runner K) (m n : MachineValue T) (none : kept m.translator ≡ start) where
  -- how many slots touches fetch, and what is kept behind them
  abbrev fetched : List Touch → ℕ
  fetched touches = spent cost after without start touches

  abbrev kept_behind : List Touch → K
  kept_behind touches = kept_after cost after without start touches

  abbrev course : State → Scheduled → Course
  course s all = running cost after without start runner s all

  abbrev Has_run : ℕ → ℕ → List Event → Type 0
  Has_run f g events = Ran kept cost after without m f n g events

  -- what was fetched and is kept, where that was kept before
  all-counted : (f g : ℕ) (events : List Event) → Has_run f g events → g ≡ f + fetched (run_touches (state_of m) events)
  all-counted f g events ran = ran.counted ∙ ap (λ k. f + spent cost after without k (run_touches (state_of m) events)) none

  pub all-kept : (f g : ℕ) (events : List Event) → Has_run f g events → kept n.translator ≡ kept_behind (run_touches (state_of m) events)
  all-kept f g events ran = ran.keeps ∙ ap (λ k. kept_after cost after without k (run_touches (state_of m) events)) none

  -- the touches of more events fetch no less
  touches-front : (events : List Event) (all : Scheduled) (rest : List Event) → all.events ≡ events ++ rest
      → fetched (run_touches (state_of m) events) ≤ fetched (run_touches (state_of m) all.events)
  touches-front events all rest is =
      let more = ap fetched (ap (run_touches (state_of m)) is ∙ run_touches-append (state_of m) events rest)
      ∙ spent-append cost after without start (run_touches (state_of m) events) (run_touches (run_state (state_of m) events) rest) in
      omega (arith, more)

  module _ {S U : Type 0} (held : S → Option (List ℕ)) (source_faults : S → ℕ) (taken : U → Option (List ℕ)) (sink_faults : U → ℕ)
      (lines lines' : Reader) (old new : S) (begun mid : U) (f g : ℕ) (answer : Replayed)
      (r : Replays kept cost after without runner.mode m n lines lines' (held old) (held new) (taken begun) (taken mid) f g answer)
      (reasons : HasReasons (source_faults old) (source_faults new) (sink_faults begun) (sink_faults mid) answer)
      (ended : (counts : Counts) → answer ≡ answers.Ended counts → IsAtEnd (held new)) where
    abbrev s : State
    s = state_of m

    abbrev sched : List Part → Scheduled
    sched parts = scheduled m.objects.harts lines.number parts

    abbrev here : List Part → Course
    here parts = course s (sched parts)

    abbrev Came_here : Exit → Type 0
    Came_here = Came held source_faults taken sink_faults lines lines' old new begun mid f g fetched here

    abbrev Whole : Replayed → Type 0
    Whole answer = CameWhole held source_faults taken sink_faults lines lines' old new begun mid f g fetched here
        (finished_by runner (state_of n) (kept n.translator) answer) (if_ended (runner.fetches (state_of n)) answer)

    -- what is so of the answer is so of it by its cases
    accords-at : (a : Replayed) → answer ≡ a → OnParts (ahead lines (held old)) (λ parts. Accords (run_answer s) a r.events (sched parts))
    accords-at a is = subst (λ a. OnParts (ahead lines (held old)) (λ parts. Accords (run_answer s) a r.events (sched parts))) is r.follows.lines

    text-at : (a : Replayed) → answer ≡ a → WritesRun runner.mode s (taken begun) (taken mid) r.events a
    text-at a is = subst (WritesRun runner.mode s (taken begun) (taken mid) r.events) is r.text

    reasons-at : (a : Replayed) → answer ≡ a → HasReasons (source_faults old) (source_faults new) (sink_faults begun) (sink_faults mid) a
    reasons-at a is = subst (HasReasons (source_faults old) (source_faults new) (sink_faults begun) (sink_faults mid)) is reasons

    -- all events were run
    whole-at : (a : Replayed) (all : Scheduled) → Appends (taken begun) (taken mid) (lines_told runner.mode s r.events) → (r.events ≡ all.events) × (a ≡ run_answer s all)
        → IsWhole (taken begun) (taken mid) f g fetched (finished_by runner (state_of n) (kept n.translator) a) (if_ended (runner.fetches (state_of n)) a) (course s all)
    whole-at a all written accords =
        let state : run_state s r.events ≡ state_of n = sym r.ran.state in
        let keeps : kept_behind (run_touches s r.events) ≡ kept n.translator = sym (all-kept f g r.events r.ran) in
        subst (λ es. IsWhole (taken begun) (taken mid) f g fetched (finished_by runner (state_of n) (kept n.translator) a) (if_ended (runner.fetches (state_of n)) a)
        (run_course cost after without start runner s es (run_answer s all))) accords.0
        (subst (λ b. IsWhole (taken begun) (taken mid) f g fetched (finished_by runner (state_of n) (kept n.translator) a) (if_ended (runner.fetches (state_of n)) a)
        (run_course cost after without start runner s r.events b)) accords.1
        (record {
          last = ap (λ t. finished_by runner t (kept_behind (run_touches s r.events)) a) state ∙ ap (λ k. finished_by runner (state_of n) k a) keeps;
          written = written;
          fetched = all-counted f g r.events r.ran;
          for_last = ap (λ t. if_ended (runner.fetches t) a) state;
        }))

    came-at : (a : Replayed) → answer ≡ a → Appends (taken begun) (taken mid) (lines_told runner.mode s r.events) → OnParts (ahead lines (held old)) (λ parts. (r.events ≡ (sched parts).events) × (a ≡ run_answer s (sched parts)))
        → (a ≢ answers.ReadFault) → (a ≢ answers.WriteFault) → (is_finished (finished_by runner (state_of n) (kept n.translator) a).exit ≡ true → IsAtEnd (held new)) → Whole a
    came-at a is written accords unread uncut end = record {
      whole = on_all (ahead lines (held old)) _ _ (λ parts both. whole-at a (sched parts) written both) accords;
      end = end;
      quiet = (reasons-at a is).read_quiet unread;
      still = (reasons-at a is).write_quiet uncut;
    }

    -- the lines come to no fewer slots than were fetched before a fault
    most-at : (all : Scheduled) (rest : List Event) → all.events ≡ r.events ++ rest → g ≤ f + course_fetches fetched (course s all)
    most-at all rest is =
        let counted = all-counted f g r.events r.ran in
        let front = touches-front r.events all rest is in
        omega (arith, counted, front)

    -- reading failed
    unread : answer ≡ answers.ReadFault → CameUnread held source_faults taken sink_faults lines lines' old new begun mid f g fetched here
    unread is =
        let fails = r.follows.read is in
        let all : preceded r.events (ends AtEnd) ≡ sched fails.given = sym fails.makes in
        let events : r.events ≡ r.events ++ [] = sym (append-nil r.events) in
        record {
          stands = record {
            before = fails.before;
            going = fails.going;
            unfinished = fails.unfinished;
            given = fails.given;
            gives = fails.gives;
            goes_on = subst (λ (all : Scheduled). AwaitsMore (course s all).last.exit) all refl;
            written =
                subst (λ (all : Scheduled). Appends (taken begun) (taken mid) (course s all).records) all
                (subst (λ es. Appends (taken begun) (taken mid) (lines_told runner.mode s es)) events (text-at answers.ReadFault is));
            fetched =
                subst (λ (all : Scheduled). g ≡ f + fetched (course s all).touches) all
                (subst (λ es. g ≡ f + fetched (run_touches s es)) events (all-counted f g r.events r.ran));
          };
          most = on_all (ahead lines (held old)) _ _ (λ parts more. most-at (sched parts) more.0 more.1) (accords-at answers.ReadFault is);
          rose = (reasons-at answers.ReadFault is).read refl;
          still = (reasons-at answers.ReadFault is).write_quiet (λ same. cc);
        }

    -- writing failed in the records of the last event that was run
    front-at : (all : Scheduled) (rest : List Event) → all.events ≡ r.events ++ rest → StopsInLast runner.mode s (taken begun) (taken mid) r.events
        → AppendsSome (taken begun) (taken mid) (course_output (course s all)).text
    front-at all rest is stops =
        let mode : Mode = runner.mode in
        let last : Output = (course s all).last in
        let parts : lines_told mode s all.events ≡ lines_told mode s r.events ++ lines_told mode (run_state s r.events) rest = ap (lines_told mode s) is ∙ told-append mode s r.events rest in
        let text : lines_told mode s all.events ++ last.text ≡ lines_told mode s r.events ++ (lines_told mode (run_state s r.events) rest ++ last.text) =
        ap (λ t. t ++ last.text) parts ∙ append_assoc (lines_told mode s r.events) (lines_told mode (run_state s r.events) rest) last.text in
        let some : AppendsSome (taken begun) (taken mid) (lines_told mode s r.events) = (stops.count, stops.short, stops.written) in
        subst (AppendsSome (taken begun) (taken mid)) (sym text)
        (cut_before (taken begun) (taken mid) (lines_told mode s r.events) (lines_told mode (run_state s r.events) rest ++ last.text) some)

    cut : answer ≡ answers.WriteFault → CameCut held source_faults taken sink_faults lines lines' old new begun mid f g fetched here
    cut is = record {
      front = on_all (ahead lines (held old)) _ _
          (λ parts more. (front-at (sched parts) more.0 more.1 (text-at answers.WriteFault is), most-at (sched parts) more.0 more.1)) (accords-at answers.WriteFault is);
      quiet = (reasons-at answers.WriteFault is).read_quiet (λ same. cc);
      rose = (reasons-at answers.WriteFault is).write refl;
    }

    -- what the lines came to, by the exit that they gave
    came-run : (given : Exit) (a : Replayed) → answer ≡ a → replay_exit a ≡ Err given → Came_here given
    came-run given (answers.Ended counts) is at = cc
    came-run given (answers.Refused line fault) is at =
        let same : ScheduleRefused line fault ≡ given = cc in
        subst Came_here same
        (came-whole (record { read = λ bad. cc; write = λ bad. cc; memory = λ bad. cc }) (λ bad. cc)
        (came-at (answers.Refused line fault) is (text-at (answers.Refused line fault) is) (accords-at (answers.Refused line fault) is) (λ bad. cc) (λ bad. cc) (λ bad. cc)))
    came-run given answers.TooLong is at =
        let same : TooLong ≡ given = cc in
        subst Came_here same
        (came-whole (record { read = λ bad. cc; write = λ bad. cc; memory = λ bad. cc }) (λ bad. cc)
        (came-at answers.TooLong is (text-at answers.TooLong is) (accords-at answers.TooLong is) (λ bad. cc) (λ bad. cc) (λ bad. cc)))
    came-run given answers.ReadFault is at = came-unread (let same : given ≡ ReadFault = cc in same) (unread is)
    came-run given answers.WriteFault is at = came-cut (let same : given ≡ WriteFault = cc in same) (cut is)

    module _ (out : U) (h : ℕ) (exit : Exit) where
      abbrev Did_here : Type 0
      Did_here = Did held source_faults taken sink_faults lines lines' old new begun mid f g fetched here out h exit

      -- all lines were read, and this was written last
      pub run-ended : (counts : Counts) → replay_exit answer ≡ Ok counts → EndsIn taken sink_faults mid out exit (finished_by runner (state_of n) (kept n.translator) (answers.Ended counts))
          → Fetches g h exit (runner.fetches (state_of n)) → Did_here
      run-ended counts at e fetched_last =
          let is = run-ends counts answer at in
          takes-whole held source_faults taken sink_faults lines lines' old new begun mid f g fetched here out h exit
          (finished_by runner (state_of n) (kept n.translator) (answers.Ended counts)) (runner.fetches (state_of n))
          (record { read = λ bad. cc; write = λ bad. cc; memory = λ bad. cc }) (λ bad. cc) e fetched_last
          (came-at (answers.Ended counts) is (text-at (answers.Ended counts) is) (accords-at (answers.Ended counts) is) (λ bad. cc) (λ bad. cc) (λ done. ended counts is))

      -- they were not, and why was told
      pub run-stopped : (given : Exit) → replay_exit answer ≡ Err given → Concludes taken sink_faults given mid out exit → h ≡ g → Did_here
      run-stopped given at c spent =
          takes-concluded held source_faults taken sink_faults lines lines' old new begun mid f g fetched here out h exit given (came-run given answer refl at) c spent
