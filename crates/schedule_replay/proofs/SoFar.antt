-- Event by event, what a replay comes to.
use Rattle.std.proofs.Common.{◌≡◌, ◌<◌, ◌≤◌, ◌+◌, ◌*◌, ◌∙◌, ◌∷◌, ◌++◌, [], ℕ, List, Option, Err, length, take, refl, sym, ap, subst, append_assoc, append-nil, arith}
use Rattle.std.proofs.Math.Seq.{take-append-add}
use Rattle.std.proofs.lemmas.List.{length-append}
use Rattle.std.specs.Io.KnownBytes.{Appends}
use Rattle.std.proofs.KnownBytes.{Appends-nil, Appends-trans}
use Rattle.cap_format.specs.Capability.{Capability}
use Rattle.cap_format.specs.declared.item.Item.{Item}
use Rattle.coy_io.specs.Pieces.{AppendsSome}
use Rattle.coy_io.specs.Reader.{Reader, ahead}
use Rattle.object_store.specs.Store.{Items}
use Rattle.walk_meaning.specs.declared.kind.Kind.{Kind}
use Rattle.machine_state.specs.declared.event.Event.{Event}
use Rattle.machine_state.specs.declared.record.Record.{Record}
use Rattle.kernel_core.specs.Machine.{MachineValue}
use Rattle.kernel_core.specs.Run.{run_records}
use Rattle.kernel_core.specs.State.{State, state_of}
use Rattle.untraced_steps.specs.Spared.{GainsNothing}
use Rattle.schedule_replay.specs.Counts.{AreAtMost, and_more, events_alone, counts_of}
use Rattle.schedule_replay.specs.Lines.{FailsOn}
use Rattle.schedule_replay.specs.Replay.{Accords, FailsBehind, Follows, Ran, Replays, WritesRun, answer_at, run_answer, stop_answer}
use Rattle.schedule_replay.specs.Scheduled.{Scheduled, Ending, AtEnd, AtFault, AtLimit, ends, preceded, scheduled, EndHere, IsNextLine, Reads}
use Rattle.schedule_replay.specs.First.{RunsFirst}
use Rattle.schedule_replay.specs.Told.{lines_of, lines_told}
use Rattle.schedule_replay.specs.declared.counts.Counts.{Counts}
use Rattle.listing_read.specs.declared.fault.ScheduleFault.{ScheduleFault}
use Rattle.judged_lines.specs.declared.stop.Stop.{Stop}
use Rattle.judged_lines.specs.declared.stop.Stop.TheVariants as stops
use Rattle.schedule_replay.specs.declared.mode.Mode.{Mode}
use Rattle.schedule_replay.specs.declared.replayed.Replayed.{Replayed}
use Rattle.schedule_replay.specs.declared.replayed.Replayed.TheVariants as answers
use Rattle.schedule_replay.proofs.Gains.{gains-then}
use Rattle.schedule_replay.proofs.Ran.{ran-none, ran-trans}
use Rattle.schedule_replay.proofs.ReadOn.{fails_on, on_lines, reads_on-none}
use Rattle.schedule_replay.proofs.Reading.{on_all, on_each}
use Rattle.schedule_replay.proofs.Scheduled.{reads-same, reads-trans, scheduled-end}
use Rattle.schedule_replay.proofs.Tallies.{at_most-trans, counts_of-append, counts_of-nil}
use Rattle.schedule_replay.proofs.Told.{told-append, told-nil}

-- ---- answers

-- a fault of writing is none of reading
write-no-read : answers.WriteFault ≡ answers.ReadFault → ⊥
write-no-read same = cc

-- an answer that the end of lines gives is no fault of reading
at-no-read : (counts : Counts) (ending : Ending) → answer_at counts ending ≡ answers.ReadFault → ⊥
at-no-read counts AtEnd same = cc
at-no-read counts (AtFault line fault) same = cc
at-no-read counts AtLimit same = cc

-- all events of lines that end behind these
at-accords : (answer_of : Scheduled → Replayed) (counts : Counts) (events : List Event) (ending : Ending) → answer_at counts ending ≡ answer_of (preceded events (ends ending))
    → Accords answer_of (answer_at counts ending) events (preceded events (ends ending))
at-accords answer_of counts events AtEnd same = (sym (append-nil events), same)
at-accords answer_of counts events (AtFault line fault) same = (sym (append-nil events), same)
at-accords answer_of counts events AtLimit same = (sym (append-nil events), same)

-- the lines read were the last
pub follows-at : (answer_of : Scheduled → Replayed) (harts : ℕ) (old now new : Reader) (held held' held'' : Option (List ℕ)) (events : List Event) (counts : Counts) (ending : Ending)
    → answer_at counts ending ≡ answer_of (preceded events (ends ending)) → Reads harts old now held held' events → EndHere harts now held' ending
    → Follows answer_of harts old new held held'' events (answer_at counts ending)
follows-at answer_of harts old now new held held' held'' events counts ending same reads here = record {
  lines =
      on_lines _ _ old now held held' (Accords answer_of (answer_at counts ending) events) reads
      (on_all (ahead now held') _ _
      (λ rest is. subst (λ all. Accords answer_of (answer_at counts ending) events (preceded events all)) (sym is) (at-accords answer_of counts events ending same)) here);
  read = λ fault. absurd (at-no-read counts ending fault);
}

-- what was read is the front of all lines
front-accords : (events : List Event) (all : Scheduled) → (rest : List Event) × ((preceded events all).events ≡ events ++ rest)
front-accords events all = (all.events, refl)

-- reading failed behind them
pub follows-read : (answer_of : Scheduled → Replayed) (harts : ℕ) (old now new : Reader) (held held' held'' : Option (List ℕ)) (events : List Event)
    → Reads harts old now held held' events → FailsBehind harts old new held held'' events
    → Follows answer_of harts old new held held'' events answers.ReadFault
follows-read answer_of harts old now new held held' held'' events reads fails = record {
  lines =
      on_lines _ _ old now held held' (Accords answer_of answers.ReadFault events) reads
      (on_each (ahead now held') _ (λ rest known. front-accords events (scheduled harts now.number rest)));
  read = λ fault. fails;
}

-- the answers of a stop, by the place where the lines end
pub follows-stop : (answer_of : Scheduled → Replayed) (harts : ℕ) (old now new : Reader) (held held' held'' : Option (List ℕ)) (events : List Event) (counts : Counts) (stop : Stop ScheduleFault)
    → ((ending : Ending) → answer_at counts ending ≡ answer_of (preceded events (ends ending))) → Reads harts old now held held' events
    → IsNextLine harts now new held' held'' (Err stop) → Follows answer_of harts old new held held'' events (stop_answer counts stop)
follows-stop answer_of harts old now new held held' held'' events counts stops.End same reads here =
    follows-at answer_of harts old now new held held' held'' events counts AtEnd (same AtEnd) reads here
follows-stop answer_of harts old now new held held' held'' events counts (stops.Refused line fault) same reads here =
    follows-at answer_of harts old now new held held' held'' events counts (AtFault line fault) (same (AtFault line fault)) reads here
follows-stop answer_of harts old now new held held' held'' events counts stops.TooLong same reads here =
    follows-at answer_of harts old now new held held' held'' events counts AtLimit (same AtLimit) reads here
follows-stop answer_of harts old now new held held' held'' events counts stops.ReadFault same reads here =
    follows-read answer_of harts old now new held held' held'' events reads
    (subst (λ made. FailsOn (scheduled harts old.number) made old new held held'') (ap (preceded events) (scheduled-end harts now.number))
    (fails_on (scheduled harts old.number) (λ rest. preceded events (scheduled harts now.number rest)) old now new held held' held'' reads here))

-- ---- a replay

-- a text that was written whole, by the answer of a stop
stop-writes : (mode : Mode) (s : State) (taken taken' : Option (List ℕ)) (events : List Event) (counts : Counts) (stop : Stop ScheduleFault)
    → Appends taken taken' (lines_told mode s events) → WritesRun mode s taken taken' events (stop_answer counts stop)
stop-writes mode s taken taken' events counts stops.End written = written
stop-writes mode s taken taken' events counts (stops.Refused line fault) written = written
stop-writes mode s taken taken' events counts stops.TooLong written = written
stop-writes mode s taken taken' events counts stops.ReadFault written = written

module _ {T K C : Type 0} (kept : T → K) (cost : K → Items → Capability → ℕ → Kind → ℕ) (after : K → Items → Capability → ℕ → Kind → K) (without : K → Item → K)
    (cache : T → ℕ → C) (less : C → C → Type 0) (mode : Mode) (m : MachineValue T) (old : Reader) (held taken : Option (List ℕ)) (fetches : ℕ) where
  -- these events were run, written and counted, and those that are left are the last of the lines that were read
  pub record SoFar (n : MachineValue T) (now : Reader) (held' taken' : Option (List ℕ)) (fetches' : ℕ) (counts : Counts) (left : List Event) : Type 0 where
    pub done : List Event
    pub ran : Ran kept cost after without m fetches n fetches' done
    pub gains : GainsNothing cache less done m n
    pub text : Appends taken taken' (lines_told mode (state_of m) done)
    pub reads : Reads m.objects.harts old now held held' (done ++ left)
    pub counted : counts ≡ counts_of (state_of m) done
    pub most : AreAtMost (65 * length done) counts
    pub few : length done + length left + 255000000 * old.number ≤ 255000000 * now.number

  -- a replay that leaves this, where no cache gains but those of the harts that perform its events
  abbrev pub ReplaysTo : MachineValue T → Reader → Option (List ℕ) → Option (List ℕ) → ℕ → Replayed → Type 0
  ReplaysTo n now held' taken' fetches' answer =
      (r : Replays kept cost after without mode m n old now held held' taken taken' fetches fetches' answer) × GainsNothing cache less r.events m n

  -- at the start
  pub so_far-start : ((c : C) → less c c) → (counts : Counts) → counts ≡ events_alone 0 → SoFar m old held taken fetches counts []
  so_far-start less_same counts none = record {
    done = [];
    ran = ran-none kept cost after without m fetches;
    gains = λ hart idle. less_same (cache m.translator hart);
    text = subst (Appends taken taken) (sym (told-nil mode (state_of m))) (Appends-nil taken);
    reads = reads_on-none (scheduled m.objects.harts old.number) old held;
    counted = none ∙ sym (counts_of-nil (state_of m));
    most = subst (AreAtMost 0) (sym none) (record { events = omega arith; messages = omega arith; faults = omega arith; logs = omega arith; destroys = omega arith });
    few = omega arith;
  }

  module _ (n : MachineValue T) (now : Reader) (held' taken' : Option (List ℕ)) (fetches' : ℕ) (counts : Counts) where
    -- what is written of events in a state that others led to
    told-behind : (done events : List Event) → Ran kept cost after without m fetches n fetches' done
        → lines_told mode (state_of m) (done ++ events) ≡ lines_told mode (state_of m) done ++ lines_told mode (state_of n) events
    told-behind done events ran =
        told-append mode (state_of m) done events ∙ ap (λ s. lines_told mode (state_of m) done ++ lines_told mode s events) (sym ran.state)

    -- these events more were run, written and counted
    pub so_far-performed : ((a b c : C) → less a b → less b c → less a c) → (n1 : MachineValue T) (taken1 : Option (List ℕ)) (fetches1 : ℕ) (entries : List Record) (counts1 : Counts) (all split left : List Event)
        → split ≡ all → (first : RunsFirst kept cost after without cache less mode all left n fetches' n1 fetches1 entries counts counts1) → SoFar n now held' taken' fetches' counts split
        → Appends taken' taken1 (lines_of mode entries) → SoFar n1 now held' taken1 fetches1 counts1 left
    so_far-performed less_then n1 taken1 fetches1 entries counts1 all split left is first s written =
        let events : List Event = first.before ++ first.last ∷ [] in
        let size : length (s.done ++ events) ≡ length s.done + length events = length-append s.done events in
        let whole : split ≡ events ++ left = is ∙ first.split in
        let sizes : length split ≡ length events + length left = ap length whole ∙ length-append events left in
        let few = s.few in
        record {
          done = s.done ++ events;
          ran = ran-trans kept cost after without m n n1 fetches fetches' fetches1 s.done events s.ran first.ran;
          gains = gains-then cache less less_then s.done events m n n1 s.gains first.gains;
          text = subst (Appends taken taken1) (sym (told-behind s.done events s.ran))
              (Appends-trans taken taken' taken1 (lines_told mode (state_of m) s.done) (lines_told mode (state_of n) events) s.text (subst (Appends taken' taken1) first.lines written));
          reads = reads-same m.objects.harts old now held held' (s.done ++ split) ((s.done ++ events) ++ left)
              (ap (λ es. s.done ++ es) whole ∙ sym (append_assoc s.done events left)) s.reads;
          counted =
              first.counted ∙ ap (λ k. and_more k (length events) (run_records (state_of n) events)) s.counted
              ∙ ap (λ t. and_more (counts_of (state_of m) s.done) (length events) (run_records t events)) s.ran.state
              ∙ counts_of-append (state_of m) s.done events;
          most = at_most-trans (65 * length s.done + 65 * length events) (65 * length (s.done ++ events)) counts1 (omega (arith, size)) (first.most (65 * length s.done) s.most);
          few = omega (arith, size, sizes, few);
        }

    -- one line more was read
    pub so_far-read : (now1 : Reader) (held1 : Option (List ℕ)) (harts : ℕ) (events asked none : List Event) → none ≡ [] → harts ≡ m.objects.harts
        → SoFar n now held' taken' fetches' counts none → Reads harts now now1 held' held1 asked → events ≡ asked → length events ≤ 255000000 → now1.number ≡ now.number + 1
        → SoFar n now1 held1 taken' fetches' counts events
    so_far-read now1 held1 harts events asked none is same s reads line most number =
        let few = s.few in
        let here : Reads m.objects.harts old now held held' s.done =
        reads-same m.objects.harts old now held held' (s.done ++ none) s.done (ap (λ es. s.done ++ es) is ∙ append-nil s.done) s.reads in
        record {
          done = s.done;
          ran = s.ran;
          gains = s.gains;
          text = s.text;
          reads = reads-trans m.objects.harts old now now1 held held' held1 s.done events here
              (subst (λ h. Reads h now now1 held' held1 events) same (subst (Reads harts now now1 held' held1) (sym line) reads));
          counted = s.counted;
          most = s.most;
          few = omega (arith, few, most, number);
        }

    -- writing failed in the records of the last of these events
    pub replays-cut : ((a b c : C) → less a b → less b c → less a c) → (n1 : MachineValue T) (taken1 : Option (List ℕ)) (fetches1 : ℕ) (entries : List Record) (counts1 : Counts) (all split left : List Event)
        → split ≡ all → (first : RunsFirst kept cost after without cache less mode all left n fetches' n1 fetches1 entries counts counts1) → SoFar n now held' taken' fetches' counts split
        → AppendsSome taken' taken1 (lines_of mode entries)
        → ReplaysTo n1 now held' taken1 fetches1 answers.WriteFault
    replays-cut less_then n1 taken1 fetches1 entries counts1 all split left is first s some =
        let events : List Event = first.before ++ first.last ∷ [] in
        let whole : split ≡ events ++ left = is ∙ first.split in
        let before : List ℕ = lines_told mode (state_of m) s.done in
        let text : lines_told mode (state_of m) (s.done ++ events) ≡ before ++ lines_of mode entries =
        told-behind s.done events s.ran ∙ ap (λ lines. before ++ lines) (sym first.lines) in
        let quiet : lines_told mode (state_of m) (s.done ++ first.before) ≡ before =
        told-behind s.done first.before s.ran ∙ ap (λ lines. before ++ lines) first.quiet ∙ append-nil before in
        let quiet_size = ap length quiet in
        let count : ℕ = some.0 in
        let short : count < length (lines_of mode entries) = some.1 in
        let size : length (lines_told mode (state_of m) (s.done ++ events)) ≡ length before + length (lines_of mode entries) = ap length text ∙ length-append before (lines_of mode entries) in
        let front : take (length before + count) (lines_told mode (state_of m) (s.done ++ events)) ≡ before ++ take count (lines_of mode entries) =
        ap (take (length before + count)) text ∙ take-append-add before (lines_of mode entries) count in (
          record {
            events = s.done ++ events;
            ran = ran-trans kept cost after without m n n1 fetches fetches' fetches1 s.done events s.ran first.ran;
            text = record {
              before = s.done ++ first.before;
              last = first.last;
              all = sym (append_assoc s.done first.before (first.last ∷ []));
              count = length before + count;
              written = subst (Appends taken taken1) (sym front) (Appends-trans taken taken' taken1 before (take count (lines_of mode entries)) s.text some.2);
              behind = omega (arith, quiet_size);
              short = omega (arith, size, short);
            };
            follows = record {
              lines =
                  on_lines _ _ old now held held'
                  (Accords (run_answer (state_of m)) answers.WriteFault (s.done ++ events))
                  (reads-same m.objects.harts old now held held' (s.done ++ split) ((s.done ++ events) ++ left)
                  (ap (λ es. s.done ++ es) whole ∙ sym (append_assoc s.done events left)) s.reads)
                  (on_each (ahead now held') _ (λ rest known. (left ++ (scheduled m.objects.harts now.number rest).events, append_assoc (s.done ++ events) left (scheduled m.objects.harts now.number rest).events)));
              read = λ fault. absurd (write-no-read fault);
            };
          },
          gains-then cache less less_then s.done events m n n1 s.gains first.gains,
        )

    -- no further line was read
    replays-stopped : (now1 : Reader) (held1 : Option (List ℕ)) (harts : ℕ) (stop : Stop ScheduleFault) (none : List Event) → none ≡ [] → harts ≡ m.objects.harts
        → SoFar n now held' taken' fetches' counts none → IsNextLine harts now now1 held' held1 (Err stop)
        → ReplaysTo n now1 held1 taken' fetches' (stop_answer counts stop)
    replays-stopped now1 held1 harts stop none is same s next =
        let here : Reads m.objects.harts old now held held' s.done =
        reads-same m.objects.harts old now held held' (s.done ++ none) s.done (ap (λ es. s.done ++ es) is ∙ append-nil s.done) s.reads in
        let answer : (ending : Ending) → answer_at counts ending ≡ run_answer (state_of m) (preceded s.done (ends ending)) =
        λ ending. ap (λ k. answer_at k ending) (s.counted ∙ ap (counts_of (state_of m)) (sym (append-nil s.done))) in (
          record {
            events = s.done;
            ran = s.ran;
            text = stop-writes mode (state_of m) taken taken' s.done counts stop s.text;
            follows = follows-stop (run_answer (state_of m)) m.objects.harts old now now1 held held' held1 s.done counts stop answer here
                (subst (λ h. IsNextLine h now now1 held' held1 (Err stop)) same next);
          },
          s.gains,
        )

    pub replays-stop : (now1 : Reader) (held1 : Option (List ℕ)) (harts : ℕ) (stop : Stop ScheduleFault) (answered : Replayed) (none : List Event) → none ≡ [] → harts ≡ m.objects.harts
        → SoFar n now held' taken' fetches' counts none → IsNextLine harts now now1 held' held1 (Err stop) → answered ≡ stop_answer counts stop
        → ReplaysTo n now1 held1 taken' fetches' answered
    replays-stop now1 held1 harts stop answered none is same s next by =
        subst (ReplaysTo n now1 held1 taken' fetches') (sym by) (replays-stopped now1 held1 harts stop none is same s next)
