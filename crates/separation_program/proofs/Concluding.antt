-- From the answer of the lines of a schedule, to what a part of a call did with them and what it told.
use Rattle.std.proofs.Common.{◌≡◌, ◌≢◌, ◌∙◌, ℕ, List, length, Option, Some, Ok, Err, refl, sym, ap, subst, inl, inr, arith, false, ◌⊎◌}
use Rattle.std.specs.Io.KnownBytes.{IsAtEnd}
use Rattle.coy_io.specs.Causes.{Rose}
use Rattle.coy_io.specs.Lines.{Part}
use Rattle.coy_io.specs.Reader.{Reader, ahead}
use Rattle.machine_state.specs.declared.event.Event.{Event}
use Rattle.kernel_core.specs.Run.{run_records, run_state}
use Rattle.kernel_core.specs.State.{State}
use Rattle.judged_lines.specs.declared.stop.Stop.TheVariants as stops
use Rattle.separation_policy.specs.Policy.{PolicyValue}
use Rattle.schedule_replay.specs.Counts.{counts_of, events_alone}
use Rattle.schedule_replay.specs.Replay.{Accords, Follows, WritesRun, run_answer}
use Rattle.schedule_replay.specs.Scheduled.{AtEnd, AtFault, AtLimit, OnParts, Scheduled, scheduled}
use Rattle.schedule_replay.specs.Told.{lines_told}
use Rattle.schedule_replay.specs.declared.counts.Counts.{Counts}
use Rattle.schedule_replay.specs.declared.mode.Mode.TheVariants.{Silent}
use Rattle.schedule_replay.specs.declared.replayed.Replayed.{Replayed}
use Rattle.schedule_replay.specs.declared.replayed.Replayed.TheVariants as answers
use Rattle.schedule_replay.proofs.Ended.{ended-at}
use Rattle.schedule_replay.proofs.Reading.{on_all}
use Rattle.schedule_replay.proofs.Told.{silent_untold}
use Rattle.courses.specs.Course.{cached, ends_in}
use Rattle.courses.specs.Ending.{Concludes, EndsIn}
use Rattle.courses.specs.Exit.{is_finished}
use Rattle.courses.specs.Stopped.{replay_exit}
use Rattle.courses.specs.declared.exit.Exit.{Exit}
use Rattle.courses.specs.declared.exit.Exit.TheVariants.{OutOfMemory, ReadFault, ScheduleRefused, TooLong, WriteFault}
use Rattle.courses.proofs.Concluding.{Did, takes-wanting}
use Rattle.courses.proofs.Rests.{TellsAlone, at, follows-rest, run-ends, stop-ended, stop-stopped}
use Rattle.separation_program.specs.Judged.{HasJudged, judged_at, judged_of, judging}
use Rattle.separation_program.specs.Text.{told_for}
use Rattle.separation_program.specs.declared.words.Aim.{Aim}
use Rattle.courses.proofs.Lasts.{finished-form, finished-given, memory-or}
use Rattle.separation_program.proofs.Verdicts.{told-finished}

-- where lines of a schedule are not all read, no more is told than why
tells : (aim : Aim) (policy : PolicyValue) (start : State) (events : List Event)
    → TellsAlone (λ all. ends_in (judging (told_for aim) policy start all)) (at events AtEnd) (λ line fault. at events (AtFault line fault)) (at events AtLimit) ScheduleRefused
tells aim policy start events = record {
  refusal = λ line fault. refl;
  limit = refl;
  given = λ line fault. record { read = λ bad. cc; write = λ bad. cc; memory = λ bad. cc };
  form = λ line fault bad. cc;
  unfinished = λ line fault. refl;
  going = told-finished policy (run_state start events) aim;
  records = refl;
  touches = refl;
}

module _ {S K : Type 0} (held : S → Option (List ℕ)) (source_faults : S → ℕ) (taken : K → Option (List ℕ)) (sink_faults : K → ℕ)
    (aim : Aim) (policy : PolicyValue) (start : State) (harts : ℕ) (lines lines' : Reader) (old new : S) (mid out : K) (exit : Exit)
    (events : List Event) (answer : Replayed) (follows : Follows (run_answer start) harts lines lines' (held old) (held new) events answer) where
  abbrev sched : List Part → Scheduled
  sched parts = scheduled harts lines.number parts

  abbrev Did_here : Type 0
  Did_here = Did held source_faults taken sink_faults lines lines' old new mid mid 0 0 cached (λ parts. ends_in (judging (told_for aim) policy start (sched parts))) out 0 exit

  follows-at : (a : Replayed) → answer ≡ a → Follows (run_answer start) harts lines lines' (held old) (held new) events a
  follows-at a is = subst (Follows (run_answer start) harts lines lines' (held old) (held new) events) is follows

  -- all lines were read, and what they lead to was judged
  pub judge-ended : (counts : Counts) → replay_exit answer ≡ Ok counts → source_faults new ≡ source_faults old → IsAtEnd (held new) → (s : State) → s ≡ run_state start events
      → (exit ≢ OutOfMemory → EndsIn taken sink_faults mid out exit (told_for aim policy s)) → (exit ≡ OutOfMemory → out ≡ mid) → Did_here
  judge-ended counts given quiet end s state e unwritten = by (memory-or exit)
    where
      by : (exit ≡ OutOfMemory) ⊎ (exit ≢ OutOfMemory) → Did_here
      by (inl same) =
          takes-wanting held source_faults taken sink_faults lines lines' old new mid mid 0 0 cached (λ parts. ends_in (judging (told_for aim) policy start (sched parts))) out 0 exit same (unwritten same) refl
          (record { unwritten = refl; unspent = refl; quiet = quiet; still = refl })
      by (inr other) =
          let finished = told-finished policy (run_state start events) aim in
          stop-ended held source_faults taken sink_faults lines lines' old new mid 0 cached refl (scheduled harts lines.number) (λ all. ends_in (judging (told_for aim) policy start all))
          (at events AtEnd) (λ line fault. at events (AtFault line fault)) (at events AtLimit) ScheduleRefused (tells aim policy start events) stops.End
          (follows-rest (λ (all : Scheduled). counts_of start all.events) harts lines lines' (held old) (held new) events counts stops.End (follows-at (answers.Ended counts) (run-ends counts answer given)))
          (λ bad. cc) (λ other. quiet) out 0 exit refl (finished-given _ finished) (finished-form _ finished)
          (subst (λ t. EndsIn taken sink_faults mid out exit (told_for aim policy t)) state (e other)) (record { whole = λ given. refl; most = omega arith }) (λ same. end)

  -- they were not, and why was told
  pub judge-stopped : (given : Exit) (a : Replayed) → answer ≡ a → replay_exit a ≡ Err given → (answer ≢ answers.WriteFault)
      → (answer ≡ answers.ReadFault → Rose (source_faults old) (source_faults new)) → (answer ≢ answers.ReadFault → source_faults new ≡ source_faults old)
      → Concludes taken sink_faults given mid out exit → Did_here
  judge-stopped given (answers.Ended counts) is at_exit whole rose quiet c = cc
  judge-stopped given (answers.Refused line fault) is at_exit whole rose quiet c =
      stop-stopped held source_faults taken sink_faults lines lines' old new mid 0 cached refl (scheduled harts lines.number) (λ all. ends_in (judging (told_for aim) policy start all))
      (at events AtEnd) (λ line fault. at events (AtFault line fault)) (at events AtLimit) ScheduleRefused (tells aim policy start events) (stops.Refused line fault)
      (follows-rest (λ (all : Scheduled). counts_of start all.events) harts lines lines' (held old) (held new) events (events_alone 0) (stops.Refused line fault) (follows-at (answers.Refused line fault) is))
      (λ bad. cc) (λ other. quiet (λ same. let bad = sym is ∙ same in cc)) out 0 exit
      given (let same : ScheduleRefused line fault ≡ given = cc in ap Some same) c refl
  judge-stopped given answers.TooLong is at_exit whole rose quiet c =
      stop-stopped held source_faults taken sink_faults lines lines' old new mid 0 cached refl (scheduled harts lines.number) (λ all. ends_in (judging (told_for aim) policy start all))
      (at events AtEnd) (λ line fault. at events (AtFault line fault)) (at events AtLimit) ScheduleRefused (tells aim policy start events) stops.TooLong
      (follows-rest (λ (all : Scheduled). counts_of start all.events) harts lines lines' (held old) (held new) events (events_alone 0) stops.TooLong (follows-at answers.TooLong is))
      (λ bad. cc) (λ other. quiet (λ same. let bad = sym is ∙ same in cc)) out 0 exit
      given (let same : TooLong ≡ given = cc in ap Some same) c refl
  judge-stopped given answers.ReadFault is at_exit whole rose quiet c =
      stop-stopped held source_faults taken sink_faults lines lines' old new mid 0 cached refl (scheduled harts lines.number) (λ all. ends_in (judging (told_for aim) policy start all))
      (at events AtEnd) (λ line fault. at events (AtFault line fault)) (at events AtLimit) ScheduleRefused (tells aim policy start events) stops.ReadFault
      (follows-rest (λ (all : Scheduled). counts_of start all.events) harts lines lines' (held old) (held new) events (events_alone 0) stops.ReadFault (follows-at answers.ReadFault is))
      (λ same. rose is) (λ other. absurd (other refl)) out 0 exit
      given (let same : ReadFault ≡ given = cc in ap Some same) c refl
  judge-stopped given answers.WriteFault is at_exit whole rose quiet c = absurd (whole is)

  -- where all lines were read, what is so of the state that they lead to is so of what is judged of the known lines
  pub judged-run : (P : PolicyValue → State → Type 0) (counts : Counts) → replay_exit answer ≡ Ok counts → (s : State) → s ≡ run_state start events → P policy s
      → OnParts (ahead lines (held old)) (λ parts. HasJudged P (judged_of policy start (sched parts)))
  judged-run P counts given s state is =
      on_all (ahead lines (held old)) _ _ (λ parts accords. of_all (sched parts) accords) (follows-at (answers.Ended counts) (run-ends counts answer given)).lines
    where
      of_all : (all : Scheduled) → Accords (run_answer start) (answers.Ended counts) events all → HasJudged P (judged_of policy start all)
      of_all all a =
          subst (λ e. HasJudged P (judged_at policy (run_state start all.events) e)) (sym (ended-at _ _ all.ending a.1))
          (subst (λ es. P policy (run_state start es)) a.0 (subst (P policy) state is))

-- nothing is written of a run without a word, so no writing fails in it
pub no_write : (start : State) (taken taken' : Option (List ℕ)) (events : List Event) (answer : Replayed) → WritesRun Silent start taken taken' events answer → answer ≢ answers.WriteFault
no_write start taken taken' events answer text is =
    let stops = subst (WritesRun Silent start taken taken' events) is text in
    let none : length (lines_told Silent start events) ≡ 0 = ap length (silent_untold (run_records start events)) in
    let short = stops.short in
    omega (arith, none, short)

-- lines of a schedule that were not all read gave no exit of a call that did all
pub unfinished : (given : Exit) (a : Replayed) → replay_exit a ≡ Err given → is_finished given ≡ false
unfinished given (answers.Ended counts) is = cc
unfinished given (answers.Refused line fault) is = let same : ScheduleRefused line fault ≡ given = cc in subst (λ e. is_finished e ≡ false) same refl
unfinished given answers.TooLong is = let same : TooLong ≡ given = cc in subst (λ e. is_finished e ≡ false) same refl
unfinished given answers.ReadFault is = let same : ReadFault ≡ given = cc in subst (λ e. is_finished e ≡ false) same refl
unfinished given answers.WriteFault is = let same : WriteFault ≡ given = cc in subst (λ e. is_finished e ≡ false) same refl
