-- From the answer of a count, to what `check` did.
use Rattle.std.proofs.Common.{◌≡◌, ◌≢◌, ◌∙◌, ◌++◌, [], ℕ, List, length, Option, Some, Ok, Err, refl, sym, ap, subst, arith}
use Rattle.std.specs.Io.KnownBytes.{IsAtEnd}
use Rattle.coy_io.specs.Lines.{Part}
use Rattle.coy_io.specs.Reader.{Reader, ahead}
use Rattle.judged_lines.specs.declared.stop.Stop.TheVariants as stops
use Rattle.schedule_replay.specs.Counts.{events_alone}
use Rattle.schedule_replay.specs.Replay.{Accords, Counted, HasReasons, count_answer}
use Rattle.schedule_replay.specs.Scheduled.{OnParts, scheduled}
use Rattle.schedule_replay.specs.declared.counts.Counts.{Counts}
use Rattle.schedule_replay.specs.declared.replayed.Replayed.{Replayed}
use Rattle.schedule_replay.specs.declared.replayed.Replayed.TheVariants as answers
use Rattle.schedule_replay.proofs.Reading.{on_all}
use Rattle.courses.specs.Course.{Course, cached, ends_in}
use Rattle.courses.specs.Ending.{Concludes, EndsIn}
use Rattle.courses.specs.Stopped.{replay_exit}
use Rattle.courses.specs.declared.exit.Exit.{Exit}
use Rattle.courses.specs.declared.exit.Exit.TheVariants.{ReadFault, ScheduleRefused, TooLong}
use Rattle.courses.proofs.Concluding.{Did}
use Rattle.courses.proofs.Rests.{TellsAlone, run-ends, stop-ended, stop-stopped}
use Rattle.schedule_commands.specs.Finished.{counted}

-- where lines are not all read, no more is told than why
tells : (counts : Counts) → TellsAlone (λ a. ends_in (counted a)) (answers.Ended counts) answers.Refused answers.TooLong ScheduleRefused
tells counts = record {
  refusal = λ line fault. refl;
  limit = refl;
  given = λ line fault. record { read = λ bad. cc; write = λ bad. cc; memory = λ bad. cc };
  form = λ line fault bad. cc;
  unfinished = λ line fault. refl;
  going = refl;
  records = refl;
  touches = refl;
}

module _ {S K : Type 0} (held : S → Option (List ℕ)) (source_faults : S → ℕ) (taken : K → Option (List ℕ)) (sink_faults : K → ℕ)
    (lines lines' : Reader) (old new : S) (start out : K) (fetches : ℕ) (exit : Exit) (harts : ℕ) (answer : Replayed)
    (r : Counted harts lines lines' (held old) (held new) answer) (reasons : HasReasons (source_faults old) (source_faults new) 0 0 answer) where
  abbrev made : List Part → Replayed
  made parts = count_answer (scheduled harts lines.number parts)

  abbrev Did_here : Type 0
  Did_here = Did held source_faults taken sink_faults lines lines' old new start start fetches fetches cached (λ parts. ends_in (counted (made parts))) out fetches exit

  accords-at : (a : Replayed) → answer ≡ a → OnParts (ahead lines (held old)) (λ parts. Accords count_answer a r.events (scheduled harts lines.number parts))
  accords-at a is = subst (λ a. OnParts (ahead lines (held old)) (λ parts. Accords count_answer a r.events (scheduled harts lines.number parts))) is r.follows.lines

  -- all lines were read, and their events counted
  pub count-ended : (counts : Counts) → replay_exit answer ≡ Ok counts → EndsIn taken sink_faults start out exit (counted (answers.Ended counts))
      → (answer ≡ answers.Ended counts → IsAtEnd (held new)) → Did_here
  count-ended counts at e end =
      let is = run-ends counts answer at in
      stop-ended held source_faults taken sink_faults lines lines' old new start fetches cached refl made (λ a. ends_in (counted a)) (answers.Ended counts) answers.Refused answers.TooLong ScheduleRefused
      (tells counts) stops.End (on_all (ahead lines (held old)) _ _ (λ parts accords. sym accords.1) (accords-at (answers.Ended counts) is))
      (λ bad. cc) (λ other. reasons.read_quiet (λ same. let bad = sym is ∙ same in cc)) out fetches exit
      refl (record { read = λ bad. cc; write = λ bad. cc; memory = λ bad. cc }) (λ bad. cc) e (record { whole = λ given. omega arith; most = omega arith }) (λ same. end is)

  -- they were not, and why was told
  pub count-stopped : (given : Exit) (a : Replayed) → answer ≡ a → replay_exit a ≡ Err given → Concludes taken sink_faults given start out exit → Did_here
  count-stopped given (answers.Ended counts) is at c = cc
  count-stopped given (answers.Refused line fault) is at c =
      stop-stopped held source_faults taken sink_faults lines lines' old new start fetches cached refl made (λ a. ends_in (counted a)) (answers.Ended (events_alone 0)) answers.Refused answers.TooLong ScheduleRefused
      (tells (events_alone 0)) (stops.Refused line fault) (on_all (ahead lines (held old)) _ _ (λ parts accords. sym accords.1) (accords-at (answers.Refused line fault) is))
      (λ bad. cc) (λ other. reasons.read_quiet (λ same. let bad = sym is ∙ same in cc)) out fetches exit
      given (let same : ScheduleRefused line fault ≡ given = cc in ap Some same) c refl
  count-stopped given answers.TooLong is at c =
      stop-stopped held source_faults taken sink_faults lines lines' old new start fetches cached refl made (λ a. ends_in (counted a)) (answers.Ended (events_alone 0)) answers.Refused answers.TooLong ScheduleRefused
      (tells (events_alone 0)) stops.TooLong (on_all (ahead lines (held old)) _ _ (λ parts accords. sym accords.1) (accords-at answers.TooLong is))
      (λ bad. cc) (λ other. reasons.read_quiet (λ same. let bad = sym is ∙ same in cc)) out fetches exit
      given (let same : TooLong ≡ given = cc in ap Some same) c refl
  count-stopped given answers.ReadFault is at c =
      let fails = r.follows.read is in
      stop-stopped held source_faults taken sink_faults lines lines' old new start fetches cached refl made (λ a. ends_in (counted a)) (answers.Ended (events_alone (length (r.events ++ [])))) answers.Refused answers.TooLong ScheduleRefused
      (tells (events_alone (length (r.events ++ [])))) stops.ReadFault
      (record { before = fails.before; going = fails.going; unfinished = fails.unfinished; given = fails.given; gives = fails.gives; makes = ap count_answer fails.makes })
      (λ same. reasons.read is) (λ other. absurd (other refl)) out fetches exit
      given (let same : ReadFault ≡ given = cc in ap Some same) c refl
  count-stopped given answers.WriteFault is at c = absurd (r.written is)

-- by another name of the number of harts
pub counted-harts : (harts harts' : ℕ) (lines lines' : Reader) (held held' : Option (List ℕ)) (answer : Replayed) → harts ≡ harts' → Counted harts lines lines' held held' answer → Counted harts' lines lines' held held' answer
counted-harts harts harts' lines lines' held held' answer same r = subst (λ h. Counted h lines lines' held held' answer) same r
