-- What a command comes to that runs the lines behind a listing, over whatever translator: the records of their events, and
-- what stands behind those (this project's own).
use Rattle.std.specs.Prelude.{ℕ, List}
use Rattle.cap_format.specs.Capability.{Capability}
use Rattle.cap_format.specs.declared.item.Item.{Item}
use Rattle.object_store.specs.Store.{Items}
use Rattle.walk_meaning.specs.declared.kind.Kind.{Kind}
use Rattle.machine_state.specs.declared.event.Event.{Event}
use Rattle.kernel_core.specs.Outcome.{kept_after}
use Rattle.kernel_core.specs.Run.{run_state, run_touches}
use Rattle.kernel_core.specs.State.{State}
use Rattle.map_cache.specs.declared.mapping.Mapping.{Mapping}
use Rattle.schedule_replay.specs.Told.{lines_told}
use Rattle.schedule_replay.specs.Scheduled.{Scheduled}
use Rattle.schedule_replay.specs.Replay.{run_answer}
use Rattle.schedule_replay.specs.declared.counts.Counts.{Counts}
use Rattle.schedule_replay.specs.declared.mode.Mode.{Mode}
use Rattle.schedule_replay.specs.declared.replayed.Replayed.{Replayed}
use Rattle.schedule_replay.specs.declared.replayed.Replayed.TheVariants as answers
use Rattle.courses.specs.Course.{Course}
use Rattle.courses.specs.Ending.{Output, told_end}
use Rattle.courses.specs.declared.exit.Exit.TheVariants.{Done, ScheduleRefused, ReadFault, WriteFault, TooLong}

-- A command that runs the lines, over a translator that keeps values of this type: which records it writes; behind them, where
-- all lines were read, its text, by the last state, what is kept then and the counts of the run; the slots that are fetched for
-- that text, the accesses made and the GPTs printed; and the entries that a mapping cache has then.
pub record Runner (K : Type 0) : Type 0 where
  pub mode : Mode
  pub text : State → K → Counts → List ℕ
  pub fetches : State → ℕ
  pub accesses : State → ℕ
  pub printed : State → ℕ
  pub entries : State → K → List Mapping

-- so many where all lines were read, and none otherwise
abbrev pub if_ended : ℕ → Replayed → ℕ
if_ended n (answers.Ended counts) = n
if_ended n _ = 0

-- what is written last, and how the program ends, by the answer of a run that came to this state and left this kept
abbrev pub finished_by : {K : Type 0} → Runner K → State → K → Replayed → Output
finished_by runner s kept (answers.Ended counts) = record { text = runner.text s kept counts; exit = Done }
finished_by runner s kept (answers.Refused line fault) = told_end (ScheduleRefused line fault)
finished_by runner s kept answers.TooLong = told_end TooLong
finished_by runner s kept answers.ReadFault = told_end ReadFault
finished_by runner s kept answers.WriteFault = told_end WriteFault

-- by what a translator says of one access and of one change, and what it keeps at first
module _ {K : Type 0} (cost : K → Items → Capability → ℕ → Kind → ℕ) (after : K → Items → Capability → ℕ → Kind → K) (without : K → Item → K) (start : K) where
  -- the events of a run come first, and then what its answer comes to
  abbrev pub run_course : Runner K → State → List Event → Replayed → Course
  run_course runner s events answer = record {
    records = lines_told runner.mode s events;
    touches = run_touches s events;
    last = finished_by runner (run_state s events) (kept_after cost after without start (run_touches s events)) answer;
    last_fetches = if_ended (runner.fetches (run_state s events)) answer;
    last_accesses = if_ended (runner.accesses (run_state s events)) answer;
    printed = if_ended (runner.printed (run_state s events)) answer;
    end = (run_state s events).store.items;
    entries = runner.entries (run_state s events) (kept_after cost after without start (run_touches s events));
  }

  -- what a command comes to with what the lines ask for, from this state on
  abbrev pub running : Runner K → State → Scheduled → Course
  running runner s all = run_course runner s all.events (run_answer s all)
