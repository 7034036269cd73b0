-- The entries of the mapping cache behind a run.
use Rattle.std.proofs.Common.{◌≡◌, ◌∙◌, ℕ, List, true, Option, Ok, Err, sym, ap, subst}
use Rattle.cap_format.specs.Capability.{Capability}
use Rattle.cap_format.specs.declared.item.Item.{Item}
use Rattle.coy_io.specs.Reader.{Reader, ahead}
use Rattle.object_store.specs.Store.{Items}
use Rattle.walk_meaning.specs.declared.kind.Kind.{Kind}
use Rattle.machine_state.specs.declared.event.Event.{Event}
use Rattle.kernel_core.specs.Machine.{MachineValue}
use Rattle.kernel_core.specs.Outcome.{Touch}
use Rattle.kernel_core.specs.Run.{run_state, run_touches}
use Rattle.kernel_core.specs.State.{State, state_of}
use Rattle.map_cache.specs.Cache.{CacheValue, kept_of}
use Rattle.map_cache.specs.Held.{AreRight, held_entries}
use Rattle.map_cache.specs.Kept.{cost_of, kept_after, kept_without, nothing}
use Rattle.map_cache.specs.Mappings.{mappings_of}
use Rattle.fetch_economy.proofs.Entries.{covered_have_entries}
use Rattle.fetch_economy.specs.Counts.{kept_by}
use Rattle.fetch_economy.specs.Laws.{HasEntry}
use Rattle.map_cache.specs.Kept.{counted as counted_space}
use Rattle.run_economy.proofs.Events.{run-ages}
use Rattle.schedule_commands.specs.declared.command.ScheduleCommand.{ScheduleCommand}
use Rattle.schedule_commands.specs.Runs.{mode_of}
use Rattle.schedule_commands.specs.Finished.{course_behind, course_of, runner_of}
use Rattle.schedule_commands.specs.Tables.{TellsEntries}
use Rattle.courses.specs.Course.{HasEntries}
use Rattle.courses.specs.Stopped.{replay_exit}
use Rattle.courses.specs.declared.exit.Exit.TheVariants.{Done}
use Rattle.courses.proofs.Rests.{run-ends}
use Rattle.courses.proofs.Running.{all-kept}
use Rattle.schedule_replay.specs.Replay.{Accords, Ran, Replays, run_answer}
use Rattle.schedule_replay.specs.Scheduled.{OnParts, Scheduled, scheduled}
use Rattle.schedule_replay.specs.declared.counts.Counts.{Counts}
use Rattle.schedule_replay.specs.declared.mode.Mode.{Mode}
use Rattle.schedule_replay.specs.declared.replayed.Replayed.{Replayed}
use Rattle.schedule_replay.specs.declared.replayed.Replayed.TheVariants as answers
use Rattle.schedule_replay.proofs.Reading.{on_all}

module _ (command : ScheduleCommand) (m n : MachineValue CacheValue) (f g : ℕ) (events : List Event) (none : kept_of m.translator ≡ nothing)
    (ran : Ran kept_of cost_of kept_after kept_without m f n g events) (tells : TellsEntries n.translator (state_of n).store.items) where
  -- those of a cache at the end of a run are right, and whole where the run's need fits
  behind-entries : (answer : Replayed) → HasEntries (course_behind command (state_of m) events answer)
  behind-entries answer =
      let s : State = state_of m in
      let touches : List Touch = run_touches s events in
      let end : Items = (run_state s events).store.items in
      let items : (state_of n).store.items ≡ end = ap (λ (t : State). t.store.items) ran.state in
      let keeps = all-kept kept_of cost_of kept_after kept_without nothing (runner_of command) m n none f g events ran in
      let same : mappings_of n.translator ≡ held_entries end (kept_by nothing touches) =
      tells.held ∙ ap (λ o. held_entries o (kept_of n.translator)) items ∙ ap (held_entries end) keeps in
      record {
        are = subst (AreRight end) same (subst (λ o. AreRight o (mappings_of n.translator)) items tells.right);
        whole = λ fits space page covered.
            subst (λ entries. HasEntry entries (counted_space end space) page) same
            (covered_have_entries s.store.items end touches n.translator (mappings_of n.translator) (run-ages s events) fits keeps tells.each space page covered);
      }

-- so are those of the course of the known lines, where all of these were run
pub run-entries : (command : ScheduleCommand) (m n : MachineValue CacheValue) (lines lines' : Reader) (held held' start taken' : Option (List ℕ)) (f g : ℕ) (counts : Counts) (answer : Replayed)
    → replay_exit answer ≡ Ok counts → kept_of m.translator ≡ nothing
    → Replays kept_of cost_of kept_after kept_without (mode_of command) m n lines lines' held held' start taken' f g answer → TellsEntries n.translator (state_of n).store.items
    → OnParts (ahead lines held) (λ parts. HasEntries (course_of command (state_of m) (scheduled m.objects.harts lines.number parts)))
run-entries command m n lines lines' held held' start taken' f g counts answer at none r tells =
    on_all (ahead lines held) _ _
    (λ parts accords. by (scheduled m.objects.harts lines.number parts) (subst (λ a. Accords (run_answer (state_of m)) a r.events (scheduled m.objects.harts lines.number parts)) (run-ends counts answer at) accords)) r.follows.lines
  where
    by : (all : Scheduled) → Accords (run_answer (state_of m)) (answers.Ended counts) r.events all → HasEntries (course_of command (state_of m) all)
    by all accords =
        subst (λ es. HasEntries (course_behind command (state_of m) es (run_answer (state_of m) all))) accords.0
        (behind-entries command m n f g r.events none r.ran tells (run_answer (state_of m) all))

-- lines that were not all run are not done
pub undone : (answer : Replayed) → replay_exit answer ≡ Err Done → ⊥
undone (answers.Ended counts) at = cc
undone (answers.Refused line fault) at = cc
undone answers.TooLong at = cc
undone answers.ReadFault at = cc
undone answers.WriteFault at = cc

-- by another name of the mode
pub replays-mode : {T K : Type 0} (kept : T → K) (cost : K → Items → Capability → ℕ → Kind → ℕ) (after : K → Items → Capability → ℕ → Kind → K) (without : K → Item → K)
    (mode mode' : Mode) (m n : MachineValue T) (lines lines' : Reader) (held held' taken taken' : Option (List ℕ)) (f g : ℕ) (answer : Replayed) → mode ≡ mode'
    → Replays kept cost after without mode m n lines lines' held held' taken taken' f g answer → Replays kept cost after without mode' m n lines lines' held held' taken taken' f g answer
replays-mode kept cost after without mode mode' m n lines lines' held held' taken taken' f g answer same r =
    subst (λ x. Replays kept cost after without x m n lines lines' held held' taken taken' f g answer) same r
