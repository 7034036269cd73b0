-- The first of the events that are left, performed and counted at once.
use Rattle.std.specs.Prelude.{◌≡◌, ℕ, ◌+◌, ◌*◌, List, [], ◌∷◌, ◌++◌, length}
use Rattle.cap_format.specs.Capability.{Capability}
use Rattle.cap_format.specs.declared.item.Item.{Item}
use Rattle.object_store.specs.Store.{Items}
use Rattle.walk_meaning.specs.declared.kind.Kind.{Kind}
use Rattle.machine_state.specs.declared.event.Event.{Event}
use Rattle.machine_state.specs.declared.record.Record.{Record}
use Rattle.kernel_core.specs.Machine.{MachineValue}
use Rattle.kernel_core.specs.Run.{run_records}
use Rattle.kernel_core.specs.State.{state_of}
use Rattle.untraced_steps.specs.Spared.{GainsNothing}
use Rattle.schedule_replay.specs.Counts.{AreAtMost, and_more}
use Rattle.schedule_replay.specs.Replay.{Ran}
use Rattle.schedule_replay.specs.Told.{lines_of, lines_told}
use Rattle.schedule_replay.specs.declared.counts.Counts.{Counts}
use Rattle.schedule_replay.specs.declared.mode.Mode.{Mode}

-- Of the events `all` the first were performed and counted, one at least, and `left` are left. None of them but the last
-- tells anything that the mode names, and the records `entries` have the same lines as theirs. The caches of the harts that
-- perform none of them hold no more than before.
pub record RunsFirst {T K C : Type 0} (kept : T → K) (cost : K → Items → Capability → ℕ → Kind → ℕ) (after : K → Items → Capability → ℕ → Kind → K) (without : K → Item → K)
    (cache : T → ℕ → C) (less : C → C → Type 0)
    (mode : Mode) (all left : List Event) (m : MachineValue T) (fetches : ℕ) (n : MachineValue T) (fetches' : ℕ) (entries : List Record) (counts counts' : Counts) : Type 0 where
  pub before : List Event
  pub last : Event
  pub split : all ≡ (before ++ last ∷ []) ++ left
  pub ran : Ran kept cost after without m fetches n fetches' (before ++ last ∷ [])
  pub gains : GainsNothing cache less (before ++ last ∷ []) m n
  pub quiet : lines_told mode (state_of m) before ≡ []
  pub lines : lines_of mode entries ≡ lines_told mode (state_of m) (before ++ last ∷ [])
  pub counted : counts' ≡ and_more counts (length (before ++ last ∷ [])) (run_records (state_of m) (before ++ last ∷ []))
  pub most : (most : ℕ) → AreAtMost most counts → AreAtMost (most + 65 * length (before ++ last ∷ [])) counts'
