-- What the records of an event show to have been performed.
use Rattle.std.specs.Prelude.{◌≡◌, ℕ, ◌<◌, List, Option, Some, None, slice_get}
use Rattle.cap_format.specs.declared.kind.CapKind.TheVariants.{Process}
use Rattle.object_store.specs.Store.{size_of}
use Rattle.rv32_user.specs.declared.effect.Effect.{Effect}
use Rattle.rv32_user.specs.declared.effect.Effect.TheVariants.{Next, Load, Store as StoreOf}
use Rattle.rv32_user.specs.Step.{effect_of}
use Rattle.map_cache.specs.Cache.{CacheValue}
use Rattle.machine_state.specs.declared.event.Event.{Event}
use Rattle.machine_state.specs.declared.event.Event.TheVariants.{Step, Tick}
use Rattle.machine_state.specs.declared.record.Record.{Record}
use Rattle.machine_state.specs.declared.record.Record.TheVariants.{Access, Insn as InsnRead}
use Rattle.machine_state.specs.Machine.{MachineValue}
use Rattle.machine_state.specs.State.{State, state_of}
use Rattle.machine_state.specs.Setters.{dispatch}
use Rattle.machine_state.specs.Outcome.{Outcome}
use Rattle.kernel_core.specs.Event.{performer}
use Rattle.event_reach.specs.declared.plain.PlainInsn.{PlainInsn}
use Rattle.event_reach.specs.Plain.{plain_insn, plain_names, ChangesAlone}

-- a load of process `p`, if the record of an access follows its own
abbrev pub shown_load : ℕ → Option Record → Option PlainInsn
shown_load p (Some (Access q kind address n)) = Some (plain_insn p None)
shown_load p _ = None

-- a store, to the page of that access
abbrev pub shown_store : ℕ → Option Record → Option PlainInsn
shown_store p (Some (Access q kind address n)) = Some (plain_insn p (Some n))
shown_store p _ = None

-- an instruction of this effect, with the record that follows its own
abbrev pub shown_effect : ℕ → Option Record → Effect → Option PlainInsn
shown_effect p next (Next pc) = Some (plain_insn p None)
shown_effect p next (Load at size signed rd) = shown_load p next
shown_effect p next (StoreOf at size value) = shown_store p next
shown_effect p next _ = None

-- the record of an instruction, with the one that follows
abbrev pub shown_insn : ℕ → List ℕ → ℕ → Option Record → Option Record → Option PlainInsn
shown_insn p regs pc next (Some (InsnRead q at insn)) = shown_effect p next (effect_of regs pc insn)
shown_insn p regs pc next _ = None

-- the plain instruction that records show, of process `p` with these registers and this pc before it: the first record is
-- that of its fetch
unfoldable pub shown_plain : ℕ → List ℕ → ℕ → List Record → Option PlainInsn
shown_plain p regs pc records = shown_insn p regs pc (slice_get records 2) (slice_get records 1)

-- process `p`, one of the machine's, performs the event
pub record IsBy (p : ℕ) (m : MachineValue CacheValue) (e : Event) : Type 0 where
  pub performs : performer (state_of m) e ≡ Some p
  pub there : p < size_of m.objects.items Process

-- the state in which it performs the event: at a step a hart without a process took one
abbrev pub begun : State → Event → State
begun s (Step hart) = dispatch s hart
begun s (Tick hart) = s

-- of an event this is what is shown: process `p` performed a plain instruction, which changed no more than it says
pub record IsShown (p : ℕ) (s : State) (o : Outcome) (i : PlainInsn) : Type 0 where
  pub process : i.process ≡ p
  pub alone : ChangesAlone s o (plain_names i)
