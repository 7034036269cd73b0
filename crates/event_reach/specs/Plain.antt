-- Plain instructions: of the process that stands on the hart, with no system call and no fault. (This project's.)
use Rattle.std.specs.Prelude.{◌≡◌, ℕ, ◌<◌, ◌%◌, ◌==◌, if◌then◌else◌, List, [], ◌∷◌, Option, Some, None, IfSome, Result, Ok, Err}
use Rattle.cap_format.specs.declared.kind.CapKind.TheVariants.{Page, Process}
use Rattle.object_store.specs.Store.{Store, size_of}
use Rattle.object_store.specs.Object.{ObjectName}
use Rattle.schedules.specs.Queues.{hart_of}
use Rattle.rv32_decode.specs.declared.insn.Insn.{Insn}
use Rattle.rv32_decode.specs.Table.{insn_at}
use Rattle.rv32_user.specs.declared.effect.Effect.{Effect}
use Rattle.rv32_user.specs.declared.effect.Effect.TheVariants.{Next, Load as LoadOf, Store as StoreOf}
use Rattle.rv32_user.specs.Step.{effect_of}
use Rattle.walk_meaning.specs.declared.kind.Kind.TheVariants.{Fetch, Load as Get, Store as Put}
use Rattle.walk_meaning.specs.declared.place.WalkFault.{WalkFault}
use Rattle.walk_engine.specs.declared.hit.Hit.{Hit}
use Rattle.machine_state.specs.declared.event.Event.{Event}
use Rattle.machine_state.specs.declared.event.Event.TheVariants.{Step, Tick}
use Rattle.machine_state.specs.State.{State, process, pc_of}
use Rattle.machine_state.specs.Outcome.{Outcome, process_name, page_name}
use Rattle.machine_state.specs.DataAccess.{data_access, number_at}
use Rattle.event_reach.specs.declared.plain.PlainInsn.{PlainInsn}

-- a plain instruction of process `p`, which stores to this page or to none
abbrev pub plain_insn : ℕ → Option ℕ → PlainInsn
plain_insn p page = record { process = p; page = page }

-- a load whose walk reached a page
abbrev pub plain_loaded : ℕ → Result Hit WalkFault → Option PlainInsn
plain_loaded p (Ok hit) = Some (plain_insn p None)
plain_loaded p (Err fault) = None

-- a load is plain where it is aligned and its walk reaches a page
unfoldable pub plain_load : State → ℕ → ℕ → ℕ → Option PlainInsn
plain_load s p at size = if at % size == 0 then plain_loaded p (data_access s p at Get) else None

-- a store whose walk reached a page
abbrev pub plain_stored : ℕ → Result Hit WalkFault → Option PlainInsn
plain_stored p (Ok hit) = Some (plain_insn p (Some hit.page))
plain_stored p (Err fault) = None

-- a store is plain where it is aligned and its walk reaches a page
unfoldable pub plain_store : State → ℕ → ℕ → ℕ → Option PlainInsn
plain_store s p at size = if at % size == 0 then plain_stored p (data_access s p at Put) else None

-- an instruction by its effect: no system call, no breakpoint and no jump to an address that is not aligned is plain
abbrev pub plain_effect : State → ℕ → Effect → Option PlainInsn
plain_effect s p (Next pc) = Some (plain_insn p None)
plain_effect s p (LoadOf at size signed rd) = plain_load s p at size
plain_effect s p (StoreOf at size value) = plain_store s p at size
plain_effect s p _ = None

-- the word that was fetched: an instruction, or none of the table
abbrev pub plain_word : State → ℕ → Option Insn → Option PlainInsn
plain_word s p None = None
plain_word s p (Some insn) = plain_effect s p (effect_of (process s p).regs (pc_of s p) insn)

-- the fetch at a process's pc
abbrev pub plain_fetched : State → ℕ → Result Hit WalkFault → Option PlainInsn
plain_fetched s p (Err fault) = None
plain_fetched s p (Ok hit) = plain_word s p (insn_at (number_at s hit 4))

-- the plain instruction that a process performs next, if it is one
unfoldable pub plain_instruction : State → ℕ → Option PlainInsn
plain_instruction s p = plain_fetched s p (data_access s p (pc_of s p) Fetch)

-- that of the process on a hart, if there is one
abbrev pub plain_on : State → Option ℕ → Option PlainInsn
plain_on s None = None
plain_on s (Some p) = plain_instruction s p

-- that which an event of a machine that is not halted performs: a hart without a process first takes one, which is not plain
abbrev pub plain_by : State → Event → Option PlainInsn
plain_by s (Step hart) = plain_on s (hart_of s.queues hart)
plain_by s (Tick hart) = None

-- the plain instruction that an event performs, if it does
abbrev pub plain_of : State → Event → Option PlainInsn
plain_of s e = if s.halted then None else plain_by s e

-- ---- what it changes

-- the name of the page of a store, if there is one
abbrev pub stored_names : Option ℕ → List ObjectName
stored_names None = []
stored_names (Some n) = page_name n ∷ []

-- the names of what a plain instruction changes: its process, and the page to which it stores
abbrev pub plain_names : PlainInsn → List ObjectName
plain_names i = process_name i.process ∷ stored_names i.page

-- of an event this is the outcome: these objects alone are named, and the queues, who stands on which hart and whether the
-- machine is halted stay
pub record ChangesAlone (s : State) (o : Outcome) (names : List ObjectName) : Type 0 where
  pub changed : o.changed ≡ names
  pub queues : o.state.queues ≡ s.queues
  pub halted : o.state.halted ≡ s.halted

-- its process is one of these objects, and so is the page of its store
pub record IsThere (s : Store) (i : PlainInsn) : Type 0 where
  pub process : i.process < size_of s.items Process
  pub page : IfSome i.page (λ n. n < size_of s.items Page)
