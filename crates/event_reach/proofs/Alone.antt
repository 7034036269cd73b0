-- What a plain instruction changes: its process and the page to which it stores, and neither the queues nor whether the
-- machine is halted.
use Rattle.std.proofs.Common.{◌≡◌, ℕ, ◌%◌, ◌==◌, Bool, true, false, if◌then◌else◌, List, Option, Some, None, Result, Ok, Err, refl, sym, ap, subst}
use Rattle.std.specs.Prelude.{IfSome}
use Rattle.object_store.specs.Object.{ObjectName}
use Rattle.schedules.specs.Queues.{hart_of, dispatched_by}
use Rattle.rv32_decode.specs.declared.insn.Insn.{Insn}
use Rattle.rv32_decode.specs.Table.{insn_at}
use Rattle.rv32_user.specs.declared.effect.Effect.{Effect}
use Rattle.rv32_user.specs.declared.effect.Effect.TheVariants.{Next, Load, Store, Syscall, Break, Misaligned}
use Rattle.rv32_user.specs.Step.{effect_of}
use Rattle.walk_meaning.specs.declared.kind.Kind.TheVariants.{Fetch, Load as Get, Store as Put}
use Rattle.walk_meaning.specs.declared.place.WalkFault.{WalkFault}
use Rattle.walk_engine.specs.declared.hit.Hit.{Hit}
use Rattle.machine_state.specs.declared.event.Event.{Event}
use Rattle.machine_state.specs.declared.event.Event.TheVariants.{Step, Tick}
use Rattle.machine_state.specs.State.{State, process, pc_of}
use Rattle.machine_state.specs.Setters.{set_queues, dispatch}
use Rattle.machine_state.specs.Outcome.{done, touched}
use Rattle.machine_state.specs.DataAccess.{data_access, data_touch, number_at}
use Rattle.messages.specs.Fault.{misaligned}
use Rattle.kernel_core.specs.LoadStore.{loaded_from, load, stored_to, store}
use Rattle.kernel_core.specs.Instruction.{performed, perform}
use Rattle.kernel_core.specs.Event.{decoded_to, fetched_from, instruction, stepped, event_by, event_of}
use Rattle.event_reach.specs.declared.plain.PlainInsn.{PlainInsn}
use Rattle.event_reach.specs.Plain.{plain_loaded, plain_load, plain_stored, plain_store, plain_effect, plain_word, plain_fetched, plain_instruction, plain_on, plain_by, plain_of, stored_names, plain_names, ChangesAlone}

-- ---- within the instruction

-- a part of a plain instruction of process `p` that names no process: it names the page of the store, and leaves the queues
-- and whether the machine is halted
record NamesPage (p : ℕ) (s t : State) (changed : List ObjectName) (i : PlainInsn) : Type 0 where
  process : i.process ≡ p
  page : changed ≡ stored_names i.page
  queues : t.queues ≡ s.queues
  halted : t.halted ≡ s.halted

-- a load
load_alone : (s : State) (p at size : ℕ) (signed : Bool) (rd : ℕ) → IfSome (plain_load s p at size) (λ i. NamesPage p s (load s p at size signed rd).state (load s p at size signed rd).changed i)
unfolding plain_load load
load_alone s p at size signed rd = by (at % size == 0) (data_access s p at Get)
  where
    by : (aligned : Bool) (reached : Result Hit WalkFault) → IfSome (if aligned then plain_loaded p reached else None) (λ i. NamesPage p s (if aligned then touched (data_touch s p at Get) (loaded_from s p at size signed rd reached) else misaligned s p at).state
        (if aligned then touched (data_touch s p at Get) (loaded_from s p at size signed rd reached) else misaligned s p at).changed i)
    by true (Ok hit) = record { process = refl; page = refl; queues = refl; halted = refl }
    by true (Err fault) = tt
    by false reached = tt

-- a store
store_alone : (s : State) (p at size value : ℕ) → IfSome (plain_store s p at size) (λ i. NamesPage p s (store s p at size value).state (store s p at size value).changed i)
unfolding plain_store store
store_alone s p at size value = by (at % size == 0) (data_access s p at Put)
  where
    by : (aligned : Bool) (reached : Result Hit WalkFault) → IfSome (if aligned then plain_stored p reached else None) (λ i. NamesPage p s (if aligned then touched (data_touch s p at Put) (stored_to s p at size value reached) else misaligned s p at).state
        (if aligned then touched (data_touch s p at Put) (stored_to s p at size value reached) else misaligned s p at).changed i)
    by true (Ok hit) = record { process = refl; page = refl; queues = refl; halted = refl }
    by true (Err fault) = tt
    by false reached = tt

-- an instruction by its effect
performed_alone : (s : State) (p : ℕ) (insn : Insn) (effect : Effect) → IfSome (plain_effect s p effect) (λ i. NamesPage p s (performed s p insn effect).state (performed s p insn effect).changed i)
performed_alone s p insn (Next pc) = record { process = refl; page = refl; queues = refl; halted = refl }
performed_alone s p insn (Load at size signed rd) = load_alone s p at size signed rd
performed_alone s p insn (Store at size value) = store_alone s p at size value
performed_alone s p insn Syscall = tt
performed_alone s p insn Break = tt
performed_alone s p insn (Misaligned target) = tt

-- the word that was fetched
word_alone : (s : State) (p : ℕ) (word : Option Insn) → IfSome (plain_word s p word) (λ i. NamesPage p s (decoded_to s p word).state (decoded_to s p word).changed i)
unfolding perform
word_alone s p None = tt
word_alone s p (Some insn) = performed_alone s p insn (effect_of (process s p).regs (pc_of s p) insn)

-- the fetch
fetch_alone : (s : State) (p : ℕ) (reached : Result Hit WalkFault) → IfSome (plain_fetched s p reached) (λ i. NamesPage p s (fetched_from s p reached).state (fetched_from s p reached).changed i)
fetch_alone s p (Err fault) = tt
fetch_alone s p (Ok hit) = word_alone s p (insn_at (number_at s hit 4))

-- ---- the event

-- what follows of each follows of the one there is
each_some : {P Q : PlainInsn → Type 0} (o : Option PlainInsn) → ((i : PlainInsn) → P i → Q i) → IfSome o P → IfSome o Q
each_some None follows some = tt
each_some (Some i) follows some = follows i some

-- the process that performs it is named in front
instruction_alone : (s : State) (p : ℕ) → IfSome (plain_instruction s p) (λ i. ChangesAlone s (instruction s p) (plain_names i))
unfolding plain_instruction instruction
instruction_alone s p =
    let reached : Result Hit WalkFault = data_access s p (pc_of s p) Fetch in
    each_some (plain_fetched s p reached)
    (λ i part. record {
      changed = rw (part.process, part.page) refl;
      queues = part.queues;
      halted = part.halted;
    })
    (fetch_alone s p reached)

-- a hart with a process takes no other
step_alone : (s : State) (hart : ℕ) → IfSome (plain_on s (hart_of s.queues hart)) (λ i. ChangesAlone s (event_by s (Step hart)) (plain_names i))
unfolding event_by
step_alone s hart = by (hart_of s.queues hart) refl
  where
    by : (on : Option ℕ) → hart_of s.queues hart ≡ on → IfSome (plain_on s on) (λ i. ChangesAlone s (stepped (dispatch s hart) (hart_of (dispatch s hart).queues hart)) (plain_names i))
    by None is = tt
    by (Some p) is =
        let same : dispatch s hart ≡ s = ap (λ (on : Option ℕ). set_queues s (dispatched_by s.queues hart on)) is in
        let Alone : State → Option ℕ → Type 0 = λ t on. IfSome (plain_instruction s p) (λ i. ChangesAlone s (stepped t on) (plain_names i)) in
        subst (λ (t : State). Alone t (hart_of t.queues hart)) (sym same) (subst (λ (on : Option ℕ). Alone s on) (sym is) (instruction_alone s p))

-- an event that performs a plain instruction changes its process and the page of its store alone
pub plain_alone : (s : State) (e : Event) → IfSome (plain_of s e) (λ i. ChangesAlone s (event_of s e) (plain_names i))
plain_alone s e = by s.halted e
  where
    by : (halted : Bool) (e : Event) → IfSome (if halted then None else plain_by s e) (λ i. ChangesAlone s (if halted then done s else event_by s e) (plain_names i))
    by true e = tt
    by false (Step hart) = step_alone s hart
    by false (Tick hart) = tt
