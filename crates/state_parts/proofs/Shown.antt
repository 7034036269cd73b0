-- What records show was performed, and it changed no more than its process and the page of its store.
use Rattle.std.proofs.Common.{◌≡◌, ℕ, ◌<◌, ◌≤◌, ◌⊎◌, inl, inr, ◌%◌, ◌==◌, Bool, true, false, if◌then◌else◌, List, [], ◌∷◌, Option, Some, None, Result, Ok, Err, refl, sym, ap, ◌∙◌, subst, slice_get, length, arith}
use Rattle.std.specs.Prelude.{IfSome, MatchOption}
use Rattle.std.proofs.lemmas.List.{length-map}
use Rattle.cap_format.specs.declared.kind.CapKind.{CapKind}
use Rattle.cap_format.specs.declared.kind.CapKind.TheVariants.{Process}
use Rattle.cap_format.specs.declared.fault.FaultCode.{FaultCode}
use Rattle.object_store.specs.Store.{Store as Objects, size_of, sizes_of}
use Rattle.object_store.specs.Object.{ObjectName, IsAmong}
use Rattle.object_store.specs.Saved.{AreThere}
use Rattle.object_store.proofs.Same.{size_in_store}
use Rattle.object_store.proofs.Restored.{size_of_same}
use Rattle.rv32_decode.specs.declared.insn.Insn.{Insn}
use Rattle.rv32_decode.specs.Table.{insn_at}
use Rattle.rv32_user.specs.declared.effect.Effect.{Effect}
use Rattle.rv32_user.specs.declared.effect.Effect.TheVariants.{Next, Load, Store, Syscall, Break, Misaligned}
use Rattle.rv32_user.specs.Step.{effect_of}
use Rattle.walk_meaning.specs.declared.kind.Kind.TheVariants.{Fetch, Load as Get, Store as Put}
use Rattle.walk_meaning.specs.declared.place.WalkFault.{WalkFault}
use Rattle.walk_engine.specs.declared.hit.Hit.{Hit}
use Rattle.fault_path.specs.declared.outcome.Outcome.{Outcome as Became}
use Rattle.fault_path.specs.declared.outcome.Outcome.TheVariants.{Delivered, MustWait, Unheard}
use Rattle.machine_state.specs.declared.event.Event.{Event}
use Rattle.machine_state.specs.declared.event.Event.TheVariants.{Step, Tick}
use Rattle.machine_state.specs.declared.record.Record.{Record}
use Rattle.machine_state.specs.declared.taking.Name.{Name}
use Rattle.machine_state.specs.Taking.{name_of, names_of}
use Rattle.machine_state.specs.State.{State, process, pc_of}
use Rattle.machine_state.specs.Setters.{dispatch}
use Rattle.machine_state.specs.Outcome.{Outcome, process_name, done, touched}
use Rattle.machine_state.specs.DataAccess.{data_access, data_touch, number_at}
use Rattle.messages.specs.Fault.{fault, misaligned, fault_records}
use Rattle.kernel_core.specs.LoadStore.{loaded_from, load, stored_to, store}
use Rattle.kernel_core.specs.Instruction.{performed, perform}
use Rattle.kernel_core.specs.Event.{decoded_to, fetched_from, instruction, stepped, tick_of, performer_by, performer, event_by, event_of}
use Rattle.event_reach.specs.declared.plain.PlainInsn.{PlainInsn}
use Rattle.event_reach.specs.Plain.{stored_names}
use Rattle.state_parts.specs.Keys.{AreAll}
use Rattle.state_parts.specs.Looking.{HasAll}
use Rattle.state_parts.specs.Marking.{AddsThere, HasThere}
use Rattle.state_parts.specs.Shown.{shown_load, shown_store, shown_effect, shown_insn, shown_plain, begun, IsShown}
use Rattle.state_parts.proofs.Marked.{has_then, has_both}
use Rattle.state_parts.proofs.Boards.{among_index, among_there}

-- a part of an instruction of process `p` that names no process: it names the page of the store, and leaves the queues and
-- whether the machine is halted
record NamesPage (p : ℕ) (s t : State) (changed : List ObjectName) (i : PlainInsn) : Type 0 where
  process : i.process ≡ p
  page : changed ≡ stored_names i.page
  queues : t.queues ≡ s.queues
  halted : t.halted ≡ s.halted

-- ---- a fault tells of no access and of no instruction

no_load : (P : PlainInsn → Type 0) (p q : ℕ) (code : FaultCode) (at : ℕ) (became : Became) → IfSome (shown_load p (slice_get (fault_records q code at became) 0)) P
no_load P p q code at (Delivered r) = tt
no_load P p q code at Unheard = tt
no_load P p q code at (MustWait r) = tt

no_store : (P : PlainInsn → Type 0) (p q : ℕ) (code : FaultCode) (at : ℕ) (became : Became) → IfSome (shown_store p (slice_get (fault_records q code at became) 0)) P
no_store P p q code at (Delivered r) = tt
no_store P p q code at Unheard = tt
no_store P p q code at (MustWait r) = tt

no_insn : (P : PlainInsn → Type 0) (p q : ℕ) (regs : List ℕ) (pc : ℕ) (next : Option Record) (code : FaultCode) (at : ℕ) (became : Became) → IfSome (shown_insn p regs pc next (slice_get (fault_records q code at became) 0)) P
no_insn P p q regs pc next code at (Delivered r) = tt
no_insn P p q regs pc next code at Unheard = tt
no_insn P p q regs pc next code at (MustWait r) = tt

no_second : (P : PlainInsn → Type 0) (p q : ℕ) (regs : List ℕ) (pc : ℕ) (code : FaultCode) (at : ℕ) (became : Became) → IfSome (shown_insn p regs pc (slice_get (fault_records q code at became) 2) (slice_get (fault_records q code at became) 1)) P
no_second P p q regs pc code at (Delivered r) = tt
no_second P p q regs pc code at Unheard = tt
no_second P p q regs pc code at (MustWait r) = tt

-- ---- within the instruction

-- a load
load_shown : (s : State) (p at size : ℕ) (signed : Bool) (rd : ℕ) → IfSome (shown_load p (slice_get (load s p at size signed rd).records 0)) (NamesPage p s (load s p at size signed rd).state (load s p at size signed rd).changed)
unfolding load fault
load_shown s p at size signed rd = by (at % size == 0) (data_access s p at Get)
  where
    outcome : Bool → Result Hit WalkFault → Outcome
    outcome aligned reached = if aligned then touched (data_touch s p at Get) (loaded_from s p at size signed rd reached) else misaligned s p at

    by : (aligned : Bool) (reached : Result Hit WalkFault) → IfSome (shown_load p (slice_get (outcome aligned reached).records 0)) (NamesPage p s (outcome aligned reached).state (outcome aligned reached).changed)
    by true (Ok hit) = record { process = refl; page = refl; queues = refl; halted = refl }
    by true (Err why) = no_load _ p p _ _ _
    by false reached = no_load _ p p _ _ _

-- a store
store_shown : (s : State) (p at size value : ℕ) → IfSome (shown_store p (slice_get (store s p at size value).records 0)) (NamesPage p s (store s p at size value).state (store s p at size value).changed)
unfolding store fault
store_shown s p at size value = by (at % size == 0) (data_access s p at Put)
  where
    outcome : Bool → Result Hit WalkFault → Outcome
    outcome aligned reached = if aligned then touched (data_touch s p at Put) (stored_to s p at size value reached) else misaligned s p at

    by : (aligned : Bool) (reached : Result Hit WalkFault) → IfSome (shown_store p (slice_get (outcome aligned reached).records 0)) (NamesPage p s (outcome aligned reached).state (outcome aligned reached).changed)
    by true (Ok hit) = record { process = refl; page = refl; queues = refl; halted = refl }
    by true (Err why) = no_store _ p p _ _ _
    by false reached = no_store _ p p _ _ _

-- an instruction by its effect
performed_shown : (s : State) (p : ℕ) (insn : Insn) (effect : Effect) → IfSome (shown_effect p (slice_get (performed s p insn effect).records 0) effect) (NamesPage p s (performed s p insn effect).state (performed s p insn effect).changed)
performed_shown s p insn (Next pc) = record { process = refl; page = refl; queues = refl; halted = refl }
performed_shown s p insn (Load at size signed rd) = load_shown s p at size signed rd
performed_shown s p insn (Store at size value) = store_shown s p at size value
performed_shown s p insn Syscall = tt
performed_shown s p insn Break = tt
performed_shown s p insn (Misaligned target) = tt

-- the word that was fetched
word_shown : (s : State) (p : ℕ) (word : Option Insn) → IfSome (shown_insn p (process s p).regs (pc_of s p) (slice_get (decoded_to s p word).records 1) (slice_get (decoded_to s p word).records 0)) (NamesPage p s (decoded_to s p word).state (decoded_to s p word).changed)
unfolding perform fault
word_shown s p None = no_insn _ p p _ _ _ _ _ _
word_shown s p (Some insn) = performed_shown s p insn (effect_of (process s p).regs (pc_of s p) insn)

-- the fetch
fetch_shown : (s : State) (p : ℕ) (reached : Result Hit WalkFault) → IfSome (shown_plain p (process s p).regs (pc_of s p) (fetched_from s p reached).records) (NamesPage p s (fetched_from s p reached).state (fetched_from s p reached).changed)
unfolding shown_plain fault
fetch_shown s p (Err why) = no_second _ p p _ _ _ _ _
fetch_shown s p (Ok hit) = word_shown s p (insn_at (number_at s hit 4))

-- ---- the event

-- what follows of each follows of the one there is
each_some : {P Q : PlainInsn → Type 0} (o : Option PlainInsn) → ((i : PlainInsn) → P i → Q i) → IfSome o P → IfSome o Q
each_some None follows some = tt
each_some (Some i) follows some = follows i some

-- the process that performs it is named in front
instruction_shown : (s : State) (p : ℕ) → IfSome (shown_plain p (process s p).regs (pc_of s p) (instruction s p).records) (IsShown p s (instruction s p))
unfolding instruction
instruction_shown s p =
    let reached : Result Hit WalkFault = data_access s p (pc_of s p) Fetch in
    each_some (shown_plain p (process s p).regs (pc_of s p) (fetched_from s p reached).records)
    (λ i part. record {
      process = part.process;
      alone = record {
        changed = rw (part.process, part.page) refl;
        queues = part.queues;
        halted = part.halted;
      };
    })
    (fetch_shown s p reached)

-- an event of a machine that is not halted: a tick tells nothing
event_by_shown : (s : State) (e : Event) (p : ℕ) → performer_by s e ≡ Some p → IfSome (shown_plain p (process s p).regs (pc_of s p) (event_by s e).records) (IsShown p (begun s e) (event_by s e))
unfolding event_by shown_plain
event_by_shown s (Step hart) p is =
    let t = dispatch s hart in
    let Shown : Option ℕ → Type 0 = λ on. IfSome (shown_plain p (process t p).regs (pc_of t p) (stepped t on).records) (IsShown p t (stepped t on)) in
    subst Shown (sym is) (instruction_shown t p)
event_by_shown s (Tick hart) p is =
    let Shown : Option ℕ → Type 0 = λ on. IfSome (shown_plain p (process s p).regs (pc_of s p) (tick_of s on).records) (IsShown p s (tick_of s on)) in
    subst Shown (sym is) tt

-- what the records of an event show was performed by its process
pub event_shown : (s : State) (e : Event) (p : ℕ) → performer s e ≡ Some p → IfSome (shown_plain p (process s p).regs (pc_of s p) (event_of s e).records) (IsShown p (begun s e) (event_of s e))
event_shown s e p = by s.halted
  where
    by : (halted : Bool) → (if halted then None else performer_by s e) ≡ Some p → IfSome (shown_plain p (process s p).regs (pc_of s p) (if halted then done s else event_by s e).records) (IsShown p (begun s e) (if halted then done s else event_by s e))
    by true is = cc
    by false is = event_by_shown s e p is

-- ---- what is marked of it

-- what it changes is marked, or all is
pub has_shown : (s : Objects) (t : State) (o : Outcome) (p : ℕ) (names before after : List ObjectName) (plain : Option PlainInsn) → AreAll (sizes_of s) names → HasThere s (process_name p ∷ []) before → AddsThere s before after
    → MatchOption plain (HasAll names after) (λ i. HasThere s (stored_names i.page) after) → IfSome plain (IsShown p t o) → HasThere s o.changed after
has_shown s t o p names before after None all has adds marked shown = record { each = λ kind n among there. marked.each kind n (all.all kind n (subst (λ (k : ℕ). n < k) (sym (size_in_store s kind)) there)) }
has_shown s t o p names before after (Some i) all has adds marked shown = subst Has (sym changed) (has_both s (process_name p ∷ []) (stored_names i.page) after (has_then s (process_name p ∷ []) before after adds has) marked)
  where
    Has : List ObjectName → Type 0
    Has xs = HasThere s xs after

    changed : o.changed ≡ process_name p ∷ stored_names i.page
    changed = shown.alone.changed ∙ ap (λ (n : ℕ). process_name n ∷ stored_names i.page) shown.process

-- in a store of as many objects
pub has_sizes : (s t : Objects) (names marked : List ObjectName) → sizes_of t ≡ sizes_of s → HasThere t names marked → HasThere s names marked
has_sizes s t names marked sizes has = record { each = λ kind n among there. has.each kind n among (subst (λ (k : ℕ). n < k) (sym (size_of_same t s sizes kind)) there) }

-- so with what is marked of what is shown
pub marked_sizes : (s t : Objects) (names marked : List ObjectName) (plain : Option PlainInsn) → sizes_of t ≡ sizes_of s → MatchOption plain (HasAll names marked) (λ i. HasThere t (stored_names i.page) marked) → MatchOption plain (HasAll names marked) (λ i. HasThere s (stored_names i.page) marked)
marked_sizes s t names marked None sizes has = has
marked_sizes s t names marked (Some i) sizes has = has_sizes s t (stored_names i.page) marked sizes has

-- and so with what is added
pub adds_sizes : (s t : Objects) (old new : List ObjectName) → sizes_of t ≡ sizes_of s → AddsThere t old new → AddsThere s old new
adds_sizes s t old new sizes adds = record { before = adds.before; there = λ kind n among. by kind n (adds.there kind n among); once = adds.once }
  where
    by : (kind : CapKind) (n : ℕ) → IsAmong kind n old ⊎ (n < size_of t.items kind) → IsAmong kind n old ⊎ (n < size_of s.items kind)
    by kind n (inl before) = inl before
    by kind n (inr there) = inr (subst (λ (k : ℕ). n < k) (size_of_same t s sizes kind) there)

-- all names are of objects that are there, and so was what is marked already
pub adds_all : (s : Objects) (names old : List ObjectName) → AreAll (sizes_of s) names → AreThere s old → AddsThere s old names
adds_all s names old all known = record {
  before = λ kind n among. all.all kind n (subst (λ (k : ℕ). n < k) (sym (size_in_store s kind)) (among_there s old kind n known among));
  there = λ kind n among. inr (subst (λ (k : ℕ). n < k) (size_in_store s kind) (all.there kind n among));
  once = λ has. all.once;
}

-- where a process is, some object is named
pub some_named : (s : Objects) (p : ℕ) (names : List Name) → AreAll (sizes_of s) (names_of names) → p < size_of s.items Process → 1 ≤ length names
some_named s p names all there =
    let found = among_index (names_of names) Process p (all.all Process p (subst (λ (k : ℕ). p < k) (sym (size_in_store s Process)) there)) in
    let within : found.0 < length (names_of names) = found.1 in
    let size : length (names_of names) ≡ length names = length-map names name_of in
    omega (arith, within, size)
