-- A quiet step: what it does is a list of rewrites, the same in each state that has the same on the left.
use Rattle.std.proofs.Common.{◌≡◌, ◌≢◌, ℕ, ◌<◌, ◌%◌, inl, inr, Bool, false, if◌then◌else◌, List, [], ◌∷◌, length, get_or, Option, Some, None, Result, Ok, Err, refl, sym, ◌∙◌, ap, ap₂, subst, subst₂}
use Rattle.std.proofs.lemmas.Bool.{cases_lt, eq-eqb}
use Rattle.std.proofs.lemmas.List.{get_or-set_same, get_or_past}
use Rattle.cap_format.specs.declared.fault.FaultCode.TheVariants.{BadAlign}
use Rattle.cap_format.specs.declared.kind.CapKind.TheVariants.{Page, Gpt, Process}
use Rattle.cap_format.specs.Capability.{Capability}
use Rattle.page_store.specs.Page.{bytes_at, with_bytes}
use Rattle.process_objects.specs.declared.state.State.TheVariants.{Running}
use Rattle.process_objects.specs.Process.{ProcessValue, slot_of, with_pc, with_regs, empty_process}
use Rattle.object_store.specs.Store.{gpt_at, page_at}
use Rattle.walk_meaning.specs.declared.kind.Kind.{Kind}
use Rattle.walk_meaning.specs.declared.kind.Kind.TheVariants.{Fetch, Load as LoadKind, Store as StoreKind}
use Rattle.walk_meaning.specs.declared.place.Place.{Place}
use Rattle.walk_meaning.specs.declared.place.WalkFault.{WalkFault}
use Rattle.walk_meaning.specs.Trail.{trail}
use Rattle.walk_meaning.specs.Walk.{start_at, access}
use Rattle.walk_engine.specs.declared.hit.Hit.{Hit}
use Rattle.walk_engine.specs.Answer.{hit_of}
use Rattle.rv32_decode.specs.declared.insn.Insn.{Insn}
use Rattle.rv32_decode.specs.Table.{insn_at}
use Rattle.rv32_user.specs.declared.effect.Effect.{Effect}
use Rattle.rv32_user.specs.declared.effect.Effect.TheVariants.{Next, Load, Store as StoreOf, Syscall, Break, Misaligned}
use Rattle.rv32_user.specs.Step.{effect_of, registers_after, loaded}
use Rattle.rv32_user.specs.Word.{next_of}
use Rattle.schedules.specs.Queues.{hart_of, dispatched_by}
use Rattle.machine_state.specs.declared.event.Event.TheVariants.{Step}
use Rattle.machine_state.specs.declared.record.Record.{Record}
use Rattle.machine_state.specs.declared.record.Record.TheVariants.{Insn as InsnRead}
use Rattle.machine_state.specs.State.{State, process, pc_of, space_of}
use Rattle.machine_state.specs.Setters.{set_process, set_page, set_queues, set_pc, set_registers, advance, dispatch}
use Rattle.machine_state.specs.Outcome.{Outcome, done, touched}
use Rattle.messages.specs.Fault.{fault}
use Rattle.machine_state.specs.DataAccess.{number_of, bytes_of, data_access, data_touch, reached, number_at, written}
use Rattle.kernel_core.specs.LoadStore.{load, loaded_from, store, stored_to}
use Rattle.kernel_core.specs.Instruction.{perform, performed}
use Rattle.kernel_core.specs.Event.{decoded_to, fetched_from, instruction, stepped, event_by, event_of}
use Rattle.confinement.specs.declared.cut_side.CutSide.{CutSide}
use Rattle.confinement.specs.declared.cut_side.CutSide.TheVariants.{Left, Right}
use Rattle.confinement.specs.Cut.{Cut, side_of}
use Rattle.confinement.specs.Acts.{Spares}
use Rattle.independence.specs.Seclusion.{Secluded}
use Rattle.independence.specs.Rewrite.{Rewrite, ProcessIs, PageIs, ArePrivate, rewritten_all, SameButRegisters, SameButData}
use Rattle.independence.specs.Settled.{AreSettled, SameSettled}
use Rattle.independence.specs.Quiet.{MayRead, StaysLeft, AccessesLeft, IsQuietEffect, IsQuietInstruction, IsQuietBy}
use Rattle.independence.specs.Laws.{Does, QuietAlike, QuietLaw}
use Rattle.independence.proofs.Walking.{ReadsLeft, walk-follows}
use Rattle.independence.proofs.Shape.{shape-then, shape-process, shape-page, spares-rewritten_all}

-- ---- the step of a hart that has a process

-- is its instruction
step-is : (s : State) (hart p : ℕ) → s.halted ≡ false → hart_of s.queues hart ≡ Some p → event_of s (Step hart) ≡ instruction s p
unfolding event_by
step-is s hart p runs on =
    let dispatch_is : dispatch s hart ≡ s = ap (λ (h : Option ℕ). set_queues s (dispatched_by s.queues hart h)) on in
    ap (λ (b : Bool). if b then done s else event_by s (Step hart)) runs
    ∙ (ap (λ (t : State). stepped t (hart_of t.queues hart)) dispatch_is ∙ ap (stepped s) on)

-- ---- one process

-- a process that runs is one of the machine's
there : (xs : List ProcessValue) (p : ℕ) → (get_or xs p empty_process).state ≡ Running → p < length xs
there xs p runs = elim (cases_lt p (length xs)) [
  | inl within ↦ within
  | inr past ↦ let no = ap (λ (q : ProcessValue). q.state) (sym (get_or_past xs p empty_process past)) ∙ runs in absurd (cc (no))
]

-- the process that was written is there
process-set : (s : State) (p : ℕ) (x : ProcessValue) → (process s p).state ≡ Running → process (set_process s p x) p ≡ x
process-set s p x runs = get_or-set_same s.store.contents.processes p x empty_process (there s.store.contents.processes p runs)

-- other registers and another pc
pub registers-then : (s : State) (p : ℕ) (v : ProcessValue) → process s p ≡ v → v.state ≡ Running → (registers : List ℕ) (pc : ProcessValue → ℕ)
    → set_pc (set_registers s p registers) p (pc (process (set_registers s p registers) p))
    ≡ rewritten_all s (ProcessIs p (with_regs v registers) ∷ ProcessIs p (with_pc (with_regs v registers) (pc (with_regs v registers))) ∷ [])
registers-then s p v is runs registers pc =
    let x = with_regs v registers in
    let first : set_registers s p registers ≡ set_process s p x = ap (λ (q : ProcessValue). set_process s p (with_regs q registers)) is in
    let value : process (set_process s p x) p ≡ x = process-set s p x (ap (λ (q : ProcessValue). q.state) is ∙ runs) in
    ap (λ (t : State). set_pc t p (pc (process t p))) first ∙ ap (λ (q : ProcessValue). set_process (set_process s p x) p (with_pc q (pc q))) value

-- a page written, and another pc
pub page-then : (s : State) (p : ℕ) (v : ProcessValue) → process s p ≡ v → (hit : Hit) (page : List ℕ) → page_at s.store hit.page ≡ page → (size value : ℕ)
    → advance (written s hit size value) p
    ≡ rewritten_all s (PageIs hit.page (with_bytes page hit.offset (bytes_of size value)) ∷ ProcessIs p (with_pc v (next_of v.pc)) ∷ [])
page-then s p v is hit page page_is size value =
    ap₂ (λ (q : ProcessValue) (x : List ℕ). set_process (set_page s hit.page (with_bytes x hit.offset (bytes_of size value))) p (with_pc q (next_of q.pc))) is page_is

-- ---- two states with the same on the left

module _ (cut : Cut) (settled : ℕ → Bool) (p : ℕ) (s t : State) (here : process s p ≡ process t p) (gpts : (g : ℕ) → side_of cut Gpt g ≡ Left → gpt_at s.store.items g ≡ gpt_at t.store.items g)
    (pages : (n : ℕ) → MayRead cut settled n → page_at s.store n ≡ page_at t.store n) where
  place-ok : (r : Result Place WalkFault) (hit : Hit) → hit_of r ≡ Ok hit → (place : Place) × (r ≡ Ok place)
  place-ok (Ok place) hit e = (place, refl)
  place-ok (Err f) hit e = absurd (cc (e))

  -- an access that stays on the left is the same
  stays : (address : ℕ) (kind : Kind) (hit : Hit) → StaysLeft cut settled s p address kind hit → StaysLeft cut settled t p address kind hit
  stays address kind hit is =
      let space : space_of s p ≡ space_of t p = ap (λ (q : ProcessValue). slot_of q 0) here in
      let ends = place-ok (access s.store.items (space_of s p) address kind) hit is.reaches in
      let same = walk-follows cut settled s.store.items t.store.items gpts kind address 32 (space_of s p) (start_at address) tt is.way ends.0 ends.1 in
      record {
        reaches = ap (λ (c : Capability). hit_of (access t.store.items c address kind)) (sym space) ∙ (ap hit_of same.walked ∙ is.reaches);
        page = is.page;
        way = subst (ReadsLeft cut settled) (sym (ap (λ (c : Capability). trail t.store.items c address kind) (sym space) ∙ same.read)) is.way;
      }

  accesses : (address size : ℕ) (kind : Kind) → AccessesLeft cut settled s p address size kind → AccessesLeft cut settled t p address size kind
  accesses address size kind is = record { aligned = is.aligned; hit = is.hit; stays = stays address kind is.hit is.stays }

  quiet-effect : (effect : Effect) → IsQuietEffect cut settled s p effect → IsQuietEffect cut settled t p effect
  quiet-effect (Next pc) is = tt
  quiet-effect (Load at size signed rd) is = accesses at size LoadKind is
  quiet-effect (StoreOf at size value) is = accesses at size StoreKind is
  quiet-effect Syscall is = is
  quiet-effect Break is = is
  quiet-effect (Misaligned target) is = is

  same-number : (hit : Hit) (size : ℕ) → MayRead cut settled hit.page → number_at s hit size ≡ number_at t hit size
  same-number hit size left = ap (λ (page : List ℕ). number_of (bytes_at page hit.offset size)) (pages hit.page left)

  same-effect : (insn : Insn) → effect_of (process s p).regs (pc_of s p) insn ≡ effect_of (process t p).regs (pc_of t p) insn
  same-effect insn = ap (λ (q : ProcessValue). effect_of q.regs q.pc insn) here

  -- a quiet instruction is quiet
  quiet-instruction : IsQuietInstruction cut settled s p → IsQuietInstruction cut settled t p
  quiet-instruction is = let fetch = is.fetch in record {
    hit = is.hit;
    fetch = subst (λ (pc : ℕ). StaysLeft cut settled t p pc Fetch is.hit) (ap (λ (q : ProcessValue). q.pc) here) (stays (pc_of s p) Fetch is.hit is.fetch);
    insn = is.insn;
    decoded = ap insn_at (sym (same-number is.hit 4 fetch.page)) ∙ is.decoded;
    effect = subst (IsQuietEffect cut settled t p) (same-effect is.insn) (quiet-effect (effect_of (process s p).regs (pc_of s p) is.insn) is.effect);
  }

-- ---- what a quiet instruction does

module _ (cut : Cut) (settled : ℕ → Bool) (p : ℕ) (v : ProcessValue) (runs : v.state ≡ Running) (insn : Insn) where
  -- the registers that it computes, and going on
  abbrev goes : List ℕ → (ProcessValue → ℕ) → List Rewrite
  goes registers pc = ProcessIs p (with_regs v registers) ∷ ProcessIs p (with_pc (with_regs v registers) (pc (with_regs v registers))) ∷ []

  -- what is rewritten by its effect
  abbrev rewrites_in : (t : State) (effect : Effect) → IsQuietEffect cut settled t p effect → List Rewrite
  rewrites_in t (Next pc) is = goes (registers_after v.regs v.pc insn) (λ q. pc)
  rewrites_in t (Load at size signed rd) is = goes (loaded v.regs rd size signed (number_at t is.hit size)) (λ q. next_of q.pc)
  rewrites_in t (StoreOf at size value) is = let hit = is.hit in
      PageIs hit.page (with_bytes (page_at t.store hit.page) hit.offset (bytes_of size value)) ∷ ProcessIs p (with_pc v (next_of v.pc)) ∷ []
  rewrites_in t _ is = []

  -- and what is told
  abbrev records_in : (t : State) (effect : Effect) → IsQuietEffect cut settled t p effect → List Record
  records_in t (Load at size signed rd) is = reached p LoadKind at is.hit ∷ []
  records_in t (StoreOf at size value) is = reached p StoreKind at is.hit ∷ []
  records_in t _ is = []

  -- an outcome that rewrites and tells this
  record Makes (t : State) (o : Outcome) (rewrites : List Rewrite) (records : List Record) : Type 0 where
    state : o.state ≡ rewritten_all t rewrites
    told : o.records ≡ records

  module _ (t : State) (here : process t p ≡ v) where
    load-made : (at size : ℕ) (signed : Bool) (rd : ℕ) (is : AccessesLeft cut settled t p at size LoadKind)
        → Makes t (load t p at size signed rd) (goes (loaded v.regs rd size signed (number_at t is.hit size)) (λ q. next_of q.pc)) (reached p LoadKind at is.hit ∷ [])
    unfolding load
    load-made at size signed rd is = let stays = is.stays in
        let even = eq-eqb (at % size) 0 is.aligned in
        let number = number_at t is.hit size in
        record {
          state = ap (λ (b : Bool). (if b then touched (data_touch t p at LoadKind) (loaded_from t p at size signed rd (data_access t p at LoadKind)) else fault t p BadAlign at None).state) even
              ∙ (ap (λ (r : Result Hit WalkFault). (loaded_from t p at size signed rd r).state) stays.reaches
              ∙ (ap (λ (q : ProcessValue). advance (set_registers t p (loaded q.regs rd size signed number)) p) here
              ∙ registers-then t p v here runs (loaded v.regs rd size signed number) (λ q. next_of q.pc)));
          told = ap (λ (b : Bool). (if b then touched (data_touch t p at LoadKind) (loaded_from t p at size signed rd (data_access t p at LoadKind)) else fault t p BadAlign at None).records) even
              ∙ ap (λ (r : Result Hit WalkFault). (loaded_from t p at size signed rd r).records) stays.reaches;
        }

    store-made : (at size value : ℕ) (is : AccessesLeft cut settled t p at size StoreKind)
        → Makes t (store t p at size value) (rewrites_in t (StoreOf at size value) is) (reached p StoreKind at is.hit ∷ [])
    unfolding store
    store-made at size value is = let stays = is.stays in let hit = is.hit in
        let even = eq-eqb (at % size) 0 is.aligned in
        record {
          state = ap (λ (b : Bool). (if b then touched (data_touch t p at StoreKind) (stored_to t p at size value (data_access t p at StoreKind)) else fault t p BadAlign at None).state) even
              ∙ (ap (λ (r : Result Hit WalkFault). (stored_to t p at size value r).state) stays.reaches
              ∙ page-then t p v here hit (page_at t.store hit.page) refl size value);
          told = ap (λ (b : Bool). (if b then touched (data_touch t p at StoreKind) (stored_to t p at size value (data_access t p at StoreKind)) else fault t p BadAlign at None).records) even
              ∙ ap (λ (r : Result Hit WalkFault). (stored_to t p at size value r).records) stays.reaches;
        }

    performed-made : (effect : Effect) (is : IsQuietEffect cut settled t p effect) → Makes t (performed t p insn effect) (rewrites_in t effect is) (records_in t effect is)
    performed-made (Next pc) is = record {
      state = ap (λ (q : ProcessValue). set_pc (set_registers t p (registers_after q.regs q.pc insn)) p pc) here ∙ registers-then t p v here runs (registers_after v.regs v.pc insn) (λ q. pc);
      told = refl;
    }
    performed-made (Load at size signed rd) is = load-made at size signed rd is
    performed-made (StoreOf at size value) is = store-made at size value is
    performed-made Syscall is = absurd is
    performed-made Break is = absurd is
    performed-made (Misaligned target) is = absurd is

    -- the whole instruction
    instruction-made : (hit : Hit) → data_access t p v.pc Fetch ≡ Ok hit → insn_at (number_at t hit 4) ≡ Some insn → (is : IsQuietEffect cut settled t p (effect_of v.regs v.pc insn))
        → Makes t (instruction t p) (rewrites_in t (effect_of v.regs v.pc insn) is) (reached p Fetch v.pc hit ∷ InsnRead p v.pc insn ∷ records_in t (effect_of v.regs v.pc insn) is)
    unfolding instruction perform
    instruction-made hit reaches decoded is =
        let made = performed-made (effect_of v.regs v.pc insn) is in
        record {
          state = ap (λ (q : ProcessValue). (fetched_from t p (data_access t p q.pc Fetch)).state) here
              ∙ (ap (λ (r : Result Hit WalkFault). (fetched_from t p r).state) reaches
              ∙ (ap (λ (i : Option Insn). (decoded_to t p i).state) decoded
              ∙ (ap (λ (q : ProcessValue). (performed t p insn (effect_of q.regs q.pc insn)).state) here ∙ made.state)));
          told = ap (λ (q : ProcessValue). (fetched_from t p (data_access t p q.pc Fetch)).records) here
              ∙ (ap (λ (r : Result Hit WalkFault). (fetched_from t p r).records) reaches
              ∙ (ap (λ (i : Option Insn). reached p Fetch (pc_of t p) hit ∷ (decoded_to t p i).records) decoded
              ∙ (ap (λ (q : ProcessValue). reached p Fetch q.pc hit ∷ InsnRead p q.pc insn ∷ (performed t p insn (effect_of q.regs q.pc insn)).records) here
              ∙ ap (λ (rs : List Record). reached p Fetch v.pc hit ∷ InsnRead p v.pc insn ∷ rs) made.told)));
        }

  -- all that it rewrites is on the left
  rewrites-private : side_of cut Process p ≡ Left → (t : State) (effect : Effect) (is : IsQuietEffect cut settled t p effect) → ArePrivate cut (rewrites_in t effect is)
  rewrites-private left t (Next pc) is = ((left, runs), ((left, runs), tt))
  rewrites-private left t (Load at size signed rd) is = ((left, runs), ((left, runs), tt))
  rewrites-private left t (StoreOf at size value) is = let stays = is.stays in (stays.page, ((left, runs), tt))
  rewrites-private left t Syscall is = tt
  rewrites-private left t Break is = tt
  rewrites-private left t (Misaligned target) is = tt

-- ---- the law

module _ (cut : Cut) (settled : ℕ → Bool) (p : ℕ) (v : ProcessValue) (runs : v.state ≡ Running) (insn : Insn) where
  -- what is rewritten keeps capabilities and states
  goes-shape : (t : State) → process t p ≡ v → (registers : List ℕ) (pc : ProcessValue → ℕ) → SameButData t (rewritten_all t (goes cut settled p v runs insn registers pc))
  goes-shape t here registers pc =
      let x = with_regs v registers in
      let first : SameButRegisters (process t p) x = subst (λ (q : ProcessValue). SameButRegisters q x) (sym here) (record { capregs = refl; slots = refl; state = refl }) in
      let there = process-set t p x (ap (λ (q : ProcessValue). q.state) here ∙ runs) in
      shape-then t (set_process t p x) (set_process (set_process t p x) p (with_pc x (pc x))) (shape-process t p x first)
      (shape-process (set_process t p x) p (with_pc x (pc x)) (subst (λ (q : ProcessValue). SameButRegisters q (with_pc x (pc x))) (sym there) (record { capregs = refl; slots = refl; state = refl })))

  rewrites-shape : (s t : State) → process t p ≡ v → (effect : Effect) (is : IsQuietEffect cut settled s p effect) → SameButData t (rewritten_all t (rewrites_in cut settled p v runs insn s effect is))
  rewrites-shape s t here (Next pc) is = goes-shape t here (registers_after v.regs v.pc insn) (λ q. pc)
  rewrites-shape s t here (Load at size signed rd) is = goes-shape t here (loaded v.regs rd size signed (number_at s is.hit size)) (λ q. next_of q.pc)
  rewrites-shape s t here (StoreOf at size value) is =
      let hit = is.hit in
      let page = with_bytes (page_at s.store hit.page) hit.offset (bytes_of size value) in
      shape-then t (set_page t hit.page page) (set_process (set_page t hit.page page) p (with_pc v (next_of v.pc))) (shape-page t hit.page page)
      (shape-process (set_page t hit.page page) p (with_pc v (next_of v.pc)) (subst (λ (q : ProcessValue). SameButRegisters q (with_pc v (next_of v.pc))) (sym here) (record { capregs = refl; slots = refl; state = refl })))
  rewrites-shape s t here Syscall is = absurd is
  rewrites-shape s t here Break is = absurd is
  rewrites-shape s t here (Misaligned target) is = absurd is

module _ (cut : Cut) (settled : ℕ → Bool) (p : ℕ) (s t : State) (here : process s p ≡ process t p) (gpts : (g : ℕ) → side_of cut Gpt g ≡ Left → gpt_at s.store.items g ≡ gpt_at t.store.items g)
    (pages : (n : ℕ) → MayRead cut settled n → page_at s.store n ≡ page_at t.store n) (v : ProcessValue) (runs : v.state ≡ Running) (insn : Insn) where
  same-rewrites : (effect : Effect) (is : IsQuietEffect cut settled s p effect) → rewrites_in cut settled p v runs insn t effect (quiet-effect cut settled p s t here gpts pages effect is) ≡ rewrites_in cut settled p v runs insn s effect is
  unfolding quiet-effect accesses
  same-rewrites (Next pc) is = refl
  same-rewrites (Load at size signed rd) is = let stays = is.stays in
      ap (λ (number : ℕ). goes cut settled p v runs insn (loaded v.regs rd size signed number) (λ q. next_of q.pc)) (sym (same-number cut settled p s t here gpts pages is.hit size stays.page))
  same-rewrites (StoreOf at size value) is = let stays = is.stays in let hit = is.hit in
      ap (λ (page : List ℕ). PageIs hit.page (with_bytes page hit.offset (bytes_of size value)) ∷ ProcessIs p (with_pc v (next_of v.pc)) ∷ []) (sym (pages hit.page (inl stays.page)))
  same-rewrites Syscall is = refl
  same-rewrites Break is = refl
  same-rewrites (Misaligned target) is = refl

  same-records : (effect : Effect) (is : IsQuietEffect cut settled s p effect) → records_in cut settled p v runs insn t effect (quiet-effect cut settled p s t here gpts pages effect is) ≡ records_in cut settled p v runs insn s effect is
  unfolding quiet-effect accesses
  same-records (Next pc) is = refl
  same-records (Load at size signed rd) is = refl
  same-records (StoreOf at size value) is = refl
  same-records Syscall is = refl
  same-records Break is = refl
  same-records (Misaligned target) is = refl

module _ (cut : Cut) (settled : ℕ → Bool) (p : ℕ) (s : State) (hart : ℕ) (quiet : IsQuietBy cut settled p s hart) where
  is : IsQuietInstruction cut settled s p
  is = quiet.instruction

  fetch : StaysLeft cut settled s p (pc_of s p) Fetch is.hit
  fetch = is.fetch

  abbrev v : ProcessValue
  v = process s p

  runs : v.state ≡ Running
  runs = let secluded = quiet.secluded in secluded.running p quiet.own

  abbrev effect : Effect
  effect = effect_of v.regs v.pc is.insn

  -- what it rewrites, and what it tells
  abbrev rewrites : List Rewrite
  rewrites = rewrites_in cut settled p v runs is.insn s effect is.effect

  abbrev records : List Record
  records = reached p Fetch v.pc is.hit ∷ InsnRead p v.pc is.insn ∷ records_in cut settled p v runs is.insn s effect is.effect

  does-made : (t : State) → t.halted ≡ false → hart_of t.queues hart ≡ Some p → (rs : List Rewrite) (ns : List Record) → Makes cut settled p v runs is.insn t (instruction t p) rs ns
      → Does t hart rs ns
  does-made t unhalted on rs ns made = record {
    state = ap (λ (o : Outcome). o.state) (step-is t hart p unhalted on) ∙ made.state;
    told = ap (λ (o : Outcome). o.records) (step-is t hart p unhalted on) ∙ made.told;
  }

  does : Does s hart rewrites records
  does = does-made s quiet.runs quiet.on rewrites records (instruction-made cut settled p v runs is.insn s refl is.hit fetch.reaches is.decoded is.effect)

  module _ (t : State) (spares : Spares cut Right s.store t.store) where
    not-right : (side : CutSide) → side ≡ Left → side ≢ Right
    not-right side left right = let e : Left ≡ Right = sym left ∙ right in cc (e)

    here : process s p ≡ process t p
    here = let e = spares Process p (not-right (side_of cut Process p) quiet.own) in cc (e)

    gpts : (g : ℕ) → side_of cut Gpt g ≡ Left → gpt_at s.store.items g ≡ gpt_at t.store.items g
    gpts g left = let e = spares Gpt g (not-right (side_of cut Gpt g) left) in cc (e)

    pages : SameSettled settled s.store t.store → (n : ℕ) → MayRead cut settled n → page_at s.store n ≡ page_at t.store n
    pages bytes n (inl left) = let e = spares Page n (not-right (side_of cut Page n) left) in cc (e)
    pages bytes n (inr still) = bytes n still

  module _ (t : State) (unhalted : t.halted ≡ false) (secluded : Secluded cut t) (spares : Spares cut Right s.store t.store) (on : hart_of t.queues hart ≡ Some p)
      (still : AreSettled settled t.store) (bytes : SameSettled settled s.store t.store) where
    -- it does the same in another state
    does-there : Does t hart rewrites records
    does-there =
        let there = stays cut settled p s t (here t spares) (gpts t spares) (pages t spares bytes) v.pc Fetch is.hit is.fetch in
        let decoded = ap insn_at (sym (same-number cut settled p s t (here t spares) (gpts t spares) (pages t spares bytes) is.hit 4 fetch.page)) ∙ is.decoded in
        let made = instruction-made cut settled p v runs is.insn t (sym (here t spares)) is.hit there.reaches decoded (quiet-effect cut settled p s t (here t spares) (gpts t spares) (pages t spares bytes) effect is.effect) in
        subst₂ (λ (rs : List Rewrite) (ns : List Record). Does t hart rs (reached p Fetch v.pc is.hit ∷ InsnRead p v.pc is.insn ∷ ns))
        (same-rewrites cut settled p s t (here t spares) (gpts t spares) (pages t spares bytes) v runs is.insn effect is.effect) (same-records cut settled p s t (here t spares) (gpts t spares) (pages t spares bytes) v runs is.insn effect is.effect)
        (does-made t unhalted on _ _ made)

    alike : QuietAlike cut settled p t hart rewrites records
    alike = record {
      by = record {
        runs = unhalted;
        on = on;
        secluded = secluded;
        own = quiet.own;
        alone = quiet.alone;
        still = still;
        instruction = quiet-instruction cut settled p s t (here t spares) (gpts t spares) (pages t spares bytes) quiet.instruction;
      };
      does = does-there;
    }

-- a quiet step
pub quiet_law : QuietLaw
unfolding is runs
quiet_law cut settled p s hart quiet = record {
  rewrites = rewrites cut settled p s hart quiet;
  records = records cut settled p s hart quiet;
  own = let is = quiet.instruction in
      rewrites-private cut settled p (process s p) (runs cut settled p s hart quiet) is.insn quiet.own s (effect_of (process s p).regs (pc_of s p) is.insn) is.effect;
  does = does cut settled p s hart quiet;
  differs = λ t spares. let is = quiet.instruction in let effect = effect_of (process s p).regs (pc_of s p) is.insn in record {
    same = rewrites-shape cut settled p (process s p) (runs cut settled p s hart quiet) is.insn s t (sym (here cut settled p s hart quiet t spares)) effect is.effect;
    right = spares-rewritten_all cut t (rewrites cut settled p s hart quiet) (rewrites-private cut settled p (process s p) (runs cut settled p s hart quiet) is.insn quiet.own s effect is.effect);
  };
  alike = λ t unhalted secluded spares on still bytes. alike cut settled p s hart quiet t unhalted secluded spares on still bytes;
}
