-- What a process of the right makes of two states side by side, by one change or one access.
use Rattle.std.proofs.Common.{◌≡◌, ℕ, List, [], ◌∷◌, ◌++◌, take, drop, Option, Some, refl, sym, ◌∙◌, ap, ap₂, subst}
use Rattle.cap_format.specs.declared.fault.FaultCode.{FaultCode}
use Rattle.cap_format.specs.declared.kind.CapKind.{CapKind}
use Rattle.cap_format.specs.declared.kind.CapKind.TheVariants.{Page, CapPage, Endpoint, Process}
use Rattle.cap_format.specs.Capability.{Capability, null}
use Rattle.page_store.specs.Page.{bytes_at, with_bytes}
use Rattle.page_store.specs.CapPage.{cap_at, with_cap}
use Rattle.process_objects.specs.Accept.{AcceptValue}
use Rattle.process_objects.specs.Process.{ProcessValue, slot_of, with_pc, with_regs, with_capreg}
use Rattle.object_store.specs.Store.{Store, cappage_at}
use Rattle.walk_meaning.specs.declared.kind.Kind.{Kind}
use Rattle.walk_meaning.specs.declared.place.Place.{Place}
use Rattle.walk_meaning.specs.Laws.{serving}
use Rattle.walk_meaning.specs.Walk.{access}
use Rattle.walk_engine.specs.declared.hit.Hit.{Hit}
use Rattle.walk_engine.specs.Answer.{hit_of}
use Rattle.invocation.specs.declared.message.Message.{Message}
use Rattle.string_move.specs.declared.piece.Piece.{Piece}
use Rattle.string_move.specs.Move.{with_piece, gathered, scattered, copied, size_of_pieces}
use Rattle.operations.specs.System.{System, with_store}
use Rattle.operations.specs.Weak.{read_through}
use Rattle.operations.specs.Change.{Change}
use Rattle.rv32_user.specs.Word.{next_of}
use Rattle.machine_state.specs.State.{State, process, pc_of, space_of, schedule_slot}
use Rattle.machine_state.specs.Setters.{set_store, set_process, set_pc, set_registers, set_capreg, advance, leave, ready, ticked}
use Rattle.machine_state.specs.Faulting.{fault_state}
use Rattle.machine_state.specs.Messaging.{told_state, waiting_state, listening_state}
use Rattle.machine_state.specs.DataAccess.{number_of, bytes_of, data_access, number_at, written}
use Rattle.machine_state.specs.CapAccess.{cap_access, cap_found, cap_stored, slot_in}
use Rattle.machine_state.specs.Operation.{changed_by}
use Rattle.confinement.specs.declared.cut_side.CutSide.TheVariants.{Right}
use Rattle.confinement.specs.Cut.{Cut, side_of, MayHold}
use Rattle.confinement.specs.Acts.{ProcessHeld, MayHoldIf, system_of}
use Rattle.confinement.specs.Reach.{Ends}
use Rattle.confinement.proofs.Own.{AllMayHold}
use Rattle.confinement.proofs.Sleeping.{each_set}
use Rattle.confinement.proofs.Delivering.{held-capreg}
use Rattle.confinement.proofs.Walks.{access_ends}
use Rattle.confinement.proofs.Machine.{PiecesOwn}
use Rattle.confinement.proofs.Isolating.States.{EndsOwn, HitOwn, hit-own, ends-own}
use Rattle.independence.proofs.Overlay.{Overlay}
use Rattle.independence.proofs.Beside.{Beside, same-process, same-page, same-cappage, held-process, beside-process, beside-page, beside-cappage, beside-left, beside-readied, same-schedule}
use Rattle.independence.proofs.Answering.{Run}
use Rattle.independence.proofs.Delivering.{beside-told, beside-waiting, beside-listening, beside-fault}
use Rattle.independence.proofs.Operating.{AllOfRight, beside-applied_all}

-- two states side by side: their systems are, and both are halted or neither
pub record Both (cut : Cut) (f : Overlay cut) (start : System) (s t : State) : Type 0 where
  pub systems : Beside cut f start (system_of s) (system_of t)
  pub halted : t.halted ≡ s.halted

module _ (cut : Cut) (f : Overlay cut) (start : System) where
  abbrev Two : State → State → Type 0
  Two s t = Both cut f start s t

  module _ (s t : State) (b : Two s t) where
    abbrev w : System
    w = system_of s

    abbrev v : System
    v = system_of t

    -- ---- what is read

    -- the number at a place of the right
    pub same-number_at : (hit : Hit) (size : ℕ) → side_of cut Page hit.page ≡ Right → number_at s hit size ≡ number_at t hit size
    same-number_at hit size own = ap (λ (page : List ℕ). number_of (bytes_at page hit.offset size)) (same-page cut f start w v b.systems hit.page own)

    -- the capability at a place
    pub same-found : (place : Place) → cap_found s place ≡ cap_found t place
    same-found place = ap (λ (page : List Capability). read_through place.restr.0 (cap_at page (slot_in place))) (same-cappage cut f start w v b.systems place.number)

    -- the bytes of pieces of pages of the right
    pub same-gathered : (pieces : List Piece) → PiecesOwn cut Right pieces → gathered s.store pieces ≡ gathered t.store pieces
    unfolding gathered
    same-gathered [] own = refl
    same-gathered (piece ∷ pieces) own =
        ap₂ (λ (page rest : List ℕ). bytes_at page piece.at piece.len ++ rest)
        (same-page cut f start w v b.systems piece.page own.0) (same-gathered pieces own.1)

    -- ---- what is written

    -- a page of the right
    pub both-written : (hit : Hit) (size value : ℕ) → side_of cut Page hit.page ≡ Right → Two (written s hit size value) (written t hit size value)
    both-written hit size value own = record {
      systems = beside-page cut f start w v b.systems hit.page _ _
          (ap (λ (page : List ℕ). with_bytes page hit.offset (bytes_of size value)) (same-page cut f start w v b.systems hit.page own)) own;
      halted = b.halted;
    }

    -- a slot of a capability page of the right
    pub both-cap_stored : (place : Place) (c : Capability) → side_of cut CapPage place.number ≡ Right → MayHold cut Right c
        → Two (cap_stored s place c) (cap_stored t place c)
    both-cap_stored place c own may = let beside = b.systems in let apart = beside.apart in record {
      systems = beside-cappage cut f start w v b.systems place.number _ _
          (ap (λ (page : List Capability). with_cap page (slot_in place) c) (same-cappage cut f start w v b.systems place.number)) own
          (each_set (λ (j : ℕ) (c : Capability). MayHold cut Right c) (cappage_at s.store place.number) (slot_in place) c null may (λ j. apart.cappages place.number j));
      halted = b.halted;
    }

    -- a message is told
    pub both-told_state : (e q : ℕ) (message : Message) → side_of cut Endpoint e ≡ Right → side_of cut Process q ≡ Right → AllMayHold cut Right message.caps
        → Two (told_state s e q message) (told_state t e q message)
    unfolding told_state
    both-told_state e q message endpoint process all = record { systems = beside-told cut f start w v b.systems e q message endpoint process all; halted = b.halted }

    -- changes are done
    pub both-changed_by : (changes : List Change) → AllOfRight cut changes → Two (changed_by s changes) (changed_by t changes)
    both-changed_by changes all = record { systems = beside-applied_all cut f start w v b.systems changes all; halted = b.halted }

  -- ---- strings

  beside-scattered : (w v : System) → Beside cut f start w v → (pieces : List Piece) (bytes : List ℕ) → PiecesOwn cut Right pieces
      → Beside cut f start (with_store w (scattered w.store pieces bytes)) (with_store v (scattered v.store pieces bytes))
  unfolding scattered
  beside-scattered w v b [] bytes own = b
  beside-scattered w v b (piece ∷ pieces) bytes own =
      let x = with_store w (with_piece w.store piece (take piece.len bytes)) in
      let y = with_store v (with_piece v.store piece (take piece.len bytes)) in
      beside-scattered x y
      (beside-page cut f start w v b piece.page _ _ (ap (λ (page : List ℕ). with_bytes page piece.at (take piece.len bytes)) (same-page cut f start w v b piece.page own.0)) own.0)
      pieces (drop piece.len bytes) own.1

  -- bytes are moved from pages of the right to pages of the right
  pub both-copied : (s t : State) → Two s t → (from to : List Piece) → PiecesOwn cut Right from → PiecesOwn cut Right to
      → Two (set_store s (copied s.store from to)) (set_store t (copied t.store from to))
  unfolding copied
  both-copied s t b from to read written = record {
    systems = subst (λ (bytes : List ℕ). Beside cut f start (system_of (set_store s (copied s.store from to))) (system_of (set_store t (scattered t.store to (take (size_of_pieces to) bytes))))) (same-gathered s t b from read)
        (beside-scattered (system_of s) (system_of t) b.systems to (take (size_of_pieces to) (gathered s.store from)) written);
    halted = b.halted;
  }

  -- ---- the process

  module _ (p : ℕ) (own : side_of cut Process p ≡ Right) (s t : State) (b : Two s t) where
    -- it is the same
    pub same-here : process s p ≡ process t p
    same-here = same-process cut f start (system_of s) (system_of t) b.systems p own

    -- it holds what the right may hold
    pub held-here : ProcessHeld cut Right (process s p)
    held-here = held-process cut f start (system_of s) (system_of t) b.systems p own

    both-process : (x y : ProcessValue) → x ≡ y → ProcessHeld cut Right x → Two (set_process s p x) (set_process t p y)
    both-process x y e held = record { systems = beside-process cut f start (system_of s) (system_of t) b.systems p x y e own held; halted = b.halted }

    -- ---- its registers

    -- another pc
    pub both-set_pc : (pc qc : ℕ) → pc ≡ qc → Two (set_pc s p pc) (set_pc t p qc)
    both-set_pc pc qc e =
        both-process (with_pc (process s p) pc) (with_pc (process t p) qc) (ap₂ (λ (q : ProcessValue) (n : ℕ). with_pc q n) same-here e)
        (record { capregs = held-here.capregs; slots = held-here.slots })

    -- it goes on after its instruction
    pub both-advance : Two (advance s p) (advance t p)
    both-advance = both-set_pc (next_of (pc_of s p)) (next_of (pc_of t p)) (ap (λ (q : ProcessValue). next_of q.pc) same-here)

    -- other registers
    pub both-set_registers : (regs others : List ℕ) → regs ≡ others → Two (set_registers s p regs) (set_registers t p others)
    both-set_registers regs others e =
        both-process (with_regs (process s p) regs) (with_regs (process t p) others) (ap₂ (λ (q : ProcessValue) (rs : List ℕ). with_regs q rs) same-here e)
        (record { capregs = held-here.capregs; slots = held-here.slots })

    -- another capability in a register
    pub both-set_capreg : (i : ℕ) (c : Capability) → MayHold cut Right c → Two (set_capreg s p i c) (set_capreg t p i c)
    both-set_capreg i c may =
        both-process (with_capreg (process s p) i c) (with_capreg (process t p) i c) (ap (λ (q : ProcessValue). with_capreg q i c) same-here)
        (held-capreg cut Right (process s p) i c may held-here)

    -- another value made of it
    pub both-made : (g : ProcessValue → ProcessValue) → ProcessHeld cut Right (g (process s p)) → Two (set_process s p (g (process s p))) (set_process t p (g (process t p)))
    both-made g held = both-process (g (process s p)) (g (process t p)) (ap g same-here) held

    -- ---- its place

    -- it leaves its place
    pub both-leave : Two (leave s p) (leave t p)
    both-leave = record { systems = beside-left cut f start (system_of s) (system_of t) b.systems p own; halted = b.halted }

    -- it is made ready
    pub both-ready : Two (ready s p) (ready t p)
    both-ready = record {
      systems = beside-readied cut f start (system_of s) (system_of t) b.systems (schedule_slot s p) (schedule_slot t p)
          (same-schedule cut f start (system_of s) (system_of t) b.systems p own) p own;
      halted = b.halted;
    }

    -- ---- faults, waits and receiving

    -- it faults, with a handler that the right may hold
    pub both-fault_state : Run cut start.store → (code : FaultCode) (address : ℕ) (handler : Option Capability) → MayHoldIf cut Right handler
        → Two (fault_state s p code address handler) (fault_state t p code address handler)
    unfolding fault_state
    both-fault_state run code address handler may =
        record { systems = beside-fault cut f start run (system_of s) (system_of t) b.systems p code address handler own may; halted = b.halted }

    -- it waits for a process
    pub both-waiting_state : (q : ℕ) → Two (waiting_state s p q) (waiting_state t p q)
    unfolding waiting_state
    both-waiting_state q = record { systems = beside-waiting cut f start (system_of s) (system_of t) b.systems p q own; halted = b.halted }

    -- it receives
    pub both-listening_state : (accept : AcceptValue) → Two (listening_state s p accept) (listening_state t p accept)
    unfolding listening_state
    both-listening_state accept = record { systems = beside-listening cut f start (system_of s) (system_of t) b.systems p accept own; halted = b.halted }

    -- ---- its accesses

    -- they come to the same
    pub same-cap_access : (address : ℕ) (kind : Kind) → cap_access s p address kind ≡ cap_access t p address kind
    same-cap_access address kind = let beside = b.systems in
        ap (λ (q : ProcessValue). access s.store.items (slot_of q 0) address kind) same-here ∙ ap (λ (o : Store). access o.items (space_of t p) address kind) (sym beside.store)

    -- as do those of data
    pub same-data_access : (address : ℕ) (kind : Kind) → data_access s p address kind ≡ data_access t p address kind
    same-data_access address kind = ap hit_of (same-cap_access address kind)

    ends-here : (address : ℕ) (kind : Kind) → Ends cut Right kind (cap_access s p address kind)
    ends-here address kind = let beside = b.systems in let apart = beside.apart in
        access_ends cut Right s.store.items apart.slots kind (space_of s p) address (held-here.slots 0)

    -- they end on the right
    pub place-here : (address : ℕ) (kind : Kind) → EndsOwn cut Right (serving kind) (cap_access s p address kind)
    place-here address kind = let beside = b.systems in let apart = beside.apart in
        ends-own cut Right apart.strictly kind (cap_access s p address kind) (ends-here address kind)

    -- as those of data do
    pub hit-here : (address : ℕ) (kind : Kind) → serving kind ≡ Page → HitOwn cut Right (data_access s p address kind)
    hit-here address kind e =
        hit-own cut Right (cap_access s p address kind)
        (subst (λ (k : CapKind). EndsOwn cut Right k (cap_access s p address kind)) e (place-here address kind))

  module _ (p : ℕ) (own : side_of cut Process p ≡ Right) (s t : State) (b : Two s t) where
    -- a tick
    pub both-ticked : Two (ticked s (Some p)) (ticked t (Some p))
    both-ticked = both-ready p own (leave s p) (leave t p) (both-leave p own s t b)
