-- What a process of one side makes of a state by one change, one access or one message stays on its side, but for who is told.
use Rattle.std.proofs.Common.{◌≡◌, ℕ, ◌⊎◌, inl, inr, true, false, List, [], ◌∷◌, length, get_or, take, drop, Option, Some, Result, Ok, Err, sym, ◌∙◌, ap, subst}
use Rattle.cap_format.specs.declared.fault.FaultCode.{FaultCode}
use Rattle.cap_format.specs.declared.kind.CapKind.{CapKind}
use Rattle.cap_format.specs.declared.kind.CapKind.TheVariants.{Page, CapPage, Process}
use Rattle.cap_format.specs.Restr.{has}
use Rattle.cap_format.specs.Capability.{Capability, null}
use Rattle.page_store.specs.Page.{with_bytes}
use Rattle.page_store.specs.CapPage.{cap_at, with_cap}
use Rattle.process_objects.specs.Accept.{AcceptValue}
use Rattle.process_objects.specs.Process.{capreg_of, with_pc, with_regs, with_capreg}
use Rattle.object_store.specs.Store.{page_at, cappage_at}
use Rattle.walk_meaning.specs.declared.kind.Kind.{Kind}
use Rattle.walk_meaning.specs.declared.kind.Kind.TheVariants.{Fetch, Load, Store as Put, CapLoad, CapStore}
use Rattle.walk_meaning.specs.declared.place.Place.{Place}
use Rattle.walk_meaning.specs.declared.place.WalkFault.{WalkFault}
use Rattle.walk_meaning.specs.Walk.{access}
use Rattle.walk_engine.specs.declared.hit.Hit.{Hit}
use Rattle.walk_engine.specs.Answer.{hit_of}
use Rattle.invocation.specs.declared.message.Message.{Message}
use Rattle.string_move.specs.declared.piece.Piece.{Piece}
use Rattle.string_move.specs.Move.{with_piece, gathered, scattered, copied, size_of_pieces}
use Rattle.operations.specs.System.{System, Meant, with_store}
use Rattle.operations.specs.Change.{Change}
use Rattle.schedules.specs.Queues.{dispatched, hart_of}
use Rattle.rv32_user.specs.Word.{next_of}
use Rattle.machine_state.specs.State.{State, process, pc_of, space_of, schedule_slot}
use Rattle.machine_state.specs.Setters.{set_store, set_pc, set_registers, set_capreg, advance, leave, ready, dispatch, ticked}
use Rattle.machine_state.specs.Faulting.{fault_state}
use Rattle.machine_state.specs.Messaging.{told_state, waiting_state, listening_state}
use Rattle.machine_state.specs.DataAccess.{bytes_of, written}
use Rattle.machine_state.specs.CapAccess.{cap_found, cap_stored, slot_in}
use Rattle.machine_state.specs.Operation.{changed_by}
use Rattle.confinement.specs.declared.cut_side.CutSide.{CutSide}
use Rattle.confinement.specs.Cut.{Cut, side_of, MayHold, HoldsFor}
use Rattle.confinement.specs.Acts.{others_in, Filled, Acts, ProcessHeld, AllPermitted, MayHoldIf, Hears, MayAwait, system_of}
use Rattle.confinement.specs.Reach.{ReadsWeakly, Reaches, Ends}
use Rattle.confinement.proofs.Own.{AllMayHold}
use Rattle.confinement.proofs.Held.{may-read}
use Rattle.confinement.proofs.Placing.{places-dispatched}
use Rattle.confinement.proofs.Sleeping.{each_set, sleepers-dispatched, asleep-same}
use Rattle.confinement.proofs.Acting.{acts-same, moves-then, acts-then, acts-process, acts-page, moves-page, acts-cappage, acts-left, acts-readied, acts-queues, held-process}
use Rattle.confinement.proofs.Walks.{access_ends}
use Rattle.confinement.proofs.Delivering.{held-capreg, acts-told, acts-waiting, acts-listening, acts-fault}
use Rattle.confinement.proofs.Operating.{acts-applied_all}

module _ (cut : Cut) (side : CutSide) where
  -- one change of a state after another
  pub acts-next : (s t u : State) → Acts cut side (system_of s) (system_of t) → (HoldsFor cut side (system_of t) → Acts cut side (system_of t) (system_of u)) → Acts cut side (system_of s) (system_of u)
  acts-next s t u first second = acts-then cut side (system_of s) (system_of t) (system_of u) first second

  module _ (p : ℕ) (own : side_of cut Process p ≡ side) where
    -- ---- the process

    held-here : (s : State) → HoldsFor cut side (system_of s) → ProcessHeld cut side (process s p)
    held-here s holds = held-process cut side (system_of s) p own holds

    -- its space
    pub may-space : (s : State) → HoldsFor cut side (system_of s) → MayHold cut side (space_of s p)
    may-space s holds = let held = held-here s holds in held.slots 0

    -- its capability registers
    pub may-capreg : (s : State) (i : ℕ) → HoldsFor cut side (system_of s) → MayHold cut side (capreg_of (process s p) i)
    may-capreg s i holds = let held = held-here s holds in held.capregs i

    pub acts-set_pc : (s : State) (pc : ℕ) → HoldsFor cut side (system_of s) → Acts cut side (system_of s) (system_of (set_pc s p pc))
    acts-set_pc s pc holds = let held = held-here s holds in
        acts-process cut side (system_of s) p (with_pc (process s p) pc) own (record { capregs = held.capregs; slots = held.slots }) holds

    pub acts-advance : (s : State) → HoldsFor cut side (system_of s) → Acts cut side (system_of s) (system_of (advance s p))
    acts-advance s holds = acts-set_pc s (next_of (pc_of s p)) holds

    pub acts-set_registers : (s : State) (registers : List ℕ) → HoldsFor cut side (system_of s) → Acts cut side (system_of s) (system_of (set_registers s p registers))
    acts-set_registers s registers holds = let held = held-here s holds in
        acts-process cut side (system_of s) p (with_regs (process s p) registers) own (record { capregs = held.capregs; slots = held.slots }) holds

    pub acts-set_capreg : (s : State) (i : ℕ) (c : Capability) → MayHold cut side c → HoldsFor cut side (system_of s) → Acts cut side (system_of s) (system_of (set_capreg s p i c))
    acts-set_capreg s i c may holds =
        acts-process cut side (system_of s) p (with_capreg (process s p) i c) own (held-capreg cut side (process s p) i c may (held-here s holds)) holds

    -- ---- its place

    pub acts-leave : (s : State) → HoldsFor cut side (system_of s) → Acts cut side (system_of s) (system_of (leave s p))
    acts-leave s holds = acts-left cut side (system_of s) p own holds

    pub acts-ready : (s : State) → HoldsFor cut side (system_of s) → Acts cut side (system_of s) (system_of (ready s p))
    acts-ready s holds = acts-readied cut side (system_of s) (schedule_slot s p) p own holds

    -- a tick
    pub acts-ticked : (s : State) → HoldsFor cut side (system_of s) → Acts cut side (system_of s) (system_of (ticked s (Some p)))
    acts-ticked s holds = acts-next s (leave s p) (ready (leave s p) p) (acts-leave s holds) (λ h. acts-ready (leave s p) h)

    -- ---- faults, messages, changes

    pub acts-fault_state : (s : State) (code : FaultCode) (address : ℕ) (handler : Option Capability) → MayHoldIf cut side handler → HoldsFor cut side (system_of s)
        → Acts cut side (system_of s) (system_of (fault_state s p code address handler))
    unfolding fault_state
    acts-fault_state s code address handler may holds = acts-fault cut side Meant (system_of s) p code address handler own may holds

    pub acts-waiting_state : (s : State) (q : ℕ) → MayAwait cut side q → HoldsFor cut side (system_of s) → Acts cut side (system_of s) (system_of (waiting_state s p q))
    unfolding waiting_state
    acts-waiting_state s q on holds = acts-waiting cut side (system_of s) p q own on holds

    pub acts-listening_state : (s : State) (accept : AcceptValue) → HoldsFor cut side (system_of s) → Acts cut side (system_of s) (system_of (listening_state s p accept))
    unfolding listening_state
    acts-listening_state s accept holds = acts-listening cut side Meant (system_of s) p accept own holds

    -- ---- accesses

    -- where its accesses end
    pub ends-here : (s : State) (kind : Kind) (address : ℕ) → HoldsFor cut side (system_of s) → Ends cut side kind (access s.store.items (space_of s p) address kind)
    ends-here s kind address holds = access_ends cut side s.store.items holds.each.slots kind (space_of s p) address (may-space s holds)

  -- a message to one who takes it in state `b`, from which this side came to state `s`
  pub acts-told_state : (b s : State) (e q : ℕ) (message : Message) → Hears cut side b.store e q → (HoldsFor cut side (system_of s) → AllMayHold cut side message.caps) → HoldsFor cut side (system_of b)
      → Acts cut side (system_of b) (system_of s) → Acts cut side (system_of b) (system_of (told_state s e q message))
  unfolding told_state
  acts-told_state b s e q message hears all holds first = acts-told cut side Meant (system_of b) (system_of s) e q message hears all holds first

  pub acts-changed_by : (s : State) (changes : List Change) → AllPermitted cut side changes → HoldsFor cut side (system_of s) → Acts cut side (system_of s) (system_of (changed_by s changes))
  acts-changed_by s changes all holds = acts-applied_all cut side Meant (system_of s) changes all holds

  -- a place that is written is of this side
  writes-own : (p : Place) → has p.restr.0 1 ≡ false → (side_of cut p.kind p.number ≡ side) ⊎ ReadsWeakly cut side p → side_of cut p.kind p.number ≡ side
  writes-own p allowed (inl own) = own
  writes-own p allowed (inr weak) = let e = sym allowed ∙ weak.1 in absurd (cc (e))

  -- where a store ends
  abbrev pub EndsHit : Kind → Result Hit WalkFault → Type 0
  EndsHit kind (Ok hit) = kind ≡ Put → side_of cut Page hit.page ≡ side
  EndsHit kind (Err f) = MayHoldIf cut side f.handler

  hit-own : (kind : Kind) (p : Place) → Reaches cut side kind p → kind ≡ Put → side_of cut Page p.number ≡ side
  hit-own Put p r e = subst (λ (k : CapKind). side_of cut k p.number ≡ side) r.serves (writes-own p r.allowed r.own)
  hit-own Fetch p r e = absurd (cc (e))
  hit-own Load p r e = absurd (cc (e))
  hit-own CapLoad p r e = absurd (cc (e))
  hit-own CapStore p r e = absurd (cc (e))

  pub ends-hit : (kind : Kind) (r : Result Place WalkFault) → Ends cut side kind r → EndsHit kind (hit_of r)
  ends-hit kind (Ok p) ends = hit-own kind p ends
  ends-hit kind (Err f) ends = ends

  -- a page is written
  pub acts-written : (s : State) (hit : Hit) (size value : ℕ) → side_of cut Page hit.page ≡ side → HoldsFor cut side (system_of s) → Acts cut side (system_of s) (system_of (written s hit size value))
  acts-written s hit size value own holds = acts-page cut side (system_of s) hit.page (with_bytes (page_at s.store hit.page) hit.offset (bytes_of size value)) own holds

  -- a capability is loaded
  pub may-found : (s : State) (p : Place) → Reaches cut side CapLoad p → HoldsFor cut side (system_of s) → MayHold cut side (cap_found s p)
  may-found s p r holds =
      may-read cut side (side_of cut CapPage p.number) p.restr.0 (cap_at (cappage_at s.store p.number) (slot_in p)) (holds.each.cappages p.number (slot_in p)) (by r.own)
    where
      by : (side_of cut p.kind p.number ≡ side) ⊎ ReadsWeakly cut side p → (side_of cut CapPage p.number ≡ side) ⊎ ((cut.weakly side ≡ true) × (has p.restr.0 4 ≡ true))
      by (inl own) = inl (subst (λ (k : CapKind). side_of cut k p.number ≡ side) r.serves own)
      by (inr weak) = inr (weak.0, weak.2 r.serves)

  -- a capability is stored
  pub acts-cap_stored : (s : State) (p : Place) (c : Capability) → Reaches cut side CapStore p → MayHold cut side c → HoldsFor cut side (system_of s) → Acts cut side (system_of s) (system_of (cap_stored s p c))
  acts-cap_stored s p c r may holds =
      let own = subst (λ (k : CapKind). side_of cut k p.number ≡ side) r.serves (writes-own p r.allowed r.own) in
      acts-cappage cut side (system_of s) p.number (with_cap (cappage_at s.store p.number) (slot_in p) c) own
      (each_set (λ j (c : Capability). MayHold cut side c) (cappage_at s.store p.number) (slot_in p) c null may (λ j. holds.each.cappages p.number j own)) holds

  -- ---- strings

  -- pieces of pages of this side
  abbrev pub PiecesOwn : List Piece → Type 0
  PiecesOwn [] = Unit {0}
  PiecesOwn (piece ∷ pieces) = (side_of cut Page piece.page ≡ side) × PiecesOwn pieces

  -- and pieces of pages of this side, or where one who is told takes a string
  abbrev pub PiecesReached : System → List Piece → Type 0
  PiecesReached base [] = Unit {0}
  PiecesReached base (piece ∷ pieces) = ((side_of cut Page piece.page ≡ side) ⊎ Filled cut side base piece.page) × PiecesReached base pieces

  pub own-reached : (base : System) (pieces : List Piece) → PiecesOwn pieces → PiecesReached base pieces
  own-reached base [] own = tt
  own-reached base (piece ∷ pieces) own = (inl own.0, own-reached base pieces own.1)

  acts-scattered : (base w : System) (pieces : List Piece) (bytes : List ℕ) → PiecesReached base pieces → Acts cut side base w → Acts cut side base (with_store w (scattered w.store pieces bytes))
  unfolding scattered
  acts-scattered base w [] bytes reached first = first
  acts-scattered base w (piece ∷ pieces) bytes reached first =
      let v = with_store w (with_piece w.store piece (take piece.len bytes)) in
      let page = with_bytes (page_at w.store piece.page) piece.at (take piece.len bytes) in
      acts-scattered base v pieces (drop piece.len bytes) reached.1 (elim reached.0 [
        | inl own ↦ acts-then cut side base w v first (λ h. acts-page cut side w piece.page page own h)
        | inr filled ↦ moves-then cut side base base w v first (λ h. moves-page cut side base w piece.page page filled h)
      ])

  -- bytes are moved to such pieces
  pub acts-copied : (s : State) (from to : List Piece) → PiecesReached (system_of s) to → HoldsFor cut side (system_of s) → Acts cut side (system_of s) (system_of (set_store s (copied s.store from to)))
  unfolding copied
  acts-copied s from to reached holds =
      acts-scattered (system_of s) (system_of s) to (take (size_of_pieces to) (gathered s.store from)) reached (acts-same cut side (system_of s) holds)

-- a hart takes a process of this side: nobody sleeps elsewhere, and the others stand where they stood
pub acts-dispatch : (cut : Cut) (side : CutSide) (s : State) (hart p : ℕ) → side_of cut Process p ≡ side → hart_of (dispatch s hart).queues hart ≡ Some p → HoldsFor cut side (system_of s)
    → Acts cut side (system_of s) (system_of (dispatch s hart))
acts-dispatch cut side s hart p own performs holds =
    let same = sleepers-dispatched s.queues hart in
    acts-queues cut side (system_of s) (dispatched s.queues hart) (λ on x there. inl (asleep-same s.queues (dispatched s.queues hart) same on x there))
    (λ on other. ap (λ (xs : List (List ℕ)). others_in cut side (get_or xs on [])) (sym same)) (places-dispatched cut side s.queues hart p own performs) (ap (λ (xs : List (List ℕ)). length xs) (sym same)) holds
