-- What a process of this side makes of two states that match, by one change or one access.
use Rattle.std.proofs.Common.{◌≡◌, ℕ, inl, inr, false, List, [], ◌∷◌, ◌++◌, take, drop, Option, Some, Result, Ok, Err, refl, sym, ◌∙◌, ap, ap₂, subst}
use Rattle.cap_format.specs.declared.fault.FaultCode.{FaultCode}
use Rattle.cap_format.specs.declared.kind.CapKind.{CapKind}
use Rattle.cap_format.specs.declared.kind.CapKind.TheVariants.{Page, CapPage, Endpoint, Process}
use Rattle.cap_format.specs.Capability.{Capability, null}
use Rattle.page_store.specs.Page.{bytes_at, with_bytes}
use Rattle.page_store.specs.CapPage.{cap_at, with_cap}
use Rattle.process_objects.specs.Accept.{AcceptValue}
use Rattle.process_objects.specs.Process.{ProcessValue, slot_of, with_pc, with_regs, with_capreg}
use Rattle.object_store.specs.Store.{cappage_at}
use Rattle.walk_meaning.specs.declared.kind.Kind.{Kind}
use Rattle.walk_meaning.specs.declared.place.Place.{Place}
use Rattle.walk_meaning.specs.declared.place.WalkFault.{WalkFault}
use Rattle.walk_meaning.specs.Laws.{serving}
use Rattle.walk_meaning.specs.Walk.{access}
use Rattle.walk_engine.specs.declared.hit.Hit.{Hit}
use Rattle.walk_engine.specs.Answer.{hit_of}
use Rattle.invocation.specs.declared.message.Message.{Message}
use Rattle.string_move.specs.declared.piece.Piece.{Piece}
use Rattle.string_move.specs.Move.{with_piece, gathered, scattered, copied, size_of_pieces}
use Rattle.operations.specs.System.{System, with_store}
use Rattle.operations.specs.Weak.{read_through}
use Rattle.operations.specs.Change.{Change}
use Rattle.schedules.specs.Queues.{dispatched}
use Rattle.rv32_user.specs.Word.{next_of}
use Rattle.machine_state.specs.State.{State, process, pc_of, space_of, schedule_slot}
use Rattle.machine_state.specs.Setters.{set_store, set_pc, set_registers, set_capreg, advance, leave, ready, dispatch, ticked}
use Rattle.machine_state.specs.Faulting.{fault_state}
use Rattle.machine_state.specs.Messaging.{told_state, waiting_state, listening_state}
use Rattle.machine_state.specs.DataAccess.{number_of, bytes_of, data_access, number_at, written}
use Rattle.machine_state.specs.CapAccess.{cap_access, cap_found, cap_stored, slot_in}
use Rattle.machine_state.specs.Operation.{changed_by}
use Rattle.confinement.specs.declared.cut_side.CutSide.{CutSide}
use Rattle.confinement.specs.Cut.{Cut, side_of, MayHold}
use Rattle.confinement.specs.Acts.{ProcessHeld, AllPermitted, MayHoldIf, system_of}
use Rattle.confinement.specs.Reach.{Ends}
use Rattle.confinement.proofs.Own.{AllMayHold}
use Rattle.confinement.proofs.Sleeping.{each_set, sleepers-dispatched}
use Rattle.confinement.proofs.Acting.{held-process}
use Rattle.confinement.proofs.Delivering.{held-capreg}
use Rattle.confinement.proofs.Machine.{may-space, ends-here, PiecesOwn}
use Rattle.confinement.proofs.Isolating.Agreeing.{same-page, same-cappage, same-gpt, same-process}
use Rattle.confinement.proofs.Isolating.Walks.{same-access}
use Rattle.confinement.proofs.Isolating.Matching.{Match, match-process, match-page, match-cappage, match-sleepers, match-left, match-readied, same-schedule}
use Rattle.confinement.proofs.Isolating.Delivering.{match-told, match-waiting, match-listening, match-fault}
use Rattle.confinement.proofs.Isolating.Operating.{match-applied_all}

-- two states that match on this side
abbrev pub Matches : Cut → CutSide → State → State → Type 0
Matches cut side s t = Match cut side (system_of s) (system_of t)

module _ (cut : Cut) (side : CutSide) where
  -- ---- where accesses end

  -- an object of this kind and of this side, or a fault whose handler this side may hold
  abbrev pub EndsOwn : CapKind → Result Place WalkFault → Type 0
  EndsOwn kind (Ok p) = side_of cut kind p.number ≡ side
  EndsOwn kind (Err f) = MayHoldIf cut side f.handler

  -- the same of an access of data
  abbrev pub HitOwn : Result Hit WalkFault → Type 0
  HitOwn (Ok hit) = side_of cut Page hit.page ≡ side
  HitOwn (Err f) = MayHoldIf cut side f.handler

  -- where the walk of an access of data ends, the access does
  pub hit-own : (r : Result Place WalkFault) → EndsOwn Page r → HitOwn (hit_of r)
  hit-own (Ok p) own = own
  hit-own (Err f) own = own

  module _ (s t : State) (m : Matches cut side s t) where
    -- ---- what is read

    -- the number at a place of this side
    pub same-number_at : (hit : Hit) (size : ℕ) → side_of cut Page hit.page ≡ side → number_at s hit size ≡ number_at t hit size
    same-number_at hit size own =
        ap (λ (page : List ℕ). number_of (bytes_at page hit.offset size)) (same-page cut side (system_of s) (system_of t) m.agree hit.page own)

    -- the capability at a place of this side
    pub same-found : (place : Place) → side_of cut CapPage place.number ≡ side → cap_found s place ≡ cap_found t place
    same-found place own =
        ap (λ (page : List Capability). read_through place.restr.0 (cap_at page (slot_in place)))
        (same-cappage cut side (system_of s) (system_of t) m.agree place.number own)

    -- the bytes of pieces of pages of this side
    pub same-gathered : (pieces : List Piece) → PiecesOwn cut side pieces → gathered s.store pieces ≡ gathered t.store pieces
    unfolding gathered
    same-gathered [] own = refl
    same-gathered (piece ∷ pieces) own =
        ap₂ (λ (page rest : List ℕ). bytes_at page piece.at piece.len ++ rest)
        (same-page cut side (system_of s) (system_of t) m.agree piece.page own.0) (same-gathered pieces own.1)

    -- ---- what is written

    -- a page of this side
    pub match-written : (hit : Hit) (size value : ℕ) → side_of cut Page hit.page ≡ side → Matches cut side (written s hit size value) (written t hit size value)
    match-written hit size value own =
        match-page cut side (system_of s) (system_of t) m hit.page _ _
        (ap (λ (page : List ℕ). with_bytes page hit.offset (bytes_of size value)) (same-page cut side (system_of s) (system_of t) m.agree hit.page own)) own

    -- a slot of a capability page of this side
    pub match-cap_stored : (place : Place) (c : Capability) → side_of cut CapPage place.number ≡ side → MayHold cut side c
        → Matches cut side (cap_stored s place c) (cap_stored t place c)
    match-cap_stored place c own may =
        let page = cappage_at s.store place.number in
        match-cappage cut side (system_of s) (system_of t) m place.number _ _
        (ap (λ (page : List Capability). with_cap page (slot_in place) c) (same-cappage cut side (system_of s) (system_of t) m.agree place.number own)) own
        (each_set (λ j (c : Capability). MayHold cut side c) page (slot_in place) c null may (λ j. m.holds.each.cappages place.number j own))

    -- a message is told
    pub match-told_state : (e q : ℕ) (message : Message) → side_of cut Endpoint e ≡ side → side_of cut Process q ≡ side → AllMayHold cut side message.caps
        → Matches cut side (told_state s e q message) (told_state t e q message)
    unfolding told_state
    match-told_state e q message endpoint process all = match-told cut side (system_of s) (system_of t) m e q message endpoint process all

    -- changes are done
    pub match-changed_by : (changes : List Change) → AllPermitted cut side changes → Matches cut side (changed_by s changes) (changed_by t changes)
    match-changed_by changes all = match-applied_all cut side (system_of s) (system_of t) m changes all

    -- each hart takes a process
    pub match-dispatch : (hart other : ℕ) → Matches cut side (dispatch s hart) (dispatch t other)
    match-dispatch hart other =
        match-sleepers cut side (system_of s) (system_of t) m (dispatched s.queues hart) (dispatched t.queues other)
        (sleepers-dispatched s.queues hart) (sleepers-dispatched t.queues other)

  -- ---- strings

  match-scattered : (w v : System) → Match cut side w v → (pieces : List Piece) (bytes : List ℕ) → PiecesOwn cut side pieces
      → Match cut side (with_store w (scattered w.store pieces bytes)) (with_store v (scattered v.store pieces bytes))
  unfolding scattered
  match-scattered w v m [] bytes own = m
  match-scattered w v m (piece ∷ pieces) bytes own =
      let x = with_store w (with_piece w.store piece (take piece.len bytes)) in
      let y = with_store v (with_piece v.store piece (take piece.len bytes)) in
      match-scattered x y
      (match-page cut side w v m piece.page _ _ (ap (λ (page : List ℕ). with_bytes page piece.at (take piece.len bytes)) (same-page cut side w v m.agree piece.page own.0)) own.0)
      pieces (drop piece.len bytes) own.1

  -- bytes are moved from pages of this side to pages of this side
  pub match-copied : (s t : State) → Matches cut side s t → (from to : List Piece) → PiecesOwn cut side from → PiecesOwn cut side to
      → Matches cut side (set_store s (copied s.store from to)) (set_store t (copied t.store from to))
  unfolding copied
  match-copied s t m from to read written =
      subst (λ (bytes : List ℕ). Matches cut side (set_store s (copied s.store from to)) (set_store t (scattered t.store to (take (size_of_pieces to) bytes)))) (same-gathered s t m from read)
      (match-scattered (system_of s) (system_of t) m to (take (size_of_pieces to) (gathered s.store from)) written)

  -- ---- the process

  module _ (p : ℕ) (own : side_of cut Process p ≡ side) (s t : State) (m : Matches cut side s t) where
    -- it is the same
    pub same-here : process s p ≡ process t p
    same-here = same-process cut side (system_of s) (system_of t) m.agree p own

    -- it holds what this side may hold
    pub held-here : ProcessHeld cut side (process s p)
    held-here = held-process cut side (system_of s) p own m.holds

    -- ---- its registers

    -- another pc
    pub match-set_pc : (pc qc : ℕ) → pc ≡ qc → Matches cut side (set_pc s p pc) (set_pc t p qc)
    match-set_pc pc qc e =
        match-process cut side (system_of s) (system_of t) m p _ _ (ap₂ (λ (q : ProcessValue) (n : ℕ). with_pc q n) same-here e) own
        (record { capregs = held-here.capregs; slots = held-here.slots })

    -- it goes on behind its instruction
    pub match-advance : Matches cut side (advance s p) (advance t p)
    match-advance = match-set_pc (next_of (pc_of s p)) (next_of (pc_of t p)) (ap (λ (q : ProcessValue). next_of q.pc) same-here)

    -- other registers
    pub match-set_registers : (regs others : List ℕ) → regs ≡ others → Matches cut side (set_registers s p regs) (set_registers t p others)
    match-set_registers regs others e =
        match-process cut side (system_of s) (system_of t) m p _ _ (ap₂ (λ (q : ProcessValue) (rs : List ℕ). with_regs q rs) same-here e) own
        (record { capregs = held-here.capregs; slots = held-here.slots })

    -- another capability in a register
    pub match-set_capreg : (i : ℕ) (c : Capability) → MayHold cut side c → Matches cut side (set_capreg s p i c) (set_capreg t p i c)
    match-set_capreg i c may =
        match-process cut side (system_of s) (system_of t) m p _ _ (ap (λ (q : ProcessValue). with_capreg q i c) same-here) own
        (held-capreg cut side (process s p) i c may held-here)

    -- ---- its place

    -- it leaves its place
    pub match-leave : Matches cut side (leave s p) (leave t p)
    match-leave = match-left cut side (system_of s) (system_of t) m p own

    -- it is made ready
    pub match-ready : Matches cut side (ready s p) (ready t p)
    match-ready =
        match-readied cut side (system_of s) (system_of t) m (schedule_slot s p) (schedule_slot t p)
        (same-schedule cut side (system_of s) (system_of t) m p own) p own

    -- ---- faults, waits and receiving

    -- it faults, with a handler that this side may hold
    pub match-fault_state : (code : FaultCode) (address : ℕ) (handler : Option Capability) → MayHoldIf cut side handler
        → Matches cut side (fault_state s p code address handler) (fault_state t p code address handler)
    unfolding fault_state
    match-fault_state code address handler may = match-fault cut side (system_of s) (system_of t) m p code address handler own may

    -- it waits for a process of this side
    pub match-waiting_state : (q : ℕ) → side_of cut Process q ≡ side → Matches cut side (waiting_state s p q) (waiting_state t p q)
    unfolding waiting_state
    match-waiting_state q on = match-waiting cut side (system_of s) (system_of t) m p q own on

    -- it receives
    pub match-listening_state : (accept : AcceptValue) → Matches cut side (listening_state s p accept) (listening_state t p accept)
    unfolding listening_state
    match-listening_state accept = match-listening cut side (system_of s) (system_of t) m p accept own

  module _ (p : ℕ) (own : side_of cut Process p ≡ side) (s t : State) (m : Matches cut side s t) where
    -- a tick
    pub match-ticked : Matches cut side (ticked s (Some p)) (ticked t (Some p))
    match-ticked = match-ready p own (leave s p) (leave t p) (match-leave p own s t m)

-- ---- accesses of the process

module _ (cut : Cut) (side : CutSide) (alone : cut.weakly side ≡ false) where
  -- where an access ends that may end on this side alone
  pub ends-own : (kind : Kind) (r : Result Place WalkFault) → Ends cut side kind r → EndsOwn cut side (serving kind) r
  ends-own kind (Err f) ends = ends
  ends-own kind (Ok p) r = elim r.own [
    | inl own ↦ subst (λ (k : CapKind). side_of cut k p.number ≡ side) r.serves own
    | inr weak ↦ let e = sym alone ∙ weak.0 in absurd (cc (e))
  ]

  module _ (p : ℕ) (own : side_of cut Process p ≡ side) (s t : State) (m : Matches cut side s t) where
    -- they come to the same
    pub same-cap_access : (address : ℕ) (kind : Kind) → cap_access s p address kind ≡ cap_access t p address kind
    same-cap_access address kind =
        same-access cut side alone s.store.items t.store.items m.holds.each.slots (same-gpt cut side (system_of s) (system_of t) m.agree) kind
        (space_of s p) address (may-space cut side p own s m.holds)
        ∙ ap (λ (q : ProcessValue). access t.store.items (slot_of q 0) address kind) (same-here cut side p own s t m)

    -- as do those of data
    pub same-data_access : (address : ℕ) (kind : Kind) → data_access s p address kind ≡ data_access t p address kind
    same-data_access address kind = ap hit_of (same-cap_access address kind)

    -- which end on its side
    pub place-here : (address : ℕ) (kind : Kind) → EndsOwn cut side (serving kind) (cap_access s p address kind)
    place-here address kind = ends-own kind (cap_access s p address kind) (ends-here cut side p own s kind address m.holds)

    -- as those of data do
    pub hit-here : (address : ℕ) (kind : Kind) → serving kind ≡ Page → HitOwn cut side (data_access s p address kind)
    hit-here address kind e =
        hit-own cut side (cap_access s p address kind)
        (subst (λ (k : CapKind). EndsOwn cut side k (cap_access s p address kind)) e (place-here address kind))
