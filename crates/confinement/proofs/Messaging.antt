-- A message of a process of one side, its waits and its receiving stay on its side, but for who is told.
use Rattle.std.proofs.Common.{◌≡◌, ℕ, inl, inr, Bool, true, false, if◌then◌else◌, List, [], ◌∷◌, slice_set, Option, Some, None, Result, Ok, Err, refl}
use Rattle.std.proofs.lemmas.Bool.{cond_both}
use Rattle.cap_format.specs.declared.fault.FaultCode.{FaultCode}
use Rattle.cap_format.specs.declared.kind.CapKind.TheVariants.{Process}
use Rattle.cap_format.specs.Capability.{Capability}
use Rattle.walk_meaning.specs.declared.kind.Kind.{Kind}
use Rattle.walk_meaning.specs.declared.kind.Kind.TheVariants.{Store as Put}
use Rattle.walk_meaning.specs.declared.place.WalkFault.{WalkFault}
use Rattle.walk_meaning.specs.Walk.{access}
use Rattle.walk_engine.specs.declared.hit.Hit.{Hit}
use Rattle.invocation.specs.Invocation.{InvocationValue}
use Rattle.string_move.specs.declared.piece.Piece.{Piece}
use Rattle.string_move.specs.declared.span.Span.{Span}
use Rattle.string_move.specs.Spans.{spans}
use Rattle.string_move.specs.Move.{size_of_pieces}
use Rattle.machine_state.specs.State.{State, process, space_of}
use Rattle.machine_state.specs.Setters.{advance}
use Rattle.machine_state.specs.DataAccess.{data_access}
use Rattle.machine_state.specs.Messaging.{told_state, listening_state}
use Rattle.messages.specs.declared.string_fault.StringFault.{StringFault}
use Rattle.messages.specs.Fault.{fault}
use Rattle.messages.specs.Strings.{Side, span_side, side}
use Rattle.messages.specs.Message.{bytes_moved, message_of, sent_off, message_told, delivered}
use Rattle.messages.specs.Waiting.{wait_on, listening_from, listen}
use Rattle.confinement.specs.declared.cut_side.CutSide.{CutSide}
use Rattle.confinement.specs.declared.cut_side.CutSide.TheVariants.{Left, Right}
use Rattle.confinement.specs.Cut.{Cut, side_of, closed_cut, realm_side, HoldsFor}
use Rattle.confinement.specs.Acts.{Told, Acts, MayHoldIf, Hears, MayAwait, system_of}
use Rattle.confinement.specs.Reach.{Ends}
use Rattle.confinement.proofs.Delivering.{all-sent}
use Rattle.operations.specs.System.{System}
use Rattle.confinement.proofs.Acting.{taker-heard, acts-same, held-process}
use Rattle.confinement.proofs.Walks.{access_ends}
use Rattle.confinement.proofs.Machine.{acts-next, acts-advance, acts-set_registers, acts-fault_state, acts-told_state, acts-waiting_state, acts-listening_state, acts-copied, ends-here, ends-hit, EndsHit, PiecesOwn, PiecesReached, own-reached}

module _ (cut : Cut) (side_is : CutSide) where
  -- the fault of a string has a handler that this side may hold
  abbrev pub StringFaultOwn : Option StringFault → Type 0
  StringFaultOwn None = Unit {0}
  StringFaultOwn (Some f) = MayHoldIf cut side_is f.why.handler

  -- what comes of a string of this side: where it is written its pages are of this side
  pub record SideOwn (kind : Kind) (string : Side) : Type 0 where
    pub pieces : kind ≡ Put → PiecesOwn cut side_is string.pieces
    pub fault : StringFaultOwn string.fault

  span-own : (s : State) (q : ℕ) (kind : Kind) (span : Span) (rest : Side) (r : Result Hit WalkFault) → EndsHit cut side_is kind r → SideOwn kind rest → SideOwn kind (span_side s q kind span rest r)
  span-own s q kind span rest (Ok hit) ends own = record { pieces = λ e. (ends e, own.pieces e); fault = own.fault }
  span-own s q kind span rest (Err f) ends own = record { pieces = λ e. tt; fault = ends }

  -- the accesses to the spans of a string, where each ends on this side
  pub side-ends : (q : ℕ) (s : State) (kind : Kind) (spans : List Span) → ((at : ℕ) → Ends cut side_is kind (access s.store.items (space_of s q) at kind)) → SideOwn kind (side s q kind spans)
  unfolding side
  side-ends q s kind [] ends = record { pieces = λ e. tt; fault = tt }
  side-ends q s kind (span ∷ spans) ends =
      span-own s q kind span (side s q kind spans) (data_access s q span.address kind)
      (ends-hit cut side_is kind (access s.store.items (space_of s q) span.address kind) (ends span.address))
      (side-ends q s kind spans ends)

  -- as those of a string of a process of this side do
  pub side-own : (q : ℕ) → side_of cut Process q ≡ side_is → (s : State) (kind : Kind) (spans : List Span) → HoldsFor cut side_is (system_of s) → SideOwn kind (side s q kind spans)
  side-own q on s kind spans holds = side-ends q s kind spans (λ at. ends-here cut side_is q on s kind at holds)

  module _ (p : ℕ) (own : side_of cut Process p ≡ side_is) where
    -- ---- faults

    pub acts-fault_part : (s : State) (code : FaultCode) (address : ℕ) (handler : Option Capability) → MayHoldIf cut side_is handler → HoldsFor cut side_is (system_of s)
        → Acts cut side_is (system_of s) (system_of (fault s p code address handler).state)
    unfolding fault
    acts-fault_part s code address handler may holds = acts-fault_state cut side_is p own s code address handler may holds

    -- ---- waiting and listening

    pub acts-wait_on : (s : State) (q : ℕ) → MayAwait cut side_is q → HoldsFor cut side_is (system_of s) → Acts cut side_is (system_of s) (system_of (wait_on s p q).state)
    unfolding wait_on
    acts-wait_on s q on holds = acts-waiting_state cut side_is p own s q on holds

    acts-from : (s : State) (inv : InvocationValue) → HoldsFor cut side_is (system_of s) → Acts cut side_is (system_of s) (system_of (listening_from s p inv))
    acts-from s inv holds =
        cond_both inv.send _ _ (λ (t : State). Acts cut side_is (system_of s) (system_of t)) (λ e. acts-same cut side_is (system_of s) holds) (λ e. acts-advance cut side_is p own s holds)

    pub acts-listen : (s : State) (inv : InvocationValue) → HoldsFor cut side_is (system_of s) → Acts cut side_is (system_of s) (system_of (listen s p inv).state)
    unfolding listen
    acts-listen s inv holds =
        let t = listening_from s p inv in
        acts-next cut side_is s t (listening_state t p inv.accept) (acts-from s inv holds) (λ h. acts-listening_state cut side_is p own t inv.accept h)

    -- ---- sending

    acts-sent_off : (s : State) (b : Bool) → HoldsFor cut side_is (system_of s) → Acts cut side_is (system_of s) (system_of (sent_off s p b))
    acts-sent_off s true holds = acts-advance cut side_is p own s holds
    acts-sent_off s false holds =
        let t = advance s p in
        acts-next cut side_is s t (sent_off s p false) (acts-advance cut side_is p own s holds) (λ h. acts-set_registers cut side_is p own t (slice_set (process t p).regs 10 0) h)

    module _ (e q : ℕ) (inv : InvocationValue) (b : State) (hears : Hears cut side_is b.store e q) (holds : HoldsFor cut side_is (system_of b)) where
      acts-message_told : (s : State) (length : ℕ) → Acts cut side_is (system_of b) (system_of s) → Acts cut side_is (system_of b) (system_of (message_told s p e q inv length).state)
      unfolding message_of
      acts-message_told s length first =
          let message = message_of s p inv length in
          let t = told_state s e q message in
          acts-next cut side_is b t (sent_off t p inv.receive)
          (acts-told_state cut side_is b s e q message hears (λ h. all-sent cut side_is (process s p) inv.sent (held-process cut side_is (system_of s) p own h)) holds first)
          (λ h. acts-sent_off t inv.receive h)

      -- the bytes and the message
      pub acts-delivered_part : (from to : List Piece) → PiecesReached cut side_is (system_of b) to → Acts cut side_is (system_of b) (system_of (delivered b p e q inv from to).state)
      acts-delivered_part from to pieces =
          let t = (bytes_moved b from to).state in
          acts-message_told t (size_of_pieces to) (acts-copied cut side_is b from to pieces holds)

-- ---- the string of one who is told across

module _ (cut : Cut) (side_is : CutSide) where
  if-left : (b : Bool) → (if b then Left else Right) ≡ Left → b ≡ true
  if-left true e = refl
  if-left false e = absurd (cc (e))

  pieces-reached : (base : System) (q : ℕ) → Told cut side_is base q → (pieces : List Piece) → PiecesOwn (closed_cut (realm_side (cut.realm q))) Left pieces → PiecesReached cut side_is base pieces
  pieces-reached base q told [] own = tt
  pieces-reached base q told (piece ∷ pieces) own =
      (inr (record { taker = q; told = told; writes = if-left ((cut.realm q).pages piece.page) own.0 }), pieces-reached base q told pieces own.1)

  -- where a string goes to one who takes it
  pub received-reached : (s : State) (e q : ℕ) (spans : List Span) → Hears cut side_is s.store e q → HoldsFor cut side_is (system_of s) → PiecesReached cut side_is (system_of s) (side s q Put spans).pieces
  received-reached s e q spans (inl own) holds =
      let string = side-own cut side_is q own.1 s Put spans holds in
      own-reached cut side_is (system_of s) (side s q Put spans).pieces (string.pieces refl)
  received-reached s e q spans (inr call) holds =
      let beyond = holds.beyond in
      let hears = taker-heard cut side_is s.store e q beyond call.0 call.1 in
      let realm = closed_cut (realm_side (cut.realm q)) in
      let string = side-ends realm Left q s Put spans (λ at.
      access_ends realm Left s.store.items (λ g i own. beyond.slots q g i hears (if-left ((cut.realm q).gpts g) own)) Put (space_of s q) at (beyond.spaces q hears)) in
      pieces-reached (system_of s) q (record { through = e; calls = call.0; takes = call.1 }) (side s q Put spans).pieces (string.pieces refl)
