-- Parts of events in which a process of this side faults, sends, waits or receives: in two states that match they tell the
-- same and leave states that match.
use Rattle.std.proofs.Common.{◌≡◌, ℕ, min, nat_lt, Bool, true, false, if◌then◌else◌, List, [], ◌∷◌, ◌++◌, map, slice_set, Option, Result, Ok, Err, refl, ap, ap₂, subst}
use Rattle.cap_format.specs.declared.fault.FaultCode.{FaultCode}
use Rattle.cap_format.specs.declared.kind.CapKind.TheVariants.{Page, Endpoint, Process}
use Rattle.cap_format.specs.Capability.{Capability}
use Rattle.process_objects.specs.Process.{ProcessValue, capreg_of}
use Rattle.object_store.specs.Object.{object_name}
use Rattle.walk_meaning.specs.declared.kind.Kind.{Kind}
use Rattle.walk_meaning.specs.declared.kind.Kind.TheVariants.{Store as Put}
use Rattle.walk_meaning.specs.declared.place.WalkFault.{WalkFault}
use Rattle.walk_meaning.specs.Laws.{serving}
use Rattle.walk_engine.specs.declared.hit.Hit.{Hit}
use Rattle.invocation.specs.declared.message.Message.{Message}
use Rattle.invocation.specs.Invocation.{InvocationValue}
use Rattle.invocation.specs.Answerer.{Answer}
use Rattle.invocation.specs.Delivery.{accepted, number_given}
use Rattle.string_move.specs.declared.piece.Piece.{Piece}
use Rattle.string_move.specs.declared.span.Span.{Span}
use Rattle.string_move.specs.Spans.{spans}
use Rattle.string_move.specs.Move.{size_of_pieces}
use Rattle.fault_path.specs.Fault.{outcome_of}
use Rattle.machine_state.specs.declared.record.Record.{Record}
use Rattle.machine_state.specs.declared.record.Record.TheVariants.{Message as MessageTold}
use Rattle.machine_state.specs.State.{State, process}
use Rattle.machine_state.specs.Setters.{advance}
use Rattle.machine_state.specs.Outcome.{Outcome, process_name}
use Rattle.machine_state.specs.DataAccess.{data_access, reached}
use Rattle.machine_state.specs.Messaging.{told_state}
use Rattle.messages.specs.Followed.{followed}
use Rattle.messages.specs.Fault.{fault_records, fault}
use Rattle.messages.specs.Strings.{Side, span_side, side}
use Rattle.messages.specs.Message.{accept_in, received_side, bytes_moved, message_of, message_record, sent_off, message_told, delivered}
use Rattle.messages.specs.Waiting.{wait_on, listening_from, listen}
use Rattle.confinement.specs.declared.cut_side.CutSide.{CutSide}
use Rattle.confinement.specs.Cut.{Cut, side_of}
use Rattle.confinement.specs.Acts.{MayHoldIf, system_of}
use Rattle.confinement.proofs.Own.{AllMayHold}
use Rattle.confinement.proofs.Delivering.{all-sent}
use Rattle.confinement.proofs.Machine.{PiecesOwn}
use Rattle.confinement.proofs.Messaging.{StringFaultOwn}
use Rattle.confinement.proofs.Isolating.Delivering.{same-heard}
use Rattle.confinement.proofs.Isolating.States.{Matches, HitOwn, match-told_state, match-copied, same-here, held-here, same-data_access, hit-here, match-advance, match-set_registers, match-fault_state, match-waiting_state, match-listening_state}

-- two parts of events that tell the same and leave states that match
pub record Alike (cut : Cut) (on : CutSide) (o u : Outcome) : Type 0 where
  pub records : o.records ≡ u.records
  pub state : Matches cut on o.state u.state

-- two strings of this side: the same pieces of pages of this side, the same records, and the same fault, if any
pub record SameString (cut : Cut) (on : CutSide) (x y : Side) : Type 0 where
  pub pieces : x.pieces ≡ y.pieces
  pub records : x.records ≡ y.records
  pub fault : x.fault ≡ y.fault
  pub own : PiecesOwn cut on x.pieces
  pub may : StringFaultOwn cut on x.fault

module _ (cut : Cut) (on : CutSide) where
  -- one part behind another
  pub alike-followed : (o u x y : Outcome) → o.records ≡ u.records → Alike cut on x y → Alike cut on (followed o x) (followed u y)
  alike-followed o u x y e a = record { records = ap₂ (λ (rs qs : List Record). rs ++ qs) e a.records; state = a.state }

module _ (cut : Cut) (on : CutSide) where
  module _ (p : ℕ) (own : side_of cut Process p ≡ on) where
    -- ---- faults

    -- a fault, with a handler that this side may hold
    pub alike-fault : (s t : State) → Matches cut on s t → (code : FaultCode) (address : ℕ) (handler : Option Capability) → MayHoldIf cut on handler
        → Alike cut on (fault s p code address handler) (fault t p code address handler)
    unfolding fault
    alike-fault s t m code address handler may = record {
      records = ap (λ (a : Answer). fault_records p code address (outcome_of a)) (same-heard cut on (system_of s) (system_of t) m p handler own may);
      state = match-fault_state cut on p own s t m code address handler may;
    }

    -- ---- waiting and listening

    -- a wait for a process of this side
    pub alike-wait_on : (s t : State) → Matches cut on s t → (q : ℕ) → side_of cut Process q ≡ on → Alike cut on (wait_on s p q) (wait_on t p q)
    unfolding wait_on
    alike-wait_on s t m q asked = record { records = refl; state = match-waiting_state cut on p own s t m q asked }

    match-from : (s t : State) → Matches cut on s t → (b : Bool) → Matches cut on (if b then s else advance s p) (if b then t else advance t p)
    match-from s t m true = m
    match-from s t m false = match-advance cut on p own s t m

    -- a receive phase
    pub alike-listen : (s t : State) → Matches cut on s t → (inv : InvocationValue) → Alike cut on (listen s p inv) (listen t p inv)
    unfolding listen
    alike-listen s t m inv = record {
      records = refl;
      state = match-listening_state cut on p own (listening_from s p inv) (listening_from t p inv) (match-from s t m inv.send) inv.accept;
    }

    -- ---- sending

    match-sent_off : (s t : State) → Matches cut on s t → (b : Bool) → Matches cut on (sent_off s p b) (sent_off t p b)
    match-sent_off s t m true = match-advance cut on p own s t m
    match-sent_off s t m false =
        let next = match-advance cut on p own s t m in
        match-set_registers cut on p own (advance s p) (advance t p) next _ _
        (ap (λ (q : ProcessValue). slice_set q.regs 10 0) (same-here cut on p own (advance s p) (advance t p) next))

    -- the message that a process sends
    abbrev message_as : InvocationValue → ℕ → ProcessValue → Message
    message_as inv length z =
        record { words = inv.words; payload = (capreg_of z inv.capreg).payload; length = length; cut = nat_lt length inv.length; caps = map (capreg_of z) inv.sent }

    same-message : (s t : State) → Matches cut on s t → (inv : InvocationValue) (length : ℕ) → message_of s p inv length ≡ message_of t p inv length
    unfolding message_of
    same-message s t m inv length = ap (message_as inv length) (same-here cut on p own s t m)

    all-held : (s t : State) → Matches cut on s t → (inv : InvocationValue) (length : ℕ) → AllMayHold cut on (message_of s p inv length).caps
    unfolding message_of
    all-held s t m inv length = all-sent cut on (process s p) inv.sent (held-here cut on p own s t m)

    module _ (e q : ℕ) (endpoint : side_of cut Endpoint e ≡ on) (recipient : side_of cut Process q ≡ on) (inv : InvocationValue) where
      -- a message is told, and the sender goes on
      abbrev told_part : State → Message → Outcome
      told_part s message = record {
        state = sent_off (told_state s e q message) p inv.receive;
        records = message_record s p e q message ∷ [];
        touches = [];
        changed = object_name Endpoint e ∷ process_name q ∷ [];
      }

      alike-told : (s t : State) → Matches cut on s t → (length : ℕ) → Alike cut on (message_told s p e q inv length) (message_told t p e q inv length)
      alike-told s t m length =
          let message = message_of s p inv length in
          subst (λ (other : Message). Alike cut on (told_part s message) (told_part t other)) (same-message s t m inv length)
          (record {
            records = ap (λ (z : ProcessValue). MessageTold p q e message.payload message.words message.length (number_given (accepted z.state) message.caps) ∷ []) (same-here cut on q recipient s t m);
            state = match-sent_off (told_state s e q message) (told_state t e q message)
                (match-told_state cut on s t m e q message endpoint recipient (all-held s t m inv length)) inv.receive;
          })

      -- the bytes and the message
      pub alike-delivered : (s t : State) → Matches cut on s t → (from to : List Piece) → PiecesOwn cut on from → PiecesOwn cut on to
          → Alike cut on (delivered s p e q inv from to) (delivered t p e q inv from to)
      alike-delivered s t m from to read written =
          let x = bytes_moved s from to in
          let y = bytes_moved t from to in
          alike-followed cut on x y (message_told x.state p e q inv (size_of_pieces to)) (message_told y.state p e q inv (size_of_pieces to)) refl
          (alike-told x.state y.state (match-copied cut on s t m from to read written) (size_of_pieces to))

module _ (cut : Cut) (on : CutSide) (alone : cut.weakly on ≡ false) where
  -- ---- strings

  -- one span in front of two strings
  pub same-span : (s t : State) (q : ℕ) (kind : Kind) (span : Span) (x y : Side) (r : Result Hit WalkFault) → HitOwn cut on r → SameString cut on x y
      → SameString cut on (span_side s q kind span x r) (span_side t q kind span y r)
  same-span s t q kind span x y (Ok hit) ends same = record {
    pieces = ap (λ (ps : List Piece). record { page = hit.page; at = hit.offset; len = span.size } ∷ ps) same.pieces;
    records = ap (λ (rs : List Record). reached q kind span.address hit ∷ rs) same.records;
    fault = same.fault;
    own = (ends, same.own);
    may = same.may;
  }
  same-span s t q kind span x y (Err why) ends same = record { pieces = refl; records = refl; fault = refl; own = tt; may = ends }

  -- the accesses of data to the spans of a string of a process of this side
  pub same-side : (q : ℕ) → side_of cut Process q ≡ on → (s t : State) → Matches cut on s t → (kind : Kind) → serving kind ≡ Page → (ss : List Span)
      → SameString cut on (side s q kind ss) (side t q kind ss)
  unfolding side
  same-side q own s t m kind data_is [] = record { pieces = refl; records = refl; fault = refl; own = tt; may = tt }
  same-side q own s t m kind data_is (span ∷ ss) =
      subst (λ (r : Result Hit WalkFault). SameString cut on (side s q kind (span ∷ ss)) (span_side t q kind span (side t q kind ss) r))
      (same-data_access cut on alone q own s t m span.address kind)
      (same-span s t q kind span (side s q kind ss) (side t q kind ss) (data_access s q span.address kind) (hit-here cut on alone q own s t m span.address kind data_is) (same-side q own s t m kind data_is ss))

  -- and where a message of this length is received
  pub same-received : (q : ℕ) → side_of cut Process q ≡ on → (s t : State) → Matches cut on s t → (length : ℕ) → SameString cut on (received_side s q length) (received_side t q length)
  same-received q own s t m length =
      subst (λ (z : ProcessValue). SameString cut on (received_side s q length) (side t q Put (spans (accepted z.state).at (min length (accepted z.state).bound)))) (same-here cut on q own s t m)
      (same-side q own s t m Put refl (spans (accept_in s q).at (min length (accept_in s q).bound)))
