-- Parts of events in which a process of the right faults, sends, waits or receives: in two states side by side they tell the
-- same and leave states side by side.
use Rattle.std.proofs.Common.{◌≡◌, ℕ, min, nat_lt, Bool, true, false, if◌then◌else◌, List, [], ◌∷◌, ◌++◌, map, slice_set, Option, Result, refl, ap, ap₂, subst}
use Rattle.cap_format.specs.declared.fault.FaultCode.{FaultCode}
use Rattle.cap_format.specs.declared.kind.CapKind.TheVariants.{Page, Endpoint, Process}
use Rattle.cap_format.specs.Capability.{Capability}
use Rattle.process_objects.specs.Process.{ProcessValue, capreg_of}
use Rattle.object_store.specs.Object.{object_name}
use Rattle.walk_meaning.specs.declared.kind.Kind.{Kind}
use Rattle.walk_meaning.specs.declared.kind.Kind.TheVariants.{Store as Put}
use Rattle.walk_meaning.specs.declared.place.WalkFault.{WalkFault}
use Rattle.walk_meaning.specs.Laws.{serving}
use Rattle.walk_engine.specs.declared.hit.Hit.{Hit}
use Rattle.invocation.specs.declared.message.Message.{Message}
use Rattle.invocation.specs.Invocation.{InvocationValue}
use Rattle.invocation.specs.Answerer.{Answer}
use Rattle.invocation.specs.Delivery.{accepted, number_given}
use Rattle.string_move.specs.declared.piece.Piece.{Piece}
use Rattle.string_move.specs.declared.span.Span.{Span}
use Rattle.string_move.specs.Spans.{spans}
use Rattle.string_move.specs.Move.{size_of_pieces}
use Rattle.operations.specs.System.{System}
use Rattle.fault_path.specs.Fault.{outcome_of}
use Rattle.machine_state.specs.declared.record.Record.{Record}
use Rattle.machine_state.specs.declared.record.Record.TheVariants.{Message as MessageTold}
use Rattle.machine_state.specs.State.{State, process}
use Rattle.machine_state.specs.Setters.{advance}
use Rattle.machine_state.specs.Outcome.{Outcome, process_name}
use Rattle.machine_state.specs.DataAccess.{data_access}
use Rattle.machine_state.specs.Messaging.{told_state}
use Rattle.messages.specs.Followed.{followed}
use Rattle.messages.specs.Fault.{fault_records, fault}
use Rattle.messages.specs.Strings.{span_side, side}
use Rattle.messages.specs.Message.{accept_in, received_side, bytes_moved, message_of, message_record, sent_off, message_told, delivered}
use Rattle.messages.specs.Waiting.{wait_on, listening_from, listen}
use Rattle.confinement.specs.declared.cut_side.CutSide.TheVariants.{Right}
use Rattle.confinement.specs.Cut.{Cut, side_of}
use Rattle.confinement.specs.Acts.{MayHoldIf, system_of}
use Rattle.confinement.proofs.Own.{AllMayHold}
use Rattle.confinement.proofs.Delivering.{all-sent}
use Rattle.confinement.proofs.Machine.{PiecesOwn}
use Rattle.confinement.proofs.Isolating.Messaging.{SameString, same-span}
use Rattle.independence.proofs.Overlay.{Overlay}
use Rattle.independence.proofs.Answering.{Run, same-heard}
use Rattle.independence.proofs.States.{Both, both-told_state, both-copied, same-here, held-here, same-data_access, hit-here, both-advance, both-set_registers, both-fault_state, both-waiting_state, both-listening_state}

-- two parts of events that tell the same and leave states side by side
pub record Alike (cut : Cut) (f : Overlay cut) (start : System) (o u : Outcome) : Type 0 where
  pub records : o.records ≡ u.records
  pub state : Both cut f start o.state u.state

module _ (cut : Cut) (f : Overlay cut) (start : System) where
  abbrev Two : State → State → Type 0
  Two s t = Both cut f start s t

  abbrev Same : Outcome → Outcome → Type 0
  Same o u = Alike cut f start o u

  -- one part after another
  pub alike-followed : (o u x y : Outcome) → o.records ≡ u.records → Same x y → Same (followed o x) (followed u y)
  alike-followed o u x y e a = record { records = ap₂ (λ (rs qs : List Record). rs ++ qs) e a.records; state = a.state }

  module _ (p : ℕ) (own : side_of cut Process p ≡ Right) where
    -- ---- faults

    -- a fault, with a handler that the right may hold
    pub alike-fault : Run cut start.store → (s t : State) → Two s t → (code : FaultCode) (address : ℕ) (handler : Option Capability) → MayHoldIf cut Right handler
        → Same (fault s p code address handler) (fault t p code address handler)
    unfolding fault
    alike-fault run s t b code address handler may = record {
      records = ap (λ (a : Answer). fault_records p code address (outcome_of a)) (same-heard cut f start (system_of s) (system_of t) b.systems run p handler own);
      state = both-fault_state cut f start p own s t b run code address handler may;
    }

    -- ---- waiting and listening

    -- a wait for a process
    pub alike-wait_on : (s t : State) → Two s t → (q : ℕ) → Same (wait_on s p q) (wait_on t p q)
    unfolding wait_on
    alike-wait_on s t b q = record { records = refl; state = both-waiting_state cut f start p own s t b q }

    both-from : (s t : State) → Two s t → (first : Bool) → Two (if first then s else advance s p) (if first then t else advance t p)
    both-from s t b true = b
    both-from s t b false = both-advance cut f start p own s t b

    -- a receive phase
    pub alike-listen : (s t : State) → Two s t → (inv : InvocationValue) → Same (listen s p inv) (listen t p inv)
    unfolding listen
    alike-listen s t b inv = record {
      records = refl;
      state = both-listening_state cut f start p own (listening_from s p inv) (listening_from t p inv) (both-from s t b inv.send) inv.accept;
    }

    -- ---- sending

    both-sent_off : (s t : State) → Two s t → (receives : Bool) → Two (sent_off s p receives) (sent_off t p receives)
    both-sent_off s t b true = both-advance cut f start p own s t b
    both-sent_off s t b false =
        let next = both-advance cut f start p own s t b in
        both-set_registers cut f start p own (advance s p) (advance t p) next _ _
        (ap (λ (q : ProcessValue). slice_set q.regs 10 0) (same-here cut f start p own (advance s p) (advance t p) next))

    -- the message that a process sends
    abbrev message_as : InvocationValue → ℕ → ProcessValue → Message
    message_as inv length z =
        record { words = inv.words; payload = (capreg_of z inv.capreg).payload; length = length; cut = nat_lt length inv.length; caps = map (capreg_of z) inv.sent }

    same-message : (s t : State) → Two s t → (inv : InvocationValue) (length : ℕ) → message_of s p inv length ≡ message_of t p inv length
    unfolding message_of
    same-message s t b inv length = ap (message_as inv length) (same-here cut f start p own s t b)

    all-held : (s t : State) → Two s t → (inv : InvocationValue) (length : ℕ) → AllMayHold cut Right (message_of s p inv length).caps
    unfolding message_of
    all-held s t b inv length = all-sent cut Right (process s p) inv.sent (held-here cut f start p own s t b)

    module _ (e q : ℕ) (endpoint : side_of cut Endpoint e ≡ Right) (recipient : side_of cut Process q ≡ Right) (inv : InvocationValue) where
      -- a message is told, and the sender goes on
      abbrev told_part : State → Message → Outcome
      told_part s message = record {
        state = sent_off (told_state s e q message) p inv.receive;
        records = message_record s p e q message ∷ [];
        touches = [];
        changed = object_name Endpoint e ∷ process_name q ∷ [];
      }

      alike-told : (s t : State) → Two s t → (length : ℕ) → Same (message_told s p e q inv length) (message_told t p e q inv length)
      alike-told s t b length =
          let message = message_of s p inv length in
          subst (λ (other : Message). Same (told_part s message) (told_part t other)) (same-message s t b inv length)
          (record {
            records = ap (λ (z : ProcessValue). MessageTold p q e message.payload message.words message.length (number_given (accepted z.state) message.caps) ∷ []) (same-here cut f start q recipient s t b);
            state = both-sent_off (told_state s e q message) (told_state t e q message)
                (both-told_state cut f start s t b e q message endpoint recipient (all-held s t b inv length)) inv.receive;
          })

      -- the bytes and the message
      pub alike-delivered : (s t : State) → Two s t → (from to : List Piece) → PiecesOwn cut Right from → PiecesOwn cut Right to
          → Same (delivered s p e q inv from to) (delivered t p e q inv from to)
      alike-delivered s t b from to read written =
          let x = bytes_moved s from to in
          let y = bytes_moved t from to in
          alike-followed x y (message_told x.state p e q inv (size_of_pieces to)) (message_told y.state p e q inv (size_of_pieces to)) refl
          (alike-told x.state y.state (both-copied cut f start s t b from to read written) (size_of_pieces to))

  -- ---- strings

  -- the accesses of data to the spans of a string of a process of the right
  pub same-side : (q : ℕ) → side_of cut Process q ≡ Right → (s t : State) → Two s t → (kind : Kind) → serving kind ≡ Page → (ss : List Span)
      → SameString cut Right (side s q kind ss) (side t q kind ss)
  unfolding side
  same-side q own s t b kind data_is [] = record { pieces = refl; records = refl; fault = refl; own = tt; may = tt }
  same-side q own s t b kind data_is (span ∷ ss) = let beside = b.systems in let apart = beside.apart in
      subst (λ (r : Result Hit WalkFault). SameString cut Right (side s q kind (span ∷ ss)) (span_side t q kind span (side t q kind ss) r))
      (same-data_access cut f start q own s t b span.address kind)
      (same-span cut Right apart.strictly s t q kind span (side s q kind ss) (side t q kind ss) (data_access s q span.address kind) (hit-here cut f start q own s t b span.address kind data_is) (same-side q own s t b kind data_is ss))

  -- and where a message of this length is received
  pub same-received : (q : ℕ) → side_of cut Process q ≡ Right → (s t : State) → Two s t → (length : ℕ) → SameString cut Right (received_side s q length) (received_side t q length)
  same-received q own s t b length =
      subst (λ (z : ProcessValue). SameString cut Right (received_side s q length) (side t q Put (spans (accepted z.state).at (min length (accepted z.state).bound)))) (same-here cut f start q own s t b)
      (same-side q own s t b Put refl (spans (accept_in s q).at (min length (accept_in s q).bound)))
