-- How many records come of faults, strings and messages.
use Rattle.std.proofs.Common.{ℕ, ◌+◌, ◌≤◌, min, List, [], ◌∷◌, length, length-append, arith, Option, Some, None, Result, Ok, Err}
use Rattle.cap_format.specs.Capability.{Capability}
use Rattle.cap_format.specs.declared.fault.FaultCode.{FaultCode}
use Rattle.walk_meaning.specs.declared.kind.Kind.{Kind}
use Rattle.walk_meaning.specs.declared.kind.Kind.TheVariants.{Load, Store as Put}
use Rattle.walk_meaning.specs.declared.place.WalkFault.{WalkFault}
use Rattle.walk_engine.specs.declared.hit.Hit.{Hit}
use Rattle.fault_path.specs.declared.outcome.Outcome.{Outcome as Became}
use Rattle.fault_path.specs.declared.outcome.Outcome.TheVariants.{Delivered, MustWait, Unheard}
use Rattle.fault_path.specs.Fault.{heard_by, outcome_of}
use Rattle.invocation.specs.Invocation.{InvocationValue}
use Rattle.string_move.specs.declared.piece.Piece.{Piece}
use Rattle.string_move.specs.declared.span.Span.{Span}
use Rattle.string_move.specs.Spans.{spans}
use Rattle.string_move.proofs.Cuts.{length-spans}
use Rattle.machine_state.specs.State.{State}
use Rattle.machine_state.specs.Outcome.{Outcome}
use Rattle.machine_state.specs.DataAccess.{data_access}
use Rattle.messages.specs.declared.string_fault.StringFault.{StringFault}
use Rattle.messages.specs.Followed.{followed}
use Rattle.messages.specs.Fault.{fault, fault_records}
use Rattle.messages.specs.Strings.{side, span_side, side_outcome}
use Rattle.messages.specs.Message.{sent_side, received_side, accept_in, delivered, sent_on, sent_by_fault, send_open}
use Rattle.messages.specs.Laws.{FewRecords}

-- at most so many records
abbrev pub AtMost : ℕ → Outcome → Type 0
AtMost n o = length o.records ≤ n

-- of two parts, the one behind the other
pub followed-most : (m n : ℕ) (first second : Outcome) → AtMost m first → AtMost n second → AtMost (m + n) (followed first second)
followed-most m n first second one two = omega (arith, length-append first.records second.records, one, two)

-- ---- faults and strings

-- a fault has one, or none where the process waits
pub fault-most : (s : State) (p : ℕ) (code : FaultCode) (address : ℕ) (handler : Option Capability) → AtMost 1 (fault s p code address handler)
unfolding fault
fault-most s p code address handler = by (outcome_of (heard_by s.store p handler))
  where
    by : (became : Became) → length (fault_records p code address became) ≤ 1
    by (Delivered q) = omega arith
    by Unheard = omega arith
    by (MustWait q) = omega arith

-- spans have at most one each
pub side-most : (s : State) (q : ℕ) (kind : Kind) (ss : List Span) → length (side s q kind ss).records ≤ length ss
unfolding side
side-most s q kind [] = omega arith
side-most s q kind (span ∷ rest) = by (data_access s q span.address kind) (side-most s q kind rest)
  where
    by : (r : Result Hit WalkFault) → length (side s q kind rest).records ≤ length rest → length (span_side s q kind span (side s q kind rest) r).records ≤ length (span ∷ rest)
    by (Ok hit) below = omega (arith, below)
    by (Err why) below = omega arith

-- and a string has at most 17 spans
pub string-most : (s : State) (q : ℕ) (kind : Kind) (at size : ℕ) → size ≤ 65536 → length (side s q kind (spans at size)).records ≤ 17
string-most s q kind at size longest =
    let each = side-most s q kind (spans at size) in
    let most = length-spans at size longest in
    omega (arith, each, most)

-- ---- messages

-- the receiver's side, and the message's own
sent_on-most : (s : State) (p e q : ℕ) (inv : InvocationValue) (from : List Piece) → inv.length ≤ 65536 → AtMost 18 (sent_on s p e q inv from)
sent_on-most s p e q inv from longest =
    let to = received_side s q inv.length in
    let accept = accept_in s q in
    followed-most 17 1 (side_outcome s to) (delivered s p e q inv from to.pieces) (string-most s q Put accept.at (min inv.length accept.bound) (omega (arith, longest))) (omega arith)

-- what follows the sender's side
follows-most : (s : State) (p e q : ℕ) (inv : InvocationValue) (from : List Piece) (f : Option StringFault) → inv.length ≤ 65536 → AtMost 18 (sent_by_fault s p e q inv from f)
follows-most s p e q inv from None longest = sent_on-most s p e q inv from longest
follows-most s p e q inv from (Some f) longest = let one = fault-most s p f.why.code f.address f.why.handler in omega (arith, one)

-- both sides
pub send_open-most : (s : State) (p e q : ℕ) (inv : InvocationValue) → inv.length ≤ 65536 → AtMost 35 (send_open s p e q inv)
unfolding send_open
send_open-most s p e q inv longest =
    let from = sent_side s p inv in
    followed-most 17 18 (side_outcome s from) (sent_by_fault s p e q inv from.pieces from.fault) (string-most s p Load inv.at inv.length longest) (follows-most s p e q inv from.pieces from.fault longest)

-- the law
pub few_records : FewRecords
few_records s p e q inv longest = send_open-most s p e q inv longest
