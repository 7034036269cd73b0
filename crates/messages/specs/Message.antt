-- Messages to a process that receives. (Coyotos; the registers, and the order of accesses, are this project's.)
use Rattle.std.specs.Prelude.{ℕ, min, nat_lt, Bool, true, false, List, [], ◌∷◌, slice_set, Option, Some, None}
use Rattle.cap_format.specs.declared.kind.CapKind.TheVariants.{Endpoint}
use Rattle.process_objects.specs.Accept.{AcceptValue}
use Rattle.process_objects.specs.Process.{capreg_of}
use Rattle.object_store.specs.Object.{object_name}
use Rattle.walk_meaning.specs.declared.kind.Kind.TheVariants.{Load, Store as Put}
use Rattle.invocation.specs.declared.message.Message.{Message}
use Rattle.invocation.specs.Invocation.{InvocationValue}
use Rattle.invocation.specs.Delivery.{sent_by, accepted, number_given}
use Rattle.string_move.specs.declared.piece.Piece.{Piece}
use Rattle.string_move.specs.Spans.{spans}
use Rattle.string_move.specs.Move.{size_of_pieces, copied, page_names}
use Rattle.machine_state.specs.declared.record.Record.{Record}
use Rattle.machine_state.specs.declared.record.Record.TheVariants.{Message as MessageTold}
use Rattle.machine_state.specs.State.{State, process}
use Rattle.machine_state.specs.Setters.{set_store, set_registers, advance}
use Rattle.machine_state.specs.Messaging.{told_state}
use Rattle.machine_state.specs.Outcome.{Outcome, process_name}
use Rattle.messages.specs.declared.string_fault.StringFault.{StringFault}
use Rattle.messages.specs.Followed.{followed}
use Rattle.messages.specs.Fault.{fault}
use Rattle.messages.specs.Strings.{Side, side, side_outcome}

-- ---- the string

-- the string that process `p` sends
abbrev pub sent_side : State → ℕ → InvocationValue → Side
sent_side s p inv = side s p Load (spans inv.at inv.length)

-- what process `q` accepts
abbrev pub accept_in : State → ℕ → AcceptValue
accept_in s q = accepted (process s q).state

-- where process `q` takes a string of this length: the first bytes of its buffer, as many as are sent and as it has
abbrev pub received_side : State → ℕ → ℕ → Side
received_side s q length = let accept = accept_in s q in side s q Put (spans accept.at (min length accept.bound))

-- all bytes are read, and then all are written
abbrev pub bytes_moved : State → List Piece → List Piece → Outcome
bytes_moved s from to = record {
  state = set_store s (copied s.store from to);
  records = [];
  touches = [];
  changed = page_names to;
}

-- ---- what is told

-- the payload of the entry that process `p` invokes
abbrev pub payload_in : State → ℕ → InvocationValue → ℕ
payload_in s p inv = (capreg_of (process s p) inv.capreg).payload

-- the message of which so many bytes are delivered: the words of the sender, the payload of the entry that it invokes,
-- and the capabilities in the registers sent. It is cut where fewer bytes are delivered than are sent
unfoldable pub message_of : State → ℕ → InvocationValue → ℕ → Message
message_of s p inv length = record {
  words = inv.words;
  payload = payload_in s p inv;
  length = length;
  cut = nat_lt length inv.length;
  caps = sent_by s.store p inv.sent;
}

-- its record, with the number of capabilities that are delivered
abbrev pub message_record : State → ℕ → ℕ → ℕ → Message → Record
message_record s p e q message =
    MessageTold p q e message.payload message.words message.length (number_given (accept_in s q) message.caps)

-- the sender goes on behind its instruction; without a receive phase its x10 becomes 0
abbrev pub sent_off : State → ℕ → Bool → State
sent_off s p true = advance s p
sent_off s p false = set_registers (advance s p) p (slice_set (process (advance s p) p).regs 10 0)

-- a message from process `p` through endpoint `e` to process `q`, of which so many bytes are there already
abbrev pub message_told : State → ℕ → ℕ → ℕ → InvocationValue → ℕ → Outcome
message_told s p e q inv length =
    let message = message_of s p inv length in
    record {
      state = sent_off (told_state s e q message) p inv.receive;
      records = message_record s p e q message ∷ [];
      touches = [];
      changed = object_name Endpoint e ∷ process_name q ∷ [];
    }

-- ---- the send phase

-- the bytes and the message, where the string is in these pieces and goes to those
abbrev pub delivered : State → ℕ → ℕ → ℕ → InvocationValue → List Piece → List Piece → Outcome
delivered s p e q inv from to =
    let moved = bytes_moved s from to in
    followed moved (message_told moved.state p e q inv (size_of_pieces to))

-- the receiver's buffer is accessed behind the sender's string, up to a fault, which the receiver never has: it is cut
abbrev pub sent_on : State → ℕ → ℕ → ℕ → InvocationValue → List Piece → Outcome
sent_on s p e q inv from =
    let to = received_side s q inv.length in
    followed (side_outcome s to) (delivered s p e q inv from to.pieces)

-- by the fault of the sender's string: where there is one, nothing is delivered
abbrev pub sent_by_fault : State → ℕ → ℕ → ℕ → InvocationValue → List Piece → Option StringFault → Outcome
sent_by_fault s p e q inv from None = sent_on s p e q inv from
sent_by_fault s p e q inv from (Some f) = fault s p f.why.code f.address f.why.handler

-- a message of process `p` through endpoint `e` to process `q`, which receives there
unfoldable pub send_open : State → ℕ → ℕ → ℕ → InvocationValue → Outcome
send_open s p e q inv =
    let from = sent_side s p inv in
    followed (side_outcome s from) (sent_by_fault s p e q inv from.pieces from.fault)

-- there is no fault
abbrev pub is_whole : Option StringFault → Bool
is_whole None = true
is_whole (Some f) = false

-- whether it is delivered
unfoldable pub is_delivered : State → ℕ → InvocationValue → Bool
is_delivered s p inv = is_whole (sent_side s p inv).fault
