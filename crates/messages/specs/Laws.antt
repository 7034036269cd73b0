-- The law of messages, as a statement.
use Rattle.std.specs.Prelude.{ℕ, ◌≤◌, length}
use Rattle.invocation.specs.Invocation.{InvocationValue, longest_string}
use Rattle.machine_state.specs.State.{State}
use Rattle.messages.specs.Message.{send_open}

-- the most records of a message: one for each of the 17 spans that a string has at most on either side, and its own or
-- a fault's
abbrev pub message_records : ℕ
message_records = 35

-- a message makes no more
abbrev pub FewRecords : Type 0
FewRecords = (s : State) (p e q : ℕ) (inv : InvocationValue)
    → inv.length ≤ longest_string
    → length (send_open s p e q inv).records ≤ message_records
