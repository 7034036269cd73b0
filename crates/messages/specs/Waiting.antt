-- Those who wait for a receiver that is busy, and those who listen. (Coyotos)
use Rattle.std.specs.Prelude.{ℕ, [], if◌then◌else◌}
use Rattle.schedules.specs.Queues.{sleepers_of}
use Rattle.schedules.specs.Ready.{process_names}
use Rattle.invocation.specs.Invocation.{InvocationValue}
use Rattle.machine_state.specs.State.{State}
use Rattle.machine_state.specs.Setters.{advance}
use Rattle.machine_state.specs.Messaging.{waiting_state, listening_state}
use Rattle.machine_state.specs.Outcome.{Outcome, done}

-- a message to process `q`, which is busy: process `p` leaves its hart and is the last sleeper of `q`. Its pc and its
-- registers stay, so that it performs the call again later
unfoldable pub wait_on : State → ℕ → ℕ → Outcome
wait_on s p q = done (waiting_state s p q)

-- the state in which a receive phase begins: a send phase before it has advanced the pc
abbrev pub listening_from : State → ℕ → InvocationValue → State
listening_from s p inv = if inv.send then s else advance s p

-- the receive phase of an invocation: the process leaves its hart and receives, and those that slept on it are woken
unfoldable pub listen : State → ℕ → InvocationValue → Outcome
listen s p inv = record {
  state = listening_state (listening_from s p inv) p inv.accept;
  records = [];
  touches = [];
  changed = process_names (sleepers_of s.queues p);
}
