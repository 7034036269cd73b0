-- What becomes of a state where a process is told, waits or listens. (Coyotos)
use Rattle.std.specs.Prelude.{ℕ}
use Rattle.process_objects.specs.Accept.{AcceptValue}
use Rattle.invocation.specs.declared.message.Message.{Message}
use Rattle.operations.specs.System.{Meant, system}
use Rattle.fault_path.specs.message_path.Messages.{told_system, waiting, listening}
use Rattle.machine_state.specs.State.{State}
use Rattle.machine_state.specs.Setters.{set_system}

-- a message reaches process `q` through endpoint `e`, and makes it ready
unfoldable pub told_state : State → ℕ → ℕ → Message → State
told_state s e q message = set_system s (told_system Meant (system s.store s.queues) e q message)

-- process `p` leaves its place and is the last sleeper of process `q`
unfoldable pub waiting_state : State → ℕ → ℕ → State
waiting_state s p q = set_system s (waiting (system s.store s.queues) p q)

-- process `p` leaves its place and receives, and all that slept on it are made ready
unfoldable pub listening_state : State → ℕ → AcceptValue → State
listening_state s p accept = set_system s (listening Meant (system s.store s.queues) p accept)
