-- Replies of the kernel, in the registers of the process that asked. (Coyotos; the registers are this project's.)
use Rattle.std.specs.Prelude.{ℕ, ◌+◌, ◌*◌, ◌==◌, if◌then◌else◌, slice_index, Option, Some, None}
use Rattle.cap_format.specs.declared.request.Reply.{Reply}
use Rattle.cap_format.specs.Capability.{Capability}
use Rattle.cap_format.specs.Codes.{reply_number}
use Rattle.process_objects.specs.Accept.{AcceptValue}
use Rattle.process_objects.specs.Process.{ProcessValue, with_reg, with_capreg}
use Rattle.machine_state.specs.State.{State, process}
use Rattle.machine_state.specs.Setters.{set_process}

-- the process with a reply and so many capabilities in x10 to x14: 2 and 65,536 times their number, the code, the words
unfoldable pub answered : ProcessValue → ℕ → Reply → ProcessValue
answered q number reply =
    with_reg (with_reg (with_reg (with_reg (with_reg q
    10 (2 + 65536 * number))
    11 (reply_number reply.code))
    12 (slice_index reply.words 0))
    13 (slice_index reply.words 1))
    14 (slice_index reply.words 2)

-- a capability of a reply goes to the first accepting register, if there is one
abbrev pub replied_with : ProcessValue → AcceptValue → Reply → Option Capability → ProcessValue
replied_with q accept reply None = answered q 0 reply
replied_with q accept reply (Some cap) =
    if accept.caps == 0 then answered q 0 reply
    else with_capreg (answered q 1 reply) (slice_index accept.regs 0) cap

-- the process with a reply
unfoldable pub replied : ProcessValue → AcceptValue → Reply → ProcessValue
replied q accept reply = replied_with q accept reply reply.cap

-- the state with a reply to process `p`
abbrev pub set_reply : State → ℕ → AcceptValue → Reply → State
set_reply s p accept reply = set_process s p (replied (process s p) accept reply)
