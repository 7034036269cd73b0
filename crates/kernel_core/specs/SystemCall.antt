-- System calls, by the number in x17. (Coyotos; the numbers are this project's.)
use Rattle.std.specs.Prelude.{ℕ, ◌==◌, ◌&&◌, nat_le, Bool, false, if◌then◌else◌, Option, Some, None, Result, Ok, Err}
use Rattle.cap_format.specs.declared.code.Code.{Code}
use Rattle.cap_format.specs.declared.code.Code.TheVariants.{InvalidCap, WouldBlock}
use Rattle.process_objects.specs.Process.{capreg_of}
use Rattle.operations.specs.Row.{reply_of, refused}
use Rattle.invocation.specs.declared.callee.Callee.{Callee}
use Rattle.invocation.specs.declared.callee.Callee.TheVariants.{Kernel, Open, Busy, Dead}
use Rattle.invocation.specs.declared.malformed.MalformedSyscall.{MalformedSyscall}
use Rattle.invocation.specs.Invocation.{InvocationValue, parsed}
use Rattle.invocation.specs.Target.{callee}
use Rattle.kernel_core.specs.declared.system_calls.SystemCall.{SystemCall}
use Rattle.kernel_core.specs.declared.system_calls.SystemCall.TheVariants.{Invoke, LoadCap, StoreCap, CopyCap, Yield}
use Rattle.machine_state.specs.State.{State, process, register_of}
use Rattle.machine_state.specs.Setters.{set_capreg, advance, yielded}
use Rattle.machine_state.specs.Outcome.{Outcome, done}
use Rattle.messages.specs.Followed.{followed}
use Rattle.messages.specs.Fault.{malformed}
use Rattle.messages.specs.Message.{send_open, is_delivered}
use Rattle.messages.specs.Waiting.{wait_on, listen}
use Rattle.kernel_core.specs.CapTransfer.{load_cap, store_cap}
use Rattle.kernel_core.specs.KernelOperation.{answered_call, kernel_op}

-- the system call with this number
abbrev pub call_with : ℕ → Option SystemCall
call_with number =
    if number == 0 then Some Invoke
    else (if number == 1 then Some LoadCap
    else (if number == 2 then Some StoreCap
    else (if number == 3 then Some CopyCap
    else (if number == 4 then Some Yield
    else None))))

-- the capability of register c`from` goes to register c`to`; what goes to c0 is dropped
abbrev pub copied : State → ℕ → ℕ → ℕ → State
copied s p from to = set_capreg s p to (capreg_of (process s p) from)

-- call 3, copycap: the capability of the register in x10 goes to the one in x11, where both are registers
unfoldable pub copy_cap : State → ℕ → ℕ → ℕ → Outcome
copy_cap s p from to =
    if nat_le from 31 && nat_le to 31 then done (advance (copied s p from to) p)
    else malformed s p

-- ---- call 0, invoke

-- a send phase: what comes of it, and whether it delivers a message
pub record Sending : Type 0 where
  pub outcome : Outcome
  pub delivers : Bool

-- a send phase that delivers no message
abbrev pub no_message : Outcome → Sending
no_message outcome = record { outcome = outcome; delivers = false }

-- a send phase that is over with a code: the process goes on behind its instruction, with a reply
abbrev pub refused_call : State → ℕ → InvocationValue → Code → Outcome
refused_call s p inv code = answered_call s p inv (reply_of (refused code))

-- a recipient that is busy: the process is told so, or waits for it
abbrev pub busy_call : State → ℕ → InvocationValue → ℕ → Outcome
busy_call s p inv q = if inv.nonblocking then refused_call s p inv WouldBlock else wait_on s p q

-- a send phase by who answers
abbrev pub sent_to : State → ℕ → InvocationValue → Callee → Sending
sent_to s p inv (Kernel cap) = no_message (kernel_op s p inv cap)
sent_to s p inv Dead = no_message (refused_call s p inv InvalidCap)
sent_to s p inv (Busy q) = no_message (busy_call s p inv q)
sent_to s p inv (Open e q) = record { outcome = send_open s p e q inv; delivers = is_delivered s p inv }

-- the send phase of an invocation
unfoldable pub send : State → ℕ → InvocationValue → Sending
send s p inv = sent_to s p inv (callee s.store (capreg_of (process s p) inv.capreg))

-- what follows a send phase: a receive phase, where there is one and a message was delivered
abbrev pub received_after : ℕ → InvocationValue → Sending → Outcome
received_after p inv sending =
    if sending.delivers && inv.receive then followed sending.outcome (listen sending.outcome.state p inv)
    else sending.outcome

-- an invocation, or registers that are none: the receive phase without a send phase comes at once
abbrev pub invoked : State → ℕ → Result InvocationValue MalformedSyscall → Outcome
invoked s p (Err malformed_is) = malformed s p
invoked s p (Ok inv) = if inv.send then received_after p inv (send s p inv) else listen s p inv

-- call 0
unfoldable pub invoke : State → ℕ → Outcome
invoke s p = invoked s p (parsed (process s p).regs)

-- ---- all

-- what a system call comes to, by the operands of those that move a capability, which are in x10 and x11
abbrev pub called : State → ℕ → Option SystemCall → ℕ → ℕ → Outcome
called s p None x10 x11 = malformed s p
called s p (Some Invoke) x10 x11 = invoke s p
called s p (Some LoadCap) x10 x11 = load_cap s p x10 x11
called s p (Some StoreCap) x10 x11 = store_cap s p x10 x11
called s p (Some CopyCap) x10 x11 = copy_cap s p x10 x11
called s p (Some Yield) x10 x11 = done (yielded s p)

-- such a call of a process, whose operands are in its registers
abbrev pub call_of : State → ℕ → Option SystemCall → Outcome
call_of s p call = called s p call (register_of s p 10) (register_of s p 11)

-- the system call whose number is in x17
unfoldable pub system_call : State → ℕ → Outcome
system_call s p = call_of s p (call_with (register_of s p 17))

-- a call, where it is one of those that move a capability, 1 to 3
abbrev pub moving : Option SystemCall → Option SystemCall
moving None = None
moving (Some Invoke) = None
moving (Some LoadCap) = Some LoadCap
moving (Some StoreCap) = Some StoreCap
moving (Some CopyCap) = Some CopyCap
moving (Some Yield) = None

-- the system call whose number is in x17, where it moves a capability; any other is no call
unfoldable pub move_cap : State → ℕ → Outcome
move_cap s p = call_of s p (moving (call_with (register_of s p 17)))
