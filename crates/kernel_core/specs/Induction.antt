-- Induction over the parts of an event: what a law has to show of single changes, accesses and records, so that it holds of
-- every instruction. A law is of one state and of what an event makes of it, or of several states side by side.
use Rattle.std.specs.Prelude.{◌≡◌, ℕ, true, Bool, List, Option, Some, None, Ok, Err}
use Rattle.cap_format.specs.declared.code.Code.{Code}
use Rattle.cap_format.specs.declared.fault.FaultCode.{FaultCode}
use Rattle.cap_format.specs.declared.request.Reply.{Reply}
use Rattle.cap_format.specs.Kind.{is_memory}
use Rattle.cap_format.specs.Capability.{Capability}
use Rattle.process_objects.specs.Accept.{AcceptValue}
use Rattle.process_objects.specs.Process.{capreg_of}
use Rattle.object_store.specs.Object.{ObjectName}
use Rattle.walk_meaning.specs.declared.kind.Kind.{Kind}
use Rattle.walk_meaning.specs.declared.kind.Kind.TheVariants.{Load, Store as Put, CapLoad, CapStore}
use Rattle.walk_meaning.specs.declared.place.Place.{Place}
use Rattle.walk_meaning.specs.declared.place.WalkFault.{WalkFault}
use Rattle.walk_meaning.specs.Walk.{is_data}
use Rattle.walk_engine.specs.declared.hit.Hit.{Hit}
use Rattle.rv32_decode.specs.declared.insn.Insn.{Insn}
use Rattle.rv32_decode.specs.Table.{insn_at}
use Rattle.rv32_user.specs.declared.effect.Effect.{Effect}
use Rattle.rv32_user.specs.declared.effect.Effect.TheVariants.{Next, Load as LoadOf, Store as StoreOf, Misaligned}
use Rattle.rv32_user.specs.Word.{next_of}
use Rattle.rv32_user.specs.Step.{effect_of, registers_after, loaded}
use Rattle.operations.specs.Row.{refused, granted, nothing, reply_of, settled_in}
use Rattle.invocation.specs.declared.callee.Callee.TheVariants.{Kernel, Open, Busy}
use Rattle.invocation.specs.Invocation.{InvocationValue, parsed}
use Rattle.invocation.specs.Target.{callee}
use Rattle.string_move.specs.Move.{gathered}
use Rattle.machine_state.specs.declared.event.Event.{Event}
use Rattle.machine_state.specs.declared.record.Record.{Record}
use Rattle.machine_state.specs.State.{State, process, register_of, pc_of}
use Rattle.machine_state.specs.Setters.{halted, set_pc, set_registers, set_capreg, dispatch, ticked}
use Rattle.machine_state.specs.Outcome.{Outcome, done, recorded, touched, changing}
use Rattle.machine_state.specs.DataAccess.{data_access, data_touch, number_at, written}
use Rattle.machine_state.specs.CapAccess.{cap_access, cap_touch, cap_found, cap_stored}
use Rattle.machine_state.specs.Reply.{set_reply}
use Rattle.messages.specs.declared.string_fault.StringFault.{StringFault}
use Rattle.messages.specs.Followed.{followed}
use Rattle.messages.specs.Fault.{fault}
use Rattle.messages.specs.Strings.{side_outcome}
use Rattle.messages.specs.Message.{sent_side, received_side, delivered}
use Rattle.messages.specs.Waiting.{wait_on, listen}
use Rattle.kernel_core.specs.KernelOperation.{kind_table, memory_op, control_op}
use Rattle.kernel_core.specs.Event.{instruction}
use Rattle.kernel_core.specs.Run.{run_of}

-- what a law wants of a state, of the process that performs an event, of an endpoint and of the process that receives through
-- it in a state, of a process that is busy and waited for, and of what the process that performs an event reads: numbers,
-- registers, capabilities, the handler of a fault, replies, effects, invocations
pub record Notions : Type 1 where
  pub holds : State → Type 0
  pub by : ℕ → Type 0
  pub heard : State → ℕ → ℕ → Type 0
  pub awaited : ℕ → Type 0
  pub word : ℕ → Type 0
  pub regs : List ℕ → Type 0
  pub has : Capability → Type 0
  pub handler : State → ℕ → Option Capability → Type 0
  pub reply : Reply → Type 0
  pub does : Effect → Type 0
  pub asks : InvocationValue → Type 0

-- a law that wants nothing of them
abbrev pub wants_nothing : Notions
wants_nothing = record {
  holds = λ s. Unit {0};
  by = λ p. Unit {0};
  heard = λ s e q. Unit {0};
  awaited = λ q. Unit {0};
  word = λ number. Unit {0};
  regs = λ registers. Unit {0};
  has = λ c. Unit {0};
  handler = λ s p c. Unit {0};
  reply = λ reply. Unit {0};
  does = λ effect. Unit {0};
  asks = λ inv. Unit {0};
}

-- what a law says of states side by side, one of which is the first, and of what the same part of an event makes of each
pub record Together (I : Type 0) (n : Notions) : Type 1 where
  pub first : I
  pub kept : (I → State) → Type 0
  pub makes : (I → State) → (I → Outcome) → Type 0
  pub each : (s : I → State) → kept s → n.holds (s first)

-- a law of one state
abbrev pub alone : (n : Notions) → (State → Outcome → Type 0) → Together (Unit {0}) n
alone n made = record { first = tt; kept = λ s. n.holds (s tt); makes = λ s o. made (s tt) (o tt); each = λ s k. k }

-- What a process reads is what the law wants, by where it comes from: its own registers; the instruction that was fetched;
-- its accesses; the invocation that it makes, and who answers; the string that it sends; the kernel's replies.
pub record Origins (n : Notions) : Type 0 where
  pub register : (s : State) (p i : ℕ) → n.holds s → n.by p → n.word (register_of s p i)
  pub capreg : (s : State) (p i : ℕ) → n.holds s → n.by p → n.has (capreg_of (process s p) i)
  pub pc : (s : State) (p : ℕ) → n.holds s → n.by p → n.word (pc_of s p)
  pub next : (pc : ℕ) → n.word (next_of pc)
  pub effect : (s : State) (p word : ℕ) (insn : Insn) → n.holds s → n.by p → insn_at word ≡ Some insn
      → n.does (effect_of (process s p).regs (pc_of s p) insn)
  pub computed : (s : State) (p word : ℕ) (insn : Insn) → n.holds s → n.by p → insn_at word ≡ Some insn
      → n.regs (registers_after (process s p).regs (pc_of s p) insn)
  pub target : (pc : ℕ) → n.does (Next pc) → n.word pc
  pub load : (at size : ℕ) (signed : Bool) (rd : ℕ) → n.does (LoadOf at size signed rd) → n.word at
  pub store : (at size value : ℕ) → n.does (StoreOf at size value) → n.word at
  pub misaligned : (target : ℕ) → n.does (Misaligned target) → n.word target
  pub loads : (s : State) (p at size : ℕ) (signed : Bool) (rd : ℕ) (hit : Hit) → n.holds s → n.by p
      → n.does (LoadOf at size signed rd) → data_access s p at Load ≡ Ok hit
      → n.regs (loaded (process s p).regs rd size signed (number_at s hit size))
  pub found : (s : State) (p at : ℕ) (place : Place) → n.holds s → n.by p → cap_access s p at CapLoad ≡ Ok place
      → n.has (cap_found s place)
  pub unhandled : (s : State) (p : ℕ) → n.handler s p None
  pub handled : (s : State) (p at : ℕ) (kind : Kind) (f : WalkFault) → n.holds s → n.by p → data_access s p at kind ≡ Err f
      → n.handler s p f.handler
  pub cap_handled : (s : State) (p at : ℕ) (kind : Kind) (f : WalkFault) → n.holds s → n.by p
      → cap_access s p at kind ≡ Err f → n.handler s p f.handler
  pub asked : (s : State) (p : ℕ) (inv : InvocationValue) → n.holds s → n.by p → parsed (process s p).regs ≡ Ok inv
      → n.asks inv
  pub kernel : (s : State) (c cap : Capability) → n.holds s → n.has c → callee s.store c ≡ Kernel cap → n.has cap
  pub busy : (s : State) (c : Capability) (q : ℕ) → n.holds s → n.has c → callee s.store c ≡ Busy q → n.awaited q
  pub opens : (s : State) (c : Capability) (e q : ℕ) → n.holds s → n.has c → callee s.store c ≡ Open e q → n.heard s e q
  pub sent_at : (s : State) (p : ℕ) (inv : InvocationValue) (f : StringFault) → n.holds s → n.by p → n.asks inv
      → (sent_side s p inv).fault ≡ Some f → n.word f.address
  pub sent_handled : (s : State) (p : ℕ) (inv : InvocationValue) (f : StringFault) → n.holds s → n.by p → n.asks inv
      → (sent_side s p inv).fault ≡ Some f → n.handler s p f.why.handler
  pub refusal : (code : Code) → n.reply (reply_of (refused code))
  pub grant : n.reply (reply_of (granted nothing))
  pub kind : (cap : Capability) (number : ℕ) → n.has cap → n.reply (reply_of (settled_in (kind_table cap) number))

-- What a process reads is the same in each of the states, read at the first.
pub record Reads (I : Type 0) (n : Notions) (m : Together I n) : Type 0 where
  pub itself : (s : I → State) (p : ℕ) → m.kept s → n.by p → (i : I) → process (s m.first) p ≡ process (s i) p
  pub hit : (s : I → State) (p at : ℕ) (kind : Kind) → m.kept s → n.by p → (i : I)
      → data_access (s m.first) p at kind ≡ data_access (s i) p at kind
  pub number : (s : I → State) (p at : ℕ) (kind : Kind) (hit : Hit) (size : ℕ) → m.kept s → n.by p → is_data kind ≡ true
      → data_access (s m.first) p at kind ≡ Ok hit → (i : I) → number_at (s m.first) hit size ≡ number_at (s i) hit size
  pub place : (s : I → State) (p at : ℕ) (kind : Kind) → m.kept s → n.by p → (i : I)
      → cap_access (s m.first) p at kind ≡ cap_access (s i) p at kind
  pub found : (s : I → State) (p at : ℕ) (place : Place) → m.kept s → n.by p → cap_access (s m.first) p at CapLoad ≡ Ok place
      → (i : I) → cap_found (s m.first) place ≡ cap_found (s i) place
  pub answers : (s : I → State) (c : Capability) → m.kept s → n.has c → (i : I)
      → callee (s m.first).store c ≡ callee (s i).store c
  pub faulted : (s : I → State) (p : ℕ) (inv : InvocationValue) → m.kept s → n.by p → n.asks inv → (i : I)
      → (sent_side (s m.first) p inv).fault ≡ (sent_side (s i) p inv).fault
  pub bytes : (s : I → State) (p : ℕ) (inv : InvocationValue) → m.kept s → n.by p → n.asks inv → (i : I)
      → gathered (s m.first).store (sent_side (s m.first) p inv).pieces ≡ gathered (s i).store (sent_side (s i) p inv).pieces

-- Parts of an event are put together: what is made is kept, nothing may be done, a record, a changed object or an access may
-- come first, and one part may follow another.
pub record Parts (I : Type 0) (n : Notions) (m : Together I n) : Type 0 where
  pub left : (s : I → State) (o : I → Outcome) → m.makes s o → m.kept (λ i. (o i).state)
  pub idle : (s : I → State) → m.kept s → m.makes s (λ i. done (s i))
  pub told : (s : I → State) (r : Record) (o : I → Outcome) → m.makes s o → m.makes s (λ i. recorded r (o i))
  pub named : (s : I → State) (name : ObjectName) (o : I → Outcome) → m.makes s o → m.makes s (λ i. changing name (o i))
  pub walked : (s : I → State) (p at : ℕ) (kind : Kind) (o : I → Outcome) → m.kept s → n.by p → n.word at
      → is_data kind ≡ true → m.makes s o → m.makes s (λ i. touched (data_touch (s i) p at kind) (o i))
  pub cap_walked : (s : I → State) (p at : ℕ) (kind : Kind) (o : I → Outcome) → m.kept s → n.by p → m.makes s o
      → m.makes s (λ i. touched (cap_touch (s i) p at kind) (o i))
  pub behind : (s : I → State) (o u : I → Outcome) → m.makes s o → m.makes (λ i. (o i).state) u
      → m.makes s (λ i. followed (o i) (u i))

-- The single parts: each of the machine's changes, a fault, a message with its two strings, and an operation of the kernel.
pub record Cases (I : Type 0) (n : Notions) (m : Together I n) : Type 0 where
  pub pc_is : (s : I → State) (p pc : ℕ) → m.kept s → n.by p → n.word pc → m.makes s (λ i. done (set_pc (s i) p pc))
  pub regs_are : (s : I → State) (p : ℕ) (registers : List ℕ) → m.kept s → n.by p → n.regs registers
      → m.makes s (λ i. done (set_registers (s i) p registers))
  pub capreg_is : (s : I → State) (p j : ℕ) (c : Capability) → m.kept s → n.by p → n.has c
      → m.makes s (λ i. done (set_capreg (s i) p j c))
  pub replied : (s : I → State) (p : ℕ) (accept : AcceptValue) (reply : Reply) → m.kept s → n.by p → n.reply reply
      → m.makes s (λ i. done (set_reply (s i) p accept reply))
  pub page_is : (s : I → State) (p at : ℕ) (hit : Hit) (size value : ℕ) → m.kept s → n.by p
      → data_access (s m.first) p at Put ≡ Ok hit → m.makes s (λ i. done (written (s i) hit size value))
  pub cappage_is : (s : I → State) (p at : ℕ) (place : Place) (c : Capability) → m.kept s → n.by p → n.has c
      → cap_access (s m.first) p at CapStore ≡ Ok place → m.makes s (λ i. done (cap_stored (s i) place c))
  pub ready_again : (s : I → State) (p : ℕ) → m.kept s → n.by p → m.makes s (λ i. done (ticked (s i) (Some p)))
  pub halts : (s : I → State) → m.kept s → m.makes s (λ i. done (halted (s i)))
  pub faults : (s : I → State) (p : ℕ) (code : FaultCode) (address : ℕ) (handler : Option Capability) → m.kept s → n.by p
      → n.word address → n.handler (s m.first) p handler → m.makes s (λ i. fault (s i) p code address handler)
  pub waits : (s : I → State) (p q : ℕ) → m.kept s → n.by p → n.awaited q → m.makes s (λ i. wait_on (s i) p q)
  pub listens : (s : I → State) (p : ℕ) (inv : InvocationValue) → m.kept s → n.by p → n.asks inv
      → m.makes s (λ i. listen (s i) p inv)
  pub sends : (s : I → State) (p : ℕ) (inv : InvocationValue) → m.kept s → n.by p → n.asks inv
      → m.makes s (λ i. side_outcome (s i) (sent_side (s i) p inv))
  pub receives : (s : I → State) (e q : ℕ) (inv : InvocationValue) → m.kept s → n.heard (s m.first) e q → n.asks inv
      → m.makes s (λ i. side_outcome (s i) (received_side (s i) q inv.length))
  pub delivers : (s : I → State) (p e q : ℕ) (inv : InvocationValue) → m.kept s → n.by p → n.heard (s m.first) e q
      → n.asks inv → m.makes s (λ i. delivered (s i) p e q inv (sent_side (s i) p inv).pieces (received_side (s i) q inv.length).pieces)
  pub memory : (s : I → State) (p : ℕ) (inv : InvocationValue) (cap : Capability) → m.kept s → n.by p → n.asks inv
      → n.has cap → is_memory cap.kind ≡ true → m.makes s (λ i. memory_op (s i) p inv cap)
  pub control : (s : I → State) (p : ℕ) (inv : InvocationValue) (cap : Capability) → m.kept s → n.by p → n.asks inv
      → n.has cap → m.makes s (λ i. control_op (s i) p inv cap)

-- ---- the induction

-- What holds of the single parts, and stays where they are put together, holds of every instruction of a process that may
-- take part.
abbrev pub OfInstructions : Type 1
OfInstructions = (I : Type 0) (n : Notions) (m : Together I n) → Origins n → Reads I n m → Parts I n m → Cases I n m
    → (p : ℕ) → n.by p
    → (s : I → State) → m.kept s
    → m.makes s (λ i. instruction (s i) p)

-- And of one state it holds of every run, where any process may take part and any hart take one.
abbrev pub OfRuns : Type 1
OfRuns = (n : Notions) (made : State → Outcome → Type 0) → Origins n → Parts (Unit {0}) n (alone n made) → Cases (Unit {0}) n (alone n made)
    → ((p : ℕ) → n.by p)
    → ((s : State) (hart : ℕ) → n.holds s → made s (done (dispatch s hart)))
    → (s : State) → n.holds s → (es : List Event) → made s (run_of s es)
