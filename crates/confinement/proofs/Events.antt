-- What an event makes of a state stays on the side of the process that performs it, but for who is told.
use Rattle.std.proofs.Common.{◌≡◌, ℕ, ◌==◌, Option, Some, None, refl, slice_get, subst, min}
use Rattle.std.proofs.lemmas.Bool.{cond_both}
use Rattle.cap_format.specs.declared.kind.CapKind.TheVariants.{Process}
use Rattle.cap_format.specs.declared.request.Request.{Request}
use Rattle.cap_format.specs.declared.request.Reply.{Reply}
use Rattle.cap_format.specs.Capability.{Capability}
use Rattle.process_objects.specs.Accept.{AcceptValue}
use Rattle.process_objects.specs.Process.{ProcessValue}
use Rattle.object_store.specs.Object.{ObjectName}
use Rattle.walk_meaning.specs.declared.kind.Kind.{Kind}
use Rattle.walk_meaning.specs.declared.kind.Kind.TheVariants.{Load, Store as Put, CapLoad, CapStore}
use Rattle.walk_meaning.specs.Walk.{access}
use Rattle.invocation.specs.Invocation.{InvocationValue}
use Rattle.invocation.specs.declared.callee.Callee.{Callee}
use Rattle.invocation.specs.declared.callee.Callee.TheVariants.{Kernel, Open, Busy}
use Rattle.invocation.specs.Target.{callee}
use Rattle.string_move.specs.Spans.{spans}
use Rattle.operations.specs.System.{Meant}
use Rattle.operations.specs.Row.{Settled, reply_of, settled_in}
use Rattle.operations.specs.Memory.{kind_row, memory_operation}
use Rattle.operations.specs.Control.{control_operation}
use Rattle.machine_state.specs.State.{State, process, space_of}
use Rattle.machine_state.specs.Outcome.{Outcome}
use Rattle.machine_state.specs.DataAccess.{data_access}
use Rattle.machine_state.specs.Operation.{first_sent, request_of, changed_by}
use Rattle.machine_state.specs.Reply.{answered, replied_with, replied, set_reply}
use Rattle.messages.specs.Message.{accept_in, sent_side, received_side}
use Rattle.kernel_core.specs.KernelOperation.{memory_answered, memory_op, destroyed_by, is_end_of, replied_unless, control_answered, control_op, kind_table}
use Rattle.kernel_core.specs.Event.{instruction}
use Rattle.kernel_core.specs.Induction.{Notions, alone, Origins, Parts, Cases}
use Rattle.kernel_core.proofs.Induction.{instruction-alone}
use Rattle.confinement.specs.declared.cut_side.CutSide.{CutSide}
use Rattle.confinement.specs.Cut.{Cut, side_of, MayHold, HoldsFor}
use Rattle.confinement.specs.Acts.{Acts, ProcessHeld, MayHoldIf, AnswerPermitted, CalleeOwn, Hears, MayAwait, system_of}
use Rattle.confinement.specs.Reach.{Ends}
use Rattle.confinement.proofs.Held.{may-null}
use Rattle.confinement.proofs.Acting.{acts-same, acts-process, held-process}
use Rattle.confinement.proofs.Answering.{callee-own}
use Rattle.confinement.proofs.Delivering.{held-capreg}
use Rattle.confinement.proofs.Operating.{finds, memory_operation-may, control_operation-may}
use Rattle.confinement.proofs.Machine.{acts-next, may-capreg, acts-set_pc, acts-set_registers, acts-set_capreg, acts-ticked, acts-changed_by, ends-here, ends-hit, EndsHit, acts-written, may-found, acts-cap_stored}
use Rattle.confinement.proofs.Messaging.{StringFaultOwn, side-own, acts-fault_part, acts-wait_on, acts-listen, acts-delivered_part, received-reached}

module _ (cut : Cut) (side : CutSide) (p : ℕ) (own : side_of cut Process p ≡ side) where
  -- from state `s` this side made state `t`, in which the cut holds
  abbrev Moves : State → State → Type 0
  Moves s t = Acts cut side (system_of s) (system_of t)

  -- ---- replies

  held-answered : (v : ProcessValue) (number : ℕ) (reply : Reply) → ProcessHeld cut side v → ProcessHeld cut side (answered v number reply)
  unfolding answered
  held-answered v number reply held = record { capregs = held.capregs; slots = held.slots }

  -- a reply is written
  pub held-replied_with : (v : ProcessValue) (accept : AcceptValue) (reply : Reply) (cap : Option Capability) → MayHoldIf cut side cap → ProcessHeld cut side v → ProcessHeld cut side (replied_with v accept reply cap)
  held-replied_with v accept reply None may held = held-answered v 0 reply held
  held-replied_with v accept reply (Some cap) may held =
      cond_both (accept.caps == 0) _ _ (ProcessHeld cut side) (λ e. held-answered v 0 reply held)
      (λ e. held-capreg cut side (answered v 1 reply) _ cap may (held-answered v 1 reply held))

  moves-reply : (s : State) (accept : AcceptValue) (reply : Reply) → MayHoldIf cut side reply.cap → HoldsFor cut side (system_of s) → Moves s (set_reply s p accept reply)
  unfolding replied
  moves-reply s accept reply may holds =
      acts-process cut side (system_of s) p (replied (process s p) accept reply) own
      (held-replied_with (process s p) accept reply reply.cap may (held-process cut side (system_of s) p own holds)) holds

  -- ---- operations

  -- what is sent may be held
  pub may-sent : (v : ProcessValue) (i : Option ℕ) → ProcessHeld cut side v → MayHold cut side (first_sent v i)
  may-sent v None held = may-null cut side
  may-sent v (Some i) held = held.capregs i

  -- what a request sends may be held
  pub may-request : (s : State) (inv : InvocationValue) → HoldsFor cut side (system_of s) → MayHold cut side (request_of (process s p) inv).sent
  may-request s inv holds = may-sent (process s p) (slice_get inv.sent 0) (held-process cut side (system_of s) p own holds)

  leaves-memory_answered : (s : State) (inv : InvocationValue) (cap : Capability) (request : Request) (settled : Settled) → AnswerPermitted cut side settled.answer → HoldsFor cut side (system_of s)
      → Moves s (memory_answered s p inv cap request settled).state
  leaves-memory_answered s inv cap request settled may holds =
      let t = changed_by s settled.answer.changes in
      acts-next cut side s t (set_reply t p inv.accept (reply_of settled)) (acts-changed_by cut side s settled.answer.changes may.changes holds) (λ h. moves-reply t inv.accept (reply_of settled) may.cap h)

  leaves-memory_op : (s : State) (inv : InvocationValue) (cap : Capability) → MayHold cut side cap → HoldsFor cut side (system_of s) → Moves s (memory_op s p inv cap).state
  leaves-memory_op s inv cap may holds =
      let request = request_of (process s p) inv in
      leaves-memory_answered s inv cap request (memory_operation s.store cap request) (memory_operation-may cut side s.store cap may (finds cut side s.store holds.each cap may) request (may-request s inv holds)) holds

  moves-unless : (destroyed : Option ObjectName) (s : State) (accept : AcceptValue) (reply : Reply) → MayHoldIf cut side reply.cap → HoldsFor cut side (system_of s) → Moves s (replied_unless destroyed s p accept reply)
  moves-unless destroyed s accept reply may holds =
      cond_both (is_end_of p destroyed) _ _ (Moves s) (λ e. acts-same cut side (system_of s) holds) (λ e. moves-reply s accept reply may holds)

  leaves-control_answered : (s : State) (inv : InvocationValue) (settled : Settled) (destroyed : Option ObjectName) → AnswerPermitted cut side settled.answer → HoldsFor cut side (system_of s)
      → Moves s (control_answered s p inv settled destroyed).state
  leaves-control_answered s inv settled destroyed may holds =
      let t = changed_by s settled.answer.changes in
      acts-next cut side s t (replied_unless destroyed t p inv.accept (reply_of settled)) (acts-changed_by cut side s settled.answer.changes may.changes holds) (λ h. moves-unless destroyed t inv.accept (reply_of settled) may.cap h)

  leaves-control_op : (s : State) (inv : InvocationValue) (cap : Capability) → MayHold cut side cap → HoldsFor cut side (system_of s) → Moves s (control_op s p inv cap).state
  leaves-control_op s inv cap may holds =
      let request = request_of (process s p) inv in
      let settled = control_operation Meant s.store cap request in
      leaves-control_answered s inv settled (destroyed_by settled.answer.changes) (control_operation-may cut side s.store cap may (finds cut side s.store holds.each cap may) request (may-request s inv holds) Meant) holds

-- ---- every part

module _ (cut : Cut) (side : CutSide) where
  -- states in which the cut holds, processes of this side and those who take its messages, and capabilities that it may hold
  abbrev pub on_side : Notions
  on_side = record {
    holds = λ s. HoldsFor cut side (system_of s);
    by = λ p. side_of cut Process p ≡ side;
    heard = λ s e q. Hears cut side s.store e q;
    awaited = λ q. MayAwait cut side q;
    word = λ number. Unit {0};
    regs = λ registers. Unit {0};
    has = λ c. MayHold cut side c;
    handler = λ s p c. MayHoldIf cut side c;
    reply = λ reply. MayHoldIf cut side reply.cap;
    does = λ effect. Unit {0};
    asks = λ inv. Unit {0};
  }

  -- where accesses of its processes end
  hit-here : (s : State) (p at : ℕ) (kind : Kind) → HoldsFor cut side (system_of s) → side_of cut Process p ≡ side → EndsHit cut side kind (data_access s p at kind)
  hit-here s p at kind holds own = ends-hit cut side kind (access s.store.items (space_of s p) at kind) (ends-here cut side p own s kind at holds)

  called-own : (s : State) (c : Capability) (to : Callee) → HoldsFor cut side (system_of s) → MayHold cut side c → callee s.store c ≡ to → CalleeOwn cut side s.store to
  called-own s c to holds may e = subst (CalleeOwn cut side s.store) e (callee-own cut side s.store holds.each holds.beyond c may)

  -- a request for the kind gives nothing
  pub kind-may : (number : ℕ) (cap : Capability) → MayHoldIf cut side (settled_in (kind_table cap) number).answer.cap
  unfolding kind_row
  kind-may number cap = cond_both (number == 0) _ _ (λ (settled : Settled). MayHoldIf cut side settled.answer.cap) (λ e. tt) (λ e. tt)

  -- what its processes read they may have
  pub on_side-origins : Origins on_side
  on_side-origins = record {
    register = λ s p i holds own. tt;
    capreg = λ s p i holds own. may-capreg cut side p own s i holds;
    pc = λ s p holds own. tt;
    next = λ pc. tt;
    effect = λ s p word insn holds own e. tt;
    computed = λ s p word insn holds own e. tt;
    target = λ pc does. tt;
    load = λ at size signed rd does. tt;
    store = λ at size value does. tt;
    misaligned = λ target does. tt;
    loads = λ s p at size signed rd hit holds own does e. tt;
    found = λ s p at place holds own e. may-found cut side s place (subst (Ends cut side CapLoad) e (ends-here cut side p own s CapLoad at holds)) holds;
    unhandled = λ s p. tt;
    handled = λ s p at kind f holds own e. subst (EndsHit cut side kind) e (hit-here s p at kind holds own);
    cap_handled = λ s p at kind f holds own e. subst (Ends cut side kind) e (ends-here cut side p own s kind at holds);
    asked = λ s p inv holds own e. tt;
    kernel = λ s c cap holds may e. called-own s c (Kernel cap) holds may e;
    busy = λ s c q holds may e. called-own s c (Busy q) holds may e;
    opens = λ s c e q holds may is. called-own s c (Open e q) holds may is;
    sent_at = λ s p inv f holds own asks e. tt;
    sent_handled = λ s p inv f holds own asks e. subst (StringFaultOwn cut side) e (side-own cut side p own s Load (spans inv.at inv.length) holds).fault;
    refusal = λ code. tt;
    grant = tt;
    kind = λ cap number may. kind-may number cap;
  }

  -- from a state this side made what a part of an event leaves
  abbrev Leaves : State → Outcome → Type 0
  Leaves s o = Acts cut side (system_of s) (system_of o.state)

  parts : Parts (Unit {0}) on_side (alone on_side Leaves)
  parts = record {
    left = λ s o acts. acts.holds;
    idle = λ s holds. acts-same cut side (system_of (s tt)) holds;
    told = λ s r o acts. acts;
    named = λ s name o acts. acts;
    walked = λ s p at kind o holds own word is acts. acts;
    cap_walked = λ s p at kind o holds own acts. acts;
    behind = λ s o u first second. acts-next cut side (s tt) (o tt).state (u tt).state first (λ h. second);
  }

  cases : Cases (Unit {0}) on_side (alone on_side Leaves)
  cases = record {
    pc_is = λ s p pc holds own word. acts-set_pc cut side p own (s tt) pc holds;
    regs_are = λ s p registers holds own are. acts-set_registers cut side p own (s tt) registers holds;
    capreg_is = λ s p j c holds own may. acts-set_capreg cut side p own (s tt) j c may holds;
    replied = λ s p accept reply holds own may. moves-reply cut side p own (s tt) accept reply may holds;
    page_is = λ s p at hit size value holds own e. acts-written cut side (s tt) hit size value (subst (EndsHit cut side Put) e (hit-here (s tt) p at Put holds own) refl) holds;
    cappage_is = λ s p at place c holds own may e. acts-cap_stored cut side (s tt) place c (subst (Ends cut side CapStore) e (ends-here cut side p own (s tt) CapStore at holds)) may holds;
    ready_again = λ s p holds own. acts-ticked cut side p own (s tt) holds;
    halts = λ s holds. acts-same cut side (system_of (s tt)) holds;
    faults = λ s p code address handler holds own word may. acts-fault_part cut side p own (s tt) code address handler may holds;
    waits = λ s p q holds own other. acts-wait_on cut side p own (s tt) q other holds;
    listens = λ s p inv holds own asks. acts-listen cut side p own (s tt) inv holds;
    sends = λ s p inv holds own asks. acts-same cut side (system_of (s tt)) holds;
    receives = λ s e q inv holds heard asks. acts-same cut side (system_of (s tt)) holds;
    delivers = λ s p e q inv holds own heard asks.
        let accept = accept_in (s tt) q in
        let from = (sent_side (s tt) p inv).pieces in
        let onto = (received_side (s tt) q inv.length).pieces in
        acts-delivered_part cut side p own e q inv (s tt) heard holds from onto (received-reached cut side (s tt) e q (spans accept.at (min inv.length accept.bound)) heard holds);
    memory = λ s p inv cap holds own asks may memory. leaves-memory_op cut side p own (s tt) inv cap may holds;
    control = λ s p inv cap holds own asks may. leaves-control_op cut side p own (s tt) inv cap may holds;
  }

  -- one instruction
  pub leaves-instruction : (p : ℕ) → side_of cut Process p ≡ side → (s : State) → HoldsFor cut side (system_of s) → Leaves s (instruction s p)
  leaves-instruction p own s holds = instruction-alone on_side Leaves on_side-origins parts cases s p holds own
