-- Operations of the kernel that a process of this side asks for: in two states that match they tell the same and leave
-- states that match.
use Rattle.std.proofs.Common.{◌≡◌, ℕ, Bool, true, false, if◌then◌else◌, Option, refl, ◌∙◌, ap, subst}
use Rattle.cap_format.specs.declared.kind.CapKind.TheVariants.{Process}
use Rattle.cap_format.specs.declared.request.Request.{Request}
use Rattle.cap_format.specs.declared.request.Reply.{Reply}
use Rattle.cap_format.specs.Capability.{Capability}
use Rattle.process_objects.specs.Accept.{AcceptValue}
use Rattle.process_objects.specs.Process.{ProcessValue}
use Rattle.object_store.specs.Object.{ObjectName}
use Rattle.invocation.specs.Invocation.{InvocationValue}
use Rattle.operations.specs.System.{Meant}
use Rattle.operations.specs.Row.{Settled, reply_of}
use Rattle.operations.specs.Memory.{memory_operation}
use Rattle.operations.specs.Control.{control_operation}
use Rattle.machine_state.specs.State.{State, process}
use Rattle.machine_state.specs.Operation.{request_of, changed_by}
use Rattle.machine_state.specs.Reply.{replied, set_reply}
use Rattle.kernel_core.specs.KernelOperation.{memory_answered, memory_op, destroyed_by, is_end_of, control_answered, control_op}
use Rattle.confinement.specs.declared.cut_side.CutSide.{CutSide}
use Rattle.confinement.specs.Cut.{Cut, side_of, MayHold}
use Rattle.confinement.specs.Acts.{MayHoldIf, AnswerPermitted, system_of}
use Rattle.confinement.proofs.Operating.{finds, memory_operation-may, control_operation-may}
use Rattle.confinement.proofs.Events.{held-replied_with, may-request}
use Rattle.confinement.proofs.Isolating.Matching.{match-process}
use Rattle.confinement.proofs.Isolating.Operating.{same-memory, same-control}
use Rattle.confinement.proofs.Isolating.States.{Matches, match-changed_by, same-here, held-here}
use Rattle.confinement.proofs.Isolating.Messaging.{Alike}

module _ (cut : Cut) (on : CutSide) (p : ℕ) (own : side_of cut Process p ≡ on) where
  -- ---- replies

  -- a reply is written
  pub match-reply : (s t : State) → Matches cut on s t → (accept : AcceptValue) (reply : Reply) → MayHoldIf cut on reply.cap
      → Matches cut on (set_reply s p accept reply) (set_reply t p accept reply)
  unfolding replied
  match-reply s t m accept reply may =
      match-process cut on (system_of s) (system_of t) m p _ _ (ap (λ (q : ProcessValue). replied q accept reply) (same-here cut on p own s t m)) own
      (held-replied_with cut on p own (process s p) accept reply reply.cap may (held-here cut on p own s t m))

  -- ---- operations

  same-request : (s t : State) → Matches cut on s t → (inv : InvocationValue) → request_of (process s p) inv ≡ request_of (process t p) inv
  same-request s t m inv = ap (λ (q : ProcessValue). request_of q inv) (same-here cut on p own s t m)

  alike-memory_answered : (s t : State) → Matches cut on s t → (inv : InvocationValue) (cap : Capability) (request : Request) (settled : Settled)
      → AnswerPermitted cut on settled.answer
      → Alike cut on (memory_answered s p inv cap request settled) (memory_answered t p inv cap request settled)
  alike-memory_answered s t m inv cap request settled may = record {
    records = refl;
    state = match-reply (changed_by s settled.answer.changes) (changed_by t settled.answer.changes)
        (match-changed_by cut on s t m settled.answer.changes may.changes) inv.accept (reply_of settled) may.cap;
  }

  match-unless : (b : Bool) (s t : State) → Matches cut on s t → (accept : AcceptValue) (reply : Reply) → MayHoldIf cut on reply.cap
      → Matches cut on (if b then s else set_reply s p accept reply) (if b then t else set_reply t p accept reply)
  match-unless true s t m accept reply may = m
  match-unless false s t m accept reply may = match-reply s t m accept reply may

  alike-control_answered : (s t : State) → Matches cut on s t → (inv : InvocationValue) (settled : Settled) (destroyed : Option ObjectName)
      → AnswerPermitted cut on settled.answer
      → Alike cut on (control_answered s p inv settled destroyed) (control_answered t p inv settled destroyed)
  alike-control_answered s t m inv settled destroyed may = record {
    records = refl;
    state = match-unless (is_end_of p destroyed) (changed_by s settled.answer.changes) (changed_by t settled.answer.changes)
        (match-changed_by cut on s t m settled.answer.changes may.changes) inv.accept (reply_of settled) may.cap;
  }

module _ (cut : Cut) (on : CutSide) (alone : cut.weakly on ≡ false) (p : ℕ) (own : side_of cut Process p ≡ on) where
  -- ---- what reads more than the process

  -- an operation on a capability of a memory kind
  pub alike-memory_op : (s t : State) → Matches cut on s t → (inv : InvocationValue) (cap : Capability) → MayHold cut on cap
      → Alike cut on (memory_op s p inv cap) (memory_op t p inv cap)
  alike-memory_op s t m inv cap may =
      let request = request_of (process s p) inv in
      let sent = may-request cut on p own s inv m.holds in
      subst (λ (r : Request). Alike cut on (memory_op s p inv cap) (memory_answered t p inv cap r (memory_operation t.store cap r)))
      (same-request cut on p own s t m inv)
      (subst (λ (settled : Settled). Alike cut on (memory_op s p inv cap) (memory_answered t p inv cap request settled)) (same-memory cut on alone (system_of s) (system_of t) m.agree cap may request sent)
      (alike-memory_answered cut on p own s t m inv cap request (memory_operation s.store cap request) (memory_operation-may cut on s.store cap may (finds cut on s.store m.holds.each cap may) request sent)))

  -- and on one of another
  pub alike-control_op : (s t : State) → Matches cut on s t → (inv : InvocationValue) (cap : Capability) → MayHold cut on cap
      → Alike cut on (control_op s p inv cap) (control_op t p inv cap)
  alike-control_op s t m inv cap may =
      let request = request_of (process s p) inv in
      let sent = may-request cut on p own s inv m.holds in
      let same = same-control cut on alone (system_of s) (system_of t) m.agree cap may request sent ∙ ap (control_operation Meant t.store cap) (same-request cut on p own s t m inv) in
      let settled = control_operation Meant s.store cap request in
      subst (λ (settled : Settled). Alike cut on (control_op s p inv cap) (control_answered t p inv settled (destroyed_by settled.answer.changes))) same
      (alike-control_answered cut on p own s t m inv settled (destroyed_by settled.answer.changes) (control_operation-may cut on s.store cap may (finds cut on s.store m.holds.each cap may) request sent Meant))
