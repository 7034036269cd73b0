-- Operations of the kernel that a process of the right asks for: in two states side by side they tell the same and leave states
-- side by side.
use Rattle.std.proofs.Common.{◌≡◌, ℕ, Bool, true, false, if◌then◌else◌, Option, slice_get, refl, ◌∙◌, ap, subst}
use Rattle.cap_format.specs.declared.kind.CapKind.TheVariants.{Process}
use Rattle.cap_format.specs.declared.request.Request.{Request}
use Rattle.cap_format.specs.declared.request.Reply.{Reply}
use Rattle.cap_format.specs.Kind.{is_memory}
use Rattle.cap_format.specs.Capability.{Capability}
use Rattle.process_objects.specs.Accept.{AcceptValue}
use Rattle.process_objects.specs.Process.{ProcessValue}
use Rattle.object_store.specs.Object.{ObjectName}
use Rattle.invocation.specs.Invocation.{InvocationValue}
use Rattle.operations.specs.System.{System, Meant}
use Rattle.operations.specs.Row.{Settled, reply_of}
use Rattle.operations.specs.Memory.{memory_operation}
use Rattle.operations.specs.Control.{control_operation}
use Rattle.machine_state.specs.State.{State, process}
use Rattle.machine_state.specs.Operation.{request_of, changed_by}
use Rattle.machine_state.specs.Reply.{replied, set_reply}
use Rattle.kernel_core.specs.KernelOperation.{memory_answered, memory_op, destroyed_by, is_end_of, control_answered, control_op}
use Rattle.confinement.specs.declared.cut_side.CutSide.TheVariants.{Right}
use Rattle.confinement.specs.Cut.{Cut, side_of, MayHold}
use Rattle.confinement.specs.Acts.{MayHoldIf, system_of}
use Rattle.confinement.proofs.Events.{held-replied_with, may-sent}
use Rattle.independence.proofs.Overlay.{Overlay}
use Rattle.independence.proofs.Operating.{AnswerOfRight, same-memory_operation, memory_operation-right, same-control_operation, control_operation-right}
use Rattle.independence.proofs.States.{Both, both-changed_by, both-made, same-here, held-here}
use Rattle.independence.proofs.Messaging.{Alike}

module _ (cut : Cut) (f : Overlay cut) (start : System) (p : ℕ) (own : side_of cut Process p ≡ Right) where
  abbrev Two : State → State → Type 0
  Two s t = Both cut f start s t

  -- ---- replies

  -- a reply is written
  pub both-reply : (s t : State) → Two s t → (accept : AcceptValue) (reply : Reply) → MayHoldIf cut Right reply.cap
      → Two (set_reply s p accept reply) (set_reply t p accept reply)
  unfolding replied
  both-reply s t b accept reply may =
      both-made cut f start p own s t b (λ q. replied q accept reply) (held-replied_with cut Right p own (process s p) accept reply reply.cap may (held-here cut f start p own s t b))

  -- ---- operations

  same-request : (s t : State) → Two s t → (inv : InvocationValue) → request_of (process s p) inv ≡ request_of (process t p) inv
  same-request s t b inv = ap (λ (q : ProcessValue). request_of q inv) (same-here cut f start p own s t b)

  may-request : (s t : State) → Two s t → (inv : InvocationValue) → MayHold cut Right (request_of (process s p) inv).sent
  may-request s t b inv = may-sent cut Right p own (process s p) (slice_get inv.sent 0) (held-here cut f start p own s t b)

  alike-memory_answered : (s t : State) → Two s t → (inv : InvocationValue) (cap : Capability) (request : Request) (settled : Settled)
      → AnswerOfRight cut settled.answer
      → Alike cut f start (memory_answered s p inv cap request settled) (memory_answered t p inv cap request settled)
  alike-memory_answered s t b inv cap request settled may = record {
    records = refl;
    state = both-reply (changed_by s settled.answer.changes) (changed_by t settled.answer.changes)
        (both-changed_by cut f start s t b settled.answer.changes may.changes) inv.accept (reply_of settled) may.cap;
  }

  both-unless : (ends : Bool) (s t : State) → Two s t → (accept : AcceptValue) (reply : Reply) → MayHoldIf cut Right reply.cap
      → Two (if ends then s else set_reply s p accept reply) (if ends then t else set_reply t p accept reply)
  both-unless true s t b accept reply may = b
  both-unless false s t b accept reply may = both-reply s t b accept reply may

  alike-control_answered : (s t : State) → Two s t → (inv : InvocationValue) (settled : Settled) (destroyed : Option ObjectName)
      → AnswerOfRight cut settled.answer
      → Alike cut f start (control_answered s p inv settled destroyed) (control_answered t p inv settled destroyed)
  alike-control_answered s t b inv settled destroyed may = record {
    records = refl;
    state = both-unless (is_end_of p destroyed) (changed_by s settled.answer.changes) (changed_by t settled.answer.changes)
        (both-changed_by cut f start s t b settled.answer.changes may.changes) inv.accept (reply_of settled) may.cap;
  }

  -- an operation on a capability of a memory kind
  pub alike-memory_op : (s t : State) → Two s t → (inv : InvocationValue) (cap : Capability) → MayHold cut Right cap → is_memory cap.kind ≡ true
      → Alike cut f start (memory_op s p inv cap) (memory_op t p inv cap)
  alike-memory_op s t b inv cap may memory =
      let request = request_of (process s p) inv in
      let sent = may-request s t b inv in
      subst (λ (r : Request). Alike cut f start (memory_op s p inv cap) (memory_answered t p inv cap r (memory_operation t.store cap r)))
      (same-request s t b inv)
      (subst (λ (settled : Settled). Alike cut f start (memory_op s p inv cap) (memory_answered t p inv cap request settled)) (same-memory_operation cut f start (system_of s) (system_of t) b.systems cap may request sent)
      (alike-memory_answered s t b inv cap request (memory_operation s.store cap request) (memory_operation-right cut f start (system_of s) (system_of t) b.systems cap may memory request sent)))

  -- and on one of another
  pub alike-control_op : (s t : State) → Two s t → (inv : InvocationValue) (cap : Capability) → MayHold cut Right cap
      → Alike cut f start (control_op s p inv cap) (control_op t p inv cap)
  alike-control_op s t b inv cap may =
      let request = request_of (process s p) inv in
      let sent = may-request s t b inv in
      let same = same-control_operation cut f start (system_of s) (system_of t) b.systems cap may request sent ∙ ap (control_operation Meant t.store cap) (same-request s t b inv) in
      let settled = control_operation Meant s.store cap request in
      subst (λ (settled : Settled). Alike cut f start (control_op s p inv cap) (control_answered t p inv settled (destroyed_by settled.answer.changes))) same
      (alike-control_answered s t b inv settled (destroyed_by settled.answer.changes) (control_operation-right cut f start (system_of s) (system_of t) b.systems cap may request sent))
