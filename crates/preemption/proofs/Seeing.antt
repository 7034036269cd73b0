-- What the laws ask of a state depends on no data.
use Rattle.std.proofs.Common.{◌≡◌, ℕ, ◌<◌, List, slice_index_or, length, sym, ap, ◌∙◌, subst}
use Rattle.cap_format.specs.Capability.{Capability, null}
use Rattle.schedules.specs.Queues.{QueuesValue, priorities, ready_queue, sleepers_of, stands_in}
use Rattle.machine_state.specs.State.{State, IsOnHart, schedule_slot_number, schedule_slot}
use Rattle.independence.specs.Rewrite.{SameButData}
use Rattle.preemption.specs.Wide.{HasSchedule}
use Rattle.preemption.specs.Laws.{SeesLaw}

-- the same schedules
scheduled-too : (s t : State) (p : ℕ) → SameButData s t → HasSchedule s p → HasSchedule t p
scheduled-too s t p same has =
    let slots = (same.processes p).slots in
    let slot : schedule_slot s p ≡ schedule_slot t p =
    ap (λ (slots : List Capability). slice_index_or slots schedule_slot_number null) slots in
    record {
      kind = sym (ap (λ (c : Capability). c.kind) slot) ∙ has.kind;
      priority = subst (λ (c : Capability). c.object < priorities) slot has.priority;
    }

pub sees : SeesLaw
sees many s t same is =
    let before : (p : ℕ) → IsOnHart t.queues p → IsOnHart s.queues p =
    λ p on. subst (λ (q : QueuesValue). IsOnHart q p) (sym same.queues) on in
    record {
      harts = ap (λ (q : QueuesValue). length q.harts) (sym same.queues) ∙ is.harts;
      queues = ap (λ (q : QueuesValue). length q.ready) (sym same.queues) ∙ is.queues;
      each = λ priority p there. is.each priority p
          (ap (λ (q : QueuesValue). stands_in (ready_queue q priority) p) same.queues ∙ there);
      ready = λ priority p on.
          ap (λ (q : QueuesValue). stands_in (ready_queue q priority) p) (sym same.queues)
          ∙ is.ready priority p (before p on);
      sleeps = λ on p there.
          ap (λ (q : QueuesValue). stands_in (sleepers_of q on) p) (sym same.queues)
          ∙ is.sleeps on p (before p there);
      running = λ p on. sym (same.processes p).state ∙ is.running p (before p on);
      scheduled = λ p on. scheduled-too s t p same (is.scheduled p (before p on));
    }
