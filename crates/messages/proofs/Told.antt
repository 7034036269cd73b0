-- A message leaves everybody on the hart where he is.
use Rattle.std.proofs.Common.{◌≡◌, ℕ, List, slice_index_or, Option, None, refl, ap, ◌∙◌}
use Rattle.cap_format.specs.declared.kind.CapKind.{CapKind}
use Rattle.cap_format.specs.declared.kind.CapKind.TheVariants.{Schedule}
use Rattle.schedules.specs.Queues.{QueuesValue}
use Rattle.schedules.specs.Ready.{readied_queues}
use Rattle.invocation.specs.declared.message.Message.{Message}
use Rattle.fault_path.specs.message_path.Messages.{told_system}
use Rattle.machine_state.specs.State.{State, IsOnHart}
use Rattle.machine_state.specs.Messaging.{told_state}

-- a process that is made ready takes no hart
readied_harts : (kind : CapKind) (priority : ℕ) (q : QueuesValue) (p : ℕ) → (readied_queues kind priority q p).harts ≡ q.harts
readied_harts Schedule priority q p = refl
readied_harts kind priority q p = refl

-- so the harts are as before a message
told_harts : (s : State) (e q : ℕ) (message : Message) → (told_state s e q message).queues.harts ≡ s.queues.harts
unfolding told_state told_system
told_harts s e q message = readied_harts _ _ s.queues q

-- and who stands on one stands there yet
pub told_on_hart : (s t : State) (e q : ℕ) (message : Message) (p : ℕ) → t ≡ told_state s e q message → IsOnHart s.queues p → IsOnHart t.queues p
told_on_hart s t e q message p is on = record { hart = on.hart; there = ap (λ (harts : List (Option ℕ)). slice_index_or harts on.hart None) (ap (λ (x : State). x.queues.harts) is ∙ told_harts s e q message) ∙ on.there }
