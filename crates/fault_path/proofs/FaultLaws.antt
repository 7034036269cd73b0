-- What is left to show of a fault, once it is done.
use Rattle.std.proofs.Common.{◌≡◌, ◌≢◌, ◌<◌, ℕ, true, true≢false, [], ◌∷◌, map, Option, refl, sym, ap, ◌∙◌, subst}
use Rattle.std.proofs.lemmas.List.{get_or-set_other}
use Rattle.cap_format.specs.declared.fault.FaultCode.{FaultCode}
use Rattle.cap_format.specs.declared.kind.CapKind.TheVariants.{Process}
use Rattle.cap_format.specs.Capability.{Capability, bare, to_object}
use Rattle.process_objects.specs.declared.state.State.TheVariants.{Running, Faulted}
use Rattle.process_objects.specs.Process.{ProcessValue, with_state, empty_process}
use Rattle.object_store.specs.Store.{Store, Items, size_of, count_of, process_at, with_process}
use Rattle.object_store.specs.Meaning.{meaning, state_map}
use Rattle.object_store.specs.Object.{object_name, Stays}
use Rattle.object_store.specs.Ahead.{IsBehind}
use Rattle.object_store.proofs.Made.{meaning_process, behind_process}
use Rattle.std.specs.List.{All}
use Rattle.std.proofs.lemmas.List.Elements.{All-replicate}
use Rattle.object_store.proofs.Stays.{stays_both}
use Rattle.object_store.proofs.Writes.{put_state, pc_means}
use Rattle.schedules.specs.Queues.{QueuesValue, left}
use Rattle.invocation.specs.declared.message.Message.{Message}
use Rattle.invocation.specs.Answerer.{Answer}
use Rattle.invocation.specs.Answerer.Answer.{Open}
use Rattle.invocation.specs.Target.{is_receiving}
use Rattle.invocation.specs.Delivery.{message_map, changed_by_message}
use Rattle.fault_path.specs.message_path.Messages.{told_system}
use Rattle.operations.specs.System.{System, Reading, system, count_in}
use Rattle.fault_path.specs.Fault.{faulted, answered, handler_of, heard_by, fault_of, fault_message, fault_names}

-- a process that is faulted, as it means
pub fault_means : (s : Store) (q : QueuesValue) (p : ℕ) (code : FaultCode) (address : ℕ) (t : Store) (n : QueuesValue)
    → t ≡ with_process s p (with_state (process_at s p) (Faulted code address)) → n ≡ left q p → system (state_map t) n ≡ faulted (system (state_map s) q) p code address
unfolding faulted
fault_means s q p code address t n objects queues = rw (objects, queues, put_state s p (Faulted code address)) refl

-- one that receives is another than one that runs
receiver_other : (s : Store) (p q : ℕ) → (process_at s p).state ≡ Running → is_receiving (process_at s q).state ≡ true → q ≢ p
receiver_other s p q running receives same = true≢false (sym receives ∙ ap is_receiving (ap (λ n. (process_at s n).state) same ∙ running))

-- so it receives still once that one is written
pub still_receiving : (s t : Store) (p q : ℕ) (v : ProcessValue) → t ≡ with_process s p v → (process_at s p).state ≡ Running → is_receiving (process_at s q).state ≡ true → is_receiving (process_at t q).state ≡ true
still_receiving s t p q v written running receives =
    ap (λ (o : Store). is_receiving (process_at o q).state) written
    ∙ (ap (λ (z : ProcessValue). is_receiving z.state) (get_or-set_other s.contents.processes p q v empty_process (receiver_other s p q running receives)) ∙ receives)

-- the process changes, and then the endpoint and the receiver
pub reported_stays : (p e q : ℕ) (s t u : Store) → Stays (object_name Process p ∷ []) s t → Stays (changed_by_message e q) t u → Stays (fault_names p (Open e q)) s u
reported_stays p e q s t u = stays_both (object_name Process p ∷ []) (changed_by_message e q) s t u

-- what is told of a fault, as it means
pub message_means : (s t : Store) (p : ℕ) (code : FaultCode) (address payload : ℕ) (message : Message) → p < size_of s.items Process → t.items ≡ s.items
    → message ≡ fault_message (to_object Process p (count_of s.items Process p)) (process_at s p) code address payload
    → message_map (meaning t.items) message ≡ fault_message (to_object Process p 0) (process_at (state_map s) p) code address payload
message_means s t p code address payload message there items is = rw (items, is, meaning_process s.items p there, ← pc_means s p) refl

-- a process is faulted, and then another is told of it
pub reported_after : (reading : Reading) (w v : System) (p : ℕ) (code : FaultCode) (address payload e to : ℕ) (message : Message) (u : System)
    → message ≡ fault_message (to_object Process p (count_in reading w.store.items Process p)) (process_at w.store p) code address payload
    → u ≡ faulted w p code address → v ≡ told_system reading u e to message → v ≡ answered reading w p code address payload (Open e to)
unfolding answered
reported_after reading w v p code address payload e to message u is_message first second =
    second ∙ (ap (λ (z : System). told_system reading z e to message) first ∙ ap (told_system reading (faulted w p code address) e to) is_message)

-- what became of the fault is what becomes of it by who hears it
pub heard_after : (reading : Reading) (w v : System) (map : Store) (p : ℕ) (code : FaultCode) (address : ℕ) (handler : Option Capability) (cap : Capability) (a : Answer)
    → bare cap ≡ handler_of map p handler → a ≡ heard_by map p handler → v ≡ answered reading w p code address cap.payload a → v ≡ fault_of reading w map p code address handler
heard_after reading w v map p code address handler cap a asked heard made =
    made
    ∙ (ap (λ n. answered reading w p code address n a) (ap (λ (c : Capability). c.payload) asked)
    ∙ ap (answered reading w p code address (handler_of map p handler).payload) heard)

-- what is told gives no capability that is ahead
pub message_behind : (s : Store) (p : ℕ) (code : FaultCode) (address payload : ℕ) (message : Message) (t : Store) → p < size_of s.items Process → t.items ≡ s.items
    → message ≡ fault_message (to_object Process p (count_of s.items Process p)) (process_at s p) code address payload → All (IsBehind t.items) message.caps
message_behind s p code address payload message t there items is =
    subst (λ (m : Message). All (IsBehind t.items) m.caps) (sym is)
    (subst (λ (o : Items). All (IsBehind o) (to_object Process p (count_of s.items Process p) ∷ [])) (sym items)
    (All-replicate (IsBehind s.items) 1 (to_object Process p (count_of s.items Process p)) (behind_process s.items p there)))
