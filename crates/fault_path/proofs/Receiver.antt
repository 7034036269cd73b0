-- A process that receives is told: it stood nowhere, and all others stand where they stood.
use Rattle.std.proofs.Common.{◌≡◌, ◌⊎◌, inl, inr, ◌<◌, ◌≤◌, leb, ℕ, true, false, true≢false, length, length-set, refl, sym, ap, ◌∙◌}
use Rattle.std.proofs.lemmas.Bool.Decides.{leb_tells}
use Rattle.std.proofs.lemmas.List.{get_or-set_other, get_or_past}
use Rattle.process_objects.specs.declared.state.State.{State}
use Rattle.process_objects.specs.declared.state.State.TheVariants.{Running, Receiving, Faulted}
use Rattle.process_objects.specs.Process.{ProcessValue, empty_process}
use Rattle.object_store.specs.Store.{Store, process_at}
use Rattle.schedules.specs.Queues.{QueuesValue}
use Rattle.schedules.specs.Standing.{standing}
use Rattle.schedules.specs.Ready.{runs_of, places_due, Agrees, AgreesBut}
use Rattle.invocation.specs.declared.message.Message.{Message}
use Rattle.invocation.specs.Target.{is_receiving}
use Rattle.invocation.specs.Delivery.{delivered}
use Rattle.operations.proofs.Placed.{nowhere_stopped}

-- one that receives asks for no place
receiving_due : (state : State) → is_receiving state ≡ true → places_due state ≡ 0
receiving_due Running e = absurd (true≢false (sym e))
receiving_due (Receiving accept) e = refl
receiving_due (Faulted code address) e = absurd (true≢false (sym e))

-- and is there
receiving_there : (s : Store) (q : ℕ) → is_receiving (process_at s q).state ≡ true → q < length s.contents.processes
receiving_there s q receives = by (leb_tells (length s.contents.processes) q)
  where
    by : ((leb (length s.contents.processes) q ≡ true) × (length s.contents.processes ≤ q)) ⊎ ((leb (length s.contents.processes) q ≡ false) × (q < length s.contents.processes)) → q < length s.contents.processes
    by (inl (t, past)) = absurd (true≢false (sym receives ∙ ap (λ (z : ProcessValue). is_receiving z.state) (get_or_past s.contents.processes q empty_process past)))
    by (inr (t, there)) = there

-- so it stands nowhere
pub receiving_nowhere : (s : Store) (n : QueuesValue) (q : ℕ) → Agrees (runs_of s n) → is_receiving (process_at s q).state ≡ true → standing n q ≡ 0
receiving_nowhere s n q agrees receives = nowhere_stopped (runs_of s n) q agrees (receiving_there s q receives) (receiving_due (process_at s q).state receives)

-- a delivery changes no state but that of its receiver
pub told_but : (s : Store) (n : QueuesValue) (e q : ℕ) (message : Message) (t : Store) → t ≡ delivered s e q message → Agrees (runs_of s n) → is_receiving (process_at s q).state ≡ true → AgreesBut q (runs_of t n)
unfolding delivered
told_but s n e q message t after agrees receives = rw after record {
  sizes = length-set s.contents.processes q _ ∙ agrees.sizes;
  nowhere = receiving_nowhere s n q agrees receives;
  each = λ x h other. agrees.each x (rw length-set at h) ∙ ap (λ (z : ProcessValue). places_due z.state) (sym (get_or-set_other s.contents.processes q x _ empty_process other));
}
