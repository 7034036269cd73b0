-- A process receives, and those that slept on it are woken: what comes of it, and which objects it changes.
use Rattle.std.proofs.Common.{◌≡◌, ℕ, ◌==◌, inl, inr, Bool, true, false, List, [], ◌∷◌, refl, sym, ap, ◌∙◌, subst}
use Rattle.std.proofs.Math.ListN.{get_or-map}
use Rattle.std.specs.Bool.{if◌then◌else◌}
use Rattle.cap_format.specs.declared.kind.CapKind.{CapKind}
use Rattle.process_objects.specs.declared.state.State.TheVariants.{Receiving}
use Rattle.process_objects.specs.Accept.{AcceptValue}
use Rattle.process_objects.specs.Process.{with_state}
use Rattle.object_store.specs.Store.{Store, process_at, with_process}
use Rattle.object_store.specs.Meaning.{state_map}
use Rattle.object_store.specs.Object.{IsAmong, Stays}
use Rattle.object_store.proofs.Stays.{stays_then, stays_within, stays_process}
use Rattle.object_store.proofs.Writes.{put_state}
use Rattle.schedules.specs.Queues.{QueuesValue, without, left, sleepers_of}
use Rattle.schedules.specs.Ready.{runs_of, with_processes, schedule_of, schedule_in, woken, process_names}
use Rattle.operations.specs.System.{System, system, Stored, Meant}
use Rattle.fault_path.specs.message_path.Messages.{receiving, listening, listening_names}

-- who stands in a list without a process stands in the list
among_without : (p : ℕ) (kind : CapKind) (n : ℕ) (xs : List ℕ) → IsAmong kind n (process_names (without p xs)) → IsAmong kind n (process_names xs)
among_without p kind n [] here = here
among_without p kind n (x ∷ xs) here = by (x == p) (λ later. among_without p kind n xs later) here
  where
    by : (b : Bool) → (IsAmong kind n (process_names (without p xs)) → IsAmong kind n (process_names xs))
        → IsAmong kind n (process_names (if b then without p xs else x ∷ without p xs)) → IsAmong kind n (process_names (x ∷ xs))
    by true more among = inr (more among)
    by false more (inl first) = inl first
    by false more (inr later) = inr (more later)

-- who sleeps on a process once it has left: who did, but for itself
sleepers_of-left : (q : QueuesValue) (p : ℕ) → sleepers_of (left q p) p ≡ without p (sleepers_of q p)
sleepers_of-left q p = get_or-map (without p) q.sleepers p []

-- a process that receives was written, and then those that slept on it
pub listening_stays : (s : Store) (q : QueuesValue) (p : ℕ) (accept : AcceptValue) (t : Store) (n : QueuesValue) (u : Store)
    → t ≡ with_process s p (with_state (process_at s p) (Receiving accept)) → n ≡ left q p → Stays (process_names (sleepers_of n p)) t u → Stays (listening_names q p) s u
listening_stays s q p accept t n u objects queues woke =
    let names = process_names (without p (sleepers_of q p)) in
    let asleep : sleepers_of n p ≡ without p (sleepers_of q p) = ap (λ (z : QueuesValue). sleepers_of z p) queues ∙ sleepers_of-left q p in
    let first : Stays (listening_names q p) s t = subst (Stays (listening_names q p) s) (sym objects) (stays_process (process_names (sleepers_of q p)) s p _) in
    let second : Stays names t u = subst (λ (xs : List ℕ). Stays (process_names xs) t u) asleep woke in
    stays_then (listening_names q p) s t u first (stays_within names (listening_names q p) t u (λ kind m here. inr (among_without p kind m (sleepers_of q p) here)) second)

-- the objects and queues as they are stored
pub listening_after : (s : Store) (q : QueuesValue) (p : ℕ) (accept : AcceptValue) (t : Store) (n : QueuesValue) (u : Store) (m : QueuesValue)
    → t ≡ with_process s p (with_state (process_at s p) (Receiving accept)) → n ≡ left q p
    → u ≡ with_processes t (woken (schedule_of t) p (runs_of t n)).processes → m ≡ (woken (schedule_of t) p (runs_of t n)).queues
    → system u m ≡ listening Stored (system s q) p accept
unfolding listening
listening_after s q p accept t n u m objects queues processes places =
    let woken_in : System → System = λ w. system (with_processes w.store (woken (schedule_of w.store) p (runs_of w.store w.queues)).processes) (woken (schedule_of w.store) p (runs_of w.store w.queues)).queues in
    let received : system t n ≡ receiving (system s q) p accept = rw (objects, queues) refl in
    let woke : system u m ≡ woken_in (system t n) = rw (processes, places) refl in
    woke ∙ ap woken_in received

-- and as they mean
pub listening_means : (s : Store) (q : QueuesValue) (p : ℕ) (accept : AcceptValue) (t : Store) (n : QueuesValue) (u : Store) (m : QueuesValue)
    → t ≡ with_process s p (with_state (process_at s p) (Receiving accept)) → n ≡ left q p
    → state_map u ≡ with_processes (state_map t) (woken (schedule_in (state_map t)) p (runs_of (state_map t) n)).processes → m ≡ (woken (schedule_in (state_map t)) p (runs_of (state_map t) n)).queues
    → system (state_map u) m ≡ listening Meant (system (state_map s) q) p accept
unfolding listening
listening_means s q p accept t n u m objects queues processes places =
    let woken_in : System → System = λ w. system (with_processes w.store (woken (schedule_in w.store) p (runs_of w.store w.queues)).processes) (woken (schedule_in w.store) p (runs_of w.store w.queues)).queues in
    let received : system (state_map t) n ≡ receiving (system (state_map s) q) p accept = rw (objects, queues, put_state s p (Receiving accept)) refl in
    let woke : system (state_map u) m ≡ woken_in (system (state_map t) n) = rw (processes, places) refl in
    woke ∙ ap woken_in received
