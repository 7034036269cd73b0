-- Making processes ready means the same of the objects as they mean, and changes nothing else.
use Rattle.std.proofs.Common.{◌≡◌, ℕ, List, [], ◌∷◌, length, refl, sym, ap, ◌∙◌, subst}
use Rattle.std.proofs.Math.ListN.{length-set}
use Rattle.cap_format.specs.declared.kind.CapKind.{CapKind}
use Rattle.cap_format.specs.declared.kind.CapKind.TheVariants.{Schedule, Process}
use Rattle.cap_format.specs.Capability.{Capability}
use Rattle.object_store.specs.Store.{Store, with_process, process_at}
use Rattle.object_store.specs.Meaning.{state_map}
use Rattle.object_store.specs.Ahead.{NoneAhead}
use Rattle.object_store.specs.Object.{Stays, object_name}
use Rattle.object_store.proofs.Stays.{stays_same, stays_then, stays_more, stays_process}
use Rattle.object_store.proofs.Writes.{slot_means, put_process}
use Rattle.object_store.proofs.WritesBehind.{put_process_behind}
use Rattle.schedules.specs.Queues.{QueuesValue, sleepers_of}
use Rattle.schedules.specs.Ready.{Runs, runs_of, with_processes, schedule_of, schedule_in, readied_process, readied_queues, readied, readied_all, unslept, woken, process_names}
use Rattle.schedules.proofs.Waking.{readied_all-cons, readied_all-nil, sleepers-readied}

-- the schedule slot of the model's map is what the slot means
pub schedule_means : (s : Store) (p : ℕ) → schedule_of s p ≡ schedule_in (state_map s) p
schedule_means s p = slot_means s p 1

-- so the functions are the same
schedules_mean : (s : Store) → schedule_of s ≡ schedule_in (state_map s)
schedules_mean s = λ i. λ p. schedule_means s p i

-- the objects with one process made ready under a capability of this kind
abbrev made : CapKind → ℕ → Store → Store
made kind p s = with_process s p (readied_process kind (process_at s p))

-- a process that is made ready means the same
made-means : (kind : CapKind) (p : ℕ) (s : Store) → state_map (made kind p s) ≡ made kind p (state_map s)
made-means kind p s = put_process s p _ (readied_process kind) refl

-- no capability of it comes ahead
made-behind : (kind : CapKind) (p : ℕ) (s : Store) → NoneAhead s → NoneAhead (made kind p s)
made-behind kind p s none = put_process_behind s none p _ refl refl

-- one process made ready, as the objects mean
pub readied-means : (s : Store) (p : ℕ) (q : QueuesValue)
    → state_map (with_processes s (readied (schedule_of s p) p (runs_of s q)).processes) ≡ with_processes (state_map s) (readied (schedule_in (state_map s) p) p (runs_of (state_map s) q)).processes
readied-means s p q = made-means (schedule_of s p).kind p s ∙ ap (λ (c : Capability). made c.kind p (state_map s)) (schedule_means s p)

-- and the queues
pub readied_queues-mean : (s : Store) (p : ℕ) (q : QueuesValue)
    → (readied (schedule_of s p) p (runs_of s q)).queues ≡ (readied (schedule_in (state_map s) p) p (runs_of (state_map s) q)).queues
readied_queues-mean s p q = ap (λ (c : Capability). readied_queues c.kind c.object q p) (schedule_means s p)

-- making ready leaves the processes on harts
harts-readied : (kind : CapKind) (k : ℕ) (q : QueuesValue) (p : ℕ) → (readied_queues kind k q p).harts ≡ q.harts
harts-readied Schedule k q p = refl
harts-readied _ k q p = refl

-- the same of any objects and queues that are these
pub ready_meant : (s t : Store) (p : ℕ) (q : QueuesValue) → t ≡ with_processes s (readied (schedule_of s p) p (runs_of s q)).processes
    → state_map t ≡ with_processes (state_map s) (readied (schedule_in (state_map s) p) p (runs_of (state_map s) q)).processes
ready_meant s t p q e = ap state_map e ∙ readied-means s p q

pub ready_queues_meant : (s : Store) (n : QueuesValue) (p : ℕ) (q : QueuesValue) → n ≡ (readied (schedule_of s p) p (runs_of s q)).queues
    → n ≡ (readied (schedule_in (state_map s) p) p (runs_of (state_map s) q)).queues
ready_queues_meant s n p q e = e ∙ readied_queues-mean s p q

-- what is said of a list of processes made ready, one after the other
module _ (f : ℕ → Capability) where
  all-mean : (ps : List ℕ) (s : Store) (q : QueuesValue)
      → state_map (with_processes s (readied_all f ps (runs_of s q)).processes) ≡ with_processes (state_map s) (readied_all f ps (runs_of (state_map s) q)).processes
  all-mean [] s q = rw (readied_all-nil f (runs_of s q), readied_all-nil f (runs_of (state_map s) q)) refl
  all-mean (p ∷ ps) s q =
      let n = readied_queues (f p).kind (f p).object q p in
      let t = made (f p).kind p s in
      rw (readied_all-cons f p ps (runs_of s q), readied_all-cons f p ps (runs_of (state_map s) q))
      (all-mean ps t n ∙ ap (λ z. with_processes z (readied_all f ps (runs_of z n)).processes) (made-means (f p).kind p s))

  all-queues_mean : (ps : List ℕ) (s : Store) (q : QueuesValue) → (readied_all f ps (runs_of s q)).queues ≡ (readied_all f ps (runs_of (state_map s) q)).queues
  all-queues_mean [] s q = rw (readied_all-nil f (runs_of s q), readied_all-nil f (runs_of (state_map s) q)) refl
  all-queues_mean (p ∷ ps) s q =
      let n = readied_queues (f p).kind (f p).object q p in
      rw (readied_all-cons f p ps (runs_of s q), readied_all-cons f p ps (runs_of (state_map s) q))
      (all-queues_mean ps (made (f p).kind p s) n ∙ ap (λ z. (readied_all f ps (runs_of z n)).queues) (made-means (f p).kind p s))

  all-behind : (ps : List ℕ) (s : Store) (q : QueuesValue) → NoneAhead s → NoneAhead (with_processes s (readied_all f ps (runs_of s q)).processes)
  all-behind [] s q none = rw (readied_all-nil f (runs_of s q)) none
  all-behind (p ∷ ps) s q none =
      rw (readied_all-cons f p ps (runs_of s q))
      (all-behind ps (made (f p).kind p s) (readied_queues (f p).kind (f p).object q p) (made-behind (f p).kind p s none))

  all-sleepers : (ps : List ℕ) (r : Runs) → length (readied_all f ps r).queues.sleepers ≡ length r.queues.sleepers
  all-sleepers [] r = rw (readied_all-nil f r) refl
  all-sleepers (p ∷ ps) r =
      rw (readied_all-cons f p ps r) (all-sleepers ps (readied (f p) p r) ∙ ap length (sleepers-readied (f p).kind (f p).object r.queues p))

  all-harts : (ps : List ℕ) (r : Runs) → (readied_all f ps r).queues.harts ≡ r.queues.harts
  all-harts [] r = rw (readied_all-nil f r) refl
  all-harts (p ∷ ps) r =
      rw (readied_all-cons f p ps r) (all-harts ps (readied (f p) p r) ∙ harts-readied (f p).kind (f p).object r.queues p)

  -- only they change
  all-stays : (ps : List ℕ) (s : Store) (q : QueuesValue) → Stays (process_names ps) s (with_processes s (readied_all f ps (runs_of s q)).processes)
  all-stays [] s q = rw (readied_all-nil f (runs_of s q)) (stays_same [] s)
  all-stays (p ∷ ps) s q =
      let t = made (f p).kind p s in
      let n = readied_queues (f p).kind (f p).object q p in
      rw (readied_all-cons f p ps (runs_of s q))
      (stays_then (process_names (p ∷ ps)) s t _ (stays_process (process_names ps) s p _) (stays_more (object_name Process p) (process_names ps) t _ (all-stays ps t n)))

-- all sleepers made ready, as the objects mean
pub woken-means : (s : Store) (on : ℕ) (q : QueuesValue)
    → state_map (with_processes s (woken (schedule_of s) on (runs_of s q)).processes) ≡ with_processes (state_map s) (woken (schedule_in (state_map s)) on (runs_of (state_map s) q)).processes
woken-means s on q =
    all-mean (schedule_of s) (sleepers_of q on) s (unslept q on)
    ∙ ap (λ f. with_processes (state_map s) (readied_all f (sleepers_of q on) (runs_of (state_map s) (unslept q on))).processes) (schedules_mean s)

-- and the queues
pub woken_queues-mean : (s : Store) (on : ℕ) (q : QueuesValue)
    → (woken (schedule_of s) on (runs_of s q)).queues ≡ (woken (schedule_in (state_map s)) on (runs_of (state_map s) q)).queues
woken_queues-mean s on q =
    all-queues_mean (schedule_of s) (sleepers_of q on) s (unslept q on)
    ∙ ap (λ f. (readied_all f (sleepers_of q on) (runs_of (state_map s) (unslept q on))).queues) (schedules_mean s)

-- only the sleepers change
pub woken-stays : (s : Store) (on : ℕ) (q : QueuesValue) → Stays (process_names (sleepers_of q on)) s (with_processes s (woken (schedule_of s) on (runs_of s q)).processes)
woken-stays s on q = all-stays (schedule_of s) (sleepers_of q on) s (unslept q on)

-- and none comes ahead
pub woken-behind : (s : Store) (on : ℕ) (q : QueuesValue) → NoneAhead s → NoneAhead (with_processes s (woken (schedule_of s) on (runs_of s q)).processes)
woken-behind s on q = all-behind (schedule_of s) (sleepers_of q on) s (unslept q on)

-- the lists of sleepers and the harts keep their number
pub woken-sleepers : (f : ℕ → Capability) (s : Store) (on : ℕ) (q : QueuesValue) → length (woken f on (runs_of s q)).queues.sleepers ≡ length q.sleepers
woken-sleepers f s on q = all-sleepers f (sleepers_of q on) (runs_of s (unslept q on)) ∙ length-set q.sleepers on []

pub woken-harts : (f : ℕ → Capability) (s : Store) (on : ℕ) (q : QueuesValue) → (woken f on (runs_of s q)).queues.harts ≡ q.harts
woken-harts f s on q = all-harts f (sleepers_of q on) (runs_of s (unslept q on))

-- only the process that is made ready changes
pub ready_stays : (s t : Store) (p : ℕ) (q : QueuesValue) → t ≡ with_processes s (readied (schedule_of s p) p (runs_of s q)).processes → Stays (process_names (p ∷ [])) s t
ready_stays s t p q e = subst (Stays (process_names (p ∷ [])) s) (sym e) (stays_process [] s p _)

-- and none comes ahead
pub ready_behind : (s t : Store) (p : ℕ) (q : QueuesValue) → t ≡ with_processes s (readied (schedule_of s p) p (runs_of s q)).processes → NoneAhead s → NoneAhead t
ready_behind s t p q e none = subst NoneAhead (sym e) (made-behind (schedule_of s p).kind p s none)
