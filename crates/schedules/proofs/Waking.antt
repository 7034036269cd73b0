-- Waking the sleepers of a process, one after the other.
use Rattle.std.proofs.Common.{◌≡◌, ◌≢◌, ◌⊎◌, inl, inr, eqb, ℕ, ◌+◌, ◌<◌, ◌≤◌, ◌==◌, Bool, true, false, cond, List, [], ◌∷◌, map, slice_set, slice_index_or, get_or, length, refl, sym, ap, ◌∙◌, arith}
use Rattle.std.proofs.lemmas.Bool.Decides.{eqb_tells}
use Rattle.std.proofs.Math.Seq.{map-set_same}
use Rattle.std.proofs.Math.ListN.{get_or-map}
use Rattle.cap_format.specs.Capability.{Capability}
use Rattle.cap_format.specs.declared.kind.CapKind.{CapKind}
use Rattle.cap_format.specs.declared.kind.CapKind.TheVariants.{Schedule, Process}
use Rattle.process_objects.specs.declared.state.State.{State}
use Rattle.process_objects.specs.declared.state.State.TheVariants.{Running, Receiving, Faulted}
use Rattle.process_objects.specs.Process.{ProcessValue, slot_of, empty_process}
use Rattle.object_store.specs.Store.{Store, process_at, size_of}
use Rattle.schedules.specs.Queues.{QueuesValue}
use Rattle.schedules.specs.Standing.{standing, times_in}
use Rattle.schedules.specs.Ready.{Runs, runs_of, with_processes, schedule_of, process_in, readied_process, readied_queues, readied, readied_all, places_due, runs, Agrees}
use Rattle.schedules.proofs.Agreement.{one-at, none-at}
use Rattle.std.proofs.lemmas.List.{get_or-set_same, get_or-set_other}
use Rattle.std.proofs.Math.ListN.{length-set}

abbrev pub schedule_slot : ProcessValue → Capability
schedule_slot process = slot_of process 1

-- a process that runs stands in one place, or among those that are still to be made ready
pub record AgreesApart (rest : List ℕ) (r : Runs) : Type 0 where
  pub sizes : length r.processes ≡ length r.queues.sleepers
  pub each : (p : ℕ) → p < length r.processes → standing r.queues p + times_in p rest ≡ places_due (process_in r p).state

-- the objects `s` and queues `q` are on the way from the objects `s0` to `target`, and these are still to be made ready
pub record IsWaking (s0 : Store) (q0 : QueuesValue) (target : Runs) (rest : List ℕ) (s : Store) (q : QueuesValue) : Type 0 where
  pub way : readied_all (schedule_of s0) rest (runs_of s q) ≡ target
  pub store : s ≡ with_processes s0 s.contents.processes
  pub sizes : length q.sleepers ≡ size_of s.items Process
  pub slots : map schedule_slot s.contents.processes ≡ map schedule_slot s0.contents.processes
  pub apart : (x : ℕ) → standing q x + times_in x rest ≤ 1
  pub known : (x : ℕ) → length q.sleepers ≤ x → times_in x rest ≡ 0
  pub agrees : Agrees (runs_of s0 q0) → AgreesApart rest (runs_of s q)

pub readied_all-cons : (schedule : ℕ → Capability) (p : ℕ) (ps : List ℕ) (r : Runs) → readied_all schedule (p ∷ ps) r ≡ readied_all schedule ps (readied (schedule p) p r)
unfolding readied_all
readied_all-cons schedule p ps r = refl

pub readied_all-nil : (schedule : ℕ → Capability) (r : Runs) → readied_all schedule [] r ≡ r
unfolding readied_all
readied_all-nil schedule r = refl

pub sleepers-readied : (kind : CapKind) (k : ℕ) (q : QueuesValue) (p : ℕ) → (readied_queues kind k q p).sleepers ≡ q.sleepers
sleepers-readied Schedule k q p = refl
sleepers-readied _ k q p = refl

schedule-same : (s0 s : Store) (p : ℕ) → s.items ≡ s0.items → map schedule_slot s.contents.processes ≡ map schedule_slot s0.contents.processes → schedule_of s p ≡ schedule_of s0 p
schedule-same s0 s p items slots =
    let now = get_or-map schedule_slot s.contents.processes p empty_process in
    let before = get_or-map schedule_slot s0.contents.processes p empty_process in
    let same : schedule_slot (process_at s p) ≡ schedule_slot (process_at s0 p) = sym now ∙ (ap (λ l. get_or l p (schedule_slot empty_process)) slots ∙ before) in
    rw (items, same) refl

here : (p : ℕ) (rest : List ℕ) → times_in p (p ∷ rest) ≡ 1 + times_in p rest
here p rest = let one : ◌≡◌ {A = ℕ} (cond (p == p) 1 0) 1 = grind (arith, eqb_tells) in omega (arith, one)

-- the next of them is one of the machine's processes, and stands nowhere
pub waking-there : (s0 : Store) (q0 : QueuesValue) (target : Runs) (p : ℕ) (rest : List ℕ) (s : Store) (q : QueuesValue) → IsWaking s0 q0 target (p ∷ rest) s q → (p < length q.sleepers) × (standing q p ≡ 0)
waking-there s0 q0 target p rest s q w =
    let one = here p rest in
    let there : p < length q.sleepers = grind (arith, one, w.known p) in
    (there, omega (arith, one, w.apart p))

-- no state asks for more than one place
fewer : (b : Bool) (state : State) → cond b (places_due state) 0 ≤ cond b 1 0
fewer true Running = omega arith
fewer true (Receiving accept) = omega arith
fewer true (Faulted code address) = omega arith
fewer false state = omega arith

-- the process that was made ready is no longer among the others
apart-step : (p : ℕ) (rest : List ℕ) (r : Runs) (y : ProcessValue) (n : QueuesValue) → AgreesApart (p ∷ rest) r → standing r.queues p ≡ 0 → times_in p rest ≡ 0 → p < length r.processes → length n.sleepers ≡ length r.queues.sleepers
    → ((x : ℕ) → standing n x ≡ standing r.queues x + cond (p == x) (places_due y.state) 0) → AgreesApart rest (runs (slice_set r.processes p y) n)
apart-step p rest r y n agrees nowhere alone within long more = record {
  sizes = length-set r.processes p y ∙ (agrees.sizes ∙ sym long);
  each = λ x h. at x (rw length-set at h) (eqb_tells p x);
}
  where
    at : (x : ℕ) → x < length r.processes → ((eqb p x ≡ true) × (p ≡ x)) ⊎ ((eqb p x ≡ false) × (p ≢ x)) → standing n x + times_in x rest ≡ places_due (slice_index_or (slice_set r.processes p y) x empty_process).state
    at x h (inl (t, e)) =
        let due = one-at p (places_due y.state) in
        let here : standing n p + times_in p rest ≡ places_due y.state = omega (arith, due, more p, nowhere, alone) in
        rw (← e) (here ∙ ap (λ z. places_due z.state) (sym (get_or-set_same r.processes p y empty_process within)))
    at x h (inr (t, other)) =
        let none = none-at p x (places_due y.state) other in
        let gone = none-at p x 1 other in
        let each = agrees.each x h in
        let same : standing n x + times_in x rest ≡ places_due (slice_index_or r.processes x empty_process).state = omega (arith, none, gone, more x, each) in
        same ∙ ap (λ z. places_due z.state) (sym (get_or-set_other r.processes p x y empty_process (λ e. other (sym e))))

-- it is made ready
pub waking-step : (s0 : Store) (q0 : QueuesValue) (target : Runs) (p : ℕ) (rest : List ℕ) (s : Store) (q : QueuesValue) (t : Store) (n : QueuesValue) → IsWaking s0 q0 target (p ∷ rest) s q
    → t ≡ with_processes s (readied (schedule_of s p) p (runs_of s q)).processes → n ≡ (readied (schedule_of s p) p (runs_of s q)).queues
    → p < length s.contents.processes
    → ((x : ℕ) → standing n x ≡ standing q x + cond (p == x) (places_due (process_at t p).state) 0) → IsWaking s0 q0 target rest t n
waking-step s0 q0 target p rest s q t n w st qu within more =
    let items : s.items ≡ s0.items = ap (λ (z : Store). z.items) w.store in
    let same = schedule-same s0 s p items w.slots in
    let long : length n.sleepers ≡ length q.sleepers = rw (qu, sleepers-readied (schedule_of s p).kind (schedule_of s p).object q p) refl in
    let put : process_at t p ≡ readied_process (schedule_of s p).kind (process_at s p) = rw st (get_or-set_same s.contents.processes p _ empty_process within) in
    let placed : (x : ℕ) → standing n x ≡ standing q x + cond (p == x) (places_due (readied_process (schedule_of s p).kind (process_at s p)).state) 0 = λ x. more x ∙ ap (λ z. standing q x + cond (p == x) (places_due z.state) 0) put in
    record {
      way = rw (st, qu, same) (sym (readied_all-cons (schedule_of s0) p rest (runs_of s q)) ∙ w.way);
      store = rw st (ap (λ (z : Store). with_processes z (readied (schedule_of s p) p (runs_of s q)).processes) w.store);
      sizes = long ∙ (w.sizes ∙ rw st refl);
      slots = rw st (map-set_same schedule_slot s.contents.processes p _ empty_process refl ∙ w.slots);
      apart = λ x. omega (arith, w.apart x, more x, fewer (p == x) (process_at t p).state);
      known = λ x h. omega (arith, w.known x (rw (← long) h));
      agrees = λ start. rw st (apart-step p rest (runs_of s q) _ n (w.agrees start) (omega (arith, here p rest, w.apart p)) (omega (arith, here p rest, w.apart p)) within long placed);
    }

-- all of them were
pub waking-end : (s0 : Store) (q0 : QueuesValue) (target : Runs) (s : Store) (q : QueuesValue) → IsWaking s0 q0 target [] s q → (s ≡ with_processes s0 target.processes) × (q ≡ target.queues)
waking-end s0 q0 target s q w =
    let way : runs_of s q ≡ target = sym (readied_all-nil (schedule_of s0) (runs_of s q)) ∙ w.way in
    (w.store ∙ ap (λ (z : Runs). with_processes s0 z.processes) way, ap (λ (z : Runs). z.queues) way)

-- all agree again once all were made ready
pub agrees-end : (r : Runs) → AgreesApart [] r → Agrees r
agrees-end r apart = record { sizes = apart.sizes; each = λ p h. omega (arith, apart.each p h) }
