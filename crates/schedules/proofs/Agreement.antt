-- States and places still agree once a process was made ready.
use Rattle.std.proofs.Common.{◌≡◌, ◌≢◌, ◌⊎◌, inl, inr, ℕ, ◌+◌, ◌<◌, ◌==◌, eqb, true, false, cond, Some, None, List, slice_set, slice_index_or, length, refl, sym, ap, ◌∙◌, arith}
use Rattle.std.proofs.Math.ListN.{length-set}
use Rattle.std.proofs.lemmas.List.{get_or-set_same, get_or-set_other}
use Rattle.std.proofs.lemmas.Bool.Decides.{eqb_tells}
use Rattle.process_objects.specs.Process.{ProcessValue, empty_process}
use Rattle.schedules.specs.Queues.{QueuesValue, priorities, without, left, asleep, hart_of, taken_from}
use Rattle.schedules.specs.Standing.{standing, IsQueues}
use Rattle.schedules.proofs.Standing.{standing-left, standing-left_other, standing-asleep, standing-taken}
use Rattle.std.proofs.lemmas.List.{length-map}
use Rattle.schedules.specs.Ready.{Runs, runs, places_due, Agrees, AgreesBut}

pub one-at : (p n : ℕ) → cond (p == p) n 0 ≡ n
one-at p n = on (eqb_tells p p)
  where
    on : ((eqb p p ≡ true) × (p ≡ p)) ⊎ ((eqb p p ≡ false) × (p ≢ p)) → cond (p == p) n 0 ≡ n
    on (inl (t, e)) = rw t refl
    on (inr (t, other)) = absurd (other refl)

pub none-at : (p x n : ℕ) → p ≢ x → cond (p == x) n 0 ≡ 0
none-at p x n other = on (eqb_tells p x)
  where
    on : ((eqb p x ≡ true) × (p ≡ x)) ⊎ ((eqb p x ≡ false) × (p ≢ x)) → cond (p == x) n 0 ≡ 0
    on (inl (t, e)) = absurd (other e)
    on (inr (t, e)) = rw t refl

-- a process was replaced, and stands in the places that its new state asks for
agrees-put : (r : Runs) (p : ℕ) (y : ProcessValue) (q : QueuesValue) → p < length r.processes → AgreesBut p r → length q.sleepers ≡ length r.queues.sleepers → standing q p ≡ places_due y.state → ((x : ℕ) → p ≢ x → standing q x ≡ standing r.queues x) → Agrees (record { processes = slice_set r.processes p y; queues = q })
agrees-put r p y q within but same here elsewhere = record {
  sizes = length-set r.processes p y ∙ (but.sizes ∙ sym same);
  each = λ x h. on x (rw length-set at h) (eqb_tells p x);
}
  where
    on : (x : ℕ) → x < length r.processes → ((eqb p x ≡ true) × (p ≡ x)) ⊎ ((eqb p x ≡ false) × (p ≢ x)) → standing q x ≡ places_due (slice_index_or (slice_set r.processes p y) x empty_process).state
    on x h (inl (t, e)) = rw (← e) (here ∙ ap (λ z. places_due z.state) (sym (get_or-set_same r.processes p y empty_process within)))
    on x h (inr (t, other)) = elsewhere x other ∙ (but.each x h (λ e. other (sym e)) ∙ ap (λ z. places_due z.state) (sym (get_or-set_other r.processes p x y empty_process (λ e. other (sym e)))))

-- a process stands in as many places more as its new state asks for
pub agrees-placed : (r : Runs) (p : ℕ) (y : ProcessValue) (q : QueuesValue) → p < length r.queues.sleepers → AgreesBut p r → length q.sleepers ≡ length r.queues.sleepers → ((x : ℕ) → standing q x ≡ standing r.queues x + cond (p == x) (places_due y.state) 0) → Agrees (record { processes = slice_set r.processes p y; queues = q })
agrees-placed r p y q within but same more =
    agrees-put r p y q (omega (arith, within, but.sizes)) but same
    (let one : cond (p == p) (places_due y.state) 0 ≡ places_due y.state = one-at p (places_due y.state) in omega (arith, one, more p, but.nowhere))
    (λ x other. let zero : ◌≡◌ {A = ℕ} (cond (p == x) (places_due y.state) 0) 0 = none-at p x (places_due y.state) other in omega (arith, zero, more x))

-- one that left stands nowhere, and the others where they stood
pub agrees-left : (processes : List ProcessValue) (q : QueuesValue) (p : ℕ) → Agrees (runs processes q) → AgreesBut p (runs processes (left q p))
agrees-left processes q p agrees = record {
  sizes = agrees.sizes ∙ sym (length-map q.sleepers (without p));
  nowhere = standing-left q p;
  each = λ x h other. standing-left_other q p x (λ e. other (sym e)) ∙ agrees.each x h;
}

-- one that sleeps stands in one place
pub agrees-asleep : (processes : List ProcessValue) (q : QueuesValue) (p on : ℕ) → on < length q.sleepers → AgreesBut p (runs processes q) → places_due (slice_index_or processes p empty_process).state ≡ 1 → Agrees (runs processes (asleep q p on))
agrees-asleep processes q p on within but runs_now = record {
  sizes = but.sizes ∙ sym (length-set q.sleepers on _);
  each = λ x h. at x h (eqb_tells p x);
}
  where
    at : (x : ℕ) → x < length processes → ((eqb p x ≡ true) × (p ≡ x)) ⊎ ((eqb p x ≡ false) × (p ≢ x)) → standing (asleep q p on) x ≡ places_due (slice_index_or processes x empty_process).state
    at x h (inl (t, e)) =
        let more = standing-asleep q p on p within in
        let one = one-at p 1 in
        let here : standing (asleep q p on) p ≡ 1 = omega (arith, more, one, but.nowhere) in
        rw (← e) (here ∙ sym runs_now)
    at x h (inr (t, other)) =
        let more = standing-asleep q p on x within in
        let none = none-at p x 1 other in
        let each = but.each x h (λ e. other (sym e)) in
        omega (arith, more, none, each)

-- a hart that takes a process leaves each in as many places as before
pub agrees-taken : (processes : List ProcessValue) (q : QueuesValue) (h k : ℕ) → IsQueues q → h < length q.harts → hart_of q h ≡ None → k < priorities → Agrees (runs processes q) → Agrees (runs processes (taken_from q h (Some k)))
agrees-taken processes q h k queues within empty there agrees = record {
  sizes = agrees.sizes;
  each = λ x g. standing-taken q h x (Some k) within empty (omega (arith, queues.ready, there)) ∙ agrees.each x g;
}
