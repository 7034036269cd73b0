-- Each change keeps what queues keep.
use Rattle.std.proofs.Common.{◌≡◌, ◌≢◌, ◌⊎◌, inl, inr, ℕ, ◌+◌, ◌<◌, ◌≤◌, ◌==◌, eqb, true, false, cond, [], ◌∷◌, ◌++◌, slice_set, length, refl, sym, ◌∙◌, arith, Some, None}
use Rattle.std.proofs.lemmas.List.{length-map}
use Rattle.std.proofs.Math.ListN.{length-set}
use Rattle.std.proofs.lemmas.Bool.Decides.{nat_tests, eqb_tells}
use Rattle.schedules.specs.Queues.{QueuesValue, priorities, without, hart_without, enqueued, asleep, left, sleepers_of, hart_of, taken_from}
use Rattle.schedules.specs.Standing.{standing, times_in, IsQueues}
use Rattle.schedules.specs.Ready.{unslept}
use Rattle.schedules.proofs.Standing.{standing-enqueued, standing-asleep, standing-left, standing-left_other, standing-taken, sum-put}

-- one more place for a process that stood nowhere
once-more : (p x before after : ℕ) → after ≡ before + cond (p == x) 1 0 → (x ≡ p → before ≡ 0) → before ≤ 1 → after ≤ 1
once-more p x before after e nowhere once = on (eqb_tells p x)
  where
    on : ((eqb p x ≡ true) × (p ≡ x)) ⊎ ((eqb p x ≡ false) × (p ≢ x)) → after ≤ 1
    on (inl (t, same)) =
        let one : ◌≡◌ {A = ℕ} (cond (p == x) 1 0) 1 = rw t refl in
        let none = nowhere (sym same) in
        omega (arith, e, one, none)
    on (inr (t, other)) =
        let zero : ◌≡◌ {A = ℕ} (cond (p == x) 1 0) 0 = rw t refl in
        omega (arith, e, zero, once)

-- none for a process that the machine has not
none-more : (p x before after : ℕ) → after ≡ before + cond (p == x) 1 0 → p < x → before ≡ 0 → after ≡ 0
none-more p x before after e less nowhere =
    let zero : ◌≡◌ {A = ℕ} (cond (p == x) 1 0) 0 = grind (arith, nat_tests, less) in
    omega (arith, e, zero, nowhere)

pub kept_enqueued : (q : QueuesValue) (k p : ℕ) → IsQueues q → k < priorities → p < length q.sleepers → standing q p ≡ 0 → IsQueues (enqueued q k p)
kept_enqueued q k p queues within below nowhere =
    let there : k < length q.ready = omega (arith, queues.ready, within) in
    record {
      ready = length-set _ _ _ ∙ queues.ready;
      processes = queues.processes;
      harts = queues.harts;
      once = λ x. once-more p x _ _ (standing-enqueued q k p x there) (λ e. rw e nowhere) (queues.once x);
      known = λ x h. none-more p x _ _ (standing-enqueued q k p x there) (omega (arith, h, below)) (queues.known x h);
    }

pub kept_asleep : (q : QueuesValue) (p on : ℕ) → IsQueues q → on < length q.sleepers → p < length q.sleepers → standing q p ≡ 0 → IsQueues (asleep q p on)
kept_asleep q p on queues within below nowhere =
    let long : length (slice_set q.sleepers on (sleepers_of q on ++ p ∷ [])) ≡ length q.sleepers = length-set _ _ _ in
    record {
      ready = queues.ready;
      processes = omega (arith, long, queues.processes);
      harts = queues.harts;
      once = λ x. once-more p x _ _ (standing-asleep q p on x within) (λ e. rw e nowhere) (queues.once x);
      known = λ x h. let h' : length q.sleepers ≤ x = omega (arith, long, h) in none-more p x _ _ (standing-asleep q p on x within) (omega (arith, h', below)) (queues.known x h');
    }

pub kept_left : (q : QueuesValue) (p : ℕ) → IsQueues q → IsQueues (left q p)
kept_left q p queues = record {
  ready = length-map q.ready (without p) ∙ queues.ready;
  processes = rw (length-map q.sleepers (without p)) queues.processes;
  harts = rw (length-map q.harts (hart_without p)) queues.harts;
  once = λ x. fewer x (eqb_tells p x);
  known = λ x h. let before = queues.known x (rw (← length-map q.sleepers (without p)) h) in let after = least x (eqb_tells p x) in omega (arith, before, after);
}
  where
    least : (x : ℕ) → ((eqb p x ≡ true) × (p ≡ x)) ⊎ ((eqb p x ≡ false) × (p ≢ x)) → standing (left q p) x ≤ standing q x
    least x (inl (t, same)) = let gone = standing-left q p in let here : standing (left q p) x ≡ 0 = rw (← same) gone in omega (arith, here)
    least x (inr (t, other)) = let same = standing-left_other q p x other in omega (arith, same)

    fewer : (x : ℕ) → ((eqb p x ≡ true) × (p ≡ x)) ⊎ ((eqb p x ≡ false) × (p ≢ x)) → standing (left q p) x ≤ 1
    fewer x d = let h = least x d in let once = queues.once x in omega (arith, h, once)

pub kept_taken : (q : QueuesValue) (h k : ℕ) → IsQueues q → h < length q.harts → hart_of q h ≡ None → k < priorities → IsQueues (taken_from q h (Some k))
kept_taken q h k queues within empty there =
    let same : (x : ℕ) → standing (taken_from q h (Some k)) x ≡ standing q x = λ x. standing-taken q h x (Some k) within empty (omega (arith, queues.ready, there)) in
    record {
      ready = length-set _ _ _ ∙ queues.ready;
      processes = queues.processes;
      harts = rw length-set queues.harts;
      once = λ x. rw (same x) (queues.once x);
      known = λ x g. rw (same x) (queues.known x g);
    }

-- taking a list of sleepers away
pub standing-unslept : (q : QueuesValue) (on x : ℕ) → on < length q.sleepers → standing (unslept q on) x + times_in x (sleepers_of q on) ≡ standing q x
standing-unslept q on x within = let put = sum-put x q.sleepers on [] within in omega (arith, put)

pub kept_unslept : (q : QueuesValue) (on : ℕ) → IsQueues q → on < length q.sleepers → IsQueues (unslept q on)
kept_unslept q on queues within =
    let long : length (slice_set q.sleepers on []) ≡ length q.sleepers = length-set _ _ _ in
    record {
      ready = queues.ready;
      processes = omega (arith, long, queues.processes);
      harts = queues.harts;
      once = λ x. let split = standing-unslept q on x within in omega (arith, split, queues.once x);
      known = λ x h. let split = standing-unslept q on x within in let h' : length q.sleepers ≤ x = omega (arith, long, h) in omega (arith, split, queues.known x h');
    }
