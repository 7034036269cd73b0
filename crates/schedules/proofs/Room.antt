-- A list in which no process stands twice has room for one that it has not.
use Rattle.std.proofs.Common.{◌≡◌, ◌≢◌, ◌⊎◌, inl, inr, ℕ, ◌+◌, ◌<◌, ◌≤◌, ◌==◌, eqb, Bool, true, false, ◌||◌, List, [], ◌∷◌, ◌++◌, length, refl, arith, cond, length-append}
use Rattle.std.specs.List.{list_any, IsDistinct, AllByRecursion}
use Rattle.std.proofs.lemmas.List.Sums.{get_or-le-sum_by}
use Rattle.std.proofs.lemmas.Map.Steps.{length-le_from_distinct_below}
use Rattle.std.proofs.lemmas.Bool.Decides.{nat_tests, eqb_tells}
use Rattle.schedules.specs.Queues.{QueuesValue, ready_queue, sleepers_of}
use Rattle.schedules.specs.Standing.{times_in, standing, IsQueues}
use Rattle.schedules.proofs.Standing.{times_in-push}

-- a process that stands nowhere in a list differs from all in it
apart : (x : ℕ) (xs : List ℕ) → times_in x xs ≡ 0 → AllByRecursion (λ y. eqb x y ≡ false) xs
apart x [] h = tt
apart x (y ∷ ys) h = (grind (arith, nat_tests, h), apart x ys (omega (arith, h)))

distinct : (xs : List ℕ) → ((p : ℕ) → times_in p xs ≤ 1) → IsDistinct eqb xs
unfolding IsDistinct
distinct [] once = tt
distinct (x ∷ xs) once =
    let here : ◌≡◌ {A = ℕ} (cond (x == x) 1 0) 1 = grind (arith, nat_tests) in
    (apart x xs (omega (arith, here, once x)), distinct xs (λ p. omega (arith, once p)))

-- a process in a list stands there once or more
there : (q : ℕ) (xs : List ℕ) → list_any (eqb q) xs ≡ true → 1 ≤ times_in q xs
there q [] h = cc
there q (x ∷ xs) h = on (eqb q x) refl h (λ g. there q xs g)
  where
    on : (b : Bool) → eqb q x ≡ b → (b || list_any (eqb q) xs) ≡ true → (list_any (eqb q) xs ≡ true → 1 ≤ times_in q xs) → 1 ≤ cond (x == q) 1 0 + times_in q xs
    on true e g rest = grind (arith, nat_tests, e)
    on false e g rest = omega (arith, rest g)

pub length-once : (xs : List ℕ) (n : ℕ) → ((p : ℕ) → times_in p xs ≤ 1) → ((p : ℕ) → n ≤ p → times_in p xs ≡ 0) → length xs ≤ n
length-once xs n once known =
    length-le_from_distinct_below xs n (distinct xs once) (λ q h. let present = there q xs h in grind (arith, present, known q))

-- one more process that was not there leaves each there once
once-push : (p : ℕ) (xs : List ℕ) (x : ℕ) → times_in x xs ≤ 1 → times_in p xs ≡ 0 → times_in x (xs ++ p ∷ []) ≤ 1
once-push p xs x once nowhere = on (eqb_tells p x)
  where
    on : ((eqb p x ≡ true) × (p ≡ x)) ⊎ ((eqb p x ≡ false) × (p ≢ x)) → times_in x (xs ++ p ∷ []) ≤ 1
    on (inl (e, same)) =
        let push = times_in-push x p xs in
        let absent : times_in x xs ≡ 0 = rw (← same) nowhere in
        let one : ◌≡◌ {A = ℕ} (cond (p == x) 1 0) 1 = rw e refl in
        omega (arith, push, absent, one)
    on (inr (e, other)) =
        let push = times_in-push x p xs in
        let none : ◌≡◌ {A = ℕ} (cond (p == x) 1 0) 0 = rw e refl in
        omega (arith, push, none, once)

known-push : (p : ℕ) (xs : List ℕ) (x : ℕ) → times_in x xs ≡ 0 → p < x → times_in x (xs ++ p ∷ []) ≡ 0
known-push p xs x absent less =
    let push = times_in-push x p xs in
    let none : ◌≡◌ {A = ℕ} (cond (p == x) 1 0) 0 = grind (arith, nat_tests, less) in
    omega (arith, push, none, absent)

-- a list of processes of which none stands twice has room for one that is not there
room : (xs : List ℕ) (p n : ℕ) → ((x : ℕ) → times_in x xs ≤ 1) → ((x : ℕ) → n ≤ x → times_in x xs ≡ 0) → times_in p xs ≡ 0 → p < n → length xs < n
room xs p n once known nowhere below =
    let put : length (xs ++ p ∷ []) ≤ n = length-once (xs ++ p ∷ []) n (λ x. once-push p xs x (once x) nowhere) (λ x h. known-push p xs x (known x h) (omega (arith, h, below))) in
    let long : length (xs ++ p ∷ []) ≡ length xs + 1 = length-append xs (p ∷ []) in
    omega (arith, put, long)

-- a ready queue has room for a process that stands nowhere
pub room_ready : (q : QueuesValue) (k p : ℕ) → IsQueues q → k < length q.ready → p < length q.sleepers → standing q p ≡ 0 → length (ready_queue q k) < 256
room_ready q k p queues within below nowhere =
    let less : (x : ℕ) → times_in x (ready_queue q k) ≤ standing q x = λ x. let part = get_or-le-sum_by (times_in x) q.ready k [] within in omega (arith, part) in
    let short = room (ready_queue q k) p (length q.sleepers) (λ x. omega (arith, less x, queues.once x)) (λ x h. omega (arith, less x, queues.known x h)) (omega (arith, less p, nowhere)) below in
    omega (arith, short, queues.processes)

-- a list of sleepers has room for a process that stands nowhere
pub room_sleepers : (q : QueuesValue) (on p : ℕ) → IsQueues q → on < length q.sleepers → p < length q.sleepers → standing q p ≡ 0 → length (sleepers_of q on) < 256
room_sleepers q on p queues within below nowhere =
    let less : (x : ℕ) → times_in x (sleepers_of q on) ≤ standing q x = λ x. let part = get_or-le-sum_by (times_in x) q.sleepers on [] within in omega (arith, part) in
    let short = room (sleepers_of q on) p (length q.sleepers) (λ x. omega (arith, less x, queues.once x)) (λ x h. omega (arith, less x, queues.known x h)) (omega (arith, less p, nowhere)) below in
    omega (arith, short, queues.processes)
