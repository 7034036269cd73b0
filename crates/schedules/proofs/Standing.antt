-- What each change of the queues makes of the number of places where a process stands.
use Rattle.std.proofs.Common.{◌≡◌, ◌≢◌, ℕ, ◌+◌, ◌<◌, ◌==◌, Bool, true, false, ◌||◌, List, [], ◌∷◌, ◌++◌, map, slice_set, slice_index_or, length, refl, ap, arith, cond, Option, Some, None, IfSome}
use Rattle.std.specs.List.{sum_by}
use Rattle.std.specs.Bool.{if◌then◌else◌}
use Rattle.std.proofs.lemmas.List.Sums.{sum_by-set, sum_by-cons}
use Rattle.std.proofs.lemmas.Bool.Decides.{nat_tests}
use Rattle.schedules.specs.Queues.{QueuesValue, stands_in, without, hart_without, enqueued, asleep, left, ready_queue, sleepers_of, hart_of, first_of, rest_of, taken_from}
use Rattle.schedules.specs.Standing.{times_in, times_on, standing}

-- one more at the end of a list
pub times_in-push : (p y : ℕ) (xs : List ℕ) → times_in p (xs ++ y ∷ []) ≡ times_in p xs + cond (y == p) 1 0
times_in-push p y [] = omega arith
times_in-push p y (x ∷ xs) = let rest = times_in-push p y xs in omega (arith, rest)

-- a process that is not in a list stands nowhere in it
pub times_in_absent : (p : ℕ) (xs : List ℕ) → stands_in xs p ≡ false → times_in p xs ≡ 0
times_in_absent p [] h = refl
times_in_absent p (x ∷ xs) h = on (x == p) refl h (λ g. times_in_absent p xs g)
  where
    on : (b : Bool) → (x == p) ≡ b → (b || stands_in xs p) ≡ false → (stands_in xs p ≡ false → times_in p xs ≡ 0) → cond b 1 0 + times_in p xs ≡ 0
    on true e g rest = cc
    on false e g rest = omega (arith, rest g)

-- a list is put in the place of another
pub sum-put : (p : ℕ) (lists : List (List ℕ)) (k : ℕ) (xs : List ℕ) → k < length lists → sum_by (times_in p) (slice_set lists k xs) + times_in p (slice_index_or lists k []) ≡ sum_by (times_in p) lists + times_in p xs
sum-put p lists k xs within = sum_by-set (times_in p) lists k xs [] within

pub standing-enqueued : (q : QueuesValue) (k p x : ℕ) → k < length q.ready → standing (enqueued q k p) x ≡ standing q x + cond (p == x) 1 0
standing-enqueued q k p x within =
    let put = sum-put x q.ready k (ready_queue q k ++ p ∷ []) within in
    let push = times_in-push x p (ready_queue q k) in
    omega (arith, put, push)

pub standing-asleep : (q : QueuesValue) (p on x : ℕ) → on < length q.sleepers → standing (asleep q p on) x ≡ standing q x + cond (p == x) 1 0
standing-asleep q p on x within =
    let put = sum-put x q.sleepers on (sleepers_of q on ++ p ∷ []) within in
    let push = times_in-push x p (sleepers_of q on) in
    omega (arith, put, push)

-- taken out, the process is there no more
times_in-without : (p : ℕ) (xs : List ℕ) → times_in p (without p xs) ≡ 0
times_in-without p [] = refl
times_in-without p (x ∷ xs) = on (x == p) refl (times_in-without p xs)
  where
    on : (b : Bool) → (x == p) ≡ b → times_in p (without p xs) ≡ 0 → times_in p (if b then without p xs else x ∷ without p xs) ≡ 0
    on true e rest = rest
    on false e rest = rw (e, rest) refl

-- another stays as often as it was
times_in-without_other : (p x : ℕ) (xs : List ℕ) → p ≢ x → times_in x (without p xs) ≡ times_in x xs
times_in-without_other p x [] h = refl
times_in-without_other p x (y ∷ ys) h = on (y == p) refl (times_in-without_other p x ys h)
  where
    on : (b : Bool) → (y == p) ≡ b → times_in x (without p ys) ≡ times_in x ys → times_in x (if b then without p ys else y ∷ without p ys) ≡ cond (y == x) 1 0 + times_in x ys
    on true e rest = grind (arith, nat_tests, e, rest)
    on false e rest = ap (λ n. cond (y == x) 1 0 + n) rest

-- a sum over lists from each of which the process was taken
sum-without : (p : ℕ) (lists : List (List ℕ)) → sum_by (times_in p) (map (without p) lists) ≡ 0
sum-without p [] = refl
sum-without p (xs ∷ lists) =
    let after = sum_by-cons (times_in p) (without p xs) (map (without p) lists) in
    let first = times_in-without p xs in
    let rest = sum-without p lists in
    omega (arith, after, first, rest)

sum-without_other : (p x : ℕ) (lists : List (List ℕ)) → p ≢ x → sum_by (times_in x) (map (without p) lists) ≡ sum_by (times_in x) lists
sum-without_other p x [] h = refl
sum-without_other p x (xs ∷ lists) h =
    let all = sum_by-cons (times_in x) xs lists in
    let after = sum_by-cons (times_in x) (without p xs) (map (without p) lists) in
    let first = times_in-without_other p x xs h in
    let rest = sum-without_other p x lists h in
    omega (arith, all, after, first, rest)

times_on-without : (p : ℕ) (hart : Option ℕ) → times_on p (hart_without p hart) ≡ 0
times_on-without p None = refl
times_on-without p (Some x) = on (x == p) refl
  where
    on : (b : Bool) → (x == p) ≡ b → times_on p (if b then None else Some x) ≡ 0
    on true e = refl
    on false e = rw e refl

times_on-without_other : (p x : ℕ) (hart : Option ℕ) → p ≢ x → times_on x (hart_without p hart) ≡ times_on x hart
times_on-without_other p x None h = refl
times_on-without_other p x (Some y) h = on (y == p) refl
  where
    on : (b : Bool) → (y == p) ≡ b → times_on x (if b then None else Some y) ≡ cond (y == x) 1 0
    on true e = grind (arith, nat_tests, e)
    on false e = refl

harts-without : (p : ℕ) (harts : List (Option ℕ)) → sum_by (times_on p) (map (hart_without p) harts) ≡ 0
harts-without p [] = refl
harts-without p (hart ∷ harts) =
    let after = sum_by-cons (times_on p) (hart_without p hart) (map (hart_without p) harts) in
    let first = times_on-without p hart in
    let rest = harts-without p harts in
    omega (arith, after, first, rest)

harts-without_other : (p x : ℕ) (harts : List (Option ℕ)) → p ≢ x → sum_by (times_on x) (map (hart_without p) harts) ≡ sum_by (times_on x) harts
harts-without_other p x [] h = refl
harts-without_other p x (hart ∷ harts) h =
    let all = sum_by-cons (times_on x) hart harts in
    let after = sum_by-cons (times_on x) (hart_without p hart) (map (hart_without p) harts) in
    let first = times_on-without_other p x hart h in
    let rest = harts-without_other p x harts h in
    omega (arith, all, after, first, rest)

-- a process that left stands nowhere
pub standing-left : (q : QueuesValue) (p : ℕ) → standing (left q p) p ≡ 0
standing-left q p =
    let ready = sum-without p q.ready in
    let sleepers = sum-without p q.sleepers in
    let harts = harts-without p q.harts in
    omega (arith, ready, sleepers, harts)

-- every other stays where it was
pub standing-left_other : (q : QueuesValue) (p x : ℕ) → p ≢ x → standing (left q p) x ≡ standing q x
standing-left_other q p x other =
    let ready = sum-without_other p x q.ready other in
    let sleepers = sum-without_other p x q.sleepers other in
    let harts = harts-without_other p x q.harts other in
    omega (arith, ready, sleepers, harts)

-- a list is its first, if there is one, and the rest
first-rest : (x : ℕ) (xs : List ℕ) → times_in x xs ≡ times_on x (first_of xs) + times_in x (rest_of xs)
first-rest x [] = refl
first-rest x (y ∷ ys) = refl

pub standing-taken : (q : QueuesValue) (h x : ℕ) (next : Option ℕ) → h < length q.harts → hart_of q h ≡ None → IfSome next (λ k. k < length q.ready) → standing (taken_from q h next) x ≡ standing q x
standing-taken q h x None within empty there = refl
standing-taken q h x (Some k) within empty there =
    let list = sum-put x q.ready k (rest_of (ready_queue q k)) there in
    let hart = sum_by-set (times_on x) q.harts h (first_of (ready_queue q k)) None within in
    let split = first-rest x (ready_queue q k) in
    let before : times_on x (hart_of q h) ≡ 0 = rw empty refl in
    omega (arith, list, hart, split, before)
