-- A hart of the narrow machine takes a process, or loses one at a tick.
use Rattle.std.proofs.Common.{◌≡◌, ◌≢◌, ℕ, zero, suc, ◌<◌, ◌==◌, Bool, true, false, if◌then◌else◌, ◌⊎◌, inl, inr, List, [], ◌∷◌, ◌++◌, get_or, set, map, length, Option, Some, None, refl, sym, ap, ◌∙◌, subst, subst₂, arith}
use Rattle.std.proofs.lemmas.Bool.{cases_eq, cases_lt, eqb-true, ne_eqb, true≢false}
use Rattle.std.proofs.lemmas.List.{length-map, length-set, get_or-set_same, get_or-set_other, get_or_past}
use Rattle.object_store.proofs.Lists.{get_or-set}
use Rattle.schedules.specs.Queues.{QueuesValue, priorities, ready_queue, sleepers_of, hart_of, stands_in, first_of, rest_of, without, hart_without, enqueued, left, highest_below, taken_from}
use Rattle.machine_state.specs.State.{IsOnHart}
use Rattle.preemption.specs.Places.{Thinned, IsReady, Thins}
use Rattle.preemption.proofs.Thinning.{last-stands, stands-rest, thinned-more, thinned-waits, thinned-first_out, thinned-first}
use Rattle.preemption.proofs.Leaving.{without-none, thinned-leaves}
use Rattle.preemption.proofs.Keeping.{ready-left, on-left, stays-on, stays-ready, put-both, still-ready}

-- ---- the highest ready queue that is not empty

-- a list of no length
no-length : (xs : List ℕ) → (length xs == 0) ≡ true → xs ≡ []
no-length [] e = refl
no-length (x ∷ xs) e = absurd (omega (arith, eqb-true (suc (length xs)) 0 e))

some-length : (xs : List ℕ) → xs ≢ [] → (length xs == 0) ≡ false
some-length [] some = absurd (some refl)
some-length (x ∷ xs) some = ne_eqb (suc (length xs)) 0 (λ e. omega (arith, e))

-- it is not empty
pub highest-full : (ready : List (List ℕ)) (n k : ℕ) → highest_below ready n ≡ Some k
    → get_or ready k [] ≢ []
unfolding highest_below
highest-full ready zero k e empty = cc
highest-full ready (suc n) k e empty =
    by (length (get_or ready n []) == 0) refl (λ is. highest-full ready n k is) e empty
  where
    by : (b : Bool) → (length (get_or ready n []) == 0) ≡ b
        → (highest_below ready n ≡ Some k → get_or ready k [] ≢ [])
        → (if b then highest_below ready n else Some n) ≡ Some k → get_or ready k [] ≢ []
    by true is rest e empty = rest e empty
    by false is rest e empty =
        let here : n ≡ k = cc in
        true≢false (ap (λ (xs : List ℕ). length xs == 0)
        (sym (ap (λ i. get_or ready i []) here ∙ empty)) ∙ is)

-- it is the same in lists where those that are empty here are empty too, and it is not
pub highest-same : (xs ys : List (List ℕ)) (n k : ℕ) → highest_below xs n ≡ Some k
    → ((j : ℕ) → get_or xs j [] ≡ [] → get_or ys j [] ≡ []) → get_or ys k [] ≢ []
    → highest_below ys n ≡ Some k
unfolding highest_below
highest-same xs ys zero k e empty full = cc
highest-same xs ys (suc n) k e empty full =
    by (length (get_or xs n []) == 0) refl (λ is. highest-same xs ys n k is empty full) e
  where
    by : (b : Bool) → (length (get_or xs n []) == 0) ≡ b
        → (highest_below xs n ≡ Some k → highest_below ys n ≡ Some k)
        → (if b then highest_below xs n else Some n) ≡ Some k
        → (if length (get_or ys n []) == 0 then highest_below ys n else Some n) ≡ Some k
    by true is rest e =
        let none : get_or ys n [] ≡ [] = empty n (no-length (get_or xs n []) is) in
        ap (λ (zs : List ℕ). if length zs == 0 then highest_below ys n else Some n) none ∙ rest e
    by false is rest e =
        let here : n ≡ k = cc in
        let some : (length (get_or ys n []) == 0) ≡ false =
        some-length (get_or ys n [])
        (λ none. full (ap (λ i. get_or ys i []) (sym here) ∙ none)) in
        ap (λ b. if b then highest_below ys n else Some n) some ∙ e

-- ---- harts

-- who is on a hart is on one that there is
pub within : (harts : List (Option ℕ)) (hart p : ℕ) → get_or harts hart None ≡ Some p
    → hart < length harts
within harts hart p e = elim (cases_lt hart (length harts)) [
  | inl there ↦ there
  | inr past ↦ let none : get_or harts hart None ≡ None = get_or_past harts hart None past
      in absurd cc
]

-- a hart that was idle has a process, and all others have what they had
pub others-on : (harts : List (Option ℕ)) (hart other p x : ℕ) → get_or harts hart None ≡ None
    → get_or harts other None ≡ Some x
    → get_or (set harts hart (Some p)) other None ≡ Some x
others-on harts hart other p x idle on = elim (cases_eq other hart) [
  | inl same ↦ absurd (some-none (sym on ∙ (ap (λ h. get_or harts h None) same ∙ idle)))
  | inr differ ↦ get_or-set_other harts hart other (Some p) None differ ∙ on
]
  where
    some-none : Some x ≡ None → ⊥
    some-none e = cc

-- who is on one then was there, or is the one
pub was-on : (harts : List (Option ℕ)) (hart other p x : ℕ)
    → get_or (set harts hart (Some p)) other None ≡ Some x
    → (get_or harts other None ≡ Some x) ⊎ ((other ≡ hart) × (x ≡ p))
was-on harts hart other p x e = elim (get_or-set harts hart other (Some p) None) [
  | inl at ↦ let is : Some p ≡ Some x = sym at.1 ∙ e in inr (at.0, some-same is)
  | inr same ↦ inl (sym same ∙ e)
]
  where
    some-same : Some p ≡ Some x → x ≡ p
    some-same e = cc

-- ---- a hart takes a process

-- the first of a list, and the rest
pub first-rest : (p : ℕ) (xs : List ℕ) → first_of xs ≡ Some p → xs ≡ p ∷ rest_of xs
first-rest p [] e = absurd cc
first-rest p (x ∷ xs) e = let is : x ≡ p = cc in ap (λ y. y ∷ xs) is

-- a list that isn't empty has a first
pub some-first : (xs : List ℕ) → xs ≢ [] → (p : ℕ) × (first_of xs ≡ Some p)
some-first [] some = absurd (some refl)
some-first (x ∷ xs) some = (x, refl)

-- the queues where a hart has taken process `p`, the first of a ready queue
abbrev pub took : QueuesValue → ℕ → ℕ → ℕ → QueuesValue
took q hart k p = record {
  ready = set q.ready k (rest_of (ready_queue q k));
  sleepers = q.sleepers;
  harts = set q.harts hart (Some p);
}

pub took-is : (q : QueuesValue) (hart k p : ℕ) → first_of (ready_queue q k) ≡ Some p
    → taken_from q hart (Some k) ≡ took q hart k p
took-is q hart k p first =
    ap (λ (on : Option ℕ). record {
      ready = set q.ready k (rest_of (ready_queue q k));
      sleepers = q.sleepers;
      harts = set q.harts hart on;
    }) first

-- it is there
pub took-on : (q : QueuesValue) (hart k p : ℕ) → hart < length q.harts
    → hart_of (took q hart k p) hart ≡ Some p
took-on q hart k p there = get_or-set_same q.harts hart (Some p) None there

-- others who stood in ready queues stand there
took-ready : (q : QueuesValue) (hart k p x : ℕ) → first_of (ready_queue q k) ≡ Some p → x ≢ p
    → IsReady q x → IsReady (took q hart k p) x
took-ready q hart k p x first other is =
    elim (get_or-set q.ready k is.priority (rest_of (ready_queue q k)) []) [
      | inl at ↦ record {
        priority = is.priority;
        there = subst (λ xs. stands_in xs x ≡ true) (sym at.1)
            (stands-rest x p (ready_queue q k) first other
            (subst (λ i. stands_in (ready_queue q i) x ≡ true) at.0 is.there));
      }
      | inr same ↦ record {
        priority = is.priority;
        there = subst (λ xs. stands_in xs x ≡ true) (sym same) is.there;
      }
    ]

module _ (few : ℕ) (n w : QueuesValue) (t : Thins few n w) (hart k p : ℕ)
    (idle : hart_of n hart ≡ None) (there : hart < few)
    (first : first_of (ready_queue n k) ≡ Some p) where
  inside : hart < length n.harts
  inside = omega (arith, there, t.few_harts)

  -- others are where they were in the narrow machine
  held-there : (x : ℕ) → x ≢ p → IsOnHart w x → IsOnHart (took n hart k p) x
      ⊎ IsReady (took n hart k p) x
  held-there x other on = elim (t.held x on) [
    | inl was ↦ inl (record {
      hart = was.hart;
      there = others-on n.harts hart was.hart p x idle was.there;
    })
    | inr is ↦ inr (took-ready n hart k p x first other is)
  ]

  -- the process is there
  here : IsOnHart (took n hart k p) p
  here = record { hart = hart; there = took-on n hart k p inside }

  -- the first of both, if the process is on no hart of the wide machine
  pub first-both : (IsOnHart w p → ⊥) → (first_of (ready_queue w k) ≡ Some p)
      × Thinned (IsOnHart w) (rest_of (ready_queue n k)) (rest_of (ready_queue w k))
  first-both none = thinned-first (IsOnHart w) p (rest_of (ready_queue n k)) (ready_queue w k) none
      (subst (λ xs. Thinned (IsOnHart w) xs (ready_queue w k))
      (first-rest p (ready_queue n k) first) (t.ready k))

  -- ---- a process that has its hart in the wide machine

  taken-ready : stands_in (ready_queue w k) p ≡ false → (j : ℕ)
      → Thinned (IsOnHart w) (ready_queue (took n hart k p) j) (ready_queue w j)
  taken-ready absent j = elim (get_or-set n.ready k j (rest_of (ready_queue n k)) []) [
    | inl at ↦
        let rest = thinned-first_out (IsOnHart w) p (rest_of (ready_queue n k)) (ready_queue w k)
        absent
        (subst (λ xs. Thinned (IsOnHart w) xs (ready_queue w k))
        (first-rest p (ready_queue n k) first) (t.ready k)) in
        subst₂ (Thinned (IsOnHart w)) (sym at.1) (ap (ready_queue w) (sym at.0)) rest
    | inr same ↦ subst (λ xs. Thinned (IsOnHart w) xs (ready_queue w j)) (sym same) (t.ready j)
  ]

  pub thins-taken : IsOnHart w p → stands_in (ready_queue w k) p ≡ false
      → Thins few (took n hart k p) w
  thins-taken on absent = record {
    few_harts = length-set n.harts hart (Some p) ∙ t.few_harts;
    queues = length-set n.ready k (rest_of (ready_queue n k)) ∙ t.queues;
    sleepers = t.sleepers;
    ready = taken-ready absent;
    harts = λ x is. elim (was-on n.harts hart is.hart p x is.there) [
      | inl was ↦ t.harts x (record { hart = is.hart; there = was })
      | inr at ↦ subst (IsOnHart w) (sym at.1) on
    ];
    home = t.home;
    held = λ x is. elim (cases_eq x p) [
      | inl same ↦ inl (subst (IsOnHart (took n hart k p)) (sym same) here)
      | inr other ↦ held-there x other is
    ];
  }

  -- ---- a process that takes its hart there, too

  module _ (none : IsOnHart w p → ⊥) (free : hart_of w p ≡ None) (room : p < length w.harts) where
    still : (x : ℕ) → IsOnHart w x → IsOnHart (took w p k p) x
    still x on = record { hart = on.hart; there = others-on w.harts p on.hart p x free on.there }

    both-ready : (j : ℕ) → Thinned (IsOnHart (took w p k p)) (ready_queue (took n hart k p) j)
        (ready_queue (took w p k p) j)
    both-ready j = elim (put-both n.ready w.ready t.queues k j (rest_of (ready_queue n k))
        (rest_of (ready_queue w k))) [
          | inl at ↦ subst₂ (Thinned (IsOnHart (took w p k p))) (sym at.1) (sym at.2)
              (thinned-more (IsOnHart w) (IsOnHart (took w p k p)) still
              (rest_of (ready_queue n k))
              (rest_of (ready_queue w k)) (first-both none).1)
          | inr same ↦ subst₂ (Thinned (IsOnHart (took w p k p))) (sym same.0) (sym same.1)
              (thinned-more (IsOnHart w) (IsOnHart (took w p k p)) still (ready_queue n j)
              (ready_queue w j) (t.ready j))
        ]

    pub thins-both : Thins few (took n hart k p) (took w p k p)
    thins-both = record {
      few_harts = length-set n.harts hart (Some p) ∙ t.few_harts;
      queues = length-set n.ready k (rest_of (ready_queue n k))
          ∙ (t.queues ∙ sym (length-set w.ready k (rest_of (ready_queue w k))));
      sleepers = t.sleepers;
      ready = both-ready;
      harts = λ x is. elim (was-on n.harts hart is.hart p x is.there) [
        | inl was ↦ still x (t.harts x (record { hart = is.hart; there = was }))
        | inr at ↦ subst (IsOnHart (took w p k p)) (sym at.1)
            (record { hart = p; there = took-on w p k p room })
      ];
      home = λ h x is. elim (was-on w.harts p h p x is) [
        | inl was ↦ t.home h x was
        | inr at ↦ at.0 ∙ sym at.1
      ];
      held = λ x is. elim (was-on w.harts p is.hart p x is.there) [
        | inl was ↦ let on : IsOnHart w x = record { hart = is.hart; there = was }
            in held-there x (λ same. none (subst (IsOnHart w) same on)) on
        | inr at ↦ inl (subst (IsOnHart (took n hart k p)) (sym at.1) here)
      ];
    }

-- ---- a tick

module _ (few : ℕ) (n w : QueuesValue) (t : Thins few n w) (full : length w.ready ≡ priorities)
    (p priority : ℕ) (on : IsOnHart w p) (below : priority < priorities)
    (absent : (j : ℕ) → stands_in (ready_queue w j) p ≡ false)
    (sleeps : (j : ℕ) → stands_in (sleepers_of w j) p ≡ false) where
  awake : map (without p) w.sleepers ≡ w.sleepers
  awake = without-none p w.sleepers sleeps

  -- who leaves a hart of the narrow machine was in no ready queue of the wide one
  left-ready : (j : ℕ) → Thinned (IsOnHart w) (ready_queue (left n p) j) (ready_queue w j)
  left-ready j = subst (λ xs. Thinned (IsOnHart w) xs (ready_queue w j)) (sym (ready-left n p j))
      (thinned-leaves (IsOnHart w) p (ready_queue n j) (ready_queue w j) (absent j) (t.ready j))

  waits-ready : (j : ℕ) → Thinned (IsOnHart w) (ready_queue (enqueued (left n p) priority p) j)
      (ready_queue w j)
  waits-ready j = elim (get_or-set (left n p).ready priority j
      (ready_queue (left n p) priority ++ p ∷ []) []) [
        | inl at ↦ subst₂ (Thinned (IsOnHart w)) (sym at.1) (ap (ready_queue w) (sym at.0))
            (thinned-waits (IsOnHart w) p (ready_queue (left n p) priority)
            (ready_queue w priority) on
            (left-ready priority))
        | inr same ↦ subst (λ xs. Thinned (IsOnHart w) xs (ready_queue w j)) (sym same)
            (left-ready j)
      ]

  within-ready : priority < length (left n p).ready
  within-ready = omega (arith, below, length-map n.ready (without p), t.queues, full)

  waits : IsReady (enqueued (left n p) priority p) p
  waits = record {
    priority = priority;
    there = subst (λ xs. stands_in xs p ≡ true)
        (sym (get_or-set_same (left n p).ready priority (ready_queue (left n p) priority ++ p ∷ [])
        [] within-ready)) (last-stands p (ready_queue (left n p) priority));
  }

  -- the process waits for a hart of the narrow machine, and stays on its own in the wide one
  pub thins-ticked : Thins few (enqueued (left n p) priority p) w
  thins-ticked = record {
    few_harts = length-map n.harts (hart_without p) ∙ t.few_harts;
    queues = length-set (left n p).ready priority (ready_queue (left n p) priority ++ p ∷ [])
        ∙ (length-map n.ready (without p) ∙ t.queues);
    sleepers = ap (map (without p)) t.sleepers ∙ awake;
    ready = waits-ready;
    harts = λ x is. t.harts x (on-left n p x (record { hart = is.hart; there = is.there })).0;
    home = t.home;
    held = λ x is. elim (cases_eq x p) [
      | inl same ↦ inr (subst (IsReady (enqueued (left n p) priority p)) (sym same) waits)
      | inr other ↦ elim (t.held x is) [
        | inl was ↦ let stays = stays-on n p x other was
            in inl (record { hart = stays.hart; there = stays.there })
        | inr ready ↦ inr (still-ready (left n p) priority p x (stays-ready n p x other ready))
      ]
    ];
  }
