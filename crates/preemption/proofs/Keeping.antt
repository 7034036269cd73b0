-- Each change of the queues of both machines keeps the same processes in them.
use Rattle.std.proofs.Common.{◌≡◌, ◌≢◌, ℕ, ◌==◌, Bool, true, false, if◌then◌else◌, ◌⊎◌, inl, inr, ◌<◌, ◌≤◌, List, [], ◌∷◌, ◌++◌, get_or, set, map, length, Option, Some, None, sym, ap, ◌∙◌, subst, subst₂, arith}
use Rattle.std.proofs.lemmas.Bool.{cases_eq, cases_lt, eq-eqb, ne_eqb, true≢false}
use Rattle.std.proofs.lemmas.List.{length-map, length-set, get_or-set_same, get_or-set_other, set_past}
use Rattle.std.proofs.Math.ListN.{get_or-map}
use Rattle.object_store.proofs.Lists.{get_or-set}
use Rattle.schedules.specs.Queues.{QueuesValue, ready_queue, hart_of, stands_in, without, hart_without, enqueued, asleep, left}
use Rattle.schedules.specs.Ready.{unslept}
use Rattle.machine_state.specs.State.{IsOnHart}
use Rattle.preemption.specs.Places.{Thinned, IsReady, Thins}
use Rattle.preemption.proofs.Thinning.{stands-push, thinned-more, thinned-push}
use Rattle.preemption.proofs.Leaving.{stands-without, thinned-without}

-- ---- who is on a hart

-- without one process, a hart has another if it had it
pub on-without : (p x : ℕ) (on : Option ℕ) → hart_without p on ≡ Some x → (on ≡ Some x) × (x ≢ p)
on-without p x None e = cc
on-without p x (Some y) e = by (y == p) (λ is. eq-eqb y p is) e
  where
    by : (b : Bool) → (y ≡ p → b ≡ true) → (if b then None else Some y) ≡ Some x
        → (Some y ≡ Some x) × (x ≢ p)
    by true tells e = cc
    by false tells e =
        let is : y ≡ x = cc in
        (ap Some is, λ same. true≢false (sym (tells (is ∙ same))))

pub without-on : (p x : ℕ) (on : Option ℕ) → x ≢ p → on ≡ Some x → hart_without p on ≡ Some x
without-on p x on other e = ap (hart_without p) e
    ∙ ap (λ b. if b then None else Some x) (ne_eqb x p other)

module _ (q : QueuesValue) (p : ℕ) where
  -- the hart of queues that a process left
  pub hart-left : (hart : ℕ) → hart_of (left q p) hart ≡ hart_without p (hart_of q hart)
  hart-left hart = get_or-map (hart_without p) q.harts hart None

  -- and the ready queue
  pub ready-left : (priority : ℕ) → ready_queue (left q p) priority ≡ without p
      (ready_queue q priority)
  ready-left priority = get_or-map (without p) q.ready priority []

  -- who is on a hart then was there, and is another
  pub on-left : (x : ℕ) → IsOnHart (left q p) x → IsOnHart q x × (x ≢ p)
  on-left x on =
      let both = on-without p x (hart_of q on.hart) (sym (hart-left on.hart) ∙ on.there) in
      (record { hart = on.hart; there = both.0 }, both.1)

  -- others stay
  pub stays-on : (x : ℕ) → x ≢ p → IsOnHart q x → IsOnHart (left q p) x
  stays-on x other on = record {
    hart = on.hart;
    there = hart-left on.hart ∙ without-on p x (hart_of q on.hart) other on.there;
  }

  pub stays-ready : (x : ℕ) → x ≢ p → IsReady q x → IsReady (left q p) x
  stays-ready x other is = record {
    priority = is.priority;
    there = subst (λ xs. stands_in xs x ≡ true) (sym (ready-left is.priority))
        (stands-without x p (ready_queue q is.priority) other is.there);
  }

-- ---- lists in the place of others

-- a list is written in both places, or in neither
pub put-both : (xs ys : List (List ℕ)) → length xs ≡ length ys → (k j : ℕ) (a b : List ℕ)
    → ((j ≡ k) × (get_or (set xs k a) j [] ≡ a) × (get_or (set ys k b) j [] ≡ b))
    ⊎ ((get_or (set xs k a) j [] ≡ get_or xs j []) × (get_or (set ys k b) j [] ≡ get_or ys j []))
put-both xs ys same k j a b = at (cases_eq j k) (cases_lt k (length xs))
  where
    at : (j ≡ k) ⊎ (j ≡ k → ⊥) → (k < length xs) ⊎ (length xs ≤ k)
        → ((j ≡ k) × (get_or (set xs k a) j [] ≡ a) × (get_or (set ys k b) j [] ≡ b))
        ⊎ ((get_or (set xs k a) j [] ≡ get_or xs j [])
        × (get_or (set ys k b) j [] ≡ get_or ys j []))
    at (inr other) there =
        inr (get_or-set_other xs k j a [] other, get_or-set_other ys k j b [] other)
    at (inl here) (inl there) = inl (
      here,
      ap (λ i. get_or (set xs k a) i []) here ∙ get_or-set_same xs k a [] there,
      ap (λ i. get_or (set ys k b) i []) here
          ∙ get_or-set_same ys k b [] (omega (arith, there, same)),
    )
    at (inl here) (inr past) = inr (
      ap (λ zs. get_or zs j []) (set_past xs k a past),
      ap (λ zs. get_or zs j []) (set_past ys k b (omega (arith, past, same))),
    )

-- who stands in a ready queue stays where another is put at the end of one
pub still-ready : (q : QueuesValue) (k p x : ℕ) → IsReady q x → IsReady (enqueued q k p) x
still-ready q k p x is = elim (get_or-set q.ready k is.priority (ready_queue q k ++ p ∷ []) []) [
  | inl at ↦ record {
    priority = is.priority;
    there = subst (λ xs. stands_in xs x ≡ true) (sym at.1)
        (stands-push x p (ready_queue q k)
        (subst (λ i. stands_in (ready_queue q i) x ≡ true) at.0 is.there));
  }
  | inr same ↦ record {
    priority = is.priority;
    there = subst (λ xs. stands_in xs x ≡ true) (sym same) is.there;
  }
]

module _ (few : ℕ) (n w : QueuesValue) (t : Thins few n w) where
  -- ---- a process is put at the end of a ready queue

  enqueued-ready : (k p priority : ℕ)
      → Thinned (IsOnHart w) (ready_queue (enqueued n k p) priority)
      (ready_queue (enqueued w k p) priority)
  enqueued-ready k p priority = elim
      (put-both n.ready w.ready t.queues k priority (ready_queue n k ++ p ∷ [])
      (ready_queue w k ++ p ∷ [])) [
        | inl at ↦ subst₂ (Thinned (IsOnHart w)) (sym at.1) (sym at.2)
            (thinned-push (IsOnHart w) p (ready_queue n k) (ready_queue w k) (t.ready k))
        | inr same ↦ subst₂ (Thinned (IsOnHart w)) (sym same.0) (sym same.1) (t.ready priority)
      ]

  pub thins-enqueued : (k p : ℕ) → Thins few (enqueued n k p) (enqueued w k p)
  thins-enqueued k p = record {
    few_harts = t.few_harts;
    queues = length-set n.ready k (ready_queue n k ++ p ∷ [])
        ∙ (t.queues ∙ sym (length-set w.ready k (ready_queue w k ++ p ∷ [])));
    sleepers = t.sleepers;
    ready = λ priority. thinned-more (IsOnHart w) (IsOnHart (enqueued w k p))
        (λ x on. record { hart = on.hart; there = on.there })
        (ready_queue (enqueued n k p) priority) (ready_queue (enqueued w k p) priority)
        (enqueued-ready k p priority);
    harts = λ x on. let there = t.harts x (record { hart = on.hart; there = on.there })
        in record { hart = there.hart; there = there.there };
    home = t.home;
    held = λ x on. elim (t.held x (record { hart = on.hart; there = on.there })) [
      | inl there ↦ inl (record { hart = there.hart; there = there.there })
      | inr is ↦ inr (still-ready n k p x is)
    ];
  }

  -- ---- processes leave

  pub thins-left : (p : ℕ) → Thins few (left n p) (left w p)
  thins-left p = record {
    few_harts = length-map n.harts (hart_without p) ∙ t.few_harts;
    queues = length-map n.ready (without p) ∙ (t.queues ∙ sym (length-map w.ready (without p)));
    sleepers = ap (map (without p)) t.sleepers;
    ready = λ priority. subst₂ (Thinned (IsOnHart (left w p))) (sym (ready-left n p priority))
        (sym (ready-left w p priority))
        (thinned-without (IsOnHart w) (IsOnHart (left w p)) p (stays-on w p)
        (ready_queue n priority) (ready_queue w priority) (t.ready priority));
    harts = λ x on. let was = on-left n p x on in stays-on w p x was.1 (t.harts x was.0);
    home = λ hart x e. t.home hart x
        (on-without p x (hart_of w hart) (sym (hart-left w p hart) ∙ e)).0;
    held = λ x on. let was = on-left w p x on in elim (t.held x was.0) [
      | inl there ↦ inl (stays-on n p x was.1 there)
      | inr is ↦ inr (stays-ready n p x was.1 is)
    ];
  }

  -- ---- the sleepers of both change

  resleep : (f : List (List ℕ) → List (List ℕ))
      → Thins few (record { ready = n.ready; sleepers = f n.sleepers; harts = n.harts })
      (record { ready = w.ready; sleepers = f w.sleepers; harts = w.harts })
  resleep f = record {
    few_harts = t.few_harts;
    queues = t.queues;
    sleepers = ap f t.sleepers;
    ready = λ priority. thinned-more (IsOnHart w) _
        (λ x on. record { hart = on.hart; there = on.there }) (ready_queue n priority)
        (ready_queue w priority) (t.ready priority);
    harts = λ x on. let there = t.harts x (record { hart = on.hart; there = on.there })
        in record { hart = there.hart; there = there.there };
    home = t.home;
    held = λ x on. elim (t.held x (record { hart = on.hart; there = on.there })) [
      | inl there ↦ inl (record { hart = there.hart; there = there.there })
      | inr is ↦ inr (record { priority = is.priority; there = is.there })
    ];
  }

  pub thins-asleep : (p on : ℕ) → Thins few (asleep n p on) (asleep w p on)
  thins-asleep p on = resleep (λ sleepers. set sleepers on (get_or sleepers on [] ++ p ∷ []))

  pub thins-unslept : (on : ℕ) → Thins few (unslept n on) (unslept w on)
  thins-unslept on = resleep (λ sleepers. set sleepers on [])
