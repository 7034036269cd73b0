-- Harts of which each has the process of its own number stand for the same places as those before.
use Rattle.std.proofs.Common.{◌≡◌, ℕ, zero, suc, ◌+◌, ◌<◌, ◌≤◌, ◌==◌, inl, inr, true, false, Bool, cond, if◌then◌else◌, List, [], ◌∷◌, ◌++◌, get_or, Option, Some, None, refl, sym, ap, ◌∙◌, arith}
use Rattle.std.specs.List.{sum_by}
use Rattle.std.proofs.lemmas.Bool.{cases_lt, eqb-true, ne_eqb}
use Rattle.std.proofs.lemmas.Bool.Decides.{nat_tests}
use Rattle.std.proofs.lemmas.List.Sums.{sum_by-cons}
use Rattle.std.proofs.lemmas.List.FromFn.{length-map-range_with_len, map-range_with_len_more, sum_by-map-range_with_len_more}
use Rattle.process_objects.specs.Process.{ProcessValue}
use Rattle.schedules.specs.Queues.{QueuesValue, hart_of}
use Rattle.schedules.specs.Standing.{standing, times_in, times_on, IsQueues}
use Rattle.schedules.specs.Ready.{Agrees, runs}
use Rattle.schedules.specs.Home.{own_hart, own_harts, on_harts}
use Rattle.schedules.proofs.OnHart.{on_hart}

-- a hart on which the process is
pub on-some : (p : ℕ) (harts : List (Option ℕ)) → (sum_by (times_on p) harts == 0) ≡ false → (hart : ℕ)
    × (get_or harts hart None ≡ Some p)
on-some p [] some = cc
on-some p (None ∷ harts) some =
    let rest = on-some p harts (ap (λ n. n == 0)
    (sym (sum_by-cons (times_on p) None harts ∙ omega arith)) ∙ some) in
    (suc rest.0, rest.1)
on-some p (Some x ∷ harts) some = by (x == p) refl (λ none. on-some p harts none)
  where
    by : (b : Bool) → (x == p) ≡ b → ((sum_by (times_on p) harts == 0) ≡ false → (hart : ℕ)
        × (get_or harts hart None ≡ Some p)) → (hart : ℕ)
        × (get_or (Some x ∷ harts) hart None ≡ Some p)
    by true is rest = (zero, ap Some (eqb-true x p is))
    by false is rest =
        let here : ◌≡◌ {A = ℕ} (times_on p (Some x)) 0 = ap (λ b. cond b 1 0) is in
        let next = rest (ap (λ n. n == 0)
        (sym (sum_by-cons (times_on p) (Some x) harts ∙ omega (arith, here))) ∙ some) in
        (suc next.0, next.1)

-- a process that is on one of these has a hart of its own
pub own_some : (harts : List (Option ℕ)) (p hart : ℕ) → get_or harts hart None ≡ Some p → own_hart harts p ≡ Some p
own_some harts p hart on =
    ap (λ b. if b then None else Some p)
    (ne_eqb (sum_by (times_on p) harts) 0
    (λ none. let most = on_hart p hart harts on in omega (arith, most, none)))

-- and one that is on none has none
pub own_none : (harts : List (Option ℕ)) (p : ℕ) → sum_by (times_on p) harts ≡ 0 → own_hart harts p ≡ None
own_none harts p none = rw none refl

-- a hart more
pub own_more : (harts : List (Option ℕ)) (n : ℕ) → own_harts harts (n + 1) ≡ own_harts harts n ++ own_hart harts n ∷ []
own_more harts n = map-range_with_len_more (own_hart harts) 0 n n (omega arith)

-- how often a process is on a hart that is another's, or its own
on-other : (harts : List (Option ℕ)) (p x : ℕ) → (p == x) ≡ false → times_on x (own_hart harts p) ≡ 0
on-other harts p x other = by (sum_by (times_on p) harts == 0)
  where
    by : (b : Bool) → times_on x (if b then None else Some p) ≡ 0
    by true = refl
    by false = ap (λ b. cond b 1 0) other

on-own : (harts : List (Option ℕ)) (x : ℕ) → sum_by (times_on x) harts ≤ 1 → times_on x (own_hart harts x) ≡ sum_by (times_on x) harts
on-own harts x once = by (sum_by (times_on x) harts == 0) refl
  where
    by : (b : Bool) → (sum_by (times_on x) harts == 0) ≡ b → times_on x (if b then None else Some x) ≡ sum_by (times_on x) harts
    by true is = grind (arith, nat_tests, is)
    by false is = let some : ◌≡◌ {A = ℕ} (cond (x == x) 1 0) 1 = grind (arith, nat_tests) in grind (arith, nat_tests, is, once, some)

-- how often it is on the first harts
sum-more : (harts : List (Option ℕ)) (x n : ℕ) → sum_by (times_on x) (own_harts harts (suc n)) ≡ sum_by (times_on x) (own_harts harts n) + times_on x (own_hart harts n)
sum-more harts x n =
    let next : suc n ≡ n + 1 = omega arith in
    ap (λ k. sum_by (times_on x) (own_harts harts k)) next ∙ sum_by-map-range_with_len_more (times_on x) (own_hart harts) 0 n n (omega arith)

sum-past : (harts : List (Option ℕ)) (x n : ℕ) → n ≤ x → sum_by (times_on x) (own_harts harts n) ≡ 0
sum-past harts x zero past = refl
sum-past harts x (suc n) past =
    let more = sum-more harts x n in
    let rest = sum-past harts x n (omega (arith, past)) in
    let other = on-other harts n x (ne_eqb n x (λ e. omega (arith, past, e))) in
    omega (arith, more, rest, other)

sum-own : (harts : List (Option ℕ)) (x n : ℕ) → x < n → sum_by (times_on x) (own_harts harts n) ≡ times_on x (own_hart harts x)
sum-own harts x zero there = absurd (omega (arith, there))
sum-own harts x (suc n) there =
    let more = sum-more harts x n in
    elim (cases_lt x n) [
      | inl before ↦
          let rest = sum-own harts x n before in
          let other = on-other harts n x (ne_eqb n x (λ e. omega (arith, before, e))) in
          omega (arith, more, rest, other)
      | inr last ↦
          let same : n ≡ x = omega (arith, there, last) in
          let none = sum-past harts x n (omega (arith, last)) in
          let own : times_on x (own_hart harts n) ≡ times_on x (own_hart harts x) = ap (λ k. times_on x (own_hart harts k)) same in
          omega (arith, more, none, own)
    ]

-- each process is on as many harts as before, where there is one for each of them
pub sum-home : (harts : List (Option ℕ)) (many x : ℕ) → ((hart p : ℕ) → get_or harts hart None ≡ Some p → p < many) → sum_by (times_on x) harts ≤ 1
    → sum_by (times_on x) (own_harts harts many) ≡ sum_by (times_on x) harts
sum-home harts many x each once = elim (cases_lt x many) [
  | inl there ↦ sum-own harts x many there ∙ on-own harts x once
  | inr past ↦ sum-past harts x many (omega (arith, past)) ∙ sym (off (sum_by (times_on x) harts == 0) refl past)
]
  where
    off : (b : Bool) → (sum_by (times_on x) harts == 0) ≡ b → many ≤ x → sum_by (times_on x) harts ≡ 0
    off true is past = eqb-true (sum_by (times_on x) harts) 0 is
    off false is past =
        let on = on-some x harts is in
        let below = each on.0 x on.1 in
        absurd (omega (arith, below, past))

pub standing-home : (q : QueuesValue) (many x : ℕ) → IsQueues q → ((hart p : ℕ) → hart_of q hart ≡ Some p → p < many)
    → standing (on_harts q (own_harts q.harts many)) x ≡ standing q x
standing-home q many x queues each =
    let once = queues.once x in
    ap (λ n. sum_by (times_in x) q.ready + sum_by (times_in x) q.sleepers + n) (sum-home q.harts many x each (omega (arith, once)))

pub kept_home : (q : QueuesValue) (many : ℕ) → IsQueues q → many ≤ 8 → ((hart p : ℕ) → hart_of q hart ≡ Some p → p < many)
    → IsQueues (on_harts q (own_harts q.harts many))
kept_home q many queues most each =
    let long = length-map-range_with_len (own_hart q.harts) 0 many in
    record {
      ready = queues.ready;
      processes = queues.processes;
      harts = omega (arith, long, most);
      once = λ x. let same = standing-home q many x queues each in omega (arith, same, queues.once x);
      known = λ x past. standing-home q many x queues each ∙ queues.known x past;
    }

pub agrees-home : (processes : List ProcessValue) (q : QueuesValue) (many : ℕ) → IsQueues q → ((hart p : ℕ) → hart_of q hart ≡ Some p → p < many)
    → Agrees (runs processes q) → Agrees (runs processes (on_harts q (own_harts q.harts many)))
agrees-home processes q many queues each agrees = record {
  sizes = agrees.sizes;
  each = λ p there. standing-home q many p queues each ∙ agrees.each p there;
}
