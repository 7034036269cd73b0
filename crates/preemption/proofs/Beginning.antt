-- States from which a wide machine may begin.
use Rattle.std.proofs.Common.{◌≡◌, ℕ, zero, suc, ◌<◌, ◌==◌, inl, inr, true, false, Bool, cond, if◌then◌else◌, List, [], ◌∷◌, get_or, replicate, length, Option, Some, None, refl, sym, ap, ◌∙◌, subst, arith}
use Rattle.std.specs.List.{sum_by}
use Rattle.std.proofs.lemmas.Bool.{cases_lt, eqb-true, ne_eqb}
use Rattle.std.proofs.lemmas.List.{get_or_past}
use Rattle.std.proofs.lemmas.List.Sums.{sum_by-cons}
use Rattle.std.proofs.lemmas.List.FromFn.{length-map-range_with_len, get_or-map-range_with_len}
use Rattle.schedules.specs.Queues.{ready_queue, hart_of}
use Rattle.schedules.specs.Standing.{times_on}
use Rattle.schedules.proofs.OnHart.{on_hart}
use Rattle.machine_state.specs.State.{IsOnHart}
use Rattle.schedules.specs.Home.{own_hart, own_harts, on_harts}
use Rattle.schedules.proofs.Home.{on-some}
use Rattle.preemption.specs.Laws.{StartLaw, RestLaw}
use Rattle.preemption.proofs.Thinning.{thinned-same}

-- ---- who is on some hart

-- a process on a hart is on its own
own-there : (harts : List (Option ℕ)) (p hart : ℕ) → get_or harts hart None ≡ Some p
    → own_hart harts p ≡ Some p
own-there harts p hart on =
    ap (λ b. if b then None else Some p)
    (ne_eqb (sum_by (times_on p) harts) 0
    (λ none. let most = on_hart p hart harts on in omega (arith, most, none)))

-- whoever is on one is on his own, and was on some
own-was : (harts : List (Option ℕ)) (p x : ℕ) → own_hart harts p ≡ Some x → (p ≡ x)
    × ((hart : ℕ) × (get_or harts hart None ≡ Some x))
own-was harts p x on = by (sum_by (times_on p) harts == 0) refl on
  where
    by : (b : Bool) → (sum_by (times_on p) harts == 0) ≡ b → (if b then None else Some p) ≡ Some x
        → (p ≡ x) × ((hart : ℕ) × (get_or harts hart None ≡ Some x))
    by true is on = cc
    by false is on =
        let same : p ≡ x = cc in (
          same,
          subst (λ y. (hart : ℕ) × (get_or harts hart None ≡ Some y)) same
              (on-some p harts is),
        )

-- the harts of all processes
own-at : (harts : List (Option ℕ)) (many p : ℕ) → p < many
    → get_or (own_harts harts many) p None ≡ own_hart harts p
own-at harts many p there = get_or-map-range_with_len (own_hart harts) 0 many p p None there
    (omega arith)

own-on : (harts : List (Option ℕ)) (many hart x : ℕ)
    → get_or (own_harts harts many) hart None ≡ Some x → own_hart harts hart ≡ Some x
own-on harts many hart x on = elim (cases_lt hart many) [
  | inl there ↦ sym (own-at harts many hart there) ∙ on
  | inr past ↦
      let none : get_or (own_harts harts many) hart None ≡ None =
      get_or_past (own_harts harts many) hart None
      (omega (arith, past, length-map-range_with_len (own_hart harts) 0 many)) in
      absurd cc
]

pub start : StartLaw
start many s below =
    let q = s.queues in
    let w = on_harts q (own_harts q.harts many) in
    record {
      same = refl;
      places = record {
        few_harts = refl;
        queues = refl;
        sleepers = refl;
        ready = λ priority. thinned-same (IsOnHart w) (ready_queue q priority);
        harts = λ p on. record {
          hart = p;
          there = own-at q.harts many p (below p on) ∙ own-there q.harts p on.hart on.there;
        };
        home = λ hart p on. (own-was q.harts hart p (own-on q.harts many hart p on)).0;
        held = λ p on. let was = (own-was q.harts on.hart p
            (own-on q.harts many on.hart p on.there)).1
            in inl (record { hart = was.0; there = was.1 });
      };
    }

-- ---- all harts are idle

pub idle-at : (many hart : ℕ) → get_or {A = Option ℕ} (replicate many None) hart None ≡ None
idle-at zero hart = refl
idle-at (suc many) zero = refl
idle-at (suc many) (suc hart) = idle-at many hart

-- there are as many of them
pub length-idle : (many : ℕ) → length {A = Option ℕ} (replicate many None) ≡ many
length-idle zero = refl
length-idle (suc many) = ap suc (length-idle many)

not-on : (x : ℕ) (on : Option ℕ) → on ≡ None → on ≡ Some x → ⊥
not-on x None idle on = cc
not-on x (Some y) idle on = cc

pub rest : RestLaw
rest many s idle =
    let q = s.queues in
    let w = on_harts q (replicate many None) in
    record {
      same = refl;
      places = record {
        few_harts = refl;
        queues = refl;
        sleepers = refl;
        ready = λ priority. thinned-same (IsOnHart w) (ready_queue q priority);
        harts = λ p on. absurd (not-on p (hart_of q on.hart) (idle on.hart) on.there);
        home = λ hart p on. absurd (not-on p (hart_of w hart) (idle-at many hart) on);
        held = λ p on. absurd (not-on p (hart_of w on.hart) (idle-at many on.hart) on.there);
      };
    }
