use Rattle.std.proofs.Common.{◌≡◌, ◌≢◌, ℕ, ◌==◌, ◌||◌, inl, inr, Bool, false, List, take, length, slice_index, sym, ap, ap₂, ◌∙◌, arith}
use Rattle.std.proofs.lemmas.Bool.{eq-eqb}
use Rattle.std.proofs.lemmas.Bool.Decides.{eqb_tells}
use Rattle.std.proofs.lemmas.List.Folds.{list_any_at, list_any_more}
use Rattle.std.proofs.lemmas.Option.{slice_get_within, get_or_from_slice_get}
use Rattle.std.proofs.Math.Seq.{take-length}
use Rattle.schedules.specs.Queues.{sleepers_of, stands_in}
use Rattle.confine_check.proofs.Least.{past-none}
use Rattle.separation_check.proofs.sleeping.sleeps_on.Goals as goal

-- two numbers that are not one are not told as one
eqb_not : (x y : ℕ) → x ≢ y → (x == y) ≡ false
eqb_not x y other = elim (eqb_tells x y) [
  | inl same ↦ absurd (other same.1)
  | inr apart ↦ apart.0
]

pub returns-then-sleeper-p : goal.returns-then-sleeper-p
returns-then-sleeper-p c =
    let xs = sleepers_of c.args.queues.now c.args.on in
    let found = sym c.sleeper_at.ensures.value ∙ c.in-Some.is in
    let inside = slice_get_within xs c.each.n c.in-Some.sleeper found in
    let it : slice_index xs c.each.n ≡ c.in-Some.sleeper = get_or_from_slice_get xs c.each.n c.in-Some.sleeper 0 found in
    sym (list_any_at (λ x. x == c.args.p) xs c.each.n 0 inside (eq-eqb (slice_index xs c.each.n) c.args.p (it ∙ c.if-sleeper-p.true)))

pub returns-in-None : goal.returns-in-None
returns-in-None c =
    let xs = sleepers_of c.args.queues.now c.args.on in
    let past = past-none xs c.each.n (sym c.sleeper_at.ensures.value ∙ c.in-None.is) in
    let end : c.each.n ≡ length xs = omega (arith, past, c.each.invariant.within) in
    let whole = ap (λ (n : ℕ). take n xs) end ∙ take-length xs in
    sym c.each.invariant.none ∙ ap (λ (ys : List ℕ). stands_in ys c.args.p) whole

pub each-preserved : goal.each-preserved
each-preserved c =
    let xs = sleepers_of c.args.queues.now c.args.on in
    let found = sym c.sleeper_at.ensures.value ∙ c.in-Some.is in
    let inside = slice_get_within xs c.each.n c.in-Some.sleeper found in
    let it : slice_index xs c.each.n ≡ c.in-Some.sleeper = get_or_from_slice_get xs c.each.n c.in-Some.sleeper 0 found in
    record {
      none = list_any_more (λ x. x == c.args.p) xs c.each.n 0 inside
          ∙ ap₂ (λ (a b : Bool). a || b) c.each.invariant.none (eqb_not (slice_index xs c.each.n) c.args.p (λ same. c.if-sleeper-p.false (sym it ∙ same)));
      within = omega (arith, inside);
      bound = λ some. c.sleeper_at.ensures.bound;
    }
