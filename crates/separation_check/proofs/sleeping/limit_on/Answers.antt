use Rattle.std.proofs.Common.{◌≡◌, ℕ, ◌+◌, length, slice_index, refl, sym, ap, ◌∙◌, arith}
use Rattle.std.proofs.lemmas.Option.{slice_get_within, get_or_from_slice_get}
use Rattle.schedules.specs.Queues.{sleepers_of}
use Rattle.confine_check.proofs.Least.{past-none}
use Rattle.separation_check.specs.Crossings.{most_below}
use Rattle.separation_check.proofs.Most.{most-zero, most-more}
use Rattle.separation_check.proofs.sleeping.limit_on.Goals as goal

pub each-init : goal.each-init
each-init c = record {
  limit = sym (most-zero (λ i. slice_index (sleepers_of c.args.queues.now c.args.on) i + 1));
  most = omega arith;
  within = omega arith;
  bound = λ some. absurd (omega (arith, some));
}

pub each-preserved : goal.each-preserved
each-preserved c =
    let xs = sleepers_of c.args.queues.now c.args.on in
    let found = sym c.sleeper_at.ensures.value ∙ c.in-Some.is in
    let inside = slice_get_within xs c.each.n c.in-Some.p found in
    let it : slice_index xs c.each.n ≡ c.in-Some.p = get_or_from_slice_get xs c.each.n c.in-Some.p 0 found in
    record {
      limit = c.greater-limit.ensures
          ∙ most-more (λ i. slice_index xs i + 1) c.each.n (c.each.n + 1) c.each.limit (c.from.result + 1) refl c.each.invariant.limit
          (ap (λ (n : ℕ). n + 1) (c.from.ensures ∙ sym it));
      most = omega (arith, c.greater-limit.ensures, c.each.invariant.most, c.from.ensures);
      within = omega (arith, inside);
      bound = λ some. c.sleeper_at.ensures.bound;
    }

pub returns-in-None-clause-value : goal.returns-in-None-clause-value
returns-in-None-clause-value c =
    let xs = sleepers_of c.args.queues.now c.args.on in
    let past = past-none xs c.each.n (sym c.sleeper_at.ensures.value ∙ c.in-None.is) in
    let end : c.each.n ≡ length xs = omega (arith, past, c.each.invariant.within) in
    c.each.invariant.limit ∙ ap (λ (n : ℕ). most_below (λ i. slice_index xs i + 1) n) end
