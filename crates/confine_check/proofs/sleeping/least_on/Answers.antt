use Rattle.std.proofs.Common.{◌≡◌, ◌≤◌, length, slice_index, refl, sym, ap, ◌∙◌, arith}
use Rattle.std.proofs.lemmas.Option.{slice_get_within, get_or_from_slice_get}
use Rattle.schedules.specs.Queues.{sleepers_of}
use Rattle.confine_check.specs.Sides.{cut_of}
use Rattle.confine_check.specs.Breach.{least_below, across, across_at}
use Rattle.confine_check.proofs.Least.{least_zero, least_more, past-none}
use Rattle.confine_check.proofs.sleeping.least_on.Goals as goal

pub each-init : goal.each-init
each-init c = record { least = sym (least_zero (across_at (cut_of c.args.cut.now) c.args.queues.now c.args.on)); within = omega arith; bound = λ some. absurd (omega (arith, some)) }

pub each-preserved : goal.each-preserved
each-preserved c =
    let found = sym c.sleeper_at.ensures.value ∙ c.in-Some.is in
    let inside = slice_get_within (sleepers_of c.args.queues.now c.args.on) c.each.n c.in-Some.p found in
    let it : slice_index (sleepers_of c.args.queues.now c.args.on) c.each.n ≡ c.in-Some.p = get_or_from_slice_get (sleepers_of c.args.queues.now c.args.on) c.each.n c.in-Some.p 0 found in
    record {
      least = c.lesser-least.ensures
          ∙ least_more (across_at (cut_of c.args.cut.now) c.args.queues.now c.args.on) c.each.n _ c.each.least c.across.result refl c.each.invariant.least
          (c.across.ensures ∙ ap (λ p. across (cut_of c.args.cut.now) c.args.on p) (sym it));
      within = omega (arith, inside);
      bound = λ some. c.sleeper_at.ensures.bound;
    }

pub returns-in-None : goal.returns-in-None
returns-in-None c =
    let past = past-none (sleepers_of c.args.queues.now c.args.on) c.each.n (sym c.sleeper_at.ensures.value ∙ c.in-None.is) in
    let end : c.each.n ≡ length (sleepers_of c.args.queues.now c.args.on) = omega (arith, past, c.each.invariant.within) in
    c.each.invariant.least ∙ ap (λ n. least_below (across_at (cut_of c.args.cut.now) c.args.queues.now c.args.on) n) end

pub returns : goal.returns
returns c =
    let some : 1 ≤ c.each.n = omega arith in
    let bound = c.each.invariant.bound some in
    let end : c.each.n ≡ length (sleepers_of c.args.queues.now c.args.on) = omega (arith, bound, c.each.invariant.within) in
    c.each.invariant.least ∙ ap (λ n. least_below (across_at (cut_of c.args.cut.now) c.args.queues.now c.args.on) n) end
