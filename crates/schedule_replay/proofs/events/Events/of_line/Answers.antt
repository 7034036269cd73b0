use Rattle.std.proofs.Common.{◌≤◌, ◌*◌, length, sym, subst, arith}
use Rattle.std.proofs.lemmas.Nat.{mul-le}
use Rattle.listing_read.specs.Schedule.{IsTimed}
use Rattle.listing_read.specs.declared.schedule.Timed.TheVariants.{Step, Round}
use Rattle.schedule_replay.proofs.Rounds.{few_events}
use Rattle.schedule_replay.proofs.events.Events.of_line.Goals as goal

pub returns-in-Step-clause-few : goal.returns-in-Step-clause-few
returns-in-Step-clause-few c =
    let harts = c.ranges.harts.fits in
    subst (λ events. length events ≤ 255000000) (sym c.of_hart.ensures)
    (few_events c.args.harts (Step c.in-Step.hart c.in-Step.times) (omega (arith, harts)) (subst (IsTimed c.args.harts) c.in-Step.is c.requires))

pub of_rounds-requires : goal.of_rounds-requires
of_rounds-requires c =
    let harts = c.ranges.harts.fits in
    let timed = subst (IsTimed c.args.harts) c.in-Round.is c.requires in
    let most : c.in-Round.times * c.args.harts ≤ 1000000 * 255 = mul-le c.in-Round.times c.args.harts 1000000 255 timed.1 (omega (arith, harts)) in
    omega (arith, most)

pub returns-in-Round-clause-few : goal.returns-in-Round-clause-few
returns-in-Round-clause-few c =
    let harts = c.ranges.harts.fits in
    subst (λ events. length events ≤ 255000000) (sym c.of_rounds.ensures)
    (few_events c.args.harts (Round c.in-Round.times) (omega (arith, harts)) (subst (IsTimed c.args.harts) c.in-Round.is c.requires))
