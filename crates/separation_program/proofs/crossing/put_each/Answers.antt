use Rattle.std.proofs.Common.{refl}
use Rattle.std.proofs.KnownBytes.{Appends-nil}
use Rattle.coy_io.proofs.Texts.{member_more, member_stops, members_done}
use Rattle.separation_program.specs.Text.{crossing_text}
use Rattle.separation_program.proofs.crossing.put_each.Goals as goal

pub each-init : goal.each-init
each-init g c = record { bytes = Appends-nil _; quiet = refl }

pub each-preserved : goal.each-preserved
each-preserved g c =
    member_more (crossing_text c.args.policy.now) c.args.found.now c.args.found.now c.each.place _ refl c.each-test.true c.crossing_at.ensures _ _ _ _ _ _ c.each.invariant _ c.in_ok-put_crossing.ensures

pub returns-in_err-put_crossing : goal.returns-in_err-put_crossing
returns-in_err-put_crossing g c =
    member_stops (crossing_text c.args.policy.now) c.args.found.now c.args.found.now c.each.place _ refl c.each-test.true c.crossing_at.ensures _ _ _ _ _ _ c.each.invariant _ _ c.from_residual.ensures.0 c.in_err-put_crossing.ensures

pub returns : goal.returns
returns g c = members_done (crossing_text c.args.policy.now) c.args.found.now c.args.found.now _ c.each.place _ _ _ _ refl c.each-test.false c.each.auto.place-end c.each.invariant
