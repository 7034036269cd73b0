use Rattle.std.proofs.Common.{refl}
use Rattle.std.proofs.KnownBytes.{Appends-nil}
use Rattle.coy_io.proofs.Texts.{member_more, member_stops, members_done}
use Rattle.separation_program.specs.Text.{unused_text}
use Rattle.separation_program.proofs.unused.put_unused.Goals as goal

pub each-init : goal.each-init
each-init g c = record { bytes = Appends-nil _; quiet = refl }

pub each-preserved : goal.each-preserved
each-preserved g c =
    member_more (unused_text c.args.policy.now) c.args.unused.now c.args.unused.now c.each.place _ refl c.each-test.true c.line_at.ensures _ _ _ _ _ _ c.each.invariant _ c.in_ok-put_one_unused.ensures

pub returns-in_err-put_one_unused : goal.returns-in_err-put_one_unused
returns-in_err-put_one_unused g c =
    member_stops (unused_text c.args.policy.now) c.args.unused.now c.args.unused.now c.each.place _ refl c.each-test.true c.line_at.ensures _ _ _ _ _ _ c.each.invariant _ _ c.from_residual.ensures.0 c.in_err-put_one_unused.ensures

pub returns : goal.returns
returns g c = members_done (unused_text c.args.policy.now) c.args.unused.now c.args.unused.now _ c.each.place _ _ _ _ refl c.each-test.false c.each.auto.place-end c.each.invariant
