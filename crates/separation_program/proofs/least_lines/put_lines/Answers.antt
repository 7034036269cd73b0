use Rattle.std.proofs.Common.{refl}
use Rattle.std.proofs.KnownBytes.{Appends-nil}
use Rattle.coy_io.proofs.Texts.{member_more, member_stops, members_done}
use Rattle.separation_program.specs.Text.{line_text}
use Rattle.separation_program.proofs.least_lines.put_lines.Goals as goal

pub each-init : goal.each-init
each-init g c = record { bytes = Appends-nil _; quiet = refl }

pub each-preserved : goal.each-preserved
each-preserved g c =
    member_more (line_text c.args.policy.now) c.args.lines.now c.args.lines.now c.each.place _ refl c.each-test.true c.line_at.ensures _ _ _ _ _ _ c.each.invariant _ c.in_ok-put_line.ensures

pub returns-in_err-put_line : goal.returns-in_err-put_line
returns-in_err-put_line g c =
    member_stops (line_text c.args.policy.now) c.args.lines.now c.args.lines.now c.each.place _ refl c.each-test.true c.line_at.ensures _ _ _ _ _ _ c.each.invariant _ _ c.from_residual.ensures.0 c.in_err-put_line.ensures

pub returns : goal.returns
returns g c = members_done (line_text c.args.policy.now) c.args.lines.now c.args.lines.now _ c.each.place _ _ _ _ refl c.each-test.false c.each.auto.place-end c.each.invariant
