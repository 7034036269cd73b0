use Rattle.std.proofs.Common.{refl}
use Rattle.std.proofs.KnownBytes.{Appends-nil}
use Rattle.coy_io.proofs.Texts.{member_more, member_stops, members_done}
use Rattle.separation_program.specs.Text.{further_text}
use Rattle.separation_program.proofs.names.put_further.Goals as goal

pub each-init : goal.each-init
each-init g c = record { bytes = Appends-nil _; quiet = refl }

pub each-preserved : goal.each-preserved
each-preserved g c =
    member_more (further_text c.args.policy.now) c.args.domains.now c.args.domains.now c.each.place _ refl c.each-test.true c.domain_at.ensures _ _ _ _ _ _ c.each.invariant _ c.in_ok-put_one_further.ensures

pub returns-in_err-put_one_further : goal.returns-in_err-put_one_further
returns-in_err-put_one_further g c =
    member_stops (further_text c.args.policy.now) c.args.domains.now c.args.domains.now c.each.place _ refl c.each-test.true c.domain_at.ensures _ _ _ _ _ _ c.each.invariant _ _ c.from_residual.ensures.0 c.in_err-put_one_further.ensures

pub returns : goal.returns
returns g c = members_done (further_text c.args.policy.now) c.args.domains.now c.args.domains.now _ c.each.place _ _ _ _ refl c.each-test.false c.each.auto.place-end c.each.invariant
