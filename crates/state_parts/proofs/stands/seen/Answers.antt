use Rattle.std.proofs.Common.{ap, sym, ◌∙◌, Some}
use Rattle.state_parts.specs.StandingLaws.{standing_in, standing_decides}
use Rattle.state_parts.proofs.stands.seen.Goals as goal

pub returns : goal.returns
returns c =
    let same = (standing_decides (standing_in c.args.standing.now) (standing_in c.in_ok-n._kept.now)).0 c.in_ok-n.ensures.equal in
    c.in_ok-n.ensures.value ∙ ap Some (sym same)
