use Rattle.std.proofs.Common.{sym, ◌∙◌}
use Rattle.object_parts.specs.SameLaws.{numbers_decide}
use Rattle.state_parts.proofs.key.same_numbers.Goals as goal

pub returns : goal.returns
returns c = λ e. (numbers_decide c.args.a.now c.args.b.now).0 (sym c.eq.ensures ∙ e)
