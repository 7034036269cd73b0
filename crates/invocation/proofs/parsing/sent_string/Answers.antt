use Rattle.std.proofs.Common.{sym, ◌∙◌}
use Rattle.invocation.proofs.WellFormed.{well_formed}
use Rattle.invocation.proofs.parsing.sent_string.Goals as goal

pub returns-then-sends-clause-string : goal.returns-then-sends-clause-string
returns-then-sends-clause-string c = (well_formed c.args.regs.now c.requires).string (sym c.sends.ensures ∙ c.if-sends.true)
