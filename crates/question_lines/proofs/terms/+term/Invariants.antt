use Rattle.std.proofs.Common.{◌+◌, ◌*◌}
use Rattle.question_lines.proofs.terms.+term.Given as goal

abbrev pub decreases-term : goal.decreases-term
decreases-term l = 2 * l.deepest

abbrev pub decreases-node : goal.decreases-node
decreases-node l = 2 * l.deepest + 1
