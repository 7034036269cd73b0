use Rattle.std.proofs.Common.{◌≡◌, ◌++◌, map, take}
use Rattle.fair_rounds.specs.Table.{wanting_end}
use Rattle.fair_rounds.proofs.tables.want_half.Given as goal

abbrev pub invariant-loop-end : goal.invariant-loop-end
invariant-loop-end l = l.table.items ≡ l.fn.table.items ++ map (wanting_end l.goals l.firsts l.before) (take l.end-index l.ends)
