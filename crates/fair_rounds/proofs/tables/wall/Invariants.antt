use Rattle.std.proofs.Common.{◌≡◌, map, take}
use Rattle.fair_rounds.specs.Table.{walled_end}
use Rattle.fair_rounds.proofs.tables.wall.Given as goal

abbrev pub invariant-loop-end : goal.invariant-loop-end
invariant-loop-end l = l.walls.items ≡ map (walled_end l.goals) (take l.end-index l.ends)
