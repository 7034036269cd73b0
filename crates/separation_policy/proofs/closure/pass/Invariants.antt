use Rattle.std.proofs.Common.{◌≡◌, ◌++◌, map, take, drop}
use Rattle.separation_policy.specs.Closure.{passed_by}
use Rattle.separation_policy.proofs.closure.pass.Given as goal

abbrev pub invariant-each : goal.invariant-each
invariant-each l = l.rows ≡ map (passed_by l.k l.through) (take l.row-index l.fn.rows) ++ drop l.row-index l.fn.rows
