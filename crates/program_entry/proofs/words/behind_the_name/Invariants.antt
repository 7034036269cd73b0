use Rattle.std.proofs.Common.{◌≡◌, ◌++◌, drop}
use Rattle.std.specs.Vec.Iter.{into_iter_items, into_iter_len}
use Rattle.program_entry.proofs.words.behind_the_name.Given as goal

abbrev pub invariant-each : goal.invariant-each
invariant-each l = drop 1 (into_iter_items l.fn.args) ≡ l.words.items ++ into_iter_items l.args

abbrev pub decreases-each : goal.decreases-each
decreases-each l = into_iter_len l.args
