use Rattle.std.proofs.Common.{◌≡◌, ◌*◌, length, map, take}
use Rattle.breadth_first.specs.Kept.{Keeps}
use Rattle.breadth_first.specs.Marks.{judged}
use Rattle.breadth_first.specs.Spending.{SpendsAtMost}
use Rattle.breadth_first.proofs.search.Search.judged.Given as goal

abbrev pub invariant-loop-index : goal.invariant-loop-index
invariant-loop-index g l = record {
  keeps : Keeps (g.S.Space.system l.fn.space) (g.S.Space.held l.fn.space) (g.S.Space.means l.fn.space) (g.S.Space.system l.space) (g.S.Space.held l.space) (g.S.Space.means l.space);
  marks : l.lists.items ≡ judged (g.S.Space.system l.fn.space) l.tests (take l.index (map (g.S.Space.means l.fn.space) l.self.seen.keys));
  spends : SpendsAtMost (l.index * (length l.tests * (g.S.Space.system l.fn.space).look)) l.fn.spent l.spent;
}
