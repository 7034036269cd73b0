use Rattle.std.proofs.Common.{◌≡◌, ◌*◌, List, length}
use Rattle.breadth_first.specs.Kept.{Keeps}
use Rattle.breadth_first.specs.Marks.{judged}
use Rattle.breadth_first.specs.Spending.{SpendsAtMost}
use Rattle.breadth_first.proofs.Judging.{marked}
use Rattle.breadth_first.proofs.marks.judge.Given as goal

abbrev pub invariant-loop-place : goal.invariant-loop-place
invariant-loop-place g l = record {
  keeps : Keeps (g.S.Space.system l.fn.space) (g.S.Space.held l.fn.space) (g.S.Space.means l.fn.space) (g.S.Space.system l.space) (g.S.Space.held l.space) (g.S.Space.means l.space);
  many : length l.lists.items ≡ length l.tests;
  marks : (states : List g.S.Space.State) → l.fn.lists.items ≡ judged (g.S.Space.system l.fn.space) l.tests states → l.lists.items ≡ marked (g.S.Space.system l.fn.space) l.tests states (g.S.Space.means l.fn.space l.key) l.place;
  spends : SpendsAtMost (l.place * (g.S.Space.system l.fn.space).look) l.fn.spent l.spent;
}
