use Rattle.std.proofs.Common.{◌≡◌, ℕ, map, length, slice_get, Some}
use Rattle.breadth_first.specs.Answer.{IsCount}
use Rattle.breadth_first.specs.declared.answer.Count.{Count}
use Rattle.breadth_first.proofs.search.Search.counts.Given as goal

abbrev pub invariant-loop-place : goal.invariant-loop-place
invariant-loop-place g l = record {
  many : length l.counts.items ≡ l.place;
  each : (i t : ℕ) (count : Count) → slice_get l.tests i ≡ Some t → slice_get l.counts.items i ≡ Some count → IsCount (g.S.Space.system l.space) (map (g.S.Space.means l.space) l.self.seen.keys) t count;
}
