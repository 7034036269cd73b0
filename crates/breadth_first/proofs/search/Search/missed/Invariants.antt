use Rattle.std.proofs.Common.{◌≡◌, ◌+◌, ◌<◌, ◌≤◌, ℕ, length, take, slice_get, Some}
use Rattle.breadth_first.specs.Answer.{Holds}
use Rattle.breadth_first.specs.Marks.{firsts_of}
use Rattle.breadth_first.specs.declared.answer.Want.{Want}
use Rattle.breadth_first.proofs.search.Search.missed.Given as goal

abbrev pub invariant-loop-number : goal.invariant-loop-number
invariant-loop-number g l = record {
  place : l.place ≡ length l.wants + length (firsts_of (take l.number l.wants));
  few : l.place ≤ length l.wants + l.number;
  earlier : (i : ℕ) (w : Want) → i < l.number → slice_get l.wants i ≡ Some w → Holds (g.S.Space.system l.space) (length l.self.seen.keys) w;
}
