use Rattle.std.proofs.Common.{◌≡◌, ◌+◌, ◌≤◌, length}
use Rattle.coy_text.specs.Words.{words_of}
use Rattle.coy_text.proofs.words.word_count.Given as goal

abbrev pub invariant-loop-behind : goal.invariant-loop-behind
invariant-loop-behind l =
    (l.count + length l.rest ≤ length l.line)
    × (l.count + length (words_of l.rest) ≡ length (words_of l.line))

abbrev pub decreases-loop-behind : goal.decreases-loop-behind
decreases-loop-behind l = length l.rest
