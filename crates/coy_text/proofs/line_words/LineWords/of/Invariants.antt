use Rattle.std.proofs.Common.{◌≡◌, ◌-◌, ◌++◌, map, length}
use Rattle.coy_text.specs.Words.{words_of}
use Rattle.coy_text.proofs.line_words.LineWords.of.Given as goal

abbrev pub invariant-words : goal.invariant-words
invariant-words l = words_of l.line ≡ map (λ word. word.now) l.first.items ++ words_of l.rest

abbrev pub decreases-words : goal.decreases-words
decreases-words l = 8 - length l.first.items
