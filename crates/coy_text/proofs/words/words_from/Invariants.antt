use Rattle.std.proofs.Common.{◌≡◌, drop}
use Rattle.coy_text.specs.Words.{words_of}
use Rattle.coy_text.proofs.words.words_from.Given as goal

abbrev pub invariant-loop : goal.invariant-loop
invariant-loop l = words_of l.rest ≡ drop l.counter (words_of l.line)
