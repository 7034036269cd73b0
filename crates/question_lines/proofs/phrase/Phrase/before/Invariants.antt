use Rattle.std.proofs.Common.{◌≡◌, ◌+◌, drop}
use Rattle.question_lines.specs.Parts.{before}
use Rattle.question_lines.proofs.phrase.Phrase.before.Given as goal

abbrev pub invariant-words : goal.invariant-words
invariant-words l = before l.separator l.self ≡ l.i + before l.separator (drop l.i l.self)
