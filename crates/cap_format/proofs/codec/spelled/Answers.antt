use Rattle.std.proofs.Common.{◌≡◌, ◌∙◌, sym, ap, true, Some}
use Rattle.cap_format.specs.Spelling.{spelling}
use Rattle.cap_format.proofs.Words.{numbers_of}
use Rattle.cap_format.proofs.codec.spelled.Goals as goal

pub returns-in_default-clause-exact : goal.returns-in_default-clause-exact
returns-in_default-clause-exact c d spells =
    let numbers = numbers_of c.args.bytes.now c.args.kind _ _ _ _ d spells c.requires c.word_at.ensures c.word_at-2.ensures c.word_at-3.ensures c.word_at-4.ensures in
    absurd (c.in_default.not-Some d (c.of_numbers.ensures d numbers))

pub returns-then-not-is_spelling-clause-exact : goal.returns-then-not-is_spelling-clause-exact
returns-then-not-is_spelling-clause-exact c d spells =
    let numbers = numbers_of c.args.bytes.now c.args.kind _ _ _ _ d spells c.requires c.word_at.ensures c.word_at-2.ensures c.word_at-3.ensures c.word_at-4.ensures in
    let both : Some c.in-Some.cap ≡ Some d = sym c.in-Some.is ∙ c.of_numbers.ensures d numbers in
    let one : c.in-Some.cap ≡ d = cc in
    let told : c.is_spelling.result ≡ true = c.is_spelling.ensures.1 (spells.bytes_are ∙ ap spelling (sym one)) in
    absurd cc

pub returns-clause-exact : goal.returns-clause-exact
returns-clause-exact c d spells =
    let numbers = numbers_of c.args.bytes.now c.args.kind _ _ _ _ d spells c.requires c.word_at.ensures c.word_at-2.ensures c.word_at-3.ensures c.word_at-4.ensures in
    sym c.in-Some.is ∙ c.of_numbers.ensures d numbers
