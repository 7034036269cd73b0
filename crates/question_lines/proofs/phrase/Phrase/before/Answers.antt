use Rattle.std.proofs.Common.{◌≡◌, ◌<◌, ◌∙◌, ℕ, List, [], true, false, length, get_or, sym, ap, arith}
use Rattle.std.specs.Prelude.{bytes_eq}
use Rattle.question_lines.proofs.Parting.{before-further, before-here, before-past}
use Rattle.question_lines.proofs.phrase.Phrase.before.Goals as goal

pub returns-then-eq-clause-value : goal.returns-then-eq-clause-value
returns-then-eq-clause-value c =
    let ws = c.args.self.now in
    let separator = c.args.separator.now in
    let within : c.words.i < length ws = omega (arith, c.count-count.ensures, c.words-test.true) in
    let is : bytes_eq (get_or ws c.words.i []) separator ≡ true =
    ap (λ (word : List ℕ). bytes_eq word separator) (sym c.word.ensures) ∙ sym c.eq.ensures ∙ c.if-eq.true in
    let here = before-here separator ws c.words.i within is in
    omega (arith, here, c.words.invariant)

pub words-preserved : goal.words-preserved
words-preserved c =
    let ws = c.args.self.now in
    let separator = c.args.separator.now in
    let within : c.words.i < length ws = omega (arith, c.count-count.ensures, c.words-test.true) in
    let is : bytes_eq (get_or ws c.words.i []) separator ≡ false =
    ap (λ (word : List ℕ). bytes_eq word separator) (sym c.word.ensures) ∙ sym c.eq.ensures ∙ c.if-eq.false in
    let further = before-further separator ws c.words.i within is in
    omega (arith, further, c.words.invariant)

pub returns-clause-value : goal.returns-clause-value
returns-clause-value c =
    let ws = c.args.self.now in
    let end : c.words.i ≡ length ws = omega (arith, c.count-count.ensures, c.words-test.false) in
    let none = before-past c.args.separator.now ws c.words.i end in
    omega (arith, none, c.words.invariant, c.count-count.ensures, end)
