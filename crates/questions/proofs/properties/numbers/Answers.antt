use Rattle.std.proofs.Common.{◌≡◌, ◌∙◌, ◌<◌, ◌++◌, ◌∷◌, [], ℕ, List, true, false, length, sym, ap, arith, append-nil}
use Rattle.std.proofs.lemmas.List.{get_or_read}
use Rattle.questions.specs.declared.asks.Asks.TheVariants.{Never}
use Rattle.questions.specs.Question.{PropertyValue, property_of}
use Rattle.questions.specs.Asking.{asking_below, is_sought, property_at}
use Rattle.questions.proofs.Numbers.{asking-more, asking-zero}
use Rattle.questions.proofs.properties.numbers.Goals as goal
use Rattle.questions.proofs.properties.numbers.Goals.{then-is_sought+in_ok-push, else-is_sought}

pub each-init : goal.each-init
each-init c = c.new-numbers.ensures.items ∙ sym (asking-zero (is_sought c.args.sought) c.args.properties.now)

pub each-preserved : goal.each-preserved
each-preserved c =
    let test = is_sought c.args.sought in
    let ps = c.args.properties.now in
    let n = c.each.n in
    let p = c.index-properties-n.result in
    let within : n < length ps = omega arith in
    let there = get_or_read ps n p within c.index-properties-n.is (property_of 0 Never []) in
    let asked : test (property_at ps n).asks ≡ c.is_sought.result =
    ap (λ (p : PropertyValue). test p.asks) (sym there) ∙ ap test (sym c.asks.ensures) ∙ sym c.is_sought.ensures in
    elim c.if-is_sought.branch [
      | then-is_sought+in_ok-push w ↦
          ap (λ v. v.items) w.numbers-is ∙ w.in_ok-push.ensures.items ∙ ap (λ (xs : List ℕ). xs ++ n ∷ []) c.each.invariant
          ∙ sym (asking-more test ps n true (asked ∙ w.if-is_sought.true))
      | else-is_sought w ↦
          ap (λ v. v.items) w.numbers-is ∙ c.each.invariant ∙ sym (append-nil (asking_below test ps n))
          ∙ sym (asking-more test ps n false (asked ∙ w.if-is_sought.false))
    ]
