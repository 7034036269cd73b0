use Rattle.std.proofs.Common.{◌≡◌, ◌∙◌, ◌<◌, ◌++◌, ◌∷◌, [], ℕ, List, length, arith, subst, sym, ap}
use Rattle.std.specs.List.{All}
use Rattle.breadth_first.specs.declared.answer.Want.{Want}
use Rattle.questions.specs.Asking.{is_want, property_at}
use Rattle.questions.proofs.Numbers.{asking-there}
use Rattle.exploration.specs.Explored.{want_by}
use Rattle.exploration.proofs.Wants.{mapped-next}
use Rattle.exploration.proofs.machine_space.exploring.wants_of.Goals as goal

pub want_at-requires : goal.want_at-requires
want_at-requires c =
    let ps = c.args.properties.now in
    let numbers = c.in_ok-numbers.numbers.items in
    let all = subst (λ (ns : List ℕ). All (λ n. n < length ps) ns) (sym c.in_ok-numbers.ensures) (asking-there is_want ps) in
    let within : c.each.i < length numbers = omega arith in
    let there = all c.each.i c.index.result.now within in
    subst (λ n. n < length ps) (sym c.index.ensures) there

pub each-preserved : goal.each-preserved
each-preserved c =
    let ps = c.args.properties.now in
    let numbers = c.in_ok-numbers.numbers.items in
    let within : c.each.i < length numbers = omega arith in
    let n = c.index.result.now in
    mapped-next (λ k. want_by (property_at ps k).asks k) numbers c.each.wants.items c.push.new.self.items c.each.i n n within c.index.ensures c.each.invariant
    (c.in_ok-push.ensures.items ∙ ap (λ (w : Want). c.each.wants.items ++ w ∷ []) c.want_at.ensures)
