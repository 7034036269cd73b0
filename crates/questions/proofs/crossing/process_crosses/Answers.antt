use Rattle.std.proofs.Common.{◌≡◌, ◌∙◌, Bool, Option, true, false, is_some, length, sym, ap, arith}
use Rattle.separation_check.specs.declared.crossing.Crossing.{Crossing}
use Rattle.separation_check.specs.Crossings.{listed, sleeper_on}
use Rattle.questions.specs.Atom.{is_any}
use Rattle.questions.proofs.Any.{any-here, any-listed, any-more, any-zero}
use Rattle.questions.proofs.crossing.process_crosses.Goals as goal

-- what is found of a process
found : (wanted got : Option Crossing) (there is : Bool) → got ≡ wanted → there ≡ is_some got → there ≡ is → is_any (listed wanted) ≡ is
found wanted got there is same some was = any-listed wanted ∙ ap (λ (o : Option Crossing). is_some o) (sym same) ∙ sym some ∙ was

pub each-init : goal.each-init
each-init c = any-zero (λ on. listed (sleeper_on c.args.policy.now c.args.queues.now c.args.p on))

pub returns-then-is_some : goal.returns-then-is_some
returns-then-is_some c =
    any-here (λ on. listed (sleeper_on c.args.policy.now c.args.queues.now c.args.p on)) (length c.args.queues.now.sleepers) c.each.on
    (omega (arith, c.requires, c.each-test.true)) (found _ c.sleeper_on.result c.is_some.result true c.sleeper_on.ensures c.is_some.ensures c.if-is_some.true)

pub each-preserved : goal.each-preserved
each-preserved c =
    any-more (λ on. listed (sleeper_on c.args.policy.now c.args.queues.now c.args.p on)) c.each.on c.each.invariant
    (found _ c.sleeper_on.result c.is_some.result false c.sleeper_on.ensures c.is_some.ensures c.if-is_some.false)
