use Rattle.std.proofs.Common.{◌∙◌, [], sym, ap, arith}
use Rattle.machine_state.specs.State.{state_of}
use Rattle.questions.specs.declared.asks.Asks.TheVariants.{Never}
use Rattle.questions.specs.Question.{fails, property_of}
use Rattle.questions.proofs.First.{first-here, first-none}
use Rattle.questions.proofs.judging.failing.Goals as goal

pub returns-then-fails-clause-value : goal.returns-then-fails-clause-value
returns-then-fails-clause-value g c =
    let test = fails c.args.crossing (state_of c.args.machine.now) in
    let p = c.index-properties-i.result in
    first-here test c.args.properties.now c.each.i p c.each.invariant.none (omega arith)
    (ap test (sym c.index-properties-i.is) ∙ sym c.fails.ensures.value ∙ c.if-fails.true)

pub returns-clause-value : goal.returns-clause-value
returns-clause-value g c =
    first-none (fails c.args.crossing (state_of c.args.machine.now)) c.args.properties.now c.each.i (property_of 0 Never []) c.each.invariant.none (omega arith)
