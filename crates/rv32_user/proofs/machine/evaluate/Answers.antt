-- Where the action is only an effect, that is the instruction's effect, of which the lemmas speak.
use Rattle.std.proofs.Common.{ap, subst, sym}
use Rattle.rv32_user.specs.Step.{effect_in, effect_of}
use Rattle.rv32_user.specs.Answers.{IsEffect, IsAlignedNext, ComesFrom}
use Rattle.rv32_user.proofs.StepLemmas.{IsEffect-effect_of, IsAlignedNext-effect_of, ComesFrom-effect_of}
use Rattle.rv32_user.proofs.machine.evaluate.Goals as goal

pub returns-in-Only-clause-parts : goal.returns-in-Only-clause-parts
unfolding effect_of
returns-in-Only-clause-parts c =
    rw c.only-in-Only.ensures.effect (subst IsEffect (sym (ap (effect_in c.args.pc) c.in-Only.ensures.table))
    (IsEffect-effect_of c.args.regs.now c.args.pc c.args.insn c.requires))

pub returns-in-Only-clause-aligned : goal.returns-in-Only-clause-aligned
unfolding effect_of
returns-in-Only-clause-aligned c = λ aligned.
    rw c.only-in-Only.ensures.effect (subst IsAlignedNext (sym (ap (effect_in c.args.pc) c.in-Only.ensures.table))
    (IsAlignedNext-effect_of c.args.regs.now c.args.pc c.args.insn aligned))

pub returns-in-Only-clause-cause : goal.returns-in-Only-clause-cause
unfolding effect_of
returns-in-Only-clause-cause c =
    rw c.only-in-Only.ensures.effect (subst (ComesFrom c.args.insn) (sym (ap (effect_in c.args.pc) c.in-Only.ensures.table))
    (ComesFrom-effect_of c.args.regs.now c.args.pc c.args.insn))
