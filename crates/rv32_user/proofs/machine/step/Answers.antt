use Rattle.rv32_user.proofs.StepLemmas.{ChangesOnlyAtNext-effect_of}
use Rattle.rv32_user.proofs.machine.step.Goals as goal

pub returns-clause-unchanged : goal.returns-clause-unchanged
returns-clause-unchanged c =
    rw (c.write.ensures, c.evaluate-outcome.ensures.effect, c.evaluate-outcome.ensures.registers)
    (ChangesOnlyAtNext-effect_of c.args.regs.now c.args.pc c.args.insn)
