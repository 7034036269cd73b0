use Rattle.std.proofs.Common.{ℕ, subst}
use Rattle.separation_program.specs.Slots.{WantsFor}
use Rattle.separation_program.proofs.entry.counted.Goals as goal

pub returns-clause-answers : goal.returns-clause-answers
returns-clause-answers g c = record {
  written = c.separation.ensures.answers;
  sure = c.separation.ensures.sure;
  causes = c.separation.ensures.causes;
}

pub returns-clause-wanting : goal.returns-clause-wanting
returns-clause-wanting g c = λ aim asked same. (
  c.separation.new.fetches,
  subst (λ (n : ℕ). WantsFor aim (g.S.Source.held c.args.input.now) (g.S.Source.held c.separation.new.input) n c.separation.new.fetches)
      c.new-fetches.ensures (c.separation.ensures.wanting aim asked same),
)
