use Rattle.coyotos_cli.proofs.entry.counted.Goals as goal

pub returns-clause-answers : goal.returns-clause-answers
returns-clause-answers g c = record {
  written = c.coyotos.ensures.answers.output;
  sure = λ failed. (c.coyotos.ensures.sure failed).writes;
  causes = c.coyotos.ensures.causes;
}
