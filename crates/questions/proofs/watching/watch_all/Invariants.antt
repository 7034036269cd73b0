use Rattle.questions.specs.Question.{pages_in, processes_in}
use Rattle.questions.proofs.Collecting.{IsCollecting}
use Rattle.questions.proofs.watching.watch_all.Given as goal

abbrev pub invariant-each : goal.invariant-each
invariant-each l = record {
  processes : IsCollecting (λ atom. processes_in atom.condition) l.atoms l.fn.all.processes l.all.processes l.i;
  pages : IsCollecting (λ atom. pages_in atom.condition) l.atoms l.fn.all.pages l.all.pages l.i;
}
