use Rattle.questions.specs.Question.{pages_in, processes_in, watched_by}
use Rattle.questions.proofs.Collecting.{IsCollecting}
use Rattle.questions.proofs.watching.watch_groups.Given as goal

abbrev pub invariant-each : goal.invariant-each
invariant-each l = record {
  processes : IsCollecting (watched_by processes_in) l.groups l.fn.all.processes l.all.processes l.i;
  pages : IsCollecting (watched_by pages_in) l.groups l.fn.all.pages l.all.pages l.i;
}
