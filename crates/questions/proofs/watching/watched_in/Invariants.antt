use Rattle.std.proofs.Common.{[]}
use Rattle.questions.specs.Question.{pages_in, processes_in, watched_of}
use Rattle.questions.proofs.Collecting.{IsCollecting}
use Rattle.questions.proofs.watching.watched_in.Given as goal

abbrev pub invariant-each : goal.invariant-each
invariant-each l = record {
  processes : IsCollecting (watched_of processes_in) l.properties [] l.all.processes l.i;
  pages : IsCollecting (watched_of pages_in) l.properties [] l.all.pages l.i;
}
