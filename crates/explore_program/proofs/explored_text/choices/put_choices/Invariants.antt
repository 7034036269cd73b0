use Rattle.explore_program.proofs.Schedules.{IsPut}
use Rattle.explore_program.proofs.explored_text.choices.put_choices.Given as goal

abbrev pub invariant-each : goal.invariant-each
invariant-each g l =
    IsPut (g.K.Sink.taken l.fn.output) (g.K.Sink.taken l.output) (g.K.Sink.faults l.fn.output) (g.K.Sink.faults l.output) l.choices l.place l.line
