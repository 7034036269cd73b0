use Rattle.courses.proofs.Lacking.{ends-memory}
use Rattle.separation_program.proofs.Lacking.{reads-all}
use Rattle.separation_program.proofs.judging.tell_held.Goals as goal

-- memory was wanting for the lines that are unused
pub returns-in_default-clause-wanting : goal.returns-in_default-clause-wanting
returns-in_default-clause-wanting g c = λ lacks. c.in_default.ensures.err

-- or to close the policy, once all of these were found
pub returns-in_default-new-clause-wanting : goal.returns-in_default-new-clause-wanting
returns-in_default-new-clause-wanting g c = λ lacks. reads-all _ _ _ _ c.in-Ok.ensures.counted

-- the domains are told with no memory
pub returns-clause-wanting : goal.returns-clause-wanting
returns-clause-wanting g c = λ lacks. absurd (ends-memory g.K.Sink.taken g.K.Sink.faults _ _ _ _ (λ bad. cc) c.tell_separated.ensures lacks)
