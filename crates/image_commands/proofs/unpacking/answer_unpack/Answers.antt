use Rattle.std.proofs.Common.{◌≡◌, Err, Ok, ap}
use Rattle.courses.proofs.Concluding.{concludes-own}
use Rattle.courses.proofs.Lacking.{ends-memory}
use Rattle.courses.specs.declared.exit.Exit.TheVariants.{OutOfMemory}
use Rattle.image_commands.proofs.Telling.{image-wanting, known-listing, tells-given, tells-stopped}
use Rattle.image_commands.proofs.unpacking.answer_unpack.Goals as goal

pub returns-in-Ok-clause-course : goal.returns-in-Ok-clause-course
returns-in-Ok-clause-course g c =
    let u = c.in-Ok.ensures in
    tells-given g.S.Source.held g.S.Source.faults g.K.Sink.taken g.K.Sink.faults _ _ _ _ _ (Ok c.in-Ok.listing) (record { read = λ bad. cc; write = λ bad. cc; memory = λ bad. cc }) (λ bad. cc)
    c.write_text.ensures (known-listing _ _ c.in-Ok.listing u.answer) (u.quiet (λ bad. cc)) (λ done. u.end)

pub returns-in-Err-clause-course : goal.returns-in-Err-clause-course
returns-in-Err-clause-course g c =
    let u = c.in-Err.ensures in
    let concluded = rw c.image_exit.ensures at c.conclude.ensures in
    tells-stopped g.S.Source.held g.S.Source.faults g.K.Sink.taken g.K.Sink.faults _ _ _ _ _ c.in-Err.fault concluded u.answer
    (λ same. u.read (ap Err same)) (λ other. u.quiet (λ same. other (let is : c.in-Err.fault ≡ _ = cc in is)))

-- ---- where memory is wanting

pub returns-in-Ok-clause-wanting : goal.returns-in-Ok-clause-wanting
returns-in-Ok-clause-wanting g c = λ lacks. absurd (ends-memory g.K.Sink.taken g.K.Sink.faults _ _ c.write_text.result _ (λ bad. cc) c.write_text.ensures lacks)

pub returns-in-Err-clause-wanting : goal.returns-in-Err-clause-wanting
returns-in-Err-clause-wanting g c = λ lacks.
    let concluded = rw c.image_exit.ensures at c.conclude.ensures in
    let own = concludes-own g.K.Sink.taken g.K.Sink.faults _ _ c.conclude.result _ concluded OutOfMemory (λ cut. cc) lacks in
    c.in-Err.ensures.memory (ap Err (image-wanting c.in-Err.fault own))
