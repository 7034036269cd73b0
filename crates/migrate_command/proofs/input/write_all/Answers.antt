use Rattle.std.proofs.Common.{◌≢◌, ◌∙◌, ap, refl, sym, subst}
use Rattle.coy_io.specs.Causes.{HasCause}
use Rattle.courses.specs.Course.{cached}
use Rattle.courses.specs.declared.exit.Exit.{Exit}
use Rattle.courses.specs.declared.exit.Exit.TheVariants.{Done, OutOfMemory}
use Rattle.courses.proofs.Concluding.{concludes-own, takes-concluded}
use Rattle.courses.proofs.Lacking.{concludes-memory}
use Rattle.migrate_command.specs.Migrate.{lines_exit}
use Rattle.migrate_command.proofs.Again.{puts-again}
use Rattle.migrate_command.proofs.Concluding.{came-all, lines-done, lines-memory, takes-unlisted}
use Rattle.migrate_command.proofs.Putting.{puts-harts}
use Rattle.migrate_command.proofs.input.write_all.Goals as goal

pub returns-in-Err-clause-course : goal.returns-in-Err-clause-course
returns-in-Err-clause-course g c = λ fetches.
    takes-unlisted g.S.Source.held g.S.Source.faults g.K.Sink.taken g.K.Sink.faults c.args.lines.now _ _ fetches c.args.listing.now _ c.in-Err.ensures.text c.in-Err.ensures.cause.rose

pub returns-clause-course : goal.returns-clause-course
returns-clause-course g c = λ fetches.
    let harts = ap (λ sizes. sizes.harts) c.sizes-harts.ensures.value in
    let l = c.put_lines.ensures in
    let puts = puts-harts _ _ _ _ _ _ _ _ _ harts l.puts in
    let concluded = rw c.lines_exit-exit.ensures at c.conclude.ensures in
    takes-concluded g.S.Source.held g.S.Source.faults g.K.Sink.taken g.K.Sink.faults c.args.lines.now c.put_lines.new.lines _ _ _ c.put_lines.new.output fetches fetches cached _ _ _ _ _
    (came-all g.S.Source.held g.S.Source.faults g.K.Sink.taken g.K.Sink.faults c.args.lines.now _ _ fetches c.args.listing.now c.put_lines.new.lines _ c.write_listing.new.output c.put_lines.new.output c.put_lines.result
    c.in-Ok.ensures.text puts (λ is. l.told c.requires.told (l.end is)) l.read l.quiet
    (subst (λ n. HasCause n (g.K.Sink.faults c.put_lines.new.output) c.put_lines.result) c.in-Ok.ensures.cause.quiet l.cause))
    concluded refl

pub returns-clause-again : goal.returns-clause-again
returns-clause-again g c = λ done.
    let harts = ap (λ sizes. sizes.harts) c.sizes-harts.ensures.value in
    let concluded = rw c.lines_exit-exit.ensures at c.conclude.ensures in
    let end = lines-done c.put_lines.result
    (concludes-own g.K.Sink.taken g.K.Sink.faults _ _ _ (lines_exit c.put_lines.result) concluded Done (λ bad. cc) done) in
    puts-again c.args.lines.now _ _ _ _ _ _ c.args.listing.now c.migrated_is_read.ensures.listing c.migrated_is_read.ensures.events c.tell_listing.ensures.kept c.tell_listing.ensures.typed end
    (puts-harts _ _ _ _ _ _ _ _ _ harts c.put_lines.ensures.puts)

pub returns-clause-memory : goal.returns-clause-memory
returns-clause-memory g c =
    concludes-memory g.K.Sink.taken g.K.Sink.faults _ _ _ c.lines_exit-exit.result
    (subst (λ (e : Exit). e ≢ OutOfMemory) (sym c.lines_exit-exit.ensures) (lines-memory c.put_lines.result)) c.conclude.ensures
