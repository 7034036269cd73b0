use Rattle.std.proofs.Common.{◌∙◌, refl, sym, arith}
use Rattle.kernel_core.specs.State.{state_of}
use Rattle.courses.specs.Course.{cached}
use Rattle.courses.specs.declared.exit.Exit.TheVariants.{CutRefused}
use Rattle.courses.proofs.Lacking.{concludes-memory, ends-memory, stop-memory}
use Rattle.courses.proofs.Rests.{stop-ended, stop-stopped}
use Rattle.confine_command.specs.Confine.{checked}
use Rattle.confine_command.specs.Stated.{PastEnd, RefusedAt, StatesSides, stated}
use Rattle.confine_command.proofs.Stating.{tells}
use Rattle.confine_command.proofs.input.check_lines.Goals as goal

-- all lines were read
pub returns-in-None-clause-course : goal.returns-in-None-clause-course
returns-in-None-clause-course g c =
    let r = c.read_sides-stop.ensures in
    let s = state_of c.args.machine.now in
    let counted = c.tell.ensures.counted in
    stop-ended g.S.Source.held g.S.Source.faults g.K.Sink.taken g.K.Sink.faults c.args.lines.now _ _ _ _ _ cached refl
    (stated c.args.cut.now c.args.lines.now.number) (checked s) (StatesSides c.read_sides-stop.new.cut) RefusedAt PastEnd CutRefused (tells s c.read_sides-stop.new.cut)
    c.read_sides-stop.result r.states r.read r.quiet _ _ _ (sym c.cut_exit.ensures ∙ c.in-None.is) (record { read = λ bad. cc; write = λ bad. cc; memory = λ bad. cc }) (λ bad. cc)
    c.tell.ensures.ends (record { whole = λ given. counted; most = omega (arith, counted) }) (λ end. r.told c.requires.told (r.end end))

-- or not
pub returns-in-Some-clause-course : goal.returns-in-Some-clause-course
returns-in-Some-clause-course g c =
    let r = c.read_sides-stop.ensures in
    let s = state_of c.args.machine.now in
    stop-stopped g.S.Source.held g.S.Source.faults g.K.Sink.taken g.K.Sink.faults c.args.lines.now _ _ _ _ _ cached refl
    (stated c.args.cut.now c.args.lines.now.number) (checked s) (StatesSides c.read_sides-stop.new.cut) RefusedAt PastEnd CutRefused (tells s c.read_sides-stop.new.cut)
    c.read_sides-stop.result r.states r.read r.quiet _ _ _ c.in-Some.exit (sym c.cut_exit.ensures ∙ c.in-Some.is) c.conclude.ensures refl

-- ---- memory

pub returns-in-None-clause-memory : goal.returns-in-None-clause-memory
returns-in-None-clause-memory g c = ends-memory g.K.Sink.taken g.K.Sink.faults _ _ _ _ (λ bad. cc) c.tell.ensures.ends

pub returns-in-Some-clause-memory : goal.returns-in-Some-clause-memory
returns-in-Some-clause-memory g c =
    concludes-memory g.K.Sink.taken g.K.Sink.faults _ _ _ c.in-Some.exit
    (stop-memory CutRefused (λ line fault bad. cc) c.read_sides-stop.result c.in-Some.exit (sym c.cut_exit.ensures ∙ c.in-Some.is)) c.conclude.ensures
