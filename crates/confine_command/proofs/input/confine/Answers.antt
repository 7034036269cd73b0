use Rattle.std.proofs.Common.{◌∙◌, ap, refl, subst, sym}
use Rattle.kernel_core.specs.State.{State}
use Rattle.confinement.specs.Cut.{Sides, side_in}
use Rattle.confinement.proofs.Own.{is-closed}
use Rattle.confine_check.specs.Sides.{all_right, cut_of}
use Rattle.courses.proofs.Taken.{takes-listing, takes-same}
use Rattle.courses.specs.Course.{cached}
use Rattle.confine_command.specs.Confine.{FindsExactly, NobodySleeps, confine_course}
use Rattle.confine_command.proofs.Awake.{booted-awake}
use Rattle.confine_command.proofs.Deciding.{bytes-decided, of-listing}
use Rattle.confine_command.proofs.input.confine.Goals as goal

pub returns-in-Err-clause-course : goal.returns-in-Err-clause-course
returns-in-Err-clause-course g c = c.in-Err.ensures.ended.takes confine_course cached refl _

pub returns-clause-course : goal.returns-clause-course
returns-clause-course g c =
    let start = c.in-Ok-new.ensures ∙ ap all_right c.sizes.ensures.value in
    takes-listing g.S.Source.held g.S.Source.faults g.K.Sink.taken g.K.Sink.faults c.new-lines.result c.read_head.new.lines _ c.in-Ok.listing _ _ _ _ _ _ _ _ _ cached confine_course
    c.new-lines.ensures c.in-Ok.ensures.listed c.in-Ok.ensures.given c.in-Ok.ensures.silent c.in-Ok.ensures.quiet
    (takes-same g.S.Source.held g.S.Source.faults g.K.Sink.taken g.K.Sink.faults _ _ _ _ _ _ _ _ _ cached _ _
    (of-listing c.in-Ok.listing _ _ _ c.in-Ok-boot.ensures.state start) c.check_lines.ensures.course)

-- nobody sleeps in the machine that was booted
pub check_lines-requires-clause-awake : goal.check_lines-requires-clause-awake
check_lines-requires-clause-awake g c =
    subst (λ (s : State). NobodySleeps s.queues) (sym c.in-Ok-boot.ensures.state) (booted-awake c.in-Ok.listing)

pub returns-clause-decided : goal.returns-clause-decided
returns-clause-decided g c = λ done.
    let comes = rw done at (returns-clause-course g c).comes in
    bytes-decided c.in-Ok.listing
    (λ (sides : Sides). subst (λ (s : State). FindsExactly s sides) c.in-Ok-boot.ensures.state (c.verdict_in_law.ensures.exactly (cut_of sides) (is-closed (side_in sides))))
    _ _ c.new-lines.result c.read_head.new.lines c.new-lines.ensures c.in-Ok.ensures.listed _ _ _ _ comes
