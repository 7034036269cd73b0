use Rattle.std.proofs.Common.{◌∙◌, List, ap, map, subst, sym}
use Rattle.separation_check.specs.Crossings.{meant_crossing}
use Rattle.separation_check.specs.declared.crossing.Crossing.{Crossing}
use Rattle.policy_lines.specs.Needed.{BarredAre, needed_value}
use Rattle.policy_lines.specs.declared.needed.Needed.{Needed}
use Rattle.courses.specs.Ending.{Ends, Output}
use Rattle.separation_program.specs.Text.{told_needed}
use Rattle.separation_program.proofs.Needing.{told-barred}
use Rattle.separation_program.proofs.least_lines.tell_needed.Goals as goal

pub returns-in-Barred : goal.returns-in-Barred
returns-in-Barred g c =
    subst (λ (o : Output). Ends (g.K.Sink.taken c.args.output.now) (g.K.Sink.taken c.tell_crossings.new.output) (g.K.Sink.faults c.args.output.now) (g.K.Sink.faults c.tell_crossings.new.output) c.tell_crossings.result o)
    (told-barred c.args.policy.now c.as_slice-in-Barred.result.now ∙ ap (λ (found : List Crossing). told_needed c.args.policy.now (BarredAre (map meant_crossing found))) c.as_slice-in-Barred.ensures.value
    ∙ ap (λ (needed : Needed). told_needed c.args.policy.now (needed_value needed)) (sym c.in-Barred.is)) c.tell_crossings.ensures
