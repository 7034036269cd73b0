use Rattle.coy_io.proofs.Texts.{go_on, stop}
use Rattle.separation_program.specs.Text.{crossings_text}
use Rattle.separation_program.proofs.crossing.put_crossings.Goals as goal

pub returns-in_err-put_each : goal.returns-in_err-put_each
unfolding crossings_text
returns-in_err-put_each g c = stop _ _ _ _ _ _ _ _ c.from_residual.ensures.0 c.in_err-put_each.ensures

pub returns : goal.returns
unfolding crossings_text
returns g c = go_on _ _ _ _ _ _ _ _ _ _ c.in_ok-put_each.ensures c.put_total.ensures
