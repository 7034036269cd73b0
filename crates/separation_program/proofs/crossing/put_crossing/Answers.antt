use Rattle.coy_io.proofs.Texts.{go_on, stop}
use Rattle.separation_program.specs.Text.{crossing_text}
use Rattle.separation_program.proofs.crossing.put_crossing.Goals as goal

pub returns-in_err-put_head : goal.returns-in_err-put_head
unfolding crossing_text
returns-in_err-put_head g c = stop _ _ _ _ _ _ _ _ c.from_residual.ensures.0 c.in_err-put_head.ensures

pub returns : goal.returns
unfolding crossing_text
returns g c = go_on _ _ _ _ _ _ _ _ _ _ c.in_ok-put_head.ensures c.put_tail.ensures
