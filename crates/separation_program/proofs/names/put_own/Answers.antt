use Rattle.coy_io.proofs.Texts.{go_on, stop}
use Rattle.separation_program.specs.Text.{own_text}
use Rattle.separation_program.proofs.names.put_own.Goals as goal

pub returns-in_err-put_name : goal.returns-in_err-put_name
unfolding own_text
returns-in_err-put_name g c = stop _ _ _ _ _ _ _ _ c.from_residual.ensures.0 c.in_err-put_name.ensures

pub returns : goal.returns
unfolding own_text
returns g c = go_on _ _ _ _ _ _ _ _ _ _ c.in_ok-put_name.ensures c.put_text.ensures
