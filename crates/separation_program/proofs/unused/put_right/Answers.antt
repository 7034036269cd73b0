use Rattle.coy_io.proofs.Texts.{go_on, stop}
use Rattle.separation_program.specs.Text.{right_text}
use Rattle.separation_program.proofs.unused.put_right.Goals as goal

pub returns-in_err-put_text : goal.returns-in_err-put_text
unfolding right_text
returns-in_err-put_text g c = stop _ _ _ _ _ _ _ _ c.from_residual.ensures.0 c.in_err-put_text.ensures

pub returns : goal.returns
unfolding right_text
returns g c = go_on _ _ _ _ _ _ _ _ _ _ c.in_ok-put_text.ensures c.put_own.ensures
