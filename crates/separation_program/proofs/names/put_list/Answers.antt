use Rattle.coy_io.proofs.Texts.{go_on, stop}
use Rattle.separation_program.proofs.names.put_list.Goals as goal

pub returns-in_err-put_name : goal.returns-in_err-put_name
returns-in_err-put_name g c = stop _ _ _ _ _ _ _ _ c.from_residual.ensures.0 c.in_err-put_name.ensures

pub returns : goal.returns
returns g c = go_on _ _ _ _ _ _ _ _ _ _ c.in_ok-put_name.ensures c.put_further.ensures
