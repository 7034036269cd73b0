use Rattle.coy_io.proofs.Texts.{go_on, stop}
use Rattle.separation_program.specs.Text.{pair_text}
use Rattle.separation_program.proofs.names.put_pair.Goals as goal

pub returns-in_err-put_name : goal.returns-in_err-put_name
unfolding pair_text
returns-in_err-put_name g c = stop _ _ _ _ _ _ _ _ c.from_residual.ensures.0 c.in_err-put_name.ensures

pub returns-in_err-put_text : goal.returns-in_err-put_text
unfolding pair_text
returns-in_err-put_text g c = go_on _ _ _ _ _ _ _ _ _ _ c.in_ok-put_name.ensures (stop _ _ _ _ _ _ _ _ c.from_residual-in_err-put_text.ensures.0 c.in_err-put_text.ensures)

pub returns-in_err-put_name-2 : goal.returns-in_err-put_name-2
unfolding pair_text
returns-in_err-put_name-2 g c =
    go_on _ _ _ _ _ _ _ _ _ _ c.in_ok-put_name.ensures (go_on _ _ _ _ _ _ _ _ _ _ c.in_ok-put_text.ensures (stop _ _ _ _ _ _ _ _ c.from_residual-in_err-put_name-2.ensures.0 c.in_err-put_name-2.ensures))

pub returns : goal.returns
unfolding pair_text
returns g c =
    go_on _ _ _ _ _ _ _ _ _ _ c.in_ok-put_name.ensures (go_on _ _ _ _ _ _ _ _ _ _ c.in_ok-put_text.ensures (go_on _ _ _ _ _ _ _ _ _ _ c.in_ok-put_name-2.ensures c.put_text-2.ensures))
