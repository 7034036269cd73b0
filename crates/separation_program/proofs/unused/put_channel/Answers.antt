use Rattle.coy_io.proofs.Texts.{go_on, stop}
use Rattle.separation_program.specs.Text.{channel_text}
use Rattle.separation_program.proofs.unused.put_channel.Goals as goal

pub returns-in_err-put_text : goal.returns-in_err-put_text
unfolding channel_text
returns-in_err-put_text g c = stop _ _ _ _ _ _ _ _ c.from_residual.ensures.0 c.in_err-put_text.ensures

pub returns-in_err-put_name : goal.returns-in_err-put_name
unfolding channel_text
returns-in_err-put_name g c = go_on _ _ _ _ _ _ _ _ _ _ c.in_ok-put_text.ensures (stop _ _ _ _ _ _ _ _ c.from_residual-in_err-put_name.ensures.0 c.in_err-put_name.ensures)

pub returns-in_err-put_text-2 : goal.returns-in_err-put_text-2
unfolding channel_text
returns-in_err-put_text-2 g c =
    go_on _ _ _ _ _ _ _ _ _ _ c.in_ok-put_text.ensures (go_on _ _ _ _ _ _ _ _ _ _ c.in_ok-put_name.ensures (stop _ _ _ _ _ _ _ _ c.from_residual-in_err-put_text-2.ensures.0 c.in_err-put_text-2.ensures))

pub returns : goal.returns
unfolding channel_text
returns g c =
    go_on _ _ _ _ _ _ _ _ _ _ c.in_ok-put_text.ensures (go_on _ _ _ _ _ _ _ _ _ _ c.in_ok-put_name.ensures (go_on _ _ _ _ _ _ _ _ _ _ c.in_ok-put_text-2.ensures c.put_own.ensures))
