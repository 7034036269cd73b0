use Rattle.coy_io.proofs.Texts.{go_on, stop}
use Rattle.program_entry.proofs.ending.put_line.Goals as goal

pub returns-in_err-put_text : goal.returns-in_err-put_text
returns-in_err-put_text g c = stop _ _ _ _ _ _ _ _ c.from_residual.ensures.0 c.in_err-put_text.ensures

pub returns-in_err-put_text-2 : goal.returns-in_err-put_text-2
returns-in_err-put_text-2 g c = go_on _ _ _ _ _ _ _ _ _ _ c.in_ok-put_text.ensures (stop _ _ _ _ _ _ _ _ c.from_residual-in_err-put_text-2.ensures.0 c.in_err-put_text-2.ensures)

pub returns-in_err-put_text-3 : goal.returns-in_err-put_text-3
returns-in_err-put_text-3 g c =
    go_on _ _ _ _ _ _ _ _ _ _ c.in_ok-put_text.ensures (go_on _ _ _ _ _ _ _ _ _ _ c.in_ok-put_text-2.ensures (stop _ _ _ _ _ _ _ _ c.from_residual-in_err-put_text-3.ensures.0 c.in_err-put_text-3.ensures))

pub returns-in_err-put_behind_colon : goal.returns-in_err-put_behind_colon
returns-in_err-put_behind_colon g c =
    go_on _ _ _ _ _ _ _ _ _ _ c.in_ok-put_text.ensures (go_on _ _ _ _ _ _ _ _ _ _ c.in_ok-put_text-2.ensures (go_on _ _ _ _ _ _ _ _ _ _ c.in_ok-put_text-3.ensures
    (stop _ _ _ _ _ _ _ _ c.from_residual-in_err-put_behind_colon.ensures.0 c.in_err-put_behind_colon.ensures)))

pub returns : goal.returns
returns g c =
    go_on _ _ _ _ _ _ _ _ _ _ c.in_ok-put_text.ensures (go_on _ _ _ _ _ _ _ _ _ _ c.in_ok-put_text-2.ensures (go_on _ _ _ _ _ _ _ _ _ _ c.in_ok-put_text-3.ensures
    (go_on _ _ _ _ _ _ _ _ _ _ c.in_ok-put_behind_colon.ensures c.put_text-4.ensures)))
