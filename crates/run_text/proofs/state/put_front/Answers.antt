use Rattle.coy_io.proofs.Texts.{go_on, stop}
use Rattle.run_text.specs.State.{front_text}
use Rattle.run_text.proofs.state.put_front.Goals as goal

pub returns-in_err-put_text : goal.returns-in_err-put_text
unfolding front_text
returns-in_err-put_text g c =
    stop _ _ _ _ _ _ _ _ c.from_residual.ensures.0 c.in_err-put_text.ensures

pub returns-in_err-put_standing : goal.returns-in_err-put_standing
unfolding front_text
returns-in_err-put_standing g c =
    go_on _ _ _ _ _ _ _ _ _ _ c.in_ok-put_text.ensures
    (stop _ _ _ _ _ _ _ _ c.from_residual-in_err-put_standing.ensures.0 c.in_err-put_standing.ensures)

pub returns : goal.returns
unfolding front_text
returns g c =
    go_on _ _ _ _ _ _ _ _ _ _ c.in_ok-put_text.ensures
    (go_on _ _ _ _ _ _ _ _ _ _ c.in_ok-put_standing.ensures c.put_halted.ensures)
