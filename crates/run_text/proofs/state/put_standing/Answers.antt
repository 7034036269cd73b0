use Rattle.coy_io.proofs.Texts.{go_on, stop}
use Rattle.run_text.specs.State.{standing_text}
use Rattle.run_text.proofs.state.put_standing.Goals as goal

pub returns-in_err-put_harts : goal.returns-in_err-put_harts
unfolding standing_text
returns-in_err-put_harts g c =
    stop _ _ _ _ _ _ _ _ c.from_residual.ensures.0 c.in_err-put_harts.ensures

pub returns-in_err-put_ready : goal.returns-in_err-put_ready
unfolding standing_text
returns-in_err-put_ready g c =
    go_on _ _ _ _ _ _ _ _ _ _ c.in_ok-put_harts.ensures
    (stop _ _ _ _ _ _ _ _ c.from_residual-in_err-put_ready.ensures.0 c.in_err-put_ready.ensures)

pub returns : goal.returns
unfolding standing_text
returns g c =
    go_on _ _ _ _ _ _ _ _ _ _ c.in_ok-put_harts.ensures
    (go_on _ _ _ _ _ _ _ _ _ _ c.in_ok-put_ready.ensures c.put_sleepers.ensures)
