use Rattle.coy_io.proofs.Texts.{go_on, stop}
use Rattle.explore_program.specs.explored_text.Text.{avoided_text}
use Rattle.explore_program.proofs.explored_text.telling.put_avoided.Goals as goal

pub returns-in_err-put_avoided_line : goal.returns-in_err-put_avoided_line
unfolding avoided_text
returns-in_err-put_avoided_line g c = stop _ _ _ _ _ _ _ _ c.from_residual.ensures.0 c.in_err-put_avoided_line.ensures

pub returns-in_err-put_choices : goal.returns-in_err-put_choices
unfolding avoided_text
returns-in_err-put_choices g c =
    go_on _ _ _ _ _ _ _ _ _ _ c.in_ok-put_avoided_line.ensures (stop _ _ _ _ _ _ _ _ c.from_residual-in_err-put_choices.ensures.0 c.in_err-put_choices.ensures)

pub returns : goal.returns
unfolding avoided_text
returns g c = go_on _ _ _ _ _ _ _ _ _ _ c.in_ok-put_avoided_line.ensures (go_on _ _ _ _ _ _ _ _ _ _ c.in_ok-put_choices.ensures c.put_choices-2.ensures)
