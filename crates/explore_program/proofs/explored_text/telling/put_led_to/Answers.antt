use Rattle.coy_io.proofs.Texts.{go_on, stop}
use Rattle.explore_program.specs.explored_text.Text.{led_to}
use Rattle.explore_program.proofs.explored_text.telling.put_led_to.Goals as goal

pub returns-in_err-put_led : goal.returns-in_err-put_led
unfolding led_to
returns-in_err-put_led g c = stop _ _ _ _ _ _ _ _ c.from_residual.ensures.0 c.in_err-put_led.ensures

pub returns : goal.returns
unfolding led_to
returns g c = go_on _ _ _ _ _ _ _ _ _ _ c.in_ok-put_led.ensures c.put_choices.ensures
