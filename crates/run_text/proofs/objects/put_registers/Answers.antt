use Rattle.coy_io.proofs.Texts.{go_on, stop}
use Rattle.run_text.proofs.objects.put_registers.Goals as goal

pub returns-in_err-put_parts-clause-wrote : goal.returns-in_err-put_parts-clause-wrote
returns-in_err-put_parts-clause-wrote g c =
    stop _ _ _ _ _ _ _ _ c.from_residual.ensures.0 c.in_err-put_parts.ensures.wrote

pub returns-clause-wrote : goal.returns-clause-wrote
returns-clause-wrote g c =
    go_on _ _ _ _ _ _ _ _ _ _ c.in_ok-put_parts.ensures.wrote c.put_parts-2.ensures.wrote
