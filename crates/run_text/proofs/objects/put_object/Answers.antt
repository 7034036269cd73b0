use Rattle.coy_io.proofs.Texts.{go_on, stop}
use Rattle.run_text.specs.Objects.{object_text}
use Rattle.run_text.proofs.objects.put_object.Goals as goal

pub returns-in_err-put_heading-clause-wrote : goal.returns-in_err-put_heading-clause-wrote
unfolding object_text
returns-in_err-put_heading-clause-wrote g c =
    stop _ _ _ _ _ _ _ _ c.from_residual.ensures.0 c.in_err-put_heading.ensures

pub returns-clause-wrote : goal.returns-clause-wrote
unfolding object_text
returns-clause-wrote g c =
    go_on _ _ _ _ _ _ _ _ _ _ c.in_ok-put_heading.ensures c.put_contents.ensures.wrote
