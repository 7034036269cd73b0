use Rattle.coy_io.proofs.Texts.{go_on, stop}
use Rattle.separation_program.specs.Text.{relations_text}
use Rattle.separation_program.proofs.telling.put_relations.Goals as goal

pub returns-in_err-put_related : goal.returns-in_err-put_related
unfolding relations_text
returns-in_err-put_related g c =
    stop _ _ _ _ _ _ _ _ c.from_residual.ensures.0 c.in_err-put_related.ensures

pub returns-in_err-put_text : goal.returns-in_err-put_text
unfolding relations_text
returns-in_err-put_text g c =
    go_on _ _ _ _ _ _ _ _ _ _ c.in_ok-put_related.ensures (stop _ _ _ _ _ _ _ _ c.from_residual-in_err-put_text.ensures.0 c.in_err-put_text.ensures)

pub returns-in_err-put_related-2 : goal.returns-in_err-put_related-2
unfolding relations_text
returns-in_err-put_related-2 g c =
    go_on _ _ _ _ _ _ _ _ _ _ c.in_ok-put_related.ensures (go_on _ _ _ _ _ _ _ _ _ _ c.in_ok-put_text.ensures (stop _ _ _ _ _ _ _ _ c.from_residual-in_err-put_related-2.ensures.0 c.in_err-put_related-2.ensures))

pub returns-in_err-put_text-2 : goal.returns-in_err-put_text-2
unfolding relations_text
returns-in_err-put_text-2 g c =
    go_on _ _ _ _ _ _ _ _ _ _ c.in_ok-put_related.ensures (go_on _ _ _ _ _ _ _ _ _ _ c.in_ok-put_text.ensures (go_on _ _ _ _ _ _ _ _ _ _ c.in_ok-put_related-2.ensures (stop _ _ _ _ _ _ _ _ c.from_residual-in_err-put_text-2.ensures.0 c.in_err-put_text-2.ensures)))

pub returns : goal.returns
unfolding relations_text
returns g c =
    go_on _ _ _ _ _ _ _ _ _ _ c.in_ok-put_related.ensures (go_on _ _ _ _ _ _ _ _ _ _ c.in_ok-put_text.ensures (go_on _ _ _ _ _ _ _ _ _ _ c.in_ok-put_related-2.ensures (go_on _ _ _ _ _ _ _ _ _ _ c.in_ok-put_text-2.ensures c.put_related-3.ensures)))
