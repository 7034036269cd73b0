use Rattle.coy_io.proofs.Texts.{go_on, stop}
use Rattle.separation_program.specs.Text.{domain_text}
use Rattle.separation_program.proofs.telling.put_domain.Goals as goal

pub returns-in_err-put_text : goal.returns-in_err-put_text
unfolding domain_text
returns-in_err-put_text g c = stop _ _ _ _ _ _ _ _ c.from_residual.ensures.0 c.in_err-put_text.ensures

pub returns-in_err-put_name : goal.returns-in_err-put_name
unfolding domain_text
returns-in_err-put_name g c = go_on _ _ _ _ _ _ _ _ _ _ c.in_ok-put_text.ensures (stop _ _ _ _ _ _ _ _ c.from_residual-in_err-put_name.ensures.0 c.in_err-put_name.ensures)

pub returns-in_err-put_counts : goal.returns-in_err-put_counts
unfolding domain_text
returns-in_err-put_counts g c =
    go_on _ _ _ _ _ _ _ _ _ _ c.in_ok-put_text.ensures (go_on _ _ _ _ _ _ _ _ _ _ c.in_ok-put_name.ensures (stop _ _ _ _ _ _ _ _ c.from_residual-in_err-put_counts.ensures.0 c.in_err-put_counts.ensures))

pub returns-in_err-put_relations : goal.returns-in_err-put_relations
unfolding domain_text
returns-in_err-put_relations g c =
    go_on _ _ _ _ _ _ _ _ _ _ c.in_ok-put_text.ensures (go_on _ _ _ _ _ _ _ _ _ _ c.in_ok-put_name.ensures (go_on _ _ _ _ _ _ _ _ _ _ c.in_ok-put_counts.ensures
    (stop _ _ _ _ _ _ _ _ c.from_residual-in_err-put_relations.ensures.0 c.in_err-put_relations.ensures)))

pub returns : goal.returns
unfolding domain_text
returns g c =
    go_on _ _ _ _ _ _ _ _ _ _ c.in_ok-put_text.ensures (go_on _ _ _ _ _ _ _ _ _ _ c.in_ok-put_name.ensures (go_on _ _ _ _ _ _ _ _ _ _ c.in_ok-put_counts.ensures
    (go_on _ _ _ _ _ _ _ _ _ _ c.in_ok-put_relations.ensures c.put_marks.ensures)))
