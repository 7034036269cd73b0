use Rattle.std.proofs.Common.{ap}
use Rattle.coy_io.proofs.Texts.{go_on, same, stop}
use Rattle.separation_program.specs.Text.{count_text, separated_by}
use Rattle.separation_program.proofs.telling.put_separated.Goals as goal

pub returns-in_err-put_count : goal.returns-in_err-put_count
unfolding separated_by
returns-in_err-put_count g c = stop _ _ _ _ _ _ _ _ c.from_residual.ensures.0 (same _ _ _ _ _ _ _ (ap count_text c.len.ensures.value) c.in_err-put_count.ensures)

pub returns-in_err-put_domains : goal.returns-in_err-put_domains
unfolding separated_by
returns-in_err-put_domains g c =
    go_on _ _ _ _ _ _ _ _ _ _ (same _ _ _ _ _ _ _ (ap count_text c.len.ensures.value) c.in_ok-put_count.ensures)
    (stop _ _ _ _ _ _ _ _ c.from_residual-in_err-put_domains.ensures.0 c.in_err-put_domains.ensures)

pub returns : goal.returns
unfolding separated_by
returns g c =
    go_on _ _ _ _ _ _ _ _ _ _ (same _ _ _ _ _ _ _ (ap count_text c.len.ensures.value) c.in_ok-put_count.ensures)
    (go_on _ _ _ _ _ _ _ _ _ _ c.in_ok-put_domains.ensures c.put_unused.ensures)
