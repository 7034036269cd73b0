use Rattle.statement_text.specs.Text.{listing_text}
use Rattle.coy_io.proofs.Texts.{go_on, stop}
use Rattle.statement_text.proofs.listing.write_listing.Goals as goal

pub returns-in_err-put_format : goal.returns-in_err-put_format
unfolding listing_text
returns-in_err-put_format g c =
    stop _ _ _ _ _ _ _ _ c.from_residual.ensures.0 c.in_err-put_format.ensures

pub returns-in_err-put_machine : goal.returns-in_err-put_machine
unfolding listing_text
returns-in_err-put_machine g c =
    go_on _ _ _ _ _ _ _ _ _ _ c.in_ok-put_format.ensures
    (stop _ _ _ _ _ _ _ _ c.from_residual-in_err-put_machine.ensures.0 c.in_err-put_machine.ensures)

pub returns-in_err-put_statements : goal.returns-in_err-put_statements
unfolding listing_text
returns-in_err-put_statements g c =
    go_on _ _ _ _ _ _ _ _ _ _ c.in_ok-put_format.ensures
    (go_on _ _ _ _ _ _ _ _ _ _ c.in_ok-put_machine.ensures
    (stop _ _ _ _ _ _ _ _ c.from_residual-in_err-put_statements.ensures.0 c.in_err-put_statements.ensures))

pub returns : goal.returns
unfolding listing_text
returns g c =
    go_on _ _ _ _ _ _ _ _ _ _ c.in_ok-put_format.ensures
    (go_on _ _ _ _ _ _ _ _ _ _ c.in_ok-put_machine.ensures
    (go_on _ _ _ _ _ _ _ _ _ _ c.in_ok-put_statements.ensures c.put_text.ensures))
