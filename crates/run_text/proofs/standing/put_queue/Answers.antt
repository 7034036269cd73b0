use Rattle.std.proofs.Common.{◌∙◌, sym, refl}
use Rattle.std.proofs.KnownBytes.{Appends-nil}
use Rattle.coy_io.proofs.Texts.{go_on, stop, same, whole}
use Rattle.run_text.proofs.Texts.{queue_none, queue_some}
use Rattle.run_text.proofs.standing.put_queue.Goals as goal

pub returns-then-is_empty : goal.returns-then-is_empty
returns-then-is_empty g c =
    same _ _ _ _ _ _ _ (sym (queue_none _ _ (sym c.is_empty.ensures ∙ c.if-is_empty.true))) (whole _ _ _ _ _ _ (record { bytes = Appends-nil _; quiet = refl }))

pub returns-in_err-put_name : goal.returns-in_err-put_name
returns-in_err-put_name g c =
    same _ _ _ _ _ _ _ (sym (queue_some _ _ (sym c.is_empty.ensures ∙ c.if-is_empty.false))) (stop _ _ _ _ _ _ _ _ c.from_residual.ensures.0 c.in_err-put_name.ensures)

pub returns-in_err-put_members : goal.returns-in_err-put_members
returns-in_err-put_members g c =
    same _ _ _ _ _ _ _ (sym (queue_some _ _ (sym c.is_empty.ensures ∙ c.if-is_empty.false)))
    (go_on _ _ _ _ _ _ _ _ _ _ c.in_ok-put_name.ensures (stop _ _ _ _ _ _ _ _ c.from_residual-in_err-put_members.ensures.0 c.in_err-put_members.ensures))

pub returns : goal.returns
returns g c =
    same _ _ _ _ _ _ _ (sym (queue_some _ _ (sym c.is_empty.ensures ∙ c.if-is_empty.false)))
    (go_on _ _ _ _ _ _ _ _ _ _ c.in_ok-put_name.ensures (go_on _ _ _ _ _ _ _ _ _ _ c.in_ok-put_members.ensures c.put_text.ensures))
