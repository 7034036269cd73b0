use Rattle.std.proofs.Common.{◌∙◌, subst}
use Rattle.coy_io.proofs.Texts.{cut}
use Rattle.schedule_replay.specs.Leaves.{LeavesText}
use Rattle.schedule_replay.proofs.Leaves.{leaves_less, leaves_some}
use Rattle.coyotos_cli.proofs.making.put_text.Goals as goal

pub pieces-preserved : goal.pieces-preserved
pieces-preserved g c = record {
  text = leaves_less _ _ _ _ _ _ (subst (LeavesText _ _ _) c.fill-count.ensures.bytes c.pieces.invariant.text) c.in_ok-put_all.ensures.whole;
  quiet = c.in_ok-put_all.ensures.cause.quiet ∙ c.pieces.invariant.quiet;
}

pub returns-in_err-put_all-clause-text : goal.returns-in_err-put_all-clause-text
returns-in_err-put_all-clause-text g c =
    cut _ _ _ _ c.from_residual.ensures.0
    (leaves_some _ _ _ _ _ _ (subst (LeavesText _ _ _) c.fill-count.ensures.bytes c.pieces.invariant.text) c.in_err-put_all.ensures.front)
