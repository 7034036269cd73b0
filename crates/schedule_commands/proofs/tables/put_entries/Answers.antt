use Rattle.std.proofs.Common.{◌∙◌, refl, subst}
use Rattle.coy_io.proofs.Texts.{cut}
use Rattle.schedule_replay.specs.Leaves.{LeavesText}
use Rattle.schedule_commands.proofs.Entries.{entries_text-cons, entries_text-nil}
use Rattle.schedule_replay.proofs.Leaves.{leaves_less, leaves_none, leaves_some}
use Rattle.schedule_commands.proofs.tables.put_entries.Goals as goal

pub returns-in_err-put_entry-in-Some-clause-text : goal.returns-in_err-put_entry-in-Some-clause-text
returns-in_err-put_entry-in-Some-clause-text g c =
    let left = subst (LeavesText _ _ _) (entries_text-cons _ _ _ c.in-Some.ensures.some) c.entries.invariant.text in
    cut _ _ _ _ c.from_residual.ensures.0 (leaves_some _ _ _ _ _ _ left c.in_err-put_entry-in-Some.ensures.text)

pub entries-preserved : goal.entries-preserved
entries-preserved g c =
    let left = subst (LeavesText _ _ _) (entries_text-cons _ _ _ c.in-Some.ensures.some) c.entries.invariant.text in
    record {
      text = leaves_less _ _ _ _ _ _ left c.in_ok-put_entry-in-Some.ensures.text;
      inside = c.in-Some.ensures.behind;
      quiet = c.in_ok-put_entry-in-Some.ensures.cause.quiet ∙ c.entries.invariant.quiet;
    }

pub returns-in-None-clause-text : goal.returns-in-None-clause-text
returns-in-None-clause-text g c =
    leaves_none _ _ _ (subst (LeavesText _ _ _) (entries_text-nil _ (c.in-None.ensures.none refl)) c.entries.invariant.text)
