use Rattle.std.proofs.Common.{◌≡◌, ◌∙◌, [], ◌++◌, drop, sym, subst, ap, append_assoc}
use Rattle.std.proofs.lemmas.List.{drop_all}
use Rattle.coy_io.proofs.Texts.{cut, same_cut}
use Rattle.coy_io.specs.Written.{Writes}
use Rattle.schedule_replay.specs.Leaves.{LeavesText}
use Rattle.schedule_replay.specs.Told.{line_of, lines_of}
use Rattle.schedule_replay.proofs.Leaves.{leaves_done, leaves_on, leaves_some}
use Rattle.schedule_replay.proofs.Told.{lines_at, lines_of-nil}
use Rattle.schedule_replay.proofs.telling.put_records.Goals as goal

pub returns-in_err-gather-clause-text : goal.returns-in_err-gather-clause-text
returns-in_err-gather-clause-text g c =
    let all = c.as_slice-all.result.now in
    let left = subst (LeavesText _ _ _) (ap (λ rest. c.each.buffer ++ rest) (lines_at c.args.mode all c.each.i _ c.each-test.true c.index-all-i.is) ∙ sym (append_assoc c.each.buffer _ _)) c.each.invariant.lines in
    cut _ _ _ _ c.from_residual.ensures.0
    (same_cut _ _ _ _ (ap (lines_of c.args.mode) c.as_slice-all.ensures.value) (leaves_some _ _ _ _ _ _ left c.in_err-gather.ensures.err))

pub each-preserved : goal.each-preserved
each-preserved g c =
    let all = c.as_slice-all.result.now in
    let left = subst (LeavesText _ _ _) (ap (λ rest. c.each.buffer ++ rest) (lines_at c.args.mode all c.each.i _ c.each-test.true c.index-all-i.is) ∙ sym (append_assoc c.each.buffer _ _)) c.each.invariant.lines in
    record {
      lines = leaves_on _ _ _ _ _ _ _ left c.in_ok-gather.ensures.ok;
      quiet = c.in_ok-gather.ensures.cause.quiet ∙ c.each.invariant.quiet;
    }

pub returns-clause-text : goal.returns-clause-text
returns-clause-text g c =
    let all = c.as_slice-all.result.now in
    let none : lines_of c.args.mode (drop c.each.i all) ≡ [] = ap (lines_of c.args.mode) (drop_all c.each.i all c.each-test.false) ∙ lines_of-nil c.args.mode in
    let left = subst (LeavesText _ _ _) (ap (λ rest. c.each.buffer ++ rest) none ∙ ap (λ text. text ++ []) (sym c.as_bytes.ensures.text)) c.each.invariant.lines in
    subst (Writes _ _ c.put_all.result) (ap (lines_of c.args.mode) c.as_slice-all.ensures.value)
    (leaves_done c.put_all.result _ _ _ _ _ left c.put_all.ensures.whole c.put_all.ensures.front)
