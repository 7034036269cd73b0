use Rattle.std.proofs.Common.{sym, ◌∙◌}
use Rattle.std.specs.Prelude.{Some, None}
use Rattle.std.proofs.lemmas.List.{drop-drop}
use Rattle.coy_text.proofs.Cuts.{cut_at-place}
use Rattle.coy_text.proofs.words.cut.Goals as goal

pub returns-in_err-place : goal.returns-in_err-place
returns-in_err-place c =
    rw c.from_residual.ensures (sym (cut_at-place c.args.mark c.args.word.now None (sym c.in_err-place.was ∙ c.first_mark.ensures)))

pub returns : goal.returns
returns c =
    rw (c.split_at.ensures.front, c.split_at-2.ensures.back, c.split_at.ensures.back, drop-drop 1 c.in_ok-place.place c.args.word.now)
    (sym (cut_at-place c.args.mark c.args.word.now (Some c.in_ok-place.place) (sym c.in_ok-place.was ∙ c.first_mark.ensures)))
