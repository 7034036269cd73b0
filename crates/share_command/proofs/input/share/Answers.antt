use Rattle.std.proofs.Common.{◌≡◌, ◌∙◌, true, false, ap, refl, sym}
use Rattle.shared_leaves.specs.Cache.{kept_of}
use Rattle.courses.proofs.Taken.{takes-listing, takes-same}
use Rattle.courses.specs.Exit.{is_finished}
use Rattle.share_command.specs.Share.{share_course, shared_fetched}
use Rattle.share_command.proofs.Behind.{of-listing}
use Rattle.share_command.proofs.Few.{call-bounded, call-few, unspent-bounded}
use Rattle.share_command.proofs.input.share.Goals as goal

pub answer_lines-requires-clause-nothing : goal.answer_lines-requires-clause-nothing
answer_lines-requires-clause-nothing g c = ap kept_of c.in-Ok-boot.ensures.translator ∙ c.in-Ok-new.ensures.nothing

pub returns-in-Err-clause-course : goal.returns-in-Err-clause-course
returns-in-Err-clause-course g c =
    c.in-Err.ensures.ended.takes share_course shared_fetched refl _

pub returns-clause-course : goal.returns-clause-course
returns-clause-course g c =
    let harts = ap (λ sizes. sizes.harts) c.in-Ok-boot.ensures.sizes in
    takes-listing g.S.Source.held g.S.Source.faults g.K.Sink.taken g.K.Sink.faults c.new-lines.result c.read_head.new.lines _ c.in-Ok.listing _ _ _ _ _ _ _ _ _ shared_fetched share_course
    c.new-lines.ensures c.in-Ok.ensures.listed c.in-Ok.ensures.given c.in-Ok.ensures.silent c.in-Ok.ensures.quiet
    (takes-same g.S.Source.held g.S.Source.faults g.K.Sink.taken g.K.Sink.faults _ _ _ _ _ _ _ _ _ shared_fetched _ _
    (of-listing c.in-Ok.listing _ _ _ harts c.in-Ok-boot.ensures.state) c.answer_lines.ensures.course)

-- ---- frames and bounds

pub returns-in-Err-clause-fewer : goal.returns-in-Err-clause-fewer
returns-in-Err-clause-fewer g c = λ done. let bad : false ≡ true = sym c.in-Err.ensures.ended.unfinished ∙ ap is_finished done in cc

pub returns-in-Err-clause-bounded : goal.returns-in-Err-clause-bounded
returns-in-Err-clause-bounded g c = unspent-bounded _ _

pub returns-clause-fewer : goal.returns-clause-fewer
returns-clause-fewer g c =
    call-few _ _ _ _ _ _ _ c.new-lines.result c.read_head.new.lines c.in-Ok.listing c.new-lines.ensures
    c.in-Ok.ensures.listed c.listing_boots_in_ranges.ensures (returns-clause-course g c).comes

pub returns-clause-bounded : goal.returns-clause-bounded
returns-clause-bounded g c =
    call-bounded _ _ _ _ _ _ _ c.new-lines.result c.read_head.new.lines c.in-Ok.listing c.new-lines.ensures
    c.in-Ok.ensures.listed c.listing_boots_in_ranges.ensures (returns-clause-course g c).comes
