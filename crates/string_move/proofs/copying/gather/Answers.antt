use Rattle.std.proofs.Common.{◌∙◌}
use Rattle.string_move.proofs.Filled.{filled_by}
use Rattle.string_move.proofs.copying.gather.Goals as goal

pub loop-piece-preserved : goal.loop-piece-preserved
loop-piece-preserved c =
    let i = c.loop-piece.piece-index in
    let there = c.loop-piece-test.true in
    let piece = c.requires.there i (record { page = 0; at = 0; len = 0 }) there in
    let further = filled_by c.args.objects.now c.args.from.now i c.loop-piece.filled c.min-end.result c.loop-piece.room c.read.new.into c.page.result.now (record { page = 0; at = 0; len = 0 })
    there c.page.ensures.value c.read.ensures.size piece.inside c.min-end.ensures c.read.ensures.bytes c.loop-piece.invariant.filled in
    record { filled = further.filled; size = further.size ∙ c.loop-piece.invariant.size }
