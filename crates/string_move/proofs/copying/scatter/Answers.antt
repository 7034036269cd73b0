use Rattle.std.proofs.Common.{◌≡◌, ◌+◌, ◌-◌, get_or, drop, sym, ◌∙◌, arith}
use Rattle.std.proofs.lemmas.List.Sums.{sum_by-drop_more}
use Rattle.string_move.specs.declared.piece.Piece.{Piece}
use Rattle.string_move.proofs.Moves.{scattered_more, scattered_all}
use Rattle.string_move.proofs.copying.scatter.Goals as goal

pub loop-piece-preserved : goal.loop-piece-preserved
loop-piece-preserved c =
    let i = c.loop-piece.piece-index in
    let at = c.loop-piece.at in
    let there = c.loop-piece-test.true in
    let piece : Piece = get_or c.args.to.now i (record { page = 0; at = 0; len = 0 }) in
    let len : at + piece.len - at ≡ piece.len = omega arith in
    let more = scattered_more c.loop-piece.objects c.args.to.now c.args.bytes.now i at (record { page = 0; at = 0; len = 0 }) there in
    record {
      same = rw (c.write.ensures.bytes, c.page_mut.ensures.value, len) (more ∙ c.loop-piece.invariant.same);
      items = c.loop-piece.invariant.items;
      rest = omega (arith, c.loop-piece.invariant.rest, sum_by-drop_more (λ (x : Piece). x.len) c.args.to.now i (record { page = 0; at = 0; len = 0 }) there);
    }

pub returns : goal.returns
returns c =
    sym (scattered_all c.loop-piece.objects c.args.to.now (drop c.loop-piece.at c.args.bytes.now) c.loop-piece.piece-index (omega (arith, c.loop-piece-test.false))) ∙ c.loop-piece.invariant.same
