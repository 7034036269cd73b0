use Rattle.object_store.specs.Meaning.{state_map}
use Rattle.machine_state.proofs.Moved.{logged_more, logged_all}
use Rattle.machine_state.proofs.machine.Machine.log_bytes.Goals as goal

pub loop-piece-preserved : goal.loop-piece-preserved
loop-piece-preserved g c =
    let same = c.as_slice-piece-items.ensures.value in
    let there = rw same at c.loop-piece-test.true in
    let value = rw same at c.append_piece.ensures.value in
    let size = rw same at c.append_piece.ensures.size in
    logged_more (state_map c.args.self.now.objects) c.args.pieces.now c.loop-piece.piece-index c.loop-piece.bytes c.append_piece.new.bytes (record { page = 0; at = 0; len = 0 }) there value size c.loop-piece.invariant

pub returns : goal.returns
returns g c =
    let same = c.as_slice-piece-items.ensures.value in
    let past = rw same at c.loop-piece-test.false in
    logged_all (state_map c.args.self.now.objects) c.args.pieces.now c.loop-piece.piece-index c.loop-piece.bytes past c.loop-piece.invariant
