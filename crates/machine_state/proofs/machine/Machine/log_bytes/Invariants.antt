use Rattle.object_store.specs.Meaning.{state_map}
use Rattle.machine_state.proofs.Moved.{IsLogged}
use Rattle.machine_state.proofs.machine.Machine.log_bytes.Given as goal

abbrev pub invariant-loop-piece : goal.invariant-loop-piece
invariant-loop-piece g l = IsLogged (state_map l.self.objects) l.pieces l.piece-index l.bytes
