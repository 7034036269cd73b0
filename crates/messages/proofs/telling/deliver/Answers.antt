use Rattle.std.proofs.Common.{[], ◌∷◌}
use Rattle.cap_format.specs.declared.kind.CapKind.TheVariants.{Endpoint}
use Rattle.object_store.specs.Object.{object_name}
use Rattle.string_move.specs.Move.{page_names}
use Rattle.machine_state.specs.Outcome.{process_name}
use Rattle.messages.proofs.Joined.{leaves_followed, leaves_more}
use Rattle.messages.proofs.telling.deliver.Goals as goal

pub returns-clause-leaves : goal.returns-clause-leaves
returns-clause-leaves g c =
    let m = c.args.machine.now in
    let pages = page_names c.args.into.now in
    leaves_followed (process_name c.args.p) pages (object_name Endpoint c.args.endpoint ∷ process_name c.args.to ∷ []) m c.move_string.new.self c.tell.new.machine
    (leaves_more (process_name c.args.p) pages m c.move_string.new.self c.move_string.ensures.leaves) c.tell.ensures.leaves
