use Rattle.std.proofs.Common.{drop, map}
use Rattle.object_store.specs.Store.{sizes_of}
use Rattle.machine_state.specs.Taking.{names_of}
use Rattle.object_parts.specs.Objects.{object_in}
use Rattle.state_parts.specs.Keys.{in_order, values_of, store_by}
use Rattle.state_parts.proofs.Brought.{IsBringing}
use Rattle.state_parts.proofs.going.bring.Given as goal

-- each object is that of the target, or as before and one of those to come
abbrev pub invariant-each : goal.invariant-each
invariant-each l =
    let z = sizes_of l.fn.objects in
    IsBringing (names_of (drop l.i l.marked)) (store_by z (in_order z) (values_of (map object_in l.table) l.new)) l.fn.objects l.objects
