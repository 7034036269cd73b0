use Rattle.std.proofs.Common.{◌≡◌, ◌∷◌, [], true, false, refl}
use Rattle.object_store.specs.Object.{object_name}
use Rattle.machine_state.specs.Taking.{names_of}
use Rattle.state_parts.proofs.Marked.{adds_none, adds_one, has_named, has_absent}
use Rattle.state_parts.proofs.marking.mark_object.Goals as goal

pub returns-in_ok-mark_name-in-Ok-clause-adds : goal.returns-in_ok-mark_name-in-Ok-clause-adds
returns-in_ok-mark_name-in-Ok-clause-adds c = adds_one c.args.objects.now c.args.kind c.args.number (names_of c.args.marked.now.items) (names_of c.mark_name.new.marked.items) (c.in-Ok.ensures.exactly.0 refl) c.mark_name.ensures.grows

pub returns-in_ok-mark_name-in-Ok-clause-has : goal.returns-in_ok-mark_name-in-Ok-clause-has
returns-in_ok-mark_name-in-Ok-clause-has c = has_named c.args.objects.now (object_name c.args.kind c.args.number ∷ []) (names_of c.mark_name.new.marked.items) c.in_ok-mark_name-in-Ok.ensures.has

pub returns-in_err-mark_name-in-Ok-clause-adds : goal.returns-in_err-mark_name-in-Ok-clause-adds
returns-in_err-mark_name-in-Ok-clause-adds c = adds_one c.args.objects.now c.args.kind c.args.number (names_of c.args.marked.now.items) (names_of c.mark_name.new.marked.items) (c.in-Ok.ensures.exactly.0 refl) c.mark_name.ensures.grows

pub returns-in-Err-clause-adds : goal.returns-in-Err-clause-adds
returns-in-Err-clause-adds c = adds_none c.args.objects.now (names_of c.args.marked.now.items)

pub returns-in-Err-clause-has : goal.returns-in-Err-clause-has
returns-in-Err-clause-has c = has_absent c.args.objects.now c.args.kind c.args.number (names_of c.args.marked.now.items) (λ there. let e : false ≡ true = c.in-Err.ensures.exactly.1 there in cc)
