use Rattle.std.proofs.Common.{◌∷◌, [], List, sym, ◌∙◌, subst}
use Rattle.object_store.specs.Object.{object_name, IsAmong}
use Rattle.machine_state.specs.declared.taking.Name.{Name}
use Rattle.machine_state.specs.Taking.{names_of}
use Rattle.state_parts.specs.Looking.{HasAll, IsMore}
use Rattle.state_parts.proofs.Once.{apart}
use Rattle.state_parts.proofs.Marked.{more_none, more_push, has_push, has_one}
use Rattle.state_parts.proofs.marking.mark_name.Goals as goal

pub returns-then-is_named-clause-grows : goal.returns-then-is_named-clause-grows
returns-then-is_named-clause-grows c = more_none (object_name c.args.name.kind c.args.name.number ∷ []) (names_of c.args.marked.now.items)

pub returns-then-is_named-clause-has : goal.returns-then-is_named-clause-has
returns-then-is_named-clause-has c =
    let Among : List Name → Type 0 = λ xs. IsAmong c.args.name.kind c.args.name.number (names_of xs) in
    has_one c.args.name.kind c.args.name.number (names_of c.args.marked.now.items) (subst Among c.as_slice.ensures.value (c.is_named.ensures.0 c.if-is_named.true))

pub returns-clause-grows : goal.returns-clause-grows
returns-clause-grows c =
    let More : List Name → Type 0 = λ xs. IsMore (object_name c.args.name.kind c.args.name.number ∷ []) (names_of c.args.marked.now.items) (names_of xs) in
    let Among : List Name → Type 0 = λ xs. IsAmong c.args.name.kind c.args.name.number (names_of xs) in
    subst More (sym c.in_ok-push.ensures.items)
    (more_push c.args.name.kind c.args.name.number c.args.marked.now.items
    (λ among. apart (sym c.if-is_named.false ∙ c.is_named.ensures.1 (subst Among (sym c.as_slice.ensures.value) among))))

pub returns-clause-has : goal.returns-clause-has
returns-clause-has c =
    let Has : List Name → Type 0 = λ xs. HasAll (object_name c.args.name.kind c.args.name.number ∷ []) (names_of xs) in
    subst Has (sym c.in_ok-push.ensures.items) (has_push c.args.name.kind c.args.name.number c.args.marked.now.items)

pub returns-in_err-push-clause-grows : goal.returns-in_err-push-clause-grows
returns-in_err-push-clause-grows c =
    let More : List Name → Type 0 = λ xs. IsMore (object_name c.args.name.kind c.args.name.number ∷ []) (names_of c.args.marked.now.items) (names_of xs) in
    subst More (sym c.in_err-push.ensures.items) (more_none (object_name c.args.name.kind c.args.name.number ∷ []) (names_of c.args.marked.now.items))
