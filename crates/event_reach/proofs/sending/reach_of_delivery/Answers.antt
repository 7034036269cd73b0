use Rattle.std.proofs.Common.{◌∷◌, min, sym, ap, ◌∙◌, subst, List}
use Rattle.object_store.specs.Object.{object_name}
use Rattle.cap_format.specs.declared.kind.CapKind.TheVariants.{Endpoint}
use Rattle.walk_meaning.specs.declared.kind.Kind.TheVariants.{Store as Put}
use Rattle.string_move.specs.declared.piece.Piece.{Piece}
use Rattle.string_move.specs.Spans.{spans}
use Rattle.string_move.specs.Move.{page_names}
use Rattle.machine_state.specs.State.{State, state_of}
use Rattle.machine_state.specs.Setters.{set_queues}
use Rattle.messages.specs.Strings.{Side}
use Rattle.messages.specs.Message.{accept_in, delivered}
use Rattle.event_reach.specs.Reach.{Covers}
use Rattle.event_reach.proofs.Covering.{covers_delivery}
use Rattle.event_reach.proofs.Walked.{side_anywhere}
use Rattle.event_reach.proofs.sending.reach_of_delivery.Goals as goal

pub returns-clause-covers : goal.returns-clause-covers
returns-clause-covers g c = λ q p from.
    let s = state_of c.args.machine.now in
    let inv = c.args.inv.now in
    let there : State = set_queues s q in
    let into = c.walk_string-received.result.pieces in
    let accept = accept_in s c.args.to in
    let walked = rw (c.at.ensures.value, c.min-size.ensures, c.length.ensures.value, c.bound.ensures.value, c.acceptance-accept.ensures) at c.walk_string-received.ensures.pieces in
    let is = walked ∙ ap (λ (x : Side). x.pieces) (sym (side_anywhere s q c.args.to Put (spans accept.at (min inv.length accept.bound)))) in
    let Told : List Piece → Type 0 = λ to. Covers (object_name Endpoint c.args.endpoint ∷ page_names into) (delivered there p c.args.endpoint c.args.to inv from to).changed in
    subst Told is (covers_delivery c.args.endpoint c.args.to into)
