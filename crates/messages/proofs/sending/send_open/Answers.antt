use Rattle.std.proofs.Common.{◌≡◌, List, Option, ap, ◌∙◌, subst}
use Rattle.string_move.specs.declared.piece.Piece.{Piece}
use Rattle.object_store.specs.Meaning.{meaning}
use Rattle.machine_state.specs.State.{State, state_of}
use Rattle.machine_state.specs.Outcome.{Outcome}
use Rattle.machine_state.specs.Came.{Came}
use Rattle.messages.specs.declared.string_fault.StringFault.{StringFault}
use Rattle.messages.specs.Strings.{side_outcome, string_fault_map}
use Rattle.messages.specs.Message.{sent_side, sent_by_fault, send_open}
use Rattle.messages.proofs.Joined.{came_followed_there}
use Rattle.messages.proofs.sending.send_open.Goals as goal

pub returns-clause-came : goal.returns-clause-came
unfolding send_open
returns-clause-came g c =
    let t = g.T.Translator in
    let m = c.args.machine.now in
    let s = state_of m in
    let n = c.access_sent-found.new.machine in
    let found = c.access_sent-found.ensures in
    let from = sent_side s c.args.p c.args.inv.now in
    let fault = string_fault_map (meaning n.objects.items) c.access_sent-found.result.fault in
    let next : State → List Piece → Option StringFault → Outcome = λ x pieces f. sent_by_fault x c.args.p c.args.endpoint c.args.to c.args.inv.now pieces f in
    let pieces = c.access_sent-found.result.pieces in
    let same : next (state_of n) pieces fault ≡ next s from.pieces from.fault =
    ap (λ (x : State). next x pieces fault) found.came.state
    ∙ (ap (λ (ps : List Piece). next s ps fault) found.pieces ∙ ap (next s from.pieces) found.fault) in
    let Comes : Outcome → Type 0 = λ o. Came t g.O.Observer c.args.p o n c.access_sent-found.new.observer c.access_sent-found.new.fetches c.send_found.new.machine c.send_found.new.observer c.send_found.new.fetches in
    came_followed_there t g.O.Observer c.args.p (side_outcome s from) (next s from.pieces from.fault) m n c.send_found.new.machine c.args.observer.now c.access_sent-found.new.observer c.send_found.new.observer c.args.fetches.now c.access_sent-found.new.fetches c.send_found.new.fetches
    found.queues found.came (subst Comes same c.send_found.ensures.came)
