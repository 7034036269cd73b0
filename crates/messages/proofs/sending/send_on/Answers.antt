use Rattle.std.proofs.Common.{◌≡◌, List, refl, ap, ◌∙◌, subst}
use Rattle.walk_meaning.specs.declared.kind.Kind.TheVariants.{Store as Put}
use Rattle.string_move.specs.declared.piece.Piece.{Piece}
use Rattle.string_move.specs.Spans.{spans}
use Rattle.machine_state.specs.State.{State, state_of}
use Rattle.machine_state.specs.Outcome.{Outcome}
use Rattle.machine_state.specs.Came.{Came, CameUnasked}
use Rattle.messages.specs.Followed.{followed}
use Rattle.messages.specs.Strings.{Side, side, side_outcome}
use Rattle.messages.specs.Message.{received_side, delivered}
use Rattle.messages.proofs.Joined.{came_followed_there, came_of_unasked}
use Rattle.messages.proofs.sending.send_on.Goals as goal

pub returns-clause-came : goal.returns-clause-came
returns-clause-came g c =
    let t = g.T.Translator in
    let w = g.O.Observer in
    let m = c.args.machine.now in
    let s = state_of m in
    let n = c.access_string-found.new.machine in
    let found = c.access_string-found.ensures in
    let string : Side = side s c.args.to Put (spans c.at-at.result c.min-size.result) in
    let taken : string ≡ received_side s c.args.to c.args.inv.now.length =
    rw (c.min-size.ensures, c.at-at.ensures.value, c.length.ensures.value, c.bound.ensures.value, c.acceptance-accept.ensures) refl in
    let next : State → List Piece → Outcome = λ x pieces. delivered x c.args.p c.args.endpoint c.args.to c.args.inv.now c.args.from.now pieces in
    let same : next (state_of n) c.access_string-found.result.pieces ≡ next s string.pieces =
    ap (λ (x : State). next x c.access_string-found.result.pieces) found.came.state ∙ ap (next s) found.pieces in
    let Comes : Outcome → Type 0 = λ o. CameUnasked w o n c.access_string-found.new.observer c.deliver.new.machine c.deliver.new.observer in
    let All : Side → Type 0 = λ x. Came t w c.args.p (followed (side_outcome s x) (next s x.pieces)) m c.args.observer.now c.args.fetches.now c.deliver.new.machine c.deliver.new.observer c.access_string-found.new.fetches in
    subst All taken
    (came_followed_there t w c.args.p (side_outcome s string) (next s string.pieces) m n c.deliver.new.machine c.args.observer.now c.access_string-found.new.observer c.deliver.new.observer c.args.fetches.now c.access_string-found.new.fetches c.access_string-found.new.fetches
    found.queues found.came
    (came_of_unasked t w c.args.p (next s string.pieces) n c.deliver.new.machine c.access_string-found.new.observer c.deliver.new.observer c.access_string-found.new.fetches refl (subst Comes same c.deliver.ensures.came)))
