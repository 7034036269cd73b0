use Rattle.std.proofs.Common.{◌≡◌, List, Option, refl, ap, ◌∙◌, subst}
use Rattle.object_store.specs.Meaning.{meaning}
use Rattle.string_move.specs.declared.piece.Piece.{Piece}
use Rattle.machine_state.specs.State.{State, state_of}
use Rattle.machine_state.specs.Outcome.{Outcome}
use Rattle.machine_state.specs.Came.{Came}
use Rattle.messages.specs.declared.string_fault.StringFault.{StringFault}
use Rattle.string_move.specs.Spans.{spans}
use Rattle.walk_meaning.specs.declared.kind.Kind.TheVariants.{Load}
use Rattle.messages.specs.Followed.{followed}
use Rattle.messages.specs.Strings.{Side, side, side_outcome, string_fault_map}
use Rattle.messages.proofs.Joined.{came_followed_there}
use Rattle.kernel_core.specs.KernelOperation.{logged_side, logged, log_string}
use Rattle.kernel_core.proofs.logging.log_string.Goals as goal

pub returns-clause-came : goal.returns-clause-came
unfolding log_string
returns-clause-came g c =
    let t = g.T.Translator in
    let m = c.args.machine.now in
    let s = state_of m in
    let n = c.access_string-found.new.machine in
    let found = c.access_string-found.ensures in
    let string : Side = side s c.args.p Load (spans c.at-at.result c.length-size.result) in
    let sent : string ≡ logged_side s c.args.p c.args.inv.now = rw (c.at-at.ensures.value, c.length-size.ensures.value) refl in
    let pieces = c.access_string-found.result.pieces in
    let fault = string_fault_map (meaning n.objects.items) c.access_string-found.result.fault in
    let next : State → List Piece → Option StringFault → Outcome = λ x pieces f. logged x c.args.p c.args.inv.now pieces f in
    let same : next (state_of n) pieces fault ≡ next s string.pieces string.fault =
    ap (λ (x : State). next x pieces fault) found.came.state
    ∙ (ap (λ (ps : List Piece). next s ps fault) found.pieces ∙ ap (next s string.pieces) found.fault) in
    let Comes : Outcome → Type 0 = λ o. Came t g.O.Observer c.args.p o n c.access_string-found.new.observer c.access_string-found.new.fetches c.log_found.new.machine c.log_found.new.observer c.log_found.new.fetches in
    let All : Side → Type 0 = λ x. Came t g.O.Observer c.args.p (followed (side_outcome s x) (next s x.pieces x.fault)) m c.args.observer.now c.args.fetches.now c.log_found.new.machine c.log_found.new.observer c.log_found.new.fetches in
    subst All sent
    (came_followed_there t g.O.Observer c.args.p (side_outcome s string) (next s string.pieces string.fault) m n c.log_found.new.machine c.args.observer.now c.access_string-found.new.observer c.log_found.new.observer c.args.fetches.now c.access_string-found.new.fetches c.log_found.new.fetches
    found.queues found.came (subst Comes same c.log_found.ensures.came))
