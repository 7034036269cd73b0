use Rattle.std.proofs.Common.{◌≡◌, ◌∷◌, ◌&&◌, Bool, true, if◌then◌else◌, sym, ap, ◌∙◌, subst}
use Rattle.machine_state.specs.State.{State, state_of}
use Rattle.machine_state.specs.Outcome.{Outcome, process_name}
use Rattle.machine_state.specs.Came.{Came, Leaves}
use Rattle.messages.specs.Followed.{followed}
use Rattle.messages.specs.Waiting.{listen}
use Rattle.messages.proofs.Joined.{came_followed, leaves_followed}
use Rattle.kernel_core.specs.SystemCall.{Sending, send}
use Rattle.kernel_core.proofs.invoking.send_and_receive.Goals as goal

pub returns-then-receive-clause-came : goal.returns-then-receive-clause-came
unfolding listen
returns-then-receive-clause-came g c =
    let t = g.T.Translator in
    let m = c.args.machine.now in
    let n = c.send-delivered.new.machine in
    let sent : Sending = send (state_of m) c.args.p c.args.inv.now in
    let next : State → Outcome = λ x. listen x c.args.p c.args.inv.now in
    let Comes : Outcome → Type 0 = λ o. Came t g.O.Observer c.args.p o n c.send-delivered.new.observer c.send-delivered.new.fetches c.listen.new.machine c.listen.new._observer c.listen.new._fetches in
    let All : Bool → Type 0 = λ b. Came t g.O.Observer c.args.p (if b then followed sent.outcome (next sent.outcome.state) else sent.outcome) m c.args.observer.now c.args.fetches.now c.listen.new.machine c.listen.new._observer c.listen.new._fetches in
    let delivers : sent.delivers ≡ true = sym c.send-delivered.ensures.delivered ∙ c.if-delivered.true in
    let receives : c.args.inv.now.receive ≡ true = sym c.receive.ensures.value ∙ c.if-receive.true in
    let both : true ≡ sent.delivers && c.args.inv.now.receive = sym (ap (λ b. b && c.args.inv.now.receive) delivers ∙ receives) in
    subst All both
    (came_followed t g.O.Observer c.args.p sent.outcome (next sent.outcome.state) m n c.listen.new.machine c.args.observer.now c.send-delivered.new.observer c.listen.new._observer c.args.fetches.now c.send-delivered.new.fetches c.listen.new._fetches
    (λ k elsewhere. ap (λ x. t.cache x k) c.listen.ensures.translator)
    c.send-delivered.ensures.came (subst Comes (ap next c.send-delivered.ensures.came.state) c.listen.ensures.came))

pub returns-then-receive-clause-leaves : goal.returns-then-receive-clause-leaves
returns-then-receive-clause-leaves g c =
    let m = c.args.machine.now in
    let n = c.send-delivered.new.machine in
    let sent : Sending = send (state_of m) c.args.p c.args.inv.now in
    let next : State → Outcome = λ x. listen x c.args.p c.args.inv.now in
    let Left : Outcome → Type 0 = λ o. Leaves (process_name c.args.p ∷ o.changed) n c.listen.new.machine in
    let All : Bool → Type 0 = λ b. Leaves (process_name c.args.p ∷ (if b then followed sent.outcome (next sent.outcome.state) else sent.outcome).changed) m c.listen.new.machine in
    let delivers : sent.delivers ≡ true = sym c.send-delivered.ensures.delivered ∙ c.if-delivered.true in
    let receives : c.args.inv.now.receive ≡ true = sym c.receive.ensures.value ∙ c.if-receive.true in
    let both : true ≡ sent.delivers && c.args.inv.now.receive = sym (ap (λ b. b && c.args.inv.now.receive) delivers ∙ receives) in
    subst All both
    (leaves_followed (process_name c.args.p) sent.outcome.changed (next sent.outcome.state).changed m n c.listen.new.machine
    c.send-delivered.ensures.leaves (subst Left (ap next c.send-delivered.ensures.came.state) c.listen.ensures.leaves))
