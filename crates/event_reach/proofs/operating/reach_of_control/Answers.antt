use Rattle.std.proofs.Common.{◌≡◌, ◌≢◌, sym, ap, ◌∙◌}
use Rattle.cap_format.specs.declared.kind.CapKind.TheVariants.{Range}
use Rattle.cap_format.specs.declared.request.Request.{Request}
use Rattle.cap_format.specs.Capability.{Capability, bare}
use Rattle.operations.specs.System.{system}
use Rattle.machine_state.specs.State.{State, state_of, process}
use Rattle.machine_state.specs.Setters.{set_queues, advance}
use Rattle.machine_state.specs.Operation.{request_of}
use Rattle.event_reach.proofs.Operations.{range_covers, itself_covers, sent_advanced}
use Rattle.event_reach.proofs.operating.reach_of_control.Goals as goal

pub returns-in-Range : goal.returns-in-Range
returns-in-Range g c = λ q.
    let s : State = set_queues (state_of c.args.machine.now) q in
    let a : State = advance s c.args.p in
    let asked : Request = request_of (process a c.args.p) c.args.inv.now in
    let sent : asked.sent ≡ bare c.request-sent.result.sent = sent_advanced s c.args.p c.args.inv.now ∙ ap (λ (r : Request). r.sent) (sym c.request-sent.ensures.means) in
    range_covers a.store (bare c.args.cap) asked (system a.store a.queues) c.kind-in-Range.result c.object.result
    (sym c.kind.ensures.value ∙ c.in-Range.is)
    (ap (λ (x : Capability). x.kind) sent ∙ sym c.kind-in-Range.ensures.value)
    (ap (λ (x : Capability). x.object) sent ∙ sym c.object.ensures.value)

pub returns-in_default : goal.returns-in_default
returns-in_default g c = λ q.
    let s : State = set_queues (state_of c.args.machine.now) q in
    let a : State = advance s c.args.p in
    let asked : Request = request_of (process a c.args.p) c.args.inv.now in
    let other : c.args.cap.kind ≢ Range = λ e. c.in_default.not-Range (c.kind.ensures.value ∙ e) in
    itself_covers a.store (bare c.args.cap) asked (system a.store a.queues) c.kind-in_default.result c.object-in_default.result other (sym c.kind-in_default.ensures.value) (sym c.object-in_default.ensures.value)
