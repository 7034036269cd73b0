use Rattle.std.proofs.Common.{◌≡◌, List, rules, ap, ◌∙◌}
use Rattle.cap_format.specs.Capability.{bare}
use Rattle.cap_format.specs.declared.request.Request.{Request}
use Rattle.operations.specs.Change.{item_in}
use Rattle.operations.specs.Memory.{memory_operation}
use Rattle.operations.specs.Request.{request_map}
use Rattle.machine_state.specs.State.{State, state_of, process}
use Rattle.machine_state.specs.Setters.{advance}
use Rattle.machine_state.specs.Outcome.{Touch, spared_by}
use Rattle.machine_state.specs.Operation.{memory_touches, request_of}
use Rattle.kernel_core.proofs.operating.memory_op.Goals as goal

pub returns-clause-came : goal.returns-clause-came
returns-clause-came g c =
    let t = g.T.Translator in
    let m = c.args.machine.now in
    let s : State = state_of c.advance.new.self in
    let after : State = advance (state_of m) c.args.p in
    let touches : State → Request → List Touch = λ x request.
    let settled = memory_operation x.store (bare c.args.cap) request in
    memory_touches (bare c.args.cap) request settled.code (item_in settled.answer.changes) in
    let asked = request_map bare c.request-request.result in
    let same : touches s asked ≡ touches after (request_of (process after c.args.p) c.args.inv.now) =
    ap (touches s) c.request-request.ensures.means ∙ ap (λ (x : State). touches x (request_of (process x c.args.p) c.args.inv.now)) c.advance.ensures.state in
    record {
      state = search rules;
      records = search rules;
      counted = search rules;
      keeps = search rules;
      others = λ k elsewhere.
          ap (λ x. t.cache x k) c.reply.ensures.translator
          ∙ (c.operate-reply.ensures.caches k
          ∙ (ap (λ x. spared_by t.after t.without t.spared t.purged (t.kept x) (touches s asked) (t.cache x k)) c.advance.ensures.translator
          ∙ ap (λ (ts : List Touch). spared_by t.after t.without t.spared t.purged (t.kept m.translator) ts (t.cache m.translator k)) same));
    }
