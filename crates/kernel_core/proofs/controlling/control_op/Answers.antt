use Rattle.std.proofs.Common.{◌≡◌, rules, ap, ◌∙◌, Option}
use Rattle.cap_format.specs.Capability.{bare}
use Rattle.cap_format.specs.declared.item.Item.{Item}
use Rattle.cap_format.specs.declared.request.Request.{Request}
use Rattle.operations.specs.System.{Meant}
use Rattle.operations.specs.Change.{item_in}
use Rattle.operations.specs.Request.{request_map}
use Rattle.operations.specs.Control.{control_operation}
use Rattle.machine_state.specs.State.{State, state_of, process}
use Rattle.machine_state.specs.Setters.{advance}
use Rattle.machine_state.specs.Outcome.{spared_by}
use Rattle.machine_state.specs.Operation.{change_touches, request_of}
use Rattle.machine_state.proofs.Operated.{spent_changed}
use Rattle.kernel_core.proofs.Destroyed.{header_tells}
use Rattle.kernel_core.proofs.controlling.control_op.Goals as goal

pub returns-clause-came : goal.returns-clause-came
returns-clause-came g c =
    let t = g.T.Translator in
    let m = c.args.machine.now in
    let s : State = state_of c.advance.new.self in
    let asked = request_map bare c.request-request.result in
    let item : State → Request → Option Item = λ x request. item_in (control_operation Meant x.store (bare c.args.cap) request).answer.changes in
    let after : State = advance (state_of c.args.machine.now) c.args.p in
    let same : item s asked ≡ item after (request_of (process after c.args.p) c.args.inv.now) =
    ap (item s) c.request-request.ensures.means ∙ ap (λ (x : State). item x (request_of (process x c.args.p) c.args.inv.now)) c.advance.ensures.state in
    let named = header_tells s.store (bare c.args.cap) asked c.do_and_reply-changed.result c.do_and_reply-changed.ensures.changed in
    let nothing_fetched = spent_changed g.T.Translator.cost g.T.Translator.after g.T.Translator.without (g.T.Translator.kept c.args.machine.now.translator) (item_in (control_operation Meant s.store (bare c.args.cap) asked).answer.changes) in
    record {
      state = search rules;
      records = search rules;
      counted = search rules;
      keeps = search rules;
      others = λ k elsewhere.
          c.do_and_reply-changed.ensures.caches k
          ∙ (ap (λ x. spared_by t.after t.without t.spared t.purged (t.kept x) (change_touches (item s asked)) (t.cache x k)) c.advance.ensures.translator
          ∙ ap (λ (changed : Option Item). spared_by t.after t.without t.spared t.purged (t.kept m.translator) (change_touches changed) (t.cache m.translator k)) same);
    }
