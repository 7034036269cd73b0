use Rattle.std.proofs.Common.{◌∙◌, ap, subst}
use Rattle.object_store.specs.Meaning.{meaning, state_map}
use Rattle.object_store.specs.Object.{Stays}
use Rattle.object_store.proofs.Live.{meaning_live}
use Rattle.invocation.specs.Answerer.{Answer, answerer}
use Rattle.invocation.specs.Target.{answer_of}
use Rattle.operations.specs.Meaning.{cap_map}
use Rattle.operations.specs.System.{system, Stored, Meant}
use Rattle.fault_path.specs.Fault.{answered, outcome_of, fault_names}
use Rattle.fault_path.proofs.FaultLaws.{heard_after}
use Rattle.fault_path.proofs.faults.deliver_fault.Goals as goal

pub returns-clause-outcome : goal.returns-clause-outcome
returns-clause-outcome c =
    let heard = c.target-callee.ensures.answer ∙ ap (answerer (state_map c.args.objects.now)) (meaning_live c.args.objects.now.items c.handler-cap.result c.handler-cap.ensures.live ∙ c.handler-cap.ensures.value) in
    c.settle.ensures.outcome ∙ ap outcome_of heard

pub returns-clause-after : goal.returns-clause-after
returns-clause-after c =
    let heard = c.target-callee.ensures.answer ∙ ap (answerer (state_map c.args.objects.now)) (meaning_live c.args.objects.now.items c.handler-cap.result c.handler-cap.ensures.live ∙ c.handler-cap.ensures.value) in
    heard_after Stored (system c.args.objects.now c.args.queues.now) _ (state_map c.args.objects.now) c.args.p c.args.code c.args.address (cap_map (meaning c.args.objects.now.items) c.args.walked) c.handler-cap.result (answer_of c.target-callee.result) c.handler-cap.ensures.value heard (c.settle.ensures.after ∙ ap (λ n. answered Stored (system c.args.objects.now c.args.queues.now) c.args.p c.args.code c.args.address n (answer_of c.target-callee.result)) c.payload.ensures.value)

pub returns-clause-means : goal.returns-clause-means
returns-clause-means c =
    let heard = c.target-callee.ensures.answer ∙ ap (answerer (state_map c.args.objects.now)) (meaning_live c.args.objects.now.items c.handler-cap.result c.handler-cap.ensures.live ∙ c.handler-cap.ensures.value) in
    heard_after Meant (system (state_map c.args.objects.now) c.args.queues.now) _ (state_map c.args.objects.now) c.args.p c.args.code c.args.address (cap_map (meaning c.args.objects.now.items) c.args.walked) c.handler-cap.result (answer_of c.target-callee.result) c.handler-cap.ensures.value heard (c.settle.ensures.means ∙ ap (λ n. answered Meant (system (state_map c.args.objects.now) c.args.queues.now) c.args.p c.args.code c.args.address n (answer_of c.target-callee.result)) c.payload.ensures.value)

pub returns-clause-stays : goal.returns-clause-stays
returns-clause-stays c =
    let heard = c.target-callee.ensures.answer ∙ ap (answerer (state_map c.args.objects.now)) (meaning_live c.args.objects.now.items c.handler-cap.result c.handler-cap.ensures.live ∙ c.handler-cap.ensures.value) in
    subst (λ (a : Answer). Stays (fault_names c.args.p a) c.args.objects.now c.settle.new.objects) heard c.settle.ensures.stays
