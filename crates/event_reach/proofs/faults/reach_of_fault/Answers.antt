use Rattle.std.proofs.Common.{ap, ◌∙◌, subst}
use Rattle.object_store.specs.Meaning.{state_map}
use Rattle.object_store.proofs.Live.{meaning_live}
use Rattle.invocation.specs.Answerer.{Answer, answerer}
use Rattle.invocation.specs.Target.{answer_of}
use Rattle.messages.specs.Fault.{fault}
use Rattle.fault_path.specs.Fault.{fault_names}
use Rattle.event_reach.specs.Reach.{names_of, Covers}
use Rattle.event_reach.proofs.Covering.{covers_fault}
use Rattle.event_reach.proofs.faults.reach_of_fault.Goals as goal

pub returns : goal.returns
unfolding fault
returns g c = λ q code at.
    let s = c.args.machine.now.objects in
    let callee = c.target.result in
    let cap = c.handler-cap in
    let heard = rw c.objects-objects.ensures at c.target.ensures.answer in
    let live = rw c.objects-objects.ensures at cap.ensures.live in
    let value = rw c.objects-objects.ensures at cap.ensures.value in
    let answers = heard ∙ ap (answerer (state_map s)) (meaning_live s.items cap.result live ∙ value) in
    let Covered : Answer → Type 0 = λ a. Covers (names_of c.reach_of_hearer.result) (fault_names c.args.p a) in
    subst Covered answers (rw c.reach_of_hearer.ensures (covers_fault c.args.p (answer_of callee)))
