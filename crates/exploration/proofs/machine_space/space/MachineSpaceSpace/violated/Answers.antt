use Rattle.std.proofs.Common.{◌≡◌, ◌∙◌, ap, subst, sym}
use Rattle.cap_format.specs.declared.kind.CapKind.TheVariants.{Gpt}
use Rattle.object_store.specs.Store.{size_of}
use Rattle.object_store.specs.declared.sizes.Sizes.{Sizes}
use Rattle.map_cache.specs.Cache.{CacheValue}
use Rattle.machine_state.specs.Machine.{MachineValue}
use Rattle.machine_state.specs.State.{State, state_of}
use Rattle.state_parts.specs.Space.{state_in}
use Rattle.questions.specs.Question.{IsIndifferent, first_failing}
use Rattle.exploration.proofs.Slots.{atoms-all, look-judged}
use Rattle.exploration.proofs.machine_space.space.MachineSpaceSpace.violated.Goals as goal

pub first_failing-requires-clause-indifferent : goal.first_failing-requires-clause-indifferent
first_failing-requires-clause-indifferent g c =
    let i = c.self.inside in
    let asked = rw (← c.self.view_is) at c.requires.held in
    let stands = rw (← c.self.view_is) at c.requires.stands in
    let here : state_of c.machine.result.now ≡ state_in i.states.tables c.args._key.now = ap (λ (m : MachineValue CacheValue). state_of m) c.machine.ensures.value ∙ stands in
    λ known. subst (λ (s : State). IsIndifferent i.question.now i.policy.now s) (sym here) (asked.is_known known)

pub returns-clause-value : goal.returns-clause-value
returns-clause-value g c =
    let i = c.self.inside in
    let stands = rw (← c.self.view_is) at c.requires.stands in
    rw (← c.self.view_is) (c.first_failing.ensures.value ∙ ap (λ (s : State). first_failing i.question.now i.policy.now s) (ap (λ (m : MachineValue CacheValue). state_of m) c.machine.ensures.value ∙ stands))

-- ---- how many slots are read

pub returns-clause-spends : goal.returns-clause-spends
returns-clause-spends g c =
    let i = c.self.inside in
    let gpts = ap (λ (m : MachineValue CacheValue). size_of m.objects.items Gpt) c.machine.ensures.value ∙ ap (λ (z : Sizes). z.gpts) c.machine.ensures.sizes in
    rw (← c.self.view_is)
    (look-judged i.question.now i.states.tables i.start c.self.invariant.held _ _ gpts (atoms-all i.question.now.properties) c.first_failing.ensures.least c.first_failing.ensures.most)
