use Rattle.std.proofs.Common.{◌≡◌, ◌∙◌, ap, subst, sym}
use Rattle.cap_format.specs.declared.kind.CapKind.TheVariants.{Gpt}
use Rattle.object_store.specs.Store.{size_of}
use Rattle.object_store.specs.declared.sizes.Sizes.{Sizes}
use Rattle.map_cache.specs.Cache.{CacheValue}
use Rattle.machine_state.specs.Machine.{MachineValue}
use Rattle.machine_state.specs.State.{State, state_of}
use Rattle.state_parts.specs.Space.{TablesValue, state_in}
use Rattle.questions.specs.Question.{IsIndifferent, first_holds}
use Rattle.exploration.proofs.Slots.{atoms-beginning, look-asked, look-gone}
use Rattle.exploration.proofs.machine_space.space.MachineSpaceSpace.is_first.Goals as goal

pub go-requires : goal.go-requires
go-requires g c = let asked = rw (← c.self.view_is) at c.requires.held in asked.held

pub first_holds-requires-clause-indifferent : goal.first_holds-requires-clause-indifferent
first_holds-requires-clause-indifferent g c =
    let i = c.self.inside in
    let asked = rw (← c.self.view_is) at c.requires.held in
    let stands : state_of c.machine.result.now ≡ state_in i.states.tables c.args.key.now = ap (λ (m : MachineValue CacheValue). state_of m) c.machine.ensures.value ∙ c.in-Ok.ensures.state in
    λ known. subst (λ (s : State). IsIndifferent i.question.now i.policy.now s) (sym stands) (asked.is_known known)

pub returns-clause-value : goal.returns-clause-value
returns-clause-value g c =
    let i = c.self.inside in
    rw (← c.self.view_is) (c.first_holds.ensures.value ∙ ap (λ (s : State). first_holds i.question.now i.policy.now s c.args.test) (ap (λ (m : MachineValue CacheValue). state_of m) c.machine.ensures.value ∙ c.in-Ok.ensures.state))

-- ---- how many slots are read

pub returns-in_default-clause-spends : goal.returns-in_default-clause-spends
returns-in_default-clause-spends g c =
    let i = c.self.inside in
    rw (← c.self.view_is) (look-gone i.question.now i.states.tables i.start c.self.invariant.held c.go.ensures.least c.go.ensures.most)

pub returns-clause-spends : goal.returns-clause-spends
returns-clause-spends g c =
    let i = c.self.inside in
    let gpts = ap (λ (m : MachineValue CacheValue). size_of m.objects.items Gpt) c.machine.ensures.value ∙ ap (λ (z : Sizes). z.gpts) c.machine.ensures.sizes ∙ ap (λ (t : TablesValue). t.sizes.gpts) c.go.ensures.tables in
    let there = rw (← c.self.view_is) at c.requires.test in
    rw (← c.self.view_is)
    (look-asked i.question.now i.states.tables i.start c.self.invariant.held _ _ gpts (atoms-beginning i.question.now.properties c.args.test _ there) c.go.ensures.least c.go.ensures.most c.first_holds.ensures.least c.first_holds.ensures.most)
