use Rattle.std.proofs.Common.{◌∙◌, subst}
use Rattle.cap_format.specs.declared.kind.CapKind.TheVariants.{Process}
use Rattle.object_store.specs.Store.{Store}
use Rattle.machine_state.specs.State.{State, state_of}
use Rattle.machine_state.specs.Taking.{names_of}
use Rattle.kernel_core.specs.Event.{event_of}
use Rattle.event_reach.specs.Reach.{names_of as reached_names, Covers}
use Rattle.state_parts.specs.Marking.{AddsThere, HasProcesses, HasThere}
use Rattle.state_parts.proofs.Marked.{adds_then, has_covered}
use Rattle.state_parts.proofs.marking.mark_event.Goals as goal

pub returns-in_err-mark_reach-in-None-clause-adds : goal.returns-in_err-mark_reach-in-None-clause-adds
returns-in_err-mark_reach-in-None-clause-adds g c =
    let looked = c.in-None.ensures.looked.objects in
    let old = names_of c.args.marked.now.items in
    let middle = names_of c.mark_performers.new.marked.items in
    let new = names_of c.mark_reach.new.marked.items in
    let First : Store → Type 0 = λ s. AddsThere s old middle in
    let Second : Store → Type 0 = λ s. AddsThere s middle new in
    adds_then c.args.machine.now.objects old middle new (subst First looked c.mark_performers.ensures.adds) (subst Second (c.objects-in-None.ensures ∙ looked) c.mark_reach.ensures.adds)

pub returns-in_ok-mark_reach-in-None-clause-adds : goal.returns-in_ok-mark_reach-in-None-clause-adds
returns-in_ok-mark_reach-in-None-clause-adds g c =
    let looked = c.in-None.ensures.looked.objects in
    let old = names_of c.args.marked.now.items in
    let middle = names_of c.mark_performers.new.marked.items in
    let new = names_of c.mark_reach.new.marked.items in
    let First : Store → Type 0 = λ s. AddsThere s old middle in
    let Second : Store → Type 0 = λ s. AddsThere s middle new in
    adds_then c.args.machine.now.objects old middle new (subst First looked c.mark_performers.ensures.adds) (subst Second (c.objects-in-None.ensures ∙ looked) c.mark_reach.ensures.adds)

pub returns-in_ok-mark_reach-in-None-clause-has : goal.returns-in_ok-mark_reach-in-None-clause-has
returns-in_ok-mark_reach-in-None-clause-has g c =
    let s = c.args.machine.now.objects in
    let looked = c.in-None.ensures.looked.objects in
    let middle = names_of c.mark_performers.new.marked.items in
    let new = names_of c.mark_reach.new.marked.items in
    let found = reached_names c.reach_of_event-reach.result in
    let Second : Store → Type 0 = λ o. AddsThere o middle new in
    let second : AddsThere s middle new = subst Second (c.objects-in-None.ensures ∙ looked) c.mark_reach.ensures.adds in
    let changed = (event_of (state_of c.args.machine.now) c.args.event).changed in
    let Processes : Store → Type 0 = λ o. HasProcesses o changed middle in
    let ProcessesIn : State → Type 0 = λ t. HasProcesses c.plain_of_event.new.machine.objects (event_of t c.args.event).changed middle in
    let all : HasProcesses s changed middle = subst Processes looked (subst ProcessesIn c.in-None.ensures.looked.state c.in_ok-mark_performers-in-None.ensures.has) in
    let Has : Store → Type 0 = λ o. HasThere o found new in
    let has : HasThere s found new = subst Has (c.objects-in-None.ensures ∙ looked) c.in_ok-mark_reach-in-None.ensures.has in
    let CoversIn : State → Type 0 = λ t. Covers found (event_of t c.args.event).changed in
    let covers : Covers found (event_of (state_of c.args.machine.now) c.args.event).changed = subst CoversIn c.in-None.ensures.looked.state c.reach_of_event-reach.ensures.covers in
    has_covered s found changed new (record { each = λ n among there. second.before Process n (all.each n among there) }) has covers
