use Rattle.std.proofs.Common.{List, sym, ◌∙◌, subst}
use Rattle.std.proofs.lemmas.List.{take_all}
use Rattle.cap_format.specs.declared.kind.CapKind.TheVariants.{Null}
use Rattle.machine_state.specs.declared.taking.Name.{Name}
use Rattle.machine_state.specs.Taking.{names_of}
use Rattle.machine_state.proofs.Taken.{name_by, name_there}
use Rattle.state_parts.specs.Marking.{HaveCounts}
use Rattle.state_parts.proofs.Marked.{counts_none, counts_more}
use Rattle.state_parts.proofs.look.counts_same.Goals as goal

pub each-init : goal.each-init
each-init c = counts_none c.args.a.now c.args.b.now

pub count-requires : goal.count-requires
count-requires c = name_there c.args.a.now c.args.names.now c.each.i (name_by Null 0) c.each-test.true c.requires.here

pub count-requires-in-each : goal.count-requires-in-each
count-requires-in-each c = name_there c.args.b.now c.args.names.now c.each.i (name_by Null 0) c.each-test.true c.requires.there

pub each-preserved : goal.each-preserved
each-preserved c = counts_more c.args.a.now c.args.b.now c.args.names.now c.each.i (name_by Null 0) c.each-test.true (sym c.count.ensures.value ∙ c.if-count.false ∙ c.count-in-each.ensures.value) c.each.invariant

pub returns : goal.returns
returns c = λ _.
    let Have : List Name → Type 0 = λ xs. HaveCounts c.args.a.now c.args.b.now (names_of xs) in
    subst Have (take_all c.each.i c.args.names.now c.each-test.false) c.each.invariant
