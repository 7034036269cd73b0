use Rattle.std.proofs.Common.{List, sym, subst}
use Rattle.machine_state.specs.declared.taking.Name.{Name}
use Rattle.machine_state.specs.Taking.{names_of}
use Rattle.state_parts.specs.Marking.{AddsThere}
use Rattle.state_parts.proofs.Shown.{adds_all}
use Rattle.state_parts.proofs.performing.mark_shown.Goals as goal

pub returns-in-None-clause-adds : goal.returns-in-None-clause-adds
returns-in-None-clause-adds c =
    let s = c.args.objects.now in
    let old = names_of c.args.marked.now.items in
    let Adds : List Name → Type 0 = λ xs. AddsThere s old (names_of xs) in
    subst Adds (sym c.write_all.ensures.items) (adds_all s (names_of c.args.names.now) old c.requires.all c.requires.known)
