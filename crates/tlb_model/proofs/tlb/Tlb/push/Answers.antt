use Rattle.std.proofs.Common.{List, subst}
use Rattle.tlb_model.specs.declared.entry.Entry.{Entry}
use Rattle.tlb_model.specs.Tlb.{IsTlb}
use Rattle.tlb_model.proofs.Kept.{push_is}
use Rattle.tlb_model.proofs.tlb.Tlb.push.Goals as goal

pub invariant_of-self : goal.invariant_of-self
invariant_of-self c =
    let P : List Entry → Type 0 = λ es. IsTlb es in
    let is : IsTlb c.args.self.now = subst P c.self.view_is c.self.invariant in
    rw (c.push.ensures.items, c.self.view_is) (push_is c.args.self.now c.args.entry is c.requires.space c.requires.none)

pub returns-clause-kept : goal.returns-clause-kept
returns-clause-kept c = invariant_of-self c
