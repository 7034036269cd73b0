use Rattle.std.proofs.Common.{◌≡◌, List, ◌∙◌, ap, Some, None, subst}
use Rattle.std.specs.List.{position}
use Rattle.tlb_model.specs.declared.entry.Entry.{Entry}
use Rattle.tlb_model.specs.Entry.{is_of}
use Rattle.tlb_model.specs.Tlb.{IsSingle, without_page}
use Rattle.tlb_model.proofs.Kept.{without_page_is}
use Rattle.tlb_model.proofs.Removed.{removed_None, removed_Some}
use Rattle.tlb_model.proofs.tlb.Tlb.drop_page.Goals as goal

left : (c : goal.After-remove) → c.remove.new.self.items ≡ without_page c.self.inside.entries.items c.args.root c.args.page
left c =
    let P : List Entry → Type 0 = λ es. IsSingle es in
    let single : IsSingle c.args.self.now = subst P c.self.view_is c.self.invariant.single in
    let at : position (is_of c.args.root c.args.page) c.args.self.now ≡ Some c.in-Some.place = cc in
    c.remove.ensures.items ∙ rw c.self.view_is (removed_Some c.args.root c.args.page c.in-Some.place c.args.self.now single at)

pub invariant_of-self : goal.invariant_of-self
invariant_of-self c = rw (left c) (without_page_is c.self.inside.entries.items c.args.root c.args.page c.self.invariant)

pub returns-in-Some-clause-entries : goal.returns-in-Some-clause-entries
returns-in-Some-clause-entries c = left c ∙ ap (λ (es : List Entry). without_page es c.args.root c.args.page) c.self.view_is

pub returns-in-Some-clause-kept : goal.returns-in-Some-clause-kept
returns-in-Some-clause-kept c = invariant_of-self c

pub returns-in_default-clause-entries : goal.returns-in_default-clause-entries
returns-in_default-clause-entries c =
    let at : position (is_of c.args.root c.args.page) c.args.self.now ≡ None = cc in
    removed_None c.args.root c.args.page c.args.self.now at
