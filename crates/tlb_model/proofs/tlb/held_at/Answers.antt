use Rattle.std.proofs.Common.{◌≡◌, ◌<◌, List, length, get_or, sym, ap, ◌∙◌, subst, arith}
use Rattle.std.proofs.lemmas.Option.{slice_get-get_or}
use Rattle.tlb_model.specs.declared.entry.Entry.{Entry}
use Rattle.tlb_model.specs.Entry.{no_entry}
use Rattle.tlb_model.specs.Tlb.{IsSingle, look}
use Rattle.tlb_model.proofs.Looks.{look-placed}
use Rattle.tlb_model.proofs.tlb.held_at.Goals as goal

pub returns : goal.returns
returns c =
    let held = c.deref.result.now in
    let same : held ≡ c.args.entries.now.items = c.deref.ensures.0 in
    let single : IsSingle held = subst (λ (es : List Entry). IsSingle es) (sym same) c.requires.single in
    let within : c.args.place < length held = omega (arith, c.if-place-len.false, c.len.ensures.value, ap (λ (es : List Entry). length es) same) in
    let at = slice_get-get_or held c.args.place no_entry within in
    ap (λ (es : List Entry). look es c.args.root c.args.page) (sym same)
    ∙ look-placed held c.args.place c.args.root c.args.page (get_or held c.args.place no_entry) single at (sym c.is_of.ensures ∙ c.if-not-is_of.false)
