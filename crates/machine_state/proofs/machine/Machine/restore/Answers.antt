use Rattle.std.proofs.Common.{◌≤◌, ℕ, map, sym, ap, ◌∙◌, subst}
use Rattle.cap_format.specs.declared.kind.CapKind.TheVariants.{Process}
use Rattle.object_store.specs.declared.sizes.Sizes.{Sizes}
use Rattle.object_store.specs.Saved.{restored}
use Rattle.object_store.proofs.Restored.{size_of_same, sizes_restored}
use Rattle.machine_state.specs.Past.{saved_at}
use Rattle.machine_state.proofs.machine.Machine.restore.Goals as goal

pub copy_from-requires-clause-processes : goal.copy_from-requires-clause-processes
copy_from-requires-clause-processes g c =
    let o = c.self.inside.objects in
    let saved = map (saved_at c.past.inside.copies) c.past.inside.places in
    let machine = rw (← c.self.view_is, ← c.past.view_is) at c.requires.machine in
    c.self.invariant.2.fits.processes ∙ sym (machine.fits.processes ∙ size_of_same (restored saved o) o (sizes_restored saved o) Process)

pub copy_from-requires-clause-harts : goal.copy_from-requires-clause-harts
copy_from-requires-clause-harts g c =
    let o = c.self.inside.objects in
    let saved = map (saved_at c.past.inside.copies) c.past.inside.places in
    let machine = rw (← c.self.view_is, ← c.past.view_is) at c.requires.machine in
    c.self.invariant.2.fits.harts ∙ sym (machine.fits.harts ∙ ap (λ (z : Sizes). z.harts) (sizes_restored saved o))

pub invariant_of-self : goal.invariant_of-self
invariant_of-self g c =
    let o = c.self.inside.objects in
    let saved = map (saved_at c.past.inside.copies) c.past.inside.places in
    let machine = rw (← c.self.view_is, ← c.past.view_is) at c.requires.machine in
    let AtMost : ℕ → Type 0 = λ n. n ≤ g.T.Translator.harts c.self.inside.translator in
    let harts = subst AtMost (sym (ap (λ (z : Sizes). z.harts) (sizes_restored saved o))) c.self.invariant.1 in
    (c.put_back.ensures.coherent, rw (c.put_back.ensures.objects, c.put_back.ensures.harts, ← c.past.view_is) harts, rw (c.put_back.ensures.objects, c.copy_from.ensures.copy, ← c.past.view_is) machine)
