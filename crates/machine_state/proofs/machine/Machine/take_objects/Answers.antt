use Rattle.std.proofs.Common.{◌≤◌, ℕ, sym, ap, ◌∙◌, subst}
use Rattle.cap_format.specs.declared.kind.CapKind.TheVariants.{Process}
use Rattle.object_store.specs.declared.sizes.Sizes.{Sizes}
use Rattle.object_store.proofs.Restored.{size_of_same}
use Rattle.machine_state.proofs.machine.Machine.take_objects.Goals as goal

pub copy_from-requires-clause-processes : goal.copy_from-requires-clause-processes
copy_from-requires-clause-processes g c =
    let o = c.self.inside.objects in
    let sizes = rw (← c.self.view_is) at c.requires.sizes in
    c.self.invariant.2.fits.processes ∙ size_of_same o c.args.from.now sizes Process ∙ sym c.requires.machine.fits.processes

pub copy_from-requires-clause-harts : goal.copy_from-requires-clause-harts
copy_from-requires-clause-harts g c =
    let sizes = rw (← c.self.view_is) at c.requires.sizes in
    c.self.invariant.2.fits.harts ∙ ap (λ (z : Sizes). z.harts) sizes ∙ sym c.requires.machine.fits.harts

pub invariant_of-self : goal.invariant_of-self
invariant_of-self g c =
    let sizes = rw (← c.self.view_is) at c.requires.sizes in
    let AtMost : ℕ → Type 0 = λ n. n ≤ g.T.Translator.harts c.self.inside.translator in
    let harts = subst AtMost (ap (λ (z : Sizes). z.harts) sizes) c.self.invariant.1 in
    (c.take_each.ensures.coherent, rw (c.take_each.ensures.objects, c.take_each.ensures.harts) harts, rw (c.take_each.ensures.objects, c.copy_from.ensures.copy) c.requires.machine)
