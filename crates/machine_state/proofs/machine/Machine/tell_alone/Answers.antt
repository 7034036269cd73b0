use Rattle.std.proofs.Common.{◌≡◌, ◌<◌, Some, sym, subst, arith}
use Rattle.cap_format.specs.declared.kind.CapKind.TheVariants.{Process}
use Rattle.object_store.specs.Store.{size_of}
use Rattle.schedules.specs.Queues.{hart_of}
use Rattle.schedules.specs.Ready.{runs_of}
use Rattle.machine_state.specs.Machine.{MachineValue}
use Rattle.machine_state.proofs.OnHart.{one_hart}
use Rattle.machine_state.proofs.machine.Machine.tell_alone.Goals as goal

pub returns : goal.returns
returns g c =
    let i = c.self.inside in
    let is = c.self.invariant.2 in
    let There : MachineValue g.row.T.Denot → Type 0 = λ m. c.args.p < size_of m.objects.items Process in
    let known = subst There (sym c.self.view_is) c.requires.there in
    let sizes = is.agrees.sizes in
    let fits = is.fits.processes in
    let OnHart : (_ : _) → MachineValue g.row.T.Denot → Type 0 = λ k m. hart_of m.queues k ≡ Some c.args.p in
    λ k other e.
    other (one_hart (runs_of i.objects i.queues) c.args.p k c.args.hart is.agrees (omega (arith, known, sizes, fits)) (subst (OnHart k) (sym c.self.view_is) e) (subst (OnHart c.args.hart) (sym c.self.view_is) c.requires.on_hart))
