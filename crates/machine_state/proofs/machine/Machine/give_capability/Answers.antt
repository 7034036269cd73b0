use Rattle.std.proofs.Common.{refl, subst, sym}
use Rattle.object_store.specs.Ahead.{IsBehind}
use Rattle.object_store.proofs.Writes.{put_capreg}
use Rattle.machine_state.specs.Machine.{MachineValue}
use Rattle.machine_state.proofs.Changed.{same_state}
use Rattle.machine_state.proofs.Kept.{kept_capreg}
use Rattle.machine_state.proofs.machine.Machine.give_capability.Goals as goal

pub returns-clause-state : goal.returns-clause-state
returns-clause-state g c =
    let i = c.self.inside in
    rw (← c.self.view_is, c.set_capreg.ensures.capreg, c.process_mut.ensures.value) (same_state _ _ i.queues i.queues i.halted (put_capreg i.objects c.args.p c.args.to c.args.cap) refl)

pub invariant_of-self : goal.invariant_of-self
invariant_of-self g c =
    let i = c.self.inside in
    let Behind : MachineValue g.row.T.Denot → Type 0 = λ m. IsBehind m.objects.items c.args.cap in
    rw (c.set_capreg.ensures.capreg, c.process_mut.ensures.value) (c.self.invariant.0, c.self.invariant.1, kept_capreg i.objects i.queues c.args.p c.args.to c.args.cap (subst Behind (sym c.self.view_is) c.requires.behind) c.self.invariant.2)
