use Rattle.std.proofs.Common.{refl, subst, sym}
use Rattle.object_store.specs.Ahead.{IsBehind}
use Rattle.object_store.proofs.Writes.{put_cap}
use Rattle.machine_state.specs.Machine.{MachineValue}
use Rattle.machine_state.specs.CapAccess.{slot_in}
use Rattle.machine_state.proofs.Changed.{same_state}
use Rattle.machine_state.proofs.Kept.{kept_cap}
use Rattle.machine_state.proofs.machine.Machine.put_cap.Goals as goal

pub returns-clause-state : goal.returns-clause-state
returns-clause-state g c =
    let i = c.self.inside in
    rw (← c.self.view_is, c.set.ensures.slot, c.cappage_mut.ensures.value) (same_state _ _ i.queues i.queues i.halted (put_cap i.objects c.args.place.number (slot_in c.args.place) c.args.cap) refl)

pub invariant_of-self : goal.invariant_of-self
invariant_of-self g c =
    let i = c.self.inside in
    let Behind : MachineValue g.row.T.Denot → Type 0 = λ m. IsBehind m.objects.items c.args.cap in
    rw (c.set.ensures.slot, c.cappage_mut.ensures.value) (c.self.invariant.0, c.self.invariant.1, kept_cap i.objects i.queues c.args.place.number (slot_in c.args.place) c.args.cap (subst Behind (sym c.self.view_is) c.requires.behind) c.self.invariant.2)
