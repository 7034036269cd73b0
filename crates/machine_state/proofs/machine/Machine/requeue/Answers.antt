use Rattle.std.proofs.Common.{◌≡◌, ◌<◌, ◌∙◌, sym, subst}
use Rattle.cap_format.specs.declared.kind.CapKind.TheVariants.{Process}
use Rattle.object_store.specs.Store.{size_of, process_at}
use Rattle.schedules.specs.Ready.{places_due}
use Rattle.machine_state.specs.Machine.{MachineValue}
use Rattle.machine_state.proofs.Nowhere.{left_stopped}
use Rattle.machine_state.proofs.Changed.{same_state}
use Rattle.machine_state.proofs.machine.Machine.requeue.Goals as goal

pub returns-clause-state : goal.returns-clause-state
returns-clause-state g c =
    let i = c.self.inside in
    let after = c.leave.ensures.after in
    rw (← c.self.view_is, ← after) (same_state _ _ _ _ i.halted c.make_ready.ensures.means c.make_ready.ensures.queues_mean)

pub returns-clause-stopped : goal.returns-clause-stopped
returns-clause-stopped g c =
    let i = c.self.inside in
    let There : MachineValue g.row.T.Denot → Type 0 = λ m. c.args.p < size_of m.objects.items Process in
    let Stopped : MachineValue g.row.T.Denot → Type 0 = λ m. places_due (process_at m.objects c.args.p).state ≡ 0 in
    λ stopped.
    let same : c.leave.new.self ≡ i.queues = c.leave.ensures.after ∙ left_stopped i.objects i.queues c.args.p c.self.invariant.2 (subst There (sym c.self.view_is) c.requires.there) (subst Stopped (sym c.self.view_is) stopped) in
    rw (← c.self.view_is, ← same) (same_state _ _ _ _ i.halted c.make_ready.ensures.means c.make_ready.ensures.queues_mean)
