use Rattle.object_store.proofs.Writes.{capreg_means}
use Rattle.object_store.proofs.WritesBehind.{capreg_behind}
use Rattle.machine_state.proofs.machine.Machine.capability.Goals as goal

pub returns-clause-means : goal.returns-clause-means
returns-clause-means g c =
    rw (← c.self.view_is, c.capreg.ensures.value, c.process.ensures.value) (capreg_means c.self.inside.objects c.args.p c.args.i)

pub returns-clause-behind : goal.returns-clause-behind
returns-clause-behind g c =
    let i = c.self.inside in
    rw (← c.self.view_is, c.capreg.ensures.value, c.process.ensures.value) (capreg_behind i.objects c.self.invariant.2.behind c.args.p c.args.i)
