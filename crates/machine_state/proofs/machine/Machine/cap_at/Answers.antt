use Rattle.machine_state.proofs.Changed.{found_means, found_behind}
use Rattle.machine_state.proofs.machine.Machine.cap_at.Goals as goal

pub returns-clause-means : goal.returns-clause-means
returns-clause-means g c =
    rw (← c.self.view_is, c.read_through.ensures, c.get-cap.ensures.value, c.cappage.ensures.value) (found_means c.self.inside.objects c.args.place)

pub returns-clause-behind : goal.returns-clause-behind
returns-clause-behind g c =
    let i = c.self.inside in
    rw (← c.self.view_is, c.read_through.ensures, c.get-cap.ensures.value, c.cappage.ensures.value) (found_behind i.objects c.args.place c.self.invariant.2.behind)
