use Rattle.std.proofs.Common.{◌≡◌, ℕ, ◌<◌, Some, subst, sym}
use Rattle.schedules.specs.Queues.{hart_of}
use Rattle.machine_state.specs.Machine.{MachineValue}
use Rattle.machine_state.proofs.machine.Machine.move_home.Goals as goal

pub move_home-requires-clause-each : goal.move_home-requires-clause-each
move_home-requires-clause-each g c =
    let Each : MachineValue g.row.T.Denot → Type 0 = λ v. (hart p : ℕ) → hart_of v.queues hart ≡ Some p → p < c.args.many in
    subst Each (sym c.self.view_is) c.requires.each
