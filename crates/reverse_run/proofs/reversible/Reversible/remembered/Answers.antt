use Rattle.std.proofs.Common.{◌+◌, length, arith}
use Rattle.reverse_run.specs.Moments.{ReversibleValue}
use Rattle.reverse_run.proofs.Unwinding.{remembered_pasts}
use Rattle.reverse_run.proofs.reversible.Reversible.remembered.Goals as goal

pub returns-clause-value : goal.returns-clause-value
returns-clause-value g c =
    let i = c.self.inside in
    let r : ReversibleValue g.row.T.Denot = record { machine = i.machine; pasts = i.pasts.items; depth = length i.pasts.items + length i.spare.items } in
    let number = remembered_pasts r in
    rw (← c.self.view_is) (omega (arith, number))
