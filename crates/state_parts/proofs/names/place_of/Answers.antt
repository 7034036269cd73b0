use Rattle.std.proofs.Common.{ℕ, ◌+◌, sym, subst}
use Rattle.machine_state.specs.Taking.{name_of}
use Rattle.state_parts.specs.Keys.{in_order}
use Rattle.state_parts.specs.Looking.{IsPlace}
use Rattle.state_parts.proofs.Places.{place_there}
use Rattle.state_parts.proofs.names.place_of.Goals as goal

pub returns : goal.returns
returns c =
    let name = name_of c.args.name in
    let At : ℕ → Type 0 = λ n. IsPlace (in_order c.args.sizes) name (n + c.args.name.number) in
    subst At (sym c.before_kind.ensures) (place_there c.args.sizes name c.requires)
