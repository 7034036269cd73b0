use Rattle.std.proofs.Common.{◌≡◌, Some, map, refl, sym, ap, ◌∙◌, arith}
use Rattle.machine_state.specs.Taking.{names_of}
use Rattle.object_parts.specs.Objects.{object_in}
use Rattle.state_parts.specs.StandingLaws.{standing_in}
use Rattle.state_parts.specs.States.{tables_of}
use Rattle.state_parts.proofs.Stepping.{still_means}
use Rattle.state_parts.proofs.states.States.is_at.Goals as goal

pub returns : goal.returns
returns c = λ e.
    let i = c.self.inside in
    let key = c.args.key.now in
    let t = tables_of i.sizes (names_of i.names.items) (map object_in i.parts) (map standing_in i.standings) in
    let same : i.at.items ≡ key.parts.items = sym c.as_slice.ensures.value ∙ c.same_numbers.ensures e ∙ c.as_slice-2.ensures.value in
    let known : c.in-Some.standing ≡ key.standing = omega (arith, c.if-standing-key.false) in
    rw (← c.self.view_is) (still_means t key i.board.desk i.at.items i.stands i.board.machine c.self.invariant.0 c.self.invariant.1 c.self.invariant.2 c.is_still.ensures.even (c.if-not-is_still.ensures.objects refl) same (c.in-Some.is ∙ ap Some known))
