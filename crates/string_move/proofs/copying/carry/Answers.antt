use Rattle.std.proofs.Common.{◌≡◌, length, take, refl, ◌∙◌, arith}
use Rattle.std.proofs.lemmas.List.{length-take-le}
use Rattle.string_move.specs.Move.{size_of_pieces, copied}
use Rattle.string_move.proofs.copying.carry.Goals as goal

pub returns : goal.returns
unfolding copied
returns c =
    let count : length (take c.size.result c.args.room.now) ≡ size_of_pieces c.args.to.now = length-take-le c.size.result c.args.room.now (omega (arith, c.size.ensures, c.requires.room)) ∙ c.size.ensures in
    rw (c.scatter.ensures, c.gather.ensures, count, c.as_slice.ensures.value, c.as_slice-2.ensures.value) refl
