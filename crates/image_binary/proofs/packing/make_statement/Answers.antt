use Rattle.image_binary.proofs.Pushes.{then_more, from_none}
use Rattle.image_binary.proofs.packing.make_statement.Goals as goal

pub returns : goal.returns
returns c = λ sizes. from_none c.clear.ensures (then_more c.push_form.ensures.bytes (c.push_fields.ensures sizes))
