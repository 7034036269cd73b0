use Rattle.image_binary.proofs.Pushes.{then_more}
use Rattle.image_binary.proofs.pushing.push_register.Goals as goal

pub returns : goal.returns
returns c = λ sizes. then_more c.push_u16.ensures.bytes (then_more c.push_u8.ensures.bytes c.push_u32.ensures.bytes)
