use Rattle.image_binary.proofs.Pushes.{then_more}
use Rattle.image_binary.proofs.pushing.push_region.Goals as goal

pub returns : goal.returns
returns c = λ sizes. rw (← c.bits.ensures) (then_more c.push_u16.ensures.bytes (then_more c.push_u8.ensures.bytes (then_more c.push_u8-2.ensures.bytes (then_more c.push_u16-2.ensures.bytes c.push_u8-3.ensures.bytes))))
