use Rattle.image_binary.proofs.Pushes.{then_more}
use Rattle.image_binary.proofs.pushing.push_held.Goals as goal

pub returns : goal.returns
returns c = then_more c.push_u16.ensures.bytes (then_more c.push_u8.ensures.bytes c.push_cap.ensures.bytes)
