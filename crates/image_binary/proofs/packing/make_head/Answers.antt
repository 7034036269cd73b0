use Rattle.image_binary.proofs.Pushes.{then_more, from_none}
use Rattle.image_binary.proofs.packing.make_head.Goals as goal

pub returns : goal.returns
returns c =
    rw (← c.from.ensures)
    (from_none c.clear.ensures (then_more c.push_magic.ensures.bytes (then_more c.push_u16.ensures.bytes (then_more c.push_u16-2.ensures.bytes (then_more c.push_u16-3.ensures.bytes (then_more c.push_u16-4.ensures.bytes (then_more c.push_u16-5.ensures.bytes (then_more c.push_u16-6.ensures.bytes c.push_u32.ensures.bytes))))))))
