use Rattle.image_binary.proofs.packing.put_head.Goals as goal

pub returns : goal.returns
returns g c = rw (c.as_slice.ensures, c.make_head.ensures, c.sizes.ensures.value, c.statements.ensures.value) at c.put_bytes.ensures
