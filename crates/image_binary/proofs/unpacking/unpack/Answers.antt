use Rattle.image_binary.proofs.Answered.{image_is, finds}
use Rattle.image_binary.proofs.unpacking.unpack.Goals as goal

pub returns-clause-image : goal.returns-clause-image
returns-clause-image g c = image_is c.read_image.result (g.S.Source.held c.args.input.now) (g.S.Source.held c.read_image.new.input) c.read_image.ensures.unpacks

pub returns-clause-listing : goal.returns-clause-listing
returns-clause-listing g c l packed few is =
    finds c.read_image.result l (g.S.Source.held c.args.input.now) (g.S.Source.held c.read_image.new.input) packed few is c.read_image.ensures.unpacks
