use Rattle.decoded_words.proofs.Kept.{kept-set}
use Rattle.decoded_words.proofs.decoder.Decoder.decode.Goals as goal

pub invariant_of-self : goal.invariant_of-self
invariant_of-self c = kept-set c.self.inside.entries c.place_of-place.result c.args.word c.in_ok-insn.insn c.in_ok-insn.ensures.ok c.in_ok-insn.ensures.in_range c.self.invariant
