use Rattle.decoded_words.proofs.Kept.{kept-start}
use Rattle.decoded_words.proofs.decoder.Decoder.new.Goals as goal

pub invariant_of-result : goal.invariant_of-result
invariant_of-result c = kept-start 256
