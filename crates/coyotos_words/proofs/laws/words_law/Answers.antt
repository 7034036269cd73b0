use Rattle.coyotos_words.proofs.Usage.{each-asked, each-named}
use Rattle.coyotos_words.proofs.laws.words_law.Goals as goal

pub returns : goal.returns
returns c = record { asked = each-asked; named = each-named }
