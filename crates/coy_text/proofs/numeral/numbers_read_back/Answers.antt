use Rattle.coy_text.proofs.NumeralLaws.{dec_of-decimal, hex_of-hex_text}
use Rattle.coy_text.proofs.numeral.numbers_read_back.Goals as goal

pub returns-clause-dec : goal.returns-clause-dec
returns-clause-dec c = dec_of-decimal

pub returns-clause-hex : goal.returns-clause-hex
returns-clause-hex c = hex_of-hex_text
