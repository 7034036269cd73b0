use Rattle.std.proofs.Common.{refl, sym, ◌∙◌}
use Rattle.cap_format.specs.Spelling.{spelling}
use Rattle.cap_format.proofs.KindNumbers.{kind_of_number}
use Rattle.cap_format.proofs.Words.{words_of, same_numbers}
use Rattle.cap_format.proofs.codec.spellings_differ.Goals as goal

pub returns : goal.returns
returns _ c d isc isd same =
    let left = words_of (spelling c) c (record { in_range = isc; bytes_are = refl }) in
    let right = words_of (spelling c) d (record { in_range = isd; bytes_are = same }) in
    same_numbers c d isc isd
    (kind_of_number c.kind d.kind (sym left.kind ∙ right.kind))
    (sym left.head ∙ right.head)
    (sym left.second ∙ right.second)
    (sym left.object ∙ right.object)
    (sym left.slot ∙ right.slot)
