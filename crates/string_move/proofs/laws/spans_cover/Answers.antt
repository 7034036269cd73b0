use Rattle.string_move.proofs.Cuts.{spans_cover, spans_in_one_page, length-spans}
use Rattle.string_move.proofs.laws.spans_cover.Goals as goal

pub returns : goal.returns
returns c = record { exactly = spans_cover; in_one_page = spans_in_one_page; most = length-spans }
