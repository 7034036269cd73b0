use Rattle.std.proofs.Common.{ℕ, ◌≡◌, ◌==◌, not}
use Rattle.coy_text.proofs.Cuts.{after_spaces, words_of-after_spaces, front-after_spaces, place}
use Rattle.coy_text.proofs.words.without_spaces.Goals as goal

-- the line is cut behind its spaces
cut : (c : goal.After-result-1) → c.unwrap_or.result ≡ after_spaces c.args.line.now
cut c = place (λ (byte : ℕ). not (byte == 32)) c.args.line.now c.first_letter.result c.unwrap_or.result c.first_letter.ensures c.unwrap_or.ensures

pub returns-clause-words : goal.returns-clause-words
returns-clause-words c = rw (c.split_at.ensures.back, cut c) (words_of-after_spaces c.args.line.now)

pub returns-clause-front : goal.returns-clause-front
returns-clause-front c = rw (c.split_at.ensures.back, cut c) (front-after_spaces c.args.line.now)
