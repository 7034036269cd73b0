use Rattle.std.proofs.Common.{ℕ, ◌≡◌, ◌==◌, sym, ◌∙◌, ap, length, drop, slice_index_or, []}
use Rattle.coy_text.proofs.Cuts.{word_end, first_word, other_words, more_words, place}
use Rattle.coy_text.proofs.words.next_word.Goals as goal

-- the line without the spaces at its front is cut before its next space
cut : (c : goal.After-split_at) → c.unwrap_or.result ≡ word_end c.without_spaces-line.result.now
cut c = place (λ (byte : ℕ). byte == 32) c.without_spaces-line.result.now c.first_mark.result c.unwrap_or.result c.first_mark.ensures c.unwrap_or.ensures

pub returns-clause-first : goal.returns-clause-first
returns-clause-first c =
    rw (c.split_at.ensures.front, cut c)
    (sym (first_word c.without_spaces-line.result.now c.without_spaces-line.ensures.front) ∙ ap (λ words. slice_index_or words 0 []) c.without_spaces-line.ensures.words)

pub returns-clause-rest : goal.returns-clause-rest
returns-clause-rest c =
    rw (c.split_at.ensures.back, cut c)
    (sym (other_words c.without_spaces-line.result.now c.without_spaces-line.ensures.front) ∙ ap (λ words. drop 1 words) c.without_spaces-line.ensures.words)

pub returns-clause-more : goal.returns-clause-more
returns-clause-more c =
    rw (c.split_at.ensures.back, c.split_at.ensures.front, cut c)
    (ap length (sym c.without_spaces-line.ensures.words) ∙ more_words c.without_spaces-line.result.now c.without_spaces-line.ensures.front)
