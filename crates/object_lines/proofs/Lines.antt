-- Lines that end in a word of their own.
use Rattle.std.proofs.Common.{ℕ, ◌≡◌, List, [], ◌∷◌, ◌++◌, sym, ap, ◌∙◌, append_assoc, append-nil}
use Rattle.coy_io.specs.Lines.{line_feed}
use Rattle.coy_text.specs.Spaced.{behind, line_of}
use Rattle.object_lines.specs.Words.{line_text}

-- one more word behind others
behind-more : (words : List (List ℕ)) (word : List ℕ) → behind (words ++ word ∷ []) ≡ behind words ++ 32 ∷ word
behind-more [] word = ap (λ text. 32 ∷ text) (append-nil word)
behind-more (first ∷ words) word =
    ap (λ text. 32 ∷ (first ++ text)) (behind-more words word)
    ∙ ap (λ text. 32 ∷ text) (sym (append_assoc first (behind words) (32 ∷ word)))

line_of-more : (first : List ℕ) (words : List (List ℕ)) (word : List ℕ) → line_of ((first ∷ words) ++ word ∷ []) ≡ line_of (first ∷ words) ++ 32 ∷ word
unfolding line_of
line_of-more first words word = ap (λ text. first ++ text) (behind-more words word) ∙ sym (append_assoc first (behind words) (32 ∷ word))

-- what was appended is such a line
pub line_ended : (old begun worded ended : List ℕ) (first : List ℕ) (words : List (List ℕ)) (word : List ℕ)
    → begun ≡ old ++ line_of (first ∷ words) → worded ≡ begun ++ 32 ∷ word → ended ≡ worded ++ line_feed
    → ended ≡ old ++ line_text ((first ∷ words) ++ word ∷ [])
line_ended old begun worded ended first words word b w e =
    let front = line_of (first ∷ words) in
    e ∙ ap (λ text. text ++ line_feed) (w ∙ ap (λ text. text ++ 32 ∷ word) b ∙ append_assoc old front (32 ∷ word))
    ∙ append_assoc old (front ++ 32 ∷ word) line_feed
    ∙ ap (λ text. old ++ (text ++ line_feed)) (sym (line_of-more first words word))
