-- A loop that copies the elements of a list over those of another.
use Rattle.std.proofs.Common.{◌≡◌, ℕ, ◌+◌, ◌<◌, List, [], ◌∷◌, ◌++◌, take, set, get_or, length, sym, ap, ◌∙◌}
use Rattle.std.proofs.lemmas.List.{take_more, take_more_set}

-- one more element is copied
pub copied_more : {A : Type 0} (xs ys : List A) (i : ℕ) (d : A) → i < length xs → i < length ys → take i xs ≡ take i ys → take (i + 1) (set xs i (get_or ys i d)) ≡ take (i + 1) ys
copied_more xs ys i d within there same =
    take_more_set xs i (get_or ys i d) within ∙ ap (λ front. front ++ get_or ys i d ∷ []) same ∙ sym (take_more ys i d there)
