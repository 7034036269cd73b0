-- A text that grows at its end.
use Rattle.std.proofs.Common.{ℕ, ◌≡◌, List, ◌++◌, ap, ◌∙◌, append_assoc}

pub pushed : (old line more x y : List ℕ) → line ≡ old ++ x → more ≡ line ++ y → more ≡ old ++ (x ++ y)
pushed old line more x y first second = second ∙ ap (λ l. l ++ y) first ∙ append_assoc old x y
