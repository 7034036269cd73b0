-- Bytes that are added one behind the other.
use Rattle.std.proofs.Common.{◌≡◌, ℕ, List, [], ◌++◌, ap, ◌∙◌, append_assoc}
use Rattle.image_binary.specs.Added.{Adds}

-- some, and then others
pub then_more : {a b e x rest : List ℕ} → Adds a b x → Adds b e rest → Adds a e (x ++ rest)
then_more {a = a} {x = x} {rest = rest} first more =
    record { whole = more.whole ∙ ap (λ l. l ++ rest) first.whole ∙ append_assoc a x rest }

-- some to none
pub from_none : {a e x : List ℕ} → a ≡ [] → Adds a e x → e ≡ x
from_none {x = x} none more = more.whole ∙ ap (λ l. l ++ x) none
