-- What is kept in a key, and that its equality answers true exactly where both are equal.
use Rattle.std.proofs.Common.{◌≡◌, ◌==◌, refl, ap}
use Rattle.std.specs.Bool.{Decides}
use Rattle.std.specs.Cmp.{unsigned_Decides}
use Rattle.std.proofs.lemmas.Bool.Decides.{Decides-and, Decides-like}
use Rattle.object_parts.specs.Same.{same_numbers}
use Rattle.object_parts.specs.SameLaws.{numbers_decide}
use Rattle.state_parts.specs.declared.key.Key.{Key}
use Rattle.state_parts.specs.Key.{KeyValue, same_key}

-- its numbers
abbrev pub key_in : Key → KeyValue
key_in key = record { parts = key.parts.items; standing = key.standing }

pub key_decides : (a b : KeyValue) → Decides (same_key a b) (a ≡ b)
key_decides a b =
    Decides-like (same_key a b) whole parts
    (Decides-and (same_numbers a.parts b.parts) (a.standing == b.standing) (numbers_decide a.parts b.parts) (unsigned_Decides a.standing b.standing))
  where
    by : (x : KeyValue) → KeyValue
    by x = record { parts = x.parts; standing = x.standing }

    whole : (a.parts ≡ b.parts) × (a.standing ≡ b.standing) → by a ≡ by b
    whole e = rw (e.0, e.1) refl

    parts : a ≡ b → (a.parts ≡ b.parts) × (a.standing ≡ b.standing)
    parts e = (ap (λ (x : KeyValue). x.parts) e, ap (λ (x : KeyValue). x.standing) e)
