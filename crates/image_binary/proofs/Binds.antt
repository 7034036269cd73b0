-- What a chain of steps that may fail tells of its steps.
use Rattle.std.proofs.Common.{◌≡◌, ◌⊎◌, ℕ, Bool, true, false, if◌then◌else◌, List, ◌++◌, length, Result, Ok, Err, Option, Some, None, refl, ap, subst, inl, inr}
use Rattle.std.specs.Prelude.{ok_or}
use Rattle.std.specs.List.{All}
use Rattle.std.proofs.lemmas.List.{drop_at}
use Rattle.std.proofs.lemmas.List.Elements.{All-drop}
use Rattle.listing_read.specs.Faults.{◌>>=◌, ensured}
use Rattle.image_binary.specs.Fields.{Read}

-- the values of a chain that did not fail
pub bind_ok : {A B E : Type 0} (r : Result A E) (f : A → Result B E) (y : B) → (r >>= f) ≡ Ok y → (x : A) × (r ≡ Ok x) × (f x ≡ Ok y)
bind_ok (Ok x) f y e = (x, refl, e)
bind_ok (Err d) f y e = absurd cc

-- the step that failed
pub bind_err : {A B E : Type 0} (r : Result A E) (f : A → Result B E) (d : E) → (r >>= f) ≡ Err d → (r ≡ Err d) ⊎ ((x : A) × (r ≡ Ok x) × (f x ≡ Err d))
bind_err (Ok x) f d e = inr (x, refl, e)
bind_err (Err c) f d e = inl cc

-- a value that was read, and the bytes behind it
abbrev pub done : {A : Type 0} → A → List ℕ → Read A
done x rest = Ok (x, rest)

-- both are known
pub read_parts : {A : Type 0} (x y : A) (xs ys : List ℕ) → done x xs ≡ done y ys → (x ≡ y) × (xs ≡ ys)
read_parts {A = A} x y xs ys e =
    let both : (x, xs) ≡ (y, ys) = cc in
    (ap (λ (p : A × List ℕ). p.0) both, ap (λ (p : A × List ℕ). p.1) both)

-- a test that held
pub ensured_ok : {B E : Type 0} (b : Bool) (d : E) (f : Unit {0} → Result B E) (y : B) → (ensured b d >>= f) ≡ Ok y → (b ≡ true) × (f tt ≡ Ok y)
ensured_ok true d f y e = (refl, e)
ensured_ok false d f y e = absurd cc

-- a choice that gave a value
pub chosen_ok : {A E : Type 0} (b : Bool) (d : E) (x y : A) → (if b then Ok x else Err d) ≡ Ok y → (b ≡ true) × (x ≡ y)
chosen_ok true d x y e = (refl, cc)
chosen_ok false d x y e = absurd cc

-- a value that was there
pub ok_or_ok : {A E : Type 0} (o : Option A) (d : E) (y : A) → ok_or o d ≡ Ok y → o ≡ Some y
ok_or_ok (Some x) d y e = cc
ok_or_ok None d y e = absurd cc

-- the bytes behind others are bytes
pub All-behind : {A : Type 0} (P : A → Type 0) (front rest : List A) → All P (front ++ rest) → All P rest
All-behind P front rest all = subst (All P) (drop_at front rest (length front) refl) (All-drop P (length front) (front ++ rest) all)
