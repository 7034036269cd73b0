-- Lists of what frames are for, with one more at the end.
use Rattle.std.proofs.Common.{◌≡◌, ◌⊎◌, inl, inr, ℕ, zero, suc, ◌<◌, List, [], ◌∷◌, ◌++◌, length, Some, refl, ◌∙◌, arith}
use Rattle.std.specs.List.{slice_get}
use Rattle.std.proofs.lemmas.Option.{none-some, slice_get_within}

-- what stood at a place still does
pub slice_get-push_old : {X : Type 0} (xs : List X) (y : X) (k : ℕ) → k < length xs → slice_get (xs ++ y ∷ []) k ≡ slice_get xs k
slice_get-push_old [] y k less = absurd (omega (arith, less))
slice_get-push_old (x ∷ xs) y zero less = refl
slice_get-push_old (x ∷ xs) y (suc k) less = slice_get-push_old xs y k (omega (arith, less))

-- the new one stands last
pub slice_get-push_new : {X : Type 0} (xs : List X) (y : X) → slice_get (xs ++ y ∷ []) (length xs) ≡ Some y
slice_get-push_new [] y = refl
slice_get-push_new (x ∷ xs) y = slice_get-push_new xs y

-- what stands at a place stood there, or is the new one
pub slice_get-push : {X : Type 0} (xs : List X) (y : X) (k : ℕ) (z : X) → slice_get (xs ++ y ∷ []) k ≡ Some z
    → (slice_get xs k ≡ Some z) ⊎ ((k ≡ length xs) × (y ≡ z))
slice_get-push [] y zero z e = inr (refl, cc)
slice_get-push [] y (suc k) z e = absurd (none-some z e)
slice_get-push (x ∷ xs) y zero z e = inl e
slice_get-push (x ∷ xs) y (suc k) z e =
    elim (slice_get-push xs y k z e) [ inl h ↦ inl h | inr h ↦ inr (omega (arith, h.0), h.1) ]

-- what is known to stand at a place still does
pub slice_get-more : {X : Type 0} (xs : List X) (y : X) (k : ℕ) (z : X) → slice_get xs k ≡ Some z → slice_get (xs ++ y ∷ []) k ≡ Some z
slice_get-more xs y k z e = slice_get-push_old xs y k (slice_get_within xs k z e) ∙ e
