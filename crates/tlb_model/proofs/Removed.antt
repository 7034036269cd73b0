-- Taking an entry out at the place where it stands.
use Rattle.std.proofs.Common.{◌≡◌, ℕ, suc, ◌+◌, ◌≤◌, Bool, true, false, cond, if◌then◌else◌, not, nat_lt, List, [], ◌∷◌, length, None, Some, refl, ap, ◌∙◌, arith}
use Rattle.std.specs.List.{position, position_or_len, remove}
use Rattle.std.proofs.lemmas.Bool.Decides.{nat_tests}
use Rattle.tlb_model.specs.declared.entry.Entry.{Entry}
use Rattle.tlb_model.specs.Entry.{is_of}
use Rattle.tlb_model.specs.Tlb.{IsSingle, look, without_page}
use Rattle.tlb_model.proofs.Looks.{of_tells}

-- where no entry is of the page, all are kept
pub without_page_none : (r p : ℕ) (es : List Entry) → look es r p ≡ None → es ≡ without_page es r p
without_page_none r p [] none = refl
without_page_none r p (e ∷ es) none = on (is_of r p e) none (λ later. without_page_none r p es later)
  where
    on : (b : Bool) → (if b then Some e.leaf else look es r p) ≡ None → (look es r p ≡ None → es ≡ without_page es r p) → e ∷ es ≡ cond (not b) (e ∷ without_page es r p) (without_page es r p)
    on true none later = absurd (cc)
    on false none later = ap (λ xs. e ∷ xs) (later none)

remove-behind : (e : Entry) (k : ℕ) (es : List Entry) → remove (e ∷ es) (1 + k) ≡ e ∷ remove es k
remove-behind e k es = let next : 1 + k ≡ suc k = omega arith in rw next refl

remove-position : (r p : ℕ) (es : List Entry) → IsSingle es → remove es (position_or_len (is_of r p) es) ≡ without_page es r p
remove-position r p [] single = refl
remove-position r p (e ∷ es) single = on (is_of r p e) refl (remove-position r p es single.1)
  where
    on : (b : Bool) → is_of r p e ≡ b → remove es (position_or_len (is_of r p) es) ≡ without_page es r p → remove (e ∷ es) (cond (not b) (1 + position_or_len (is_of r p) es) 0) ≡ cond (not b) (e ∷ without_page es r p) (without_page es r p)
    on true is rest =
        let both = of_tells r p e is in
        without_page_none r p es (rw (both.0, both.1) at single.0)
    on false is rest = remove-behind e (position_or_len (is_of r p) es) es ∙ ap (λ xs. e ∷ xs) rest

pub removed_Some : (r p i : ℕ) (es : List Entry) → IsSingle es → position (is_of r p) es ≡ Some i → remove es i ≡ without_page es r p
removed_Some r p i es single at = on (nat_lt place (length es)) at
  where
    place : ℕ
    place = position_or_len (is_of r p) es

    on : (b : Bool) → cond b (Some place) None ≡ Some i → remove es i ≡ without_page es r p
    on true here = let same : place ≡ i = cc in rw (← same) (remove-position r p es single)
    on false here = cc

past : (r p : ℕ) (es : List Entry) → length es ≤ position_or_len (is_of r p) es → es ≡ without_page es r p
past r p [] far = refl
past r p (e ∷ es) far = on (is_of r p e) far (λ later. past r p es later)
  where
    on : (b : Bool) → suc (length es) ≤ cond (not b) (1 + position_or_len (is_of r p) es) 0 → (length es ≤ position_or_len (is_of r p) es → es ≡ without_page es r p) → e ∷ es ≡ cond (not b) (e ∷ without_page es r p) (without_page es r p)
    on true h rest = absurd (omega (arith, h))
    on false h rest = ap (λ xs. e ∷ xs) (rest (omega (arith, h)))

pub removed_None : (r p : ℕ) (es : List Entry) → position (is_of r p) es ≡ None → es ≡ without_page es r p
removed_None r p es none = on (nat_lt place (length es)) refl none
  where
    place : ℕ
    place = position_or_len (is_of r p) es

    on : (b : Bool) → nat_lt place (length es) ≡ b → cond b (Some place) None ≡ None → es ≡ without_page es r p
    on true t h = cc
    on false t h = past r p es (grind (arith, nat_tests, t))
