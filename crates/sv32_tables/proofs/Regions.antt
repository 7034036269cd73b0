-- Whether a region has a frame, by what the frames are for.
use Rattle.std.proofs.Common.{◌≡◌, ◌⊎◌, ◌↔◌, inl, inr, if◌then◌else◌, ℕ, suc, ◌||◌, List, [], ◌∷◌, ◌++◌, length, get_or, Some, None, refl, ap, sym, ◌∙◌, arith, Bool, true, false}
use Rattle.std.specs.List.{slice_get, list_any}
use Rattle.std.proofs.lemmas.Option.{none-some, slice_get_within, get_or_from_slice_get}
use Rattle.std.proofs.lemmas.List.Folds.{list_any_at}
use Rattle.std.proofs.lemmas.Bool.Decides.{nat_tests}
use Rattle.sv32_tables.specs.declared.frame_use.FrameUse.{FrameUse}
use Rattle.sv32_tables.specs.declared.frame_use.FrameUse.TheVariants.{Root, Region}
use Rattle.sv32_tables.specs.Pool.{IsRoot, PoolValue, has_region, is_for, pool_of, with_region, word_at}
use Rattle.sv32_tables.specs.Word.{table_of}
use Rattle.sv32_tables.specs.Owned.{IsOwned}
use Rattle.sv32_tables.proofs.Uses.{slice_get-more, slice_get-push}

-- a test that cannot be true is false
pub not_true : (b : Bool) → (b ≡ true → ⊥) → b ≡ false
not_true true never = absurd (never refl)
not_true false never = refl

-- a frame that is for a region is for that one
is_for-tells : (root region : ℕ) (use' : FrameUse) → is_for root region use' ≡ true → use' ≡ Region root region
is_for-tells root region Root e = cc
is_for-tells root region (Region r i) e =
    let same_root : r ≡ root = grind (arith, nat_tests) in
    let same_region : i ≡ region = grind (arith, nat_tests) in
    cc

is_for-same : (root region : ℕ) → is_for root region (Region root region) ≡ true
is_for-same root region = grind (arith, nat_tests)

-- where a region has a frame, one of the frames is for it
pub region-frame : (root region : ℕ) (uses : List FrameUse) → list_any (is_for root region) uses ≡ true
    → (frame : ℕ) × (slice_get uses frame ≡ Some (Region root region))
region-frame root region [] e = cc
region-frame root region (x ∷ xs) e = on (is_for root region x) refl e (region-frame root region xs)
  where
    on : (b : Bool) → is_for root region x ≡ b → (b || list_any (is_for root region) xs) ≡ true
        → (list_any (is_for root region) xs ≡ true → (frame : ℕ) × (slice_get xs frame ≡ Some (Region root region)))
        → (frame : ℕ) × (slice_get (x ∷ xs) frame ≡ Some (Region root region))
    on true t any rest = (0, ap (λ (u : FrameUse). Some u) (is_for-tells root region x t))
    on false t any rest = let later = rest any in (suc later.0, later.1)

-- where one of the frames is for a region, the region has a frame
pub has_region-frame : (words : List ℕ) (uses : List FrameUse) (root region frame : ℕ) → slice_get uses frame ≡ Some (Region root region)
    → has_region (pool_of words uses) root region ≡ true
has_region-frame words uses root region frame there =
    let read : get_or uses frame Root ≡ Region root region = get_or_from_slice_get uses frame (Region root region) Root there in
    list_any_at (is_for root region) uses frame Root (slice_get_within uses frame (Region root region) there)
    (ap (λ (u : FrameUse). is_for root region u) read ∙ is_for-same root region)

-- a region that leads nowhere has no frame
pub has_region-none : (words : List ℕ) (uses : List FrameUse) (root region : ℕ) → IsOwned words uses → table_of (word_at words root region) ≡ None
    → has_region (pool_of words uses) root region ≡ false
has_region-none words uses root region owned nowhere =
    not_true (has_region (pool_of words uses) root region)
    (λ e. let f = region-frame root region uses e in none-some f.0 (sym nowhere ∙ (owned.under f.0 root region f.1).led_to))

-- a frame for a region is no root, so the roots are as they were
pub roots-with_region : (pool : PoolValue) (root region r : ℕ) → (slice_get (with_region pool root region) r ≡ Some Root) ↔ IsRoot pool r
roots-with_region pool root region r = on (has_region pool root region)
  where
    old : (slice_get pool.uses r ≡ Some Root) ⊎ ((r ≡ length pool.uses) × (Region root region ≡ Root)) → slice_get pool.uses r ≡ Some Root
    old (inl made) = made
    old (inr last) = let other = last.1 in cc

    on : (b : Bool) → (slice_get (if b then pool.uses else pool.uses ++ Region root region ∷ []) r ≡ Some Root) ↔ IsRoot pool r
    on true = (λ made. made, λ made. made)
    on false =
        (λ made. old (slice_get-push pool.uses (Region root region) r Root made), λ made. slice_get-more pool.uses (Region root region) r Root made)
