-- A page of a root has the leaf last installed there and not cleared since.
use Rattle.std.proofs.Common.{◌≡◌, ◌≢◌, ◌⊎◌, inl, inr, ℕ, ◌==◌, ◌&&◌, if◌then◌else◌, eqb, List, [], ◌∷◌, length, Option, Some, None, ap, sym, ◌∙◌, true, false}
use Rattle.std.specs.List.{slice_get}
use Rattle.std.proofs.lemmas.Bool.Decides.{eqb_tells}
use Rattle.std.proofs.lemmas.Option.{none-some}
use Rattle.guard_math.specs.Block.{holds}
use Rattle.sv32_tables.specs.declared.leaf.Leaf.{Leaf}
use Rattle.sv32_tables.specs.declared.frame_use.FrameUse.{FrameUse}
use Rattle.sv32_tables.specs.declared.frame_use.FrameUse.TheVariants.{Root}
use Rattle.sv32_tables.specs.Pool.{IsEmpty, IsPlace, IsRoot, PoolValue, leaf_at, pool_of}
use Rattle.sv32_tables.specs.History.{Change, Made, Installed, Cleared, AllCleared, LeadsTo, MakesRoot, SameRoots, last_leaf}
use Rattle.sv32_tables.proofs.Choices.{if-false, if-true}
use Rattle.sv32_tables.proofs.Uses.{slice_get-push}

-- an empty pool has no root
no_root : (pool : PoolValue) (root : ℕ) → IsEmpty pool → IsRoot pool root → ⊥
no_root pool root empty made = none-some Root (ap (λ (us : List FrameUse). slice_get us root) (sym empty.unused) ∙ made)

-- a place of a pool with the same roots is one of the pool before
same_place : (old new : PoolValue) (root page : ℕ) → SameRoots old new → IsPlace new root page → IsPlace old root page
same_place old new root page same place = record { made = (same root).0 place.made; inside = place.inside }

-- a root that is not the new one was made before
old_place : (old new : PoolValue) (r root page : ℕ) → MakesRoot old new r → root ≢ r → IsPlace new root page → IsPlace old root page
old_place old new r root page makes other place =
    record { made = on (slice_get-push old.uses Root root Root (ap (λ (us : List FrameUse). slice_get us root) (sym makes.uses) ∙ place.made)); inside = place.inside }
  where
    on : (slice_get old.uses root ≡ Some Root) ⊎ ((root ≡ length old.uses) × (Root ≡ Root)) → slice_get old.uses root ≡ Some Root
    on (inl made) = made
    on (inr last) = absurd (other (last.0 ∙ sym makes.number))

pub leaf_at-history : (history : List Change) (pool : PoolValue) → LeadsTo history pool
    → (root page : ℕ) → IsPlace pool root page → leaf_at pool root page ≡ last_leaf history root page
leaf_at-history [] pool empty root page place = absurd (no_root pool root empty place.made)
leaf_at-history (Made r ∷ earlier) pool leads root page place = on (leaf_at-history earlier leads.0 leads.1) (eqb_tells root r)
  where
    on : ((r p : ℕ) → IsPlace leads.0 r p → leaf_at leads.0 r p ≡ last_leaf earlier r p)
        → ((eqb root r ≡ true) × (root ≡ r)) ⊎ ((eqb root r ≡ false) × (root ≢ r))
        → leaf_at pool root page ≡ (if root == r then None else last_leaf earlier root page)
    on rest (inl same) =
        ap (λ (x : ℕ). leaf_at pool x page) same.1 ∙ (leads.2.bare page place.inside ∙ sym (if-true (root == r) None (last_leaf earlier root page) same.0))
    on rest (inr other) =
        ap (λ (ws : List ℕ). leaf_at (pool_of ws pool.uses) root page) leads.2.words
        ∙ (rest root page (old_place leads.0 pool r root page leads.2 other.1 place) ∙ sym (if-false (root == r) None (last_leaf earlier root page) other.0))
leaf_at-history (Installed r p leaf ∷ earlier) pool leads root page place =
    let old = same_place leads.0 pool root page leads.2.1 place in
    leads.2.0 root page old
    ∙ ap (λ (o : Option Leaf). if (root == r) && (page == p) then Some leaf else o) (leaf_at-history earlier leads.0 leads.1 root page old)
leaf_at-history (Cleared r block ∷ earlier) pool leads root page place =
    let old = same_place leads.0 pool root page leads.2.1 place in
    leads.2.0 root page old
    ∙ ap (λ (o : Option Leaf). if (root == r) && holds block page then None else o) (leaf_at-history earlier leads.0 leads.1 root page old)
leaf_at-history (AllCleared ∷ earlier) pool leads root page place = absurd (no_root pool root leads.2 place.made)
