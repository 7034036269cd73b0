-- A cache that keeps nothing is coherent with all objects; and coherence goes by the map alone.
use Rattle.std.proofs.Common.{◌≡◌, ℕ, List, None, sym, ap, ◌∙◌, subst}
use Rattle.std.specs.Prelude.{slice_get}
use Rattle.std.proofs.lemmas.Option.{none-some}
use Rattle.cap_format.specs.Capability.{Capability}
use Rattle.object_store.specs.Store.{Items}
use Rattle.object_store.specs.Differ.{DifferInNone}
use Rattle.sv32_tables.specs.declared.frame_use.FrameUse.TheVariants.{Root}
use Rattle.map_cache.specs.declared.key.Key.{Key}
use Rattle.map_cache.specs.Cache.{CacheValue, leaf_for, leaf_in, root_at}
use Rattle.map_cache.specs.Coherent.{IsCoherent}
use Rattle.map_cache.specs.Effects.{IsBlank}

-- maps that differ in no item are one
pub carries : (v : CacheValue) (o p : Items) → DifferInNone o p → IsCoherent v o → IsCoherent v p
carries v o p none coherent = subst (λ (q : Items). IsCoherent v q) none coherent

-- where no frame is in use there is no leaf
pub starts : (v : CacheValue) (o : Items) → IsBlank v → IsCoherent v o
starts v o blank root page leaf place at = absurd (none-some Root (sym (ap (λ us. slice_get us root) blank.tables) ∙ place.made))

-- and no page of a space has one
pub blank-bare : (v : CacheValue) → IsBlank v → (space : Capability) (page : ℕ) → leaf_for v space page ≡ None
blank-bare v blank space page = ap (leaf_in v.tables page) (ap (λ (ks : List Key). root_at ks space) blank.keys)
