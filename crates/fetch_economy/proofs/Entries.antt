-- What is covered has an entry: it is held, and what is held has a leaf.
use Rattle.std.proofs.Common.{◌≡◌, ℕ, ◌<◌, ◌^◌, true, false, nat_lt, List, Option, Some, None, is_some, refl, sym, ap, ◌∙◌, arith}
use Rattle.std.proofs.lemmas.Bool.Decides.{nat_tests}
use Rattle.cap_format.specs.Capability.{Capability}
use Rattle.sv32_tables.specs.declared.leaf.Leaf.{Leaf}
use Rattle.map_cache.specs.declared.mapping.Mapping.{Mapping}
use Rattle.map_cache.specs.Kept.{KeptValue, counted}
use Rattle.map_cache.specs.Cache.{CacheValue, kept_of, leaf_for}
use Rattle.map_cache.specs.Mappings.{AreMappings}
use Rattle.fetch_economy.specs.Laws.{CoveredHaveEntries, HasEntry}
use Rattle.fetch_economy.proofs.Economic.{fetch_economy}
use Rattle.depend_table.proofs.Tests.{both}

-- a pair that is held has its entry
held-entry : (cache : CacheValue) (entries : List Mapping) → AreMappings cache entries → (space : Capability) (page : ℕ) → (kept_of cache).held space page ≡ true
    → HasEntry entries space page
held-entry cache entries are space page held = on (leaf_for cache space page) refl
  where
    parts : (nat_lt page (2 ^ 20) ≡ true) × (is_some (leaf_for cache space page) ≡ true)
    parts = both (nat_lt page (2 ^ 20)) (is_some (leaf_for cache space page)) held

    within : page < 2 ^ 20
    within = below parts.0
      where
        below : nat_lt page (2 ^ 20) ≡ true → page < 2 ^ 20
        below holds = grind (arith, nat_tests, holds)

    on : (leaf : Option Leaf) → leaf_for cache space page ≡ leaf → HasEntry entries space page
    on None is = absurd (let no : false ≡ true = ap is_some (sym is) ∙ parts.1 in cc)
    on (Some leaf) is = let at = are.each space page leaf within is in record { place = at.0; leaf = leaf; there = at.1 }

pub covered_have_entries : CoveredHaveEntries
covered_have_entries o p ts cache entries told need keeps are space page covered =
    held-entry cache entries are (counted p space) page
    (ap (λ (k : KeptValue). k.held (counted p space) page) keeps ∙ (fetch_economy o p ts told need).held space page covered)
