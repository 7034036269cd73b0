use Rattle.std.proofs.Common.{◌≡◌, subst}
use Rattle.map_cache.specs.Cache.{CacheValue, kept_of}
use Rattle.map_cache.specs.Coherent.{IsCoherent}
use Rattle.map_cache.specs.Effects.{value_of}
use Rattle.map_cache.specs.Held.{AreRight, held_entries}
use Rattle.map_cache.specs.Mappings.{AreMappings, mappings_of}
use Rattle.map_cache.proofs.Entries.{are-mappings}
use Rattle.map_cache.proofs.Held.{mappings-held, mappings-right}
use Rattle.map_cache.proofs.map_cache.MapCache.listed.Goals as goal

pub returns-clause-each : goal.returns-clause-each
returns-clause-each c = subst (λ (v : CacheValue). AreMappings v (mappings_of v)) c.self.view_is (are-mappings (value_of c.self.inside.mappings) c.self.invariant.apart)

pub returns-clause-right : goal.returns-clause-right
returns-clause-right c = λ o.
    let P : CacheValue → Type 0 = λ v. IsCoherent v o → AreRight o (mappings_of v) in
    subst P c.self.view_is (λ coherent. mappings-right (value_of c.self.inside.mappings) o c.self.invariant coherent)

pub returns-clause-held : goal.returns-clause-held
returns-clause-held c = λ o.
    let P : CacheValue → Type 0 = λ v. IsCoherent v o → mappings_of v ≡ held_entries o (kept_of v) in
    subst P c.self.view_is (λ coherent. mappings-held (value_of c.self.inside.mappings) o c.self.invariant coherent)
