use Rattle.std.proofs.Common.{subst, sym}
use Rattle.object_store.specs.Meaning.{map_of}
use Rattle.map_cache.specs.Cache.{CacheValue}
use Rattle.map_cache.specs.Coherent.{IsCoherent}
use Rattle.map_cache.proofs.map_cache.MapCacheTranslator.translate.Goals as goal

pub translate-requires-clause-coherent : goal.translate-requires-clause-coherent
translate-requires-clause-coherent g c = subst (λ (v : CacheValue). IsCoherent v (map_of c.args.objects.now.items)) (sym c.self.view_is) c.requires.coherent
