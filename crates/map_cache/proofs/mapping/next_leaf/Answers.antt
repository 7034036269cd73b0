use Rattle.std.proofs.Common.{refl}
use Rattle.map_cache.proofs.Listed.{region-next, region-none}
use Rattle.map_cache.proofs.mapping.next_leaf.Goals as goal

pub returns-in-Some-clause-some : goal.returns-in-Some-clause-some
returns-in-Some-clause-some c =
    region-next c.args.tables.now c.args.root c.args.first c.regions.region c.max-from.result c.in-Some.found.0 c.in-Some.found.1 c.regions-test.true c.regions.invariant c.max-from.ensures c.in-Some.ensures.some

pub regions-preserved : goal.regions-preserved
regions-preserved c = region-none c.args.tables.now c.args.root c.args.first c.regions.region c.max-from.result c.regions.invariant c.max-from.ensures (c.in_default.ensures.none refl)
