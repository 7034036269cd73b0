use Rattle.std.proofs.Common.{◌≡◌, [], replicate}
use Rattle.map_cache.proofs.tlbs.empty_tlbs.Given as goal

abbrev pub invariant-harts : goal.invariant-harts
invariant-harts l = l.tlbs.items ≡ replicate l.hart []
