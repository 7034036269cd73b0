use Rattle.std.proofs.Common.{sym}
use Rattle.map_cache.proofs.Keyed.{root_at-is}
use Rattle.map_cache.proofs.mappings.find_root.Goals as goal

pub returns-then-is_root : goal.returns-then-is_root
returns-then-is_root c = sym (root_at-is c.args.keys.now.items c.args.space _ c.requires (c.is_root.ensures c.if-is_root.true))
