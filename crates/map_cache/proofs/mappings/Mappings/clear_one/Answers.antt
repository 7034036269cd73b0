use Rattle.depend_table.specs.Depend.{depend}
use Rattle.map_cache.specs.Effects.{Forgets, value_of}
use Rattle.map_cache.proofs.Installing.{Made}
use Rattle.map_cache.proofs.Forgotten.{record-taken}
use Rattle.map_cache.proofs.mappings.Mappings.clear_one.Goals as goal

taken : (c : goal.After-drop_block) → Made c.clear.new.self c.args.self.now.keys.items c.drop_block.new.tlbs.items c.take_one.new.self (λ v. Forgets (value_of c.args.self.now) v c.args.item)
taken c =
    let old = c.args.self.now in
    record-taken old.tables old.keys.items old.tlbs.items old.records c.requires c.drop_law.ensures c.clear.new.self c.drop_block.new.tlbs.items c.take_one.new.self (depend c.args.item c.in-Some.taken.0 c.in-Some.taken.1) c.in-Some.ensures.taken c.clear.ensures.leaves c.clear.ensures.uses c.drop_block.ensures.tlbs c.drop_block.ensures.harts

pub returns-clause-kept : goal.returns-clause-kept
returns-clause-kept c = (taken c).cache

pub returns-clause-forgets : goal.returns-clause-forgets
returns-clause-forgets c = (taken c).done
