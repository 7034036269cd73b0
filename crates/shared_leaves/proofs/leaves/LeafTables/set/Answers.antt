use Rattle.std.proofs.Common.{◌/◌, ◌%◌, arith}
use Rattle.shared_leaves.specs.Cache.{key_at}
use Rattle.shared_leaves.specs.Effects.{SetsPlace, value_of}
use Rattle.shared_leaves.proofs.Filed.{Made}
use Rattle.shared_leaves.proofs.Connected.{placed}
use Rattle.shared_leaves.proofs.leaves.LeafTables.set.Goals as goal

done : (c : goal.After-set) → Made c.set.new.self c.args.self.now.keys.items c.args.self.now.tlbs.items c.args.self.now.records (λ v. SetsPlace (value_of c.args.self.now) v (key_at c.args.self.now.keys.items c.args.table) c.args.table (c.args.va / 4096 % 1024) c.args.entry)
done c =
    let old = c.args.self.now in
    placed old.tables old.keys.items old.tlbs.items old.records c.requires.kept c.set.new.self c.args.table (c.args.va / 4096 % 1024) c.args.entry c.requires.leaf (omega arith) c.set.ensures c.requires.agrees

pub returns-clause-done : goal.returns-clause-done
returns-clause-done c = (done c).done

pub returns-clause-kept : goal.returns-clause-kept
returns-clause-kept c = (done c).cache
