use Rattle.std.proofs.Common.{◌/◌, ◌%◌, List, [], None, sym, ◌∙◌, subst}
use Rattle.std.specs.List.{AllByRecursion as Each}
use Rattle.cap_format.specs.Item.{IsItem}
use Rattle.walk_meaning.specs.declared.noted.Noted.{Noted}
use Rattle.shared_leaves.specs.declared.key.Key.{Key}
use Rattle.shared_leaves.specs.Kept.{Addition, addition}
use Rattle.shared_leaves.specs.Effects.{Agrees, Remembers, value_of}
use Rattle.shared_leaves.proofs.Parted.{entry-items}
use Rattle.shared_leaves.proofs.leaves.LeafTables.remember_own.Goals as goal

pub remember-requires-clause-agrees : goal.remember-requires-clause-agrees
remember-requires-clause-agrees c =
    subst (λ (k : Key). Agrees (value_of c.args.self.now) k (c.args.va / 4096 % 1024) c.args.leaf) (sym c.own-key.ensures) c.requires.agrees

pub remember-requires-clause-entry_items : goal.remember-requires-clause-entry_items
remember-requires-clause-entry_items c =
    subst (λ (ns : List Noted). Each (λ (n : Noted). IsItem n.item) ns) (sym (c.as_slice.ensures.value ∙ c.entry_reads-entry_reads.ensures.value)) (entry-items None c.args.reads.now tt c.requires.items)

pub returns-clause-done : goal.returns-clause-done
returns-clause-done c =
    subst (λ (add : Addition). Remembers (value_of c.args.self.now) (value_of c.remember.new.self) c.args.hart c.args.space (c.args.va / 4096) c.args.leaf add)
    (λ i. addition (c.own-key.ensures i) [] ((c.as_slice.ensures.value ∙ c.entry_reads-entry_reads.ensures.value) i))
    c.remember.ensures.done
