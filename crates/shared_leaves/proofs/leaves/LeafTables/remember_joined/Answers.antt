use Rattle.std.proofs.Common.{◌+◌, ◌/◌, ◌%◌, List, ◌++◌, drop, map, sym, ap, ◌∙◌, subst}
use Rattle.std.specs.List.{AllByRecursion as Each}
use Rattle.std.proofs.lemmas.List.{take_rest}
use Rattle.cap_format.specs.Item.{IsItem}
use Rattle.walk_meaning.specs.declared.noted.Noted.{Noted}
use Rattle.producers.specs.Producer.{cut}
use Rattle.shared_leaves.specs.declared.key.Key.{Key}
use Rattle.shared_leaves.specs.Kept.{Addition, addition, background_reads}
use Rattle.shared_leaves.specs.Effects.{Agrees, Remembers, value_of}
use Rattle.shared_leaves.proofs.Parted.{each_drop, each_take, entry-items}
use Rattle.shared_leaves.proofs.leaves.LeafTables.remember_joined.Goals as goal

pub remember-requires-clause-agrees : goal.remember-requires-clause-agrees
remember-requires-clause-agrees c =
    subst (λ (k : Key). Agrees (value_of c.args.self.now) k (c.args.va / 4096 % 1024) c.args.leaf) (sym c.producer-key.ensures) c.requires.agrees

pub remember-requires-clause-link_items : goal.remember-requires-clause-link_items
remember-requires-clause-link_items c =
    subst (λ (ns : List Noted). Each (λ (n : Noted). IsItem n.item) ns) (sym c.link_reads-link_reads.ensures)
    (each_take (λ (n : Noted). IsItem n.item) (c.args.joined.before + 1) c.args.reads.now c.requires.items)

pub remember-requires-clause-entry_items : goal.remember-requires-clause-entry_items
remember-requires-clause-entry_items c =
    let rest = take_rest c.args.reads.now c.args.joined.before in
    let reads = c.as_slice.ensures.value ∙ (c.entry_reads-entry_reads.ensures.value ∙ ap (λ (ns : List Noted). background_reads c.args.joined.producer.background ++ map cut ns) rest) in
    subst (λ (ns : List Noted). Each (λ (n : Noted). IsItem n.item) ns) (sym reads)
    (entry-items c.args.joined.producer.background (drop c.args.joined.before c.args.reads.now) c.requires.background (each_drop (λ (n : Noted). IsItem n.item) c.args.joined.before c.args.reads.now c.requires.items))

pub returns-clause-done : goal.returns-clause-done
returns-clause-done c =
    let rest = take_rest c.args.reads.now c.args.joined.before in
    let reads = c.as_slice.ensures.value ∙ (c.entry_reads-entry_reads.ensures.value ∙ ap (λ (ns : List Noted). background_reads c.args.joined.producer.background ++ map cut ns) rest) in
    subst (λ (add : Addition). Remembers (value_of c.args.self.now) (value_of c.remember.new.self) c.args.hart c.args.space (c.args.va / 4096) c.args.leaf add)
    (λ i. addition (c.producer-key.ensures i) (c.link_reads-link_reads.ensures i) (reads i))
    c.remember.ensures.done
