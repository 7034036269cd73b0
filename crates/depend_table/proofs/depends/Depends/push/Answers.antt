use Rattle.std.proofs.Common.{◌≡◌, ◌<◌, List, length, false, refl, sym, ap, ◌∙◌, subst, arith}
use Rattle.slab.specs.Slab.{slab_len}
use Rattle.depend_table.specs.declared.chain.Node.{Node}
use Rattle.depend_table.specs.Depend.{Adds, Depend, depend, has}
use Rattle.depend_table.specs.Place.{place_of}
use Rattle.depend_table.specs.Chain.{chain_at, linked_chain, node_of, records_of}
use Rattle.depend_table.proofs.Listed.{length-records}
use Rattle.depend_table.proofs.Tables.{adds-record, chain_fits, table-noted}
use Rattle.depend_table.proofs.Places.{place_small}
use Rattle.depend_table.proofs.depends.Depends.push.Goals as goal

pub link-requires-clause-room : goal.link-requires-clause-room
link-requires-clause-room c =
    let many : length c.args.self.now ≡ slab_len c.self.inside.nodes = ap (λ (records : List Depend). length records) (sym c.self.view_is) ∙ length-records c.self.inside.nodes.slots in
    omega (arith, many, c.requires.room, c.self.invariant.room)

pub link-requires-clause-short : goal.link-requires-clause-short
link-requires-clause-short c =
    chain_fits c.self.inside.nodes c.self.inside.chains.items (place_of c.args.item) c.self.invariant (place_small c.args.item c.requires.item)

absent : (c : goal.After-link) → has (records_of c.self.inside.nodes.slots) (depend c.args.item c.args.root c.args.block) ≡ false
absent c = ap (λ (records : List Depend). has records (depend c.args.item c.args.root c.args.block)) c.self.view_is ∙ c.requires.new

pub invariant_of-self : goal.invariant_of-self
invariant_of-self c =
    let nodes = c.self.inside.nodes in
    let chains = c.self.inside.chains.items in
    let many : length c.args.self.now ≡ slab_len nodes = ap (λ (records : List Depend). length records) (sym c.self.view_is) ∙ length-records nodes.slots in
    let noted : Node = node_of (depend c.args.item c.args.root c.args.block) (chain_at chains (place_of c.args.item)) in
    let within : place_of c.args.item < length chains = omega (arith, place_small c.args.item c.requires.item, c.self.invariant.places) in
    let table = table-noted nodes c.link.new.nodes chains c.link.result noted c.self.invariant c.link.ensures.vacant c.link.ensures.updates c.link.ensures.len (absent c) (linked_chain c.link.result noted.rest) c.link.ensures.capacity (omega (arith, many, c.requires.room)) c.requires.item within refl refl refl in
    rw c.link.ensures.chains table

pub returns : goal.returns
returns c =
    let P : List Depend → Type 0 = λ records. Adds records (records_of c.link.new.nodes.slots) (depend c.args.item c.args.root c.args.block) in
    let noted : Node = node_of (depend c.args.item c.args.root c.args.block) (chain_at c.self.inside.chains.items (place_of c.args.item)) in
    subst P c.self.view_is (adds-record c.self.inside.nodes c.link.new.nodes c.self.inside.chains.items c.link.result noted c.self.invariant c.link.ensures.vacant c.link.ensures.updates c.link.ensures.len (absent c))
