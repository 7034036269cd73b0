use Rattle.std.proofs.Common.{◌≡◌, Some, refl, sym, ap, ◌∙◌, arith}
use Rattle.slab.specs.Slab.{get}
use Rattle.depend_table.specs.declared.chain.Node.{Node}
use Rattle.depend_table.specs.Place.{place_of}
use Rattle.depend_table.specs.Chain.{chain_at, node_of, record_of}
use Rattle.depend_table.proofs.Places.{place_small}
use Rattle.depend_table.proofs.Relinked.{chain_short, linked_gone, linked_more}
use Rattle.depend_table.proofs.linking.drop_or_link.Goals as goal

pub returns-in_default-clause-linked : goal.returns-in_default-clause-linked
returns-in_default-clause-linked c =
    let same = c.in_default.ensures.absent in
    linked_gone c.args.nodes.now c.try_remove.new.self c.args.chains.now.items c.args.key c.requires (rw same (omega arith)) c.in_default.ensures.updates.others c.in_default.ensures.updates.changed

pub returns-then-is_within-clause-linked : goal.returns-then-is_within-clause-linked
returns-then-is_within-clause-linked c =
    linked_gone c.args.nodes.now c.try_remove.new.self c.args.chains.now.items c.args.key c.requires (omega (arith, c.in-Some.ensures.len)) c.in-Some.ensures.updates.others c.in-Some.ensures.updates.changed

pub link-requires-clause-short : goal.link-requires-clause-short
link-requires-clause-short c =
    chain_short c.args.nodes.now c.args.chains.now.items c.args.key (place_of c.in-Some.node.item) c.requires
    (place_small c.in-Some.node.item (c.requires.items c.args.key c.in-Some.node (sym c.in-Some.ensures.value)))

pub returns-clause-linked : goal.returns-clause-linked
returns-clause-linked c =
    let old = c.args.nodes.now in
    let mid = c.try_remove.new.self in
    let new = c.link.new.nodes in
    let chains = c.args.chains.now.items in
    let n : Node = c.in-Some.node in
    let m : Node = node_of (record_of n) (chain_at chains (place_of n.item)) in
    let at : get old c.args.key ≡ Some n = sym c.in-Some.ensures.value in
    let key : c.link.result ≡ c.args.key = c.link.ensures.key ∙ c.in-Some.ensures.key_is_next in
    let there : get new c.args.key ≡ Some m = ap (get new) (sym key) ∙ c.link.ensures.updates.changed in
    let within = place_small n.item (c.requires.items c.args.key n at) in
    let linked = linked_more old new chains c.args.key n m c.requires (omega (arith, c.in-Some.ensures.len, c.link.ensures.len))
    (λ k differs. c.link.ensures.updates.others k (λ same. differs (same ∙ key)) ∙ c.in-Some.ensures.updates.others k differs)
    at there refl refl (omega (arith, within, c.requires.places)) in
    rw (c.link.ensures.chains, key) linked
