use Rattle.std.proofs.Common.{◌≡◌, ℕ, List, sym, ap, ◌∙◌, subst}
use Rattle.slab.specs.Slab.{get}
use Rattle.depend_table.specs.declared.chain.Node.{Node}
use Rattle.depend_table.specs.Depend.{Depend, depend, has}
use Rattle.depend_table.proofs.Members.{same_block_tells}
use Rattle.depend_table.specs.Place.{place_of}
use Rattle.depend_table.specs.Chain.{chain_at}
use Rattle.depend_table.proofs.Linked.{first_of, none_left}
use Rattle.depend_table.proofs.Searched.{Unseen, seen, unseen_all}
use Rattle.depend_table.proofs.depends.Depends.contains.Goals as goal

pub returns-then-eq : goal.returns-then-eq
returns-then-eq c =
    let nodes = c.self.inside.nodes in
    let first = first_of (get nodes) (place_of c.args.item) c.records.chain.length c.records.chain.first c.in-Some.key c.in-Some.is c.records.invariant.chain in
    let at = c.index.ensures in
    let one : first.0 ≡ c.index.result.now = cc in
    let place : place_of c.index.result.now.item ≡ place_of c.args.item = sym (ap (λ (n : Node). place_of n.item) one) ∙ first.1.1.0 in
    let block = same_block_tells c.index.result.now.block c.args.block (sym c.eq.ensures ∙ c.if-eq.true) in
    let there = seen nodes (chain_at c.self.inside.chains.items) c.args.item c.args.root c.args.block c.in-Some.key c.index.result.now c.self.invariant.linked c.requires at place c.if-node-root.true block in
    sym there ∙ ap (λ (records : List Depend). has records (depend c.args.item c.args.root c.args.block)) c.self.view_is

pub returns : goal.returns
returns c =
    let nodes = c.self.inside.nodes in
    let short = none_left c.records.chain.length (get nodes) (place_of c.args.item) c.records.chain.first c.in_default.is c.records.invariant.chain in
    let P : ℕ → Type 0 = λ length. Unseen (get nodes) (place_of c.args.item) length c.args.root c.args.block in
    let none = unseen_all nodes c.args.item c.args.root c.args.block (subst P short c.records.invariant.unseen) in
    sym none ∙ ap (λ (records : List Depend). has records (depend c.args.item c.args.root c.args.block)) c.self.view_is
