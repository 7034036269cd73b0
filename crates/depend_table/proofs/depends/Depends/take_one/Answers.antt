use Rattle.std.proofs.Common.{◌≡◌, ℕ, ◌<◌, List, Some, None, length, refl, sym, ap, ◌∙◌, subst, arith}
use Rattle.cap_format.specs.declared.item.Item.{Item}
use Rattle.depend_table.specs.declared.chain.Chain.{Chain}
use Rattle.depend_table.specs.Depend.{Depend, Takes, depend, has}
use Rattle.depend_table.specs.Place.{place_of}
use Rattle.depend_table.specs.Chain.{chain_at, records_of}
use Rattle.depend_table.proofs.Tables.{table-taken, takes-record}
use Rattle.depend_table.proofs.Searched.{first_item, no_item, none_there}
use Rattle.depend_table.proofs.depends.Depends.take_one.Goals as goal

pub returns-then-not-is_item-clause-none : goal.returns-then-not-is_item-clause-none
returns-then-not-is_item-clause-none c = (
  λ none root block. sym (ap (λ (records : List Depend). has records (depend c.args.item root block)) c.self.view_is) ∙ no_item c.self.inside.nodes (chain_at c.self.inside.chains.items) c.args.item root block c.self.invariant.linked (λ is. cc (c.if-not-is_item.ensures.1 is)),
  λ none. refl,
)

pub returns-in_err-key-clause-none : goal.returns-in_err-key-clause-none
returns-in_err-key-clause-none c =
    let nodes = c.self.inside.nodes in
    let chains = c.self.inside.chains.items in
    let empty : (chain_at chains (place_of c.args.item)).first ≡ None =
    ap (λ (k : ℕ). (chain_at chains k).first) (sym c.place_of-place.ensures.place) ∙ ap (λ (x : Chain). x.first) (sym c.chain_at.ensures) ∙ c.in_err-key.was in (
      λ none root block. sym (ap (λ (records : List Depend). has records (depend c.args.item root block)) c.self.view_is) ∙ none_there nodes (chain_at chains) c.args.item root block c.self.invariant.linked empty,
      λ none. rw c.from_residual.ensures refl,
    )

-- the chain of the item begins with the node that is taken
first : (c : goal.After-set_chain) → (chain_at c.self.inside.chains.items (place_of c.args.item)).first ≡ Some c.in_ok-key.key
first c = ap (λ (k : ℕ). (chain_at c.self.inside.chains.items k).first) (sym c.place_of-place.ensures.place) ∙ ap (λ (x : Chain). x.first) (sym c.chain_at.ensures) ∙ c.in_ok-key.was

item : (c : goal.After-set_chain) → c.remove-node.result.item ≡ c.args.item
item c = first_item c.self.inside.nodes (chain_at c.self.inside.chains.items) c.args.item c.in_ok-key.key c.remove-node.result c.self.invariant.linked (c.if-not-is_item.ensures.0 refl) (first c) c.remove-node.ensures.value

pub invariant_of-self : goal.invariant_of-self
invariant_of-self c =
    let nodes = c.self.inside.nodes in
    let chains = c.self.inside.chains.items in
    let m = c.remove-node.result in
    let place : c.place_of-place.result ≡ place_of m.item = c.place_of-place.ensures.place ∙ ap place_of (sym (item c)) in
    let within : place_of m.item < length chains = omega (arith, place, c.place_of-place.ensures.range, c.self.invariant.places) in
    let at : (chain_at chains (place_of m.item)).first ≡ Some c.in_ok-key.key = ap (λ (x : Item). (chain_at chains (place_of x)).first) (item c) ∙ first c in
    let table = table-taken nodes c.remove-node.new.self chains c.in_ok-key.key m c.self.invariant c.remove-node.ensures.value c.remove-node.ensures.updates c.remove-node.ensures.len c.remove-node.ensures.capacity within at in
    rw (c.set_chain.ensures, place) table

pub returns-clause-taken : goal.returns-clause-taken
returns-clause-taken c =
    let m = c.remove-node.result in
    let taken = takes-record c.self.inside.nodes c.remove-node.new.self c.self.inside.chains.items c.in_ok-key.key m c.self.invariant c.remove-node.ensures.value c.remove-node.ensures.updates c.remove-node.ensures.len in
    let P : Item → Type 0 = λ x. Takes (records_of c.self.inside.nodes.slots) (records_of c.remove-node.new.self.slots) (depend x m.root m.block) in
    let Q : List Depend → Type 0 = λ records. Takes records (records_of c.remove-node.new.self.slots) (depend c.args.item m.root m.block) in
    subst Q c.self.view_is (subst P (item c) taken)

pub returns-clause-none : goal.returns-clause-none
returns-clause-none c = (
  λ none. absurd (cc none),
  λ none. absurd (let there = (returns-clause-taken c).there in let no' = none c.remove-node.result.root c.remove-node.result.block in cc),
)
