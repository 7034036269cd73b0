-- Looking for a record along the chain of its item.
use Rattle.std.proofs.Common.{◌≡◌, ℕ, ◌<◌, ◌≤◌, true, false, length, Option, Some, None, sym, ap, ◌∙◌, subst, arith}
use Rattle.slab.specs.Slab.{Slab, get}
use Rattle.cap_format.specs.declared.item.Item.{Item}
use Rattle.cap_format.specs.Item.{IsItem}
use Rattle.guard_math.specs.Block.{BlockValue}
use Rattle.depend_table.specs.declared.chain.Chain.{Chain}
use Rattle.depend_table.specs.declared.chain.Node.{Node}
use Rattle.depend_table.specs.Depend.{Depend, depend, has}
use Rattle.depend_table.specs.Place.{place_of}
use Rattle.depend_table.specs.Chain.{IsLinked, record_of, records_of}
use Rattle.depend_table.proofs.Listed.{has-none, has-noted}
use Rattle.depend_table.proofs.Linked.{first_of, none_left}
use Rattle.depend_table.proofs.Places.{item_of_place}

-- no node of the item that is at least so high has this root and this block
abbrev pub Unseen : (ℕ → Option Node) → ℕ → ℕ → ℕ → BlockValue → Type 0
Unseen node place length root block = (k : ℕ) (n : Node) → node k ≡ Some n → place_of n.item ≡ place → length ≤ n.rest.length → n.root ≡ root → n.block ≡ block → ⊥

-- at the whole chain nothing was seen
pub unseen_first : (node : ℕ → Option Node) (chain : ℕ → Chain) (place root : ℕ) (block : BlockValue) → IsLinked node chain → Unseen node place (chain place).length root block
unseen_first node chain place root block linked k n is at high here there =
    let low = linked.within k n is in
    let long : n.rest.length < (chain place).length = rw at at low in
    omega (arith, long, high)

-- at the end the record is not there
pub unseen_all : (nodes : Slab Node) (item : Item) (root : ℕ) (block : BlockValue) → Unseen (get nodes) (place_of item) 0 root block → has (records_of nodes.slots) (depend item root block) ≡ false
unseen_all nodes item root block unseen =
    has-none nodes.slots (depend item root block) (λ k n is same. unseen k n is (ap (λ (d : Depend). place_of d.item) same) (omega arith) (ap (λ (d : Depend). d.root) same) (ap (λ (d : Depend). d.block) same))

-- a node at the item's place with this root and this block has the record
pub seen : (nodes : Slab Node) (chain : ℕ → Chain) (item : Item) (root : ℕ) (block : BlockValue) (k : ℕ) (n : Node) → IsLinked (get nodes) chain → IsItem item → get nodes k ≡ Some n → place_of n.item ≡ place_of item → n.root ≡ root → n.block ≡ block → has (records_of nodes.slots) (depend item root block) ≡ true
seen nodes chain item root block k n linked is at place here there =
    let items : n.item ≡ item = item_of_place n.item item (linked.items k n at) is place in
    let same : record_of n ≡ depend item root block =
    ap (λ (x : Item). depend x n.root n.block) items ∙ ap (λ (x : ℕ). depend item x n.block) here ∙ ap (λ (x : BlockValue). depend item root x) there in
    ap (has (records_of nodes.slots)) (sym same) ∙ has-noted nodes.slots k n at

-- what is no item has no record
pub no_item : (nodes : Slab Node) (chain : ℕ → Chain) (item : Item) (root : ℕ) (block : BlockValue) → IsLinked (get nodes) chain → (IsItem item → ⊥) → has (records_of nodes.slots) (depend item root block) ≡ false
no_item nodes chain item root block linked unlike =
    has-none nodes.slots (depend item root block) (λ k n is same. let P : Item → Type 0 = λ x. IsItem x in unlike (subst P (ap (λ (d : Depend). d.item) same) (linked.items k n is)))

-- an item whose chain is empty has no record
pub none_there : (nodes : Slab Node) (chain : ℕ → Chain) (item : Item) (root : ℕ) (block : BlockValue) → IsLinked (get nodes) chain → (chain (place_of item)).first ≡ None → has (records_of nodes.slots) (depend item root block) ≡ false
none_there nodes chain item root block linked empty =
    let short : (chain (place_of item)).length ≡ 0 = none_left (chain (place_of item)).length (get nodes) (place_of item) (chain (place_of item)).first empty (linked.chains (place_of item)) in
    let unseen = unseen_first (get nodes) chain (place_of item) root block linked in
    unseen_all nodes item root block (λ k n is at high. unseen k n is at (omega (arith, short)))

-- the node at an item's chain is of the item
pub first_item : (nodes : Slab Node) (chain : ℕ → Chain) (item : Item) (key : ℕ) (n : Node) → IsLinked (get nodes) chain → IsItem item → (chain (place_of item)).first ≡ Some key → get nodes key ≡ Some n → n.item ≡ item
first_item nodes chain item key n linked is first at =
    let there = first_of (get nodes) (place_of item) (chain (place_of item)).length (chain (place_of item)).first key first (linked.chains (place_of item)) in
    let same : there.0 ≡ n = cc in
    item_of_place n.item item (linked.items key n at) is (sym (ap (λ (x : Node). place_of x.item) same) ∙ there.1.1.0)
