-- What is left of a hart's cache holds no more than it.
use Rattle.std.proofs.Common.{◌≡◌, ℕ, Bool, true, false, not, if◌then◌else◌, List, [], Some, None, sym, ◌∙◌}
use Rattle.std.proofs.lemmas.Option.{none-some}
use Rattle.std.specs.List.{list_any}
use Rattle.std.specs.FinSet.{items}
use Rattle.cap_format.specs.Capability.{Capability}
use Rattle.cap_format.specs.declared.item.Item.{Item}
use Rattle.object_store.specs.Store.{Items}
use Rattle.walk_meaning.specs.declared.kind.Kind.{Kind}
use Rattle.sv32_tables.specs.declared.leaf.Leaf.{Leaf}
use Rattle.tlb_model.specs.declared.entry.Entry.{Entry}
use Rattle.tlb_model.specs.Tlb.{look}
use Rattle.tlb_model.proofs.Looks.{look-filter}
use Rattle.map_cache.specs.Kept.{HoldsLess, KeptValue, is_under, overflows, tlb_after, tlb_without}

-- all of it, or nothing
pub less-emptied : (emptied : Bool) (entries : List Entry) → HoldsLess (if emptied then [] else entries) entries
less-emptied true entries = λ root page leaf found. absurd (none-some leaf found)
less-emptied false entries = λ root page leaf found. found

-- after an access on another hart
pub less-after : (k : KeptValue) (o : Items) (c : Capability) (address : ℕ) (kind : Kind) (entries : List Entry) → HoldsLess (tlb_after k o c address kind entries) entries
less-after k o c address kind entries = less-emptied (overflows k o c address kind) entries

-- after a change of an item
pub less-without : (k : KeptValue) (item : Item) (entries : List Entry) → HoldsLess (tlb_without k item entries) entries
less-without k item entries = λ root page leaf found.
    on root page leaf (not (list_any (is_under k.keys root page item) (items k.notes)))
    (sym (look-filter (λ r p. not (list_any (is_under k.keys r p item) (items k.notes))) entries root page) ∙ found)
  where
    on : (root page : ℕ) (leaf : Leaf) (b : Bool) → (if b then look entries root page else None) ≡ Some leaf → look entries root page ≡ Some leaf
    on root page leaf true found = found
    on root page leaf false found = absurd (none-some leaf found)
