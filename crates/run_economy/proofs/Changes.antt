-- Changes of an operation: of one item at most, which is told.
use Rattle.std.proofs.Common.{◌≡◌, Bool, true, false, ◌&&◌, ◌||◌, true≢false, List, [], ◌∷◌, Option, Some, None, refl, sym, ◌∙◌, subst}
use Rattle.std.proofs.lemmas.Bool.{and_parts}
use Rattle.cap_format.specs.declared.item.Item.{Item}
use Rattle.object_store.specs.Store.{Items}
use Rattle.object_store.proofs.DifferLaws.{DifferIn-set_slot, DifferIn-set_header}
use Rattle.operations.specs.System.{System, Meant}
use Rattle.operations.specs.Change.{Change, PageIs, CapPageIs, SlotIs, HeaderIs, EndpointIs, ProcessIs, Left, Readied, Woken, Destroyed, applied, applied_all, item_of, first_item, item_in}
use Rattle.operations.specs.Changed.{DifferBy}
use Rattle.machine_state.specs.Operation.{change_touches}
use Rattle.fetch_economy.specs.Follows.{Follows}
use Rattle.run_economy.proofs.Destroyed.{differ-destruction}

-- no item
abbrev pub is_no_item : Option Item → Bool
is_no_item None = true
is_no_item (Some item) = false

-- these changes are of one item at most
abbrev pub is_of_one : List Change → Bool
is_of_one [] = true
is_of_one (change ∷ changes) = (is_no_item (item_of change) || is_no_item (item_in changes)) && is_of_one changes

-- the items before and after a change differ in its item
change-differ : (w : System) (change : Change) → DifferBy (item_of change) w.store.items (applied Meant w change).store.items
change-differ w (PageIs n page) = refl
change-differ w (CapPageIs n page) = refl
change-differ w (SlotIs g i c) = DifferIn-set_slot w.store.items g i c
change-differ w (HeaderIs g header) = DifferIn-set_header w.store.items g header
change-differ w (EndpointIs e endpoint) = refl
change-differ w (ProcessIs p process) = refl
change-differ w (Left p) = refl
change-differ w (Readied p) = refl
change-differ w (Woken p) = refl
change-differ w (Destroyed kind n) = differ-destruction w.store kind n

-- changes of no item leave the items
none-changed : (w : System) (changes : List Change) → is_no_item (item_in changes) ≡ true → w.store.items ≡ (applied_all Meant w changes).store.items
none-changed w [] none = refl
none-changed w (change ∷ changes) none = by (item_of change) none (change-differ w change) (none-changed (applied Meant w change) changes)
  where
    by : (item : Option Item) → is_no_item (first_item item (item_in changes)) ≡ true → DifferBy item w.store.items (applied Meant w change).store.items
        → (is_no_item (item_in changes) ≡ true → (applied Meant w change).store.items ≡ (applied_all Meant (applied Meant w change) changes).store.items)
        → w.store.items ≡ (applied_all Meant (applied Meant w change) changes).store.items
    by None none same rest = same ∙ rest none
    by (Some item) none differ rest = absurd (true≢false (sym none))

-- what changes is told
pub changes-follow : (w : System) (changes : List Change) → is_of_one changes ≡ true → Follows w.store.items (change_touches (item_in changes)) (applied_all Meant w changes).store.items
changes-follow w [] one = refl
changes-follow w (change ∷ changes) one = by (item_of change) one (change-differ w change) (changes-follow (applied Meant w change) changes)
  where
    by : (item : Option Item) → ((is_no_item item || is_no_item (item_in changes)) && is_of_one changes) ≡ true → DifferBy item w.store.items (applied Meant w change).store.items
        → (is_of_one changes ≡ true → Follows (applied Meant w change).store.items (change_touches (item_in changes)) (applied_all Meant (applied Meant w change) changes).store.items)
        → Follows w.store.items (change_touches (first_item item (item_in changes))) (applied_all Meant (applied Meant w change) changes).store.items
    by None one same rest = subst (λ (i : Items). Follows i (change_touches (item_in changes)) (applied_all Meant (applied Meant w change) changes).store.items) (sym same) (rest one)
    by (Some item) one differ rest = ((applied Meant w change).store.items, differ, none-changed (applied Meant w change) changes (and_parts (is_no_item (item_in changes)) (is_of_one changes) one).0)
