-- Records of what was read on the way to pages, as a list whose order says nothing (this project's own).
use Rattle.std.specs.Prelude.{◌≡◌, ℕ, ◌+◌, Bool, true, false, not, ◌&&◌, ◌||◌, ◌==◌, nat_le, if◌then◌else◌, List, [], ◌∷◌, length}
use Rattle.cap_format.specs.Kind.{number_of}
use Rattle.cap_format.specs.declared.item.Item.{Item}
use Rattle.cap_format.specs.declared.item.Item.TheVariants.{Header, Slot}
use Rattle.guard_math.specs.Block.{BlockValue, first_page, page_count}

-- on the way to a page of the block under the root the item was read
pub record Depend : Type 0 where
  pub item : Item
  pub root : ℕ
  pub block : BlockValue

-- a record by its parts
abbrev pub depend : Item → ℕ → BlockValue → Depend
depend item root block = record { item = item; root = root; block = block }

-- whether two items are one
abbrev pub same_item : Item → Item → Bool
same_item (Header j n) (Header k m) = (number_of j == number_of k) && (n == m)
same_item (Header j n) (Slot h t) = false
same_item (Slot g s) (Header k m) = false
same_item (Slot g s) (Slot h t) = (g == h) && (s == t)

-- whether two blocks are one
abbrev pub same_block : BlockValue → BlockValue → Bool
same_block b c = (b.base == c.base) && (b.l2 == c.l2)

-- whether two records are one
abbrev pub same : Depend → Depend → Bool
same d e = same_item d.item e.item && ((d.root == e.root) && same_block d.block e.block)

-- whether a record is among some
abbrev pub has : List Depend → Depend → Bool
has [] d = false
has (e ∷ rest) d = same e d || has rest d

-- the new records are the old ones and this one; there is one more where it was not among them
pub record Adds (old new : List Depend) (d : Depend) : Type 0 where
  pub records : (e : Depend) → has new e ≡ (same d e || has old e)
  pub count : length new ≡ (if has old d then length old else length old + 1)

-- the new records are the old ones without this one, which was among them
pub record Takes (old new : List Depend) (d : Depend) : Type 0 where
  pub there : has old d ≡ true
  pub records : (e : Depend) → has new e ≡ (not (same d e) && has old e)
  pub count : length new + 1 ≡ length old

-- whether every page of a block is one of another's
abbrev pub lies_in : BlockValue → BlockValue → Bool
lies_in inner outer =
    nat_le (first_page outer) (first_page inner) && nat_le (first_page inner + page_count inner) (first_page outer + page_count outer)

-- whether a record is of this root, and its block lies in this one
abbrev pub is_within : ℕ → BlockValue → Depend → Bool
is_within root block d = (d.root == root) && lies_in d.block block
