-- Notes of links and of entries together.
use Rattle.std.proofs.Common.{◌≡◌, ◌⊎◌, inl, inr, ℕ, zero, suc, ◌+◌, ◌≤◌, Bool, true, false, refl, ap, ◌∙◌, arith}
use Rattle.std.specs.Ordering.{eq_by_cmp}
use Rattle.std.specs.FinSet.{FinSet, contains, contains-remove, insert, len, remove}
use Rattle.map_cache.specs.Kept.{Note as SpaceNote, note_order as space_order}
use Rattle.depend_table.proofs.Sets.{first-of, insert-grows, insert-more, insert-there, remove-len, tells}
use Rattle.shared_leaves.specs.Key.{root_key}
use Rattle.shared_leaves.specs.Kept.{Note, note_order}
use Rattle.depend_table.proofs.Notes.{notes_apart, notes_total}
use Rattle.depend_table.specs.Notes.{note}
use Rattle.map_cache.proofs.Codes.{space_coding}
use Rattle.shared_leaves.proofs.Codes.{key_coding}

-- a set with the notes of these leaf tables, and for each space's note that of its root
pub record Rooted (spaces : FinSet space_order) (leaves : FinSet note_order) : Type 0 where
  pub all : FinSet note_order
  pub leaves_there : (q : Note) → contains leaves q ≡ true → contains all q ≡ true
  pub roots_there : (n : SpaceNote) → contains spaces n ≡ true → contains all (note (root_key n.key) n.item n.block) ≡ true
  pub count : len all ≤ len spaces + len leaves

rooted_none : (spaces : FinSet space_order) (leaves : FinSet note_order) → len spaces ≡ 0 → Rooted spaces leaves
rooted_none spaces leaves none = record {
  all = leaves;
  leaves_there = λ q there. there;
  roots_there = λ n there. let some = remove-len (notes_total space_coding) (notes_apart space_coding) spaces n there in absurd (omega (arith, none, some.1));
  count = omega arith;
}

-- the note of a root for a note of its space
abbrev root_note : SpaceNote → Note
root_note n = note (root_key n.key) n.item n.block

-- with one space's note more
rooted_more : (spaces : FinSet space_order) (leaves : FinSet note_order) (x : SpaceNote) → contains spaces x ≡ true → Rooted (remove spaces x) leaves → Rooted spaces leaves
rooted_more spaces leaves x there rest = record {
  all = insert rest.all (root_note x);
  leaves_there = λ q there. insert-more (notes_total key_coding) (notes_apart key_coding) rest.all (root_note x) q (rest.leaves_there q there);
  roots_there = λ n there. on n (eq_by_cmp space_order n x) refl there;
  count =
      let one = (insert-grows (notes_total key_coding) (notes_apart key_coding) rest.all (root_note x)).1 in
      let less = remove-len (notes_total space_coding) (notes_apart space_coding) spaces x there in
      let total = rest.count in
      omega (arith, one, total, less.0, less.1);
}
  where
    on : (n : SpaceNote) (b : Bool) → eq_by_cmp space_order n x ≡ b → contains spaces n ≡ true → contains (insert rest.all (root_note x)) (root_note n) ≡ true
    on n true is there =
        ap (λ (m : SpaceNote). contains (insert rest.all (root_note x)) (root_note m)) (tells (notes_total space_coding) (notes_apart space_coding) n x is)
        ∙ insert-there (notes_total key_coding) (notes_apart key_coding) rest.all (root_note x)
    on n false is there =
        let left : contains (remove spaces x) n ≡ true = contains-remove (notes_total space_coding) spaces x n ∙ rw (is, there) refl in
        insert-more (notes_total key_coding) (notes_apart key_coding) rest.all (root_note x) (root_note n) (rest.roots_there n left)

rooted_up_to : (m : ℕ) (spaces : FinSet space_order) (leaves : FinSet note_order) → len spaces ≤ m → Rooted spaces leaves
rooted_up_to zero spaces leaves most = rooted_none spaces leaves (omega (arith, most))
rooted_up_to (suc m) spaces leaves most = on (first-of (notes_total space_coding) (notes_apart space_coding) spaces) (rooted_up_to m)
  where
    on : (len spaces ≡ 0) ⊎ ((n : SpaceNote) × (contains spaces n ≡ true))
        → ((s : FinSet space_order) (t : FinSet note_order) → len s ≤ m → Rooted s t) → Rooted spaces leaves
    on (inl none) shorter = rooted_none spaces leaves none
    on (inr some) shorter =
        let less = remove-len (notes_total space_coding) (notes_apart space_coding) spaces some.0 some.1 in
        rooted_more spaces leaves some.0 some.1 (shorter (remove spaces some.0) leaves (omega (arith, most, less.0, less.1)))

pub rooted : (spaces : FinSet space_order) (leaves : FinSet note_order) → Rooted spaces leaves
rooted spaces leaves = rooted_up_to (len spaces) spaces leaves (omega arith)
