-- What the words of pointers and leaves say.
use Rattle.std.proofs.Common.{◌≡◌, ℕ, ◌+◌, ◌-◌, Some, None, if◌then◌else◌, refl, ap, arith, Bool, true, false}
use Rattle.std.proofs.lemmas.Bool.Decides.{nat_tests}
use Rattle.sv32_tables.specs.declared.leaf.Leaf.{Leaf}
use Rattle.sv32_tables.specs.Word.{has, is_valid, leaf_of, leaf_word, number_of, pointer, table_of}

-- a pointer leads to its frame
pub table_of-pointer : (frame : ℕ) → table_of (pointer frame) ≡ Some frame
table_of-pointer frame =
    let valid : is_valid (pointer frame) ≡ true = grind (arith, nat_tests) in
    let there : number_of (pointer frame) ≡ 4096 + frame = omega arith in
    on (is_valid (pointer frame)) (number_of (pointer frame)) valid there
  where
    on : (b : Bool) (n : ℕ) → b ≡ true → n ≡ 4096 + frame → (if b then Some (n - 4096) else None) ≡ Some frame
    on b n valid there =
        let less : n - 4096 ≡ frame = omega arith in
        rw valid (ap (λ (k : ℕ). Some k) less)

-- the flags and the number of a leaf's word
pub record SaysLeaf (word page : ℕ) (write execute : Bool) : Type 0 where
  pub valid : has word 1 ≡ true
  pub read : has word 2 ≡ true
  pub writes : has word 4 ≡ write
  pub executes : has word 8 ≡ execute
  pub user : has word 16 ≡ true
  pub accessed : has word 64 ≡ true
  pub dirty : has word 128 ≡ true
  pub number : number_of word ≡ page

pub SaysLeaf-leaf_word : (leaf : Leaf) → SaysLeaf (leaf_word leaf) leaf.page leaf.write leaf.execute
SaysLeaf-leaf_word leaf = on leaf.page leaf.write leaf.execute
  where
    on : (page : ℕ) (write execute : Bool)
        → SaysLeaf (leaf_word (record { page = page; write = write; execute = execute })) page write execute
    on page true true = record {
      valid = grind (arith, nat_tests);
      read = grind (arith, nat_tests);
      writes = grind (arith, nat_tests);
      executes = grind (arith, nat_tests);
      user = grind (arith, nat_tests);
      accessed = grind (arith, nat_tests);
      dirty = grind (arith, nat_tests);
      number = omega arith;
    }
    on page true false = record {
      valid = grind (arith, nat_tests);
      read = grind (arith, nat_tests);
      writes = grind (arith, nat_tests);
      executes = grind (arith, nat_tests);
      user = grind (arith, nat_tests);
      accessed = grind (arith, nat_tests);
      dirty = grind (arith, nat_tests);
      number = omega arith;
    }
    on page false true = record {
      valid = grind (arith, nat_tests);
      read = grind (arith, nat_tests);
      writes = grind (arith, nat_tests);
      executes = grind (arith, nat_tests);
      user = grind (arith, nat_tests);
      accessed = grind (arith, nat_tests);
      dirty = grind (arith, nat_tests);
      number = omega arith;
    }
    on page false false = record {
      valid = grind (arith, nat_tests);
      read = grind (arith, nat_tests);
      writes = grind (arith, nat_tests);
      executes = grind (arith, nat_tests);
      user = grind (arith, nat_tests);
      accessed = grind (arith, nat_tests);
      dirty = grind (arith, nat_tests);
      number = omega arith;
    }

-- the word of a leaf is that leaf
pub leaf_of-leaf_word : (leaf : Leaf) → leaf_of (leaf_word leaf) ≡ Some leaf
leaf_of-leaf_word leaf = let says = SaysLeaf-leaf_word leaf in on _ _ _ _ says.valid says.writes says.executes says.number
  where
    on : (v w x : Bool) (n : ℕ) → v ≡ true → w ≡ leaf.write → x ≡ leaf.execute → n ≡ leaf.page
        → (if v then Some (record { page = n; write = w; execute = x }) else None) ≡ Some leaf
    on v w x n a b c d = rw (a, b, c, d) refl
