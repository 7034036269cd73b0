-- One word of a shared pool is written, or the words of a block of a leaf table are wiped.
use Rattle.std.proofs.Common.{◌≡◌, ◌≢◌, ◌⊎◌, inl, inr, ℕ, ◌+◌, ◌*◌, ◌<◌, ◌≤◌, ◌==◌, ◌&&◌, min, nat_le, nat_lt, if◌then◌else◌, eqb, List, length, Option, Some, Bool, true, false, refl, ap, sym, subst, ◌∙◌, arith}
use Rattle.std.specs.List.{slice_get}
use Rattle.std.specs.Prelude.{slice_index, slice_set}
use Rattle.std.proofs.lemmas.Bool.Decides.{eqb_tells, nat_tests}
use Rattle.std.proofs.lemmas.List.{get_or-set_other}
use Rattle.std.proofs.lemmas.Grind.{get_or-set_at}
use Rattle.std.proofs.lemmas.Option.{slice_get_within}
use Rattle.sv32_tables.specs.declared.leaf.Leaf.{Leaf as Entry}
use Rattle.sv32_tables.specs.declared.shared_use.SharedUse.{SharedUse}
use Rattle.sv32_tables.specs.declared.shared_use.SharedUse.TheVariants.{Root, Leaf}
use Rattle.sv32_tables.specs.Word.{leaf_of, leaf_word, table_of}
use Rattle.sv32_tables.specs.Pool.{word_at}
use Rattle.sv32_tables.specs.Shared.{IsShared, IsWordOf, shared_of}
use Rattle.sv32_tables.specs.SharedHistory.{ClearsPlaces, SetsEntry, SetsLink}
use Rattle.sv32_tables.proofs.Choices.{both_equal, by_test, other_unequal}
use Rattle.sv32_tables.proofs.SharedWords.{shared-changed, shared_inside}
use Rattle.sv32_tables.proofs.WordLaws.{leaf_of-leaf_word}

module _ (words : List ℕ) (uses : List SharedUse) (frame index word : ℕ) (u : SharedUse) (pool : IsShared words uses)
    (there : slice_get uses frame ≡ Some u) (inside : index < 1024) where
  abbrev place : ℕ
  place = frame * 1024 + index

  abbrev new : List ℕ
  new = slice_set words place word

  -- the word that is written, and the others
  pub word_at-written : (f i : ℕ) → i < 1024 → word_at new f i ≡ (if (f == frame) && (i == index) then word else word_at words f i)
  word_at-written f i within = by_test ((f == frame) && (i == index)) word (word_at words f i) (word_at new f i) yes no
    where
      yes : ((f == frame) && (i == index)) ≡ true → word_at new f i ≡ word
      yes e =
          let same = both_equal f frame i index e in
          get_or-set_at words place (f * 1024 + i) word 0 (omega (arith, same.0, same.1)) (shared_inside words uses frame index u pool there inside)

      no : ((f == frame) && (i == index)) ≡ false → word_at new f i ≡ word_at words f i
      no e =
          get_or-set_other words place (f * 1024 + i) word 0
          (λ same. let frames : f ≡ frame = omega (arith, same, within, inside) in
          other_unequal f frame i index e frames (omega (arith, same, within, inside)))

-- a choice between words, read
pub read_choice : {X : Type 0} (f : ℕ → X) (b : Bool) (t e : ℕ) → f (if b then t else e) ≡ (if b then f t else f e)
read_choice f true t e = refl
read_choice f false t e = refl

-- frames of different uses are different
pub apart : (uses : List SharedUse) (f g : ℕ) → slice_get uses f ≡ Some Root → slice_get uses g ≡ Some Leaf → (f == g) ≡ false
apart uses f g root leaf = on (f == g) refl
  where
    on : (b : Bool) → (f == g) ≡ b → b ≡ false
    on true e = let same : f ≡ g = grind (arith, nat_tests) in absurd (cc)
    on false e = refl

-- a test on a frame that fails makes the whole fail
pub fails : {X : Type 0} (a b : Bool) (t e : X) → a ≡ false → (if a && b then t else e) ≡ e
fails a b t e is = rw is refl

swap : (f g : ℕ) → (f == g) ≡ (g == f)
swap f g = grind (arith, nat_tests)

-- a link is written, or taken out
pub linked : (words : List ℕ) (uses : List SharedUse) (root region word : ℕ) (link : Option ℕ) → IsShared words uses → slice_get uses root ≡ Some Root
    → region < 1024 → table_of word ≡ link → SetsLink (shared_of words uses) (shared_of (slice_set words (root * 1024 + region) word) uses) root region link
linked words uses root region word link pool made inside leads = record {
  links = λ r i root' within.
      ap (λ (w : ℕ). table_of w) (word_at-written words uses root region word Root pool made inside r i within)
      ∙ (read_choice (λ (w : ℕ). table_of w) ((r == root) && (i == region)) word (word_at words r i)
      ∙ ap (λ (t : Option ℕ). if (r == root) && (i == region) then t else table_of (word_at words r i)) leads);
  entries = λ f i leaf within.
      ap (λ (w : ℕ). leaf_of w)
      (word_at-written words uses root region word Root pool made inside f i within
      ∙ fails (f == root) (i == region) word (word_at words f i) (swap f root ∙ apart uses root f made leaf));
  uses = refl;
}

-- an entry is written
pub entered : (words : List ℕ) (uses : List SharedUse) (leaf index : ℕ) (entry : Entry) → IsShared words uses → slice_get uses leaf ≡ Some Leaf
    → index < 1024 → SetsEntry (shared_of words uses) (shared_of (slice_set words (leaf * 1024 + index) (leaf_word entry)) uses) leaf index entry
entered words uses leaf index entry pool made inside = record {
  entries = λ f i table within.
      ap (λ (w : ℕ). leaf_of w) (word_at-written words uses leaf index (leaf_word entry) Leaf pool made inside f i within)
      ∙ (read_choice (λ (w : ℕ). leaf_of w) ((f == leaf) && (i == index)) (leaf_word entry) (word_at words f i)
      ∙ ap (λ (t : Option Entry). if (f == leaf) && (i == index) then t else leaf_of (word_at words f i)) (leaf_of-leaf_word entry));
  links = λ r i root within.
      ap (λ (w : ℕ). table_of w)
      (word_at-written words uses leaf index (leaf_word entry) Leaf pool made inside r i within
      ∙ fails (r == leaf) (i == index) (leaf_word entry) (word_at words r i) (apart uses r leaf root made));
  uses = refl;
}

-- a place that is not between two others
misses : (k a b : ℕ) → (a ≤ k → k < b → ⊥) → (nat_le a k && nat_lt k b) ≡ false
misses k a b never = grind (arith, nat_tests, never)

-- the words from start up to end are 0, and the others as they were
pub record Wiped (old new : List ℕ) (start end : ℕ) : Type 0 where
  pub size : length new ≡ length old
  pub words : (k : ℕ) → slice_index new k ≡ (if nat_le start k && nat_lt k end then 0 else slice_index old k)

module _ (old new : List ℕ) (uses : List SharedUse) (leaf first end from to : ℕ) (pool : IsShared old uses)
    (made : slice_get uses leaf ≡ Some Leaf) (starts : from ≡ min first 1024) (ends : to ≡ min end 1024)
    (wiped : Wiped old new (leaf * 1024 + from) (leaf * 1024 + to)) where
  -- the places that are wiped
  tests : (f i : ℕ) → i < 1024 → (nat_le (leaf * 1024 + from) (f * 1024 + i) && nat_lt (f * 1024 + i) (leaf * 1024 + to)) ≡ ((f == leaf) && (nat_le first i && nat_lt i end))
  tests f i within = on (eqb_tells f leaf)
    where
      on : ((eqb f leaf ≡ true) × (f ≡ leaf)) ⊎ ((eqb f leaf ≡ false) × (f ≢ leaf))
          → (nat_le (leaf * 1024 + from) (f * 1024 + i) && nat_lt (f * 1024 + i) (leaf * 1024 + to)) ≡ ((f == leaf) && (nat_le first i && nat_lt i end))
      on (inl same) =
          let one : nat_le (leaf * 1024 + from) (f * 1024 + i) ≡ nat_le first i = let same' = same.1 in grind (arith, nat_tests) in
          let two : nat_lt (f * 1024 + i) (leaf * 1024 + to) ≡ nat_lt i end = let same' = same.1 in grind (arith, nat_tests) in
          let here : (f == leaf) ≡ true = same.0 in
          rw (one, two, here) refl
      on (inr other) =
          let here : (f == leaf) ≡ false = other.0 in
          rw here (misses (f * 1024 + i) (leaf * 1024 + from) (leaf * 1024 + to) (λ low high. other.1 (omega (arith, low, high, ends, within))))

  word_at-wiped : (f i : ℕ) → i < 1024 → word_at new f i ≡ (if (f == leaf) && (nat_le first i && nat_lt i end) then 0 else word_at old f i)
  word_at-wiped f i within = wiped.words (f * 1024 + i) ∙ ap (λ (b : Bool). if b then 0 else word_at old f i) (tests f i within)

  -- the pool stays one
  pub shared-wiped : IsShared new uses
  shared-wiped =
      shared-changed old new uses pool wiped.size
      (λ k past. let used = slice_get_within uses leaf Leaf made in
      wiped.words k ∙ ap (λ (b : Bool). if b then 0 else slice_index old k) (past_all k (leaf * 1024 + from) (leaf * 1024 + to) (omega (arith, past, used, ends))))
      (λ f i v there within. subst (λ (w : ℕ). IsWordOf uses v w) (sym (word_at-wiped f i within)) (on v (word_at old f i) ((f == leaf) && (nat_le first i && nat_lt i end)) (pool.word f i v there within)))
    where
      past_all : (k a b : ℕ) → b ≤ k → (nat_le a k && nat_lt k b) ≡ false
      past_all k a b past = grind (arith, nat_tests)

      on : (v : SharedUse) (word : ℕ) (b : Bool) → IsWordOf uses v word → IsWordOf uses v (if b then 0 else word)
      on Root word true is = inl refl
      on Leaf word true is = inl refl
      on v word false is = is

  pub cleared : ClearsPlaces (shared_of old uses) (shared_of new uses) leaf first end
  cleared = record {
    entries = λ f i table within.
        ap (λ (w : ℕ). leaf_of w) (word_at-wiped f i within) ∙ read_choice (λ (w : ℕ). leaf_of w) ((f == leaf) && (nat_le first i && nat_lt i end)) 0 (word_at old f i);
    links = λ r i root within.
        ap (λ (w : ℕ). table_of w)
        (word_at-wiped r i within ∙ fails (r == leaf) (nat_le first i && nat_lt i end) 0 (word_at old r i) (apart uses r leaf root made));
    uses = refl;
  }
