-- Words of a shared pool: what they lead to, and what a write in one frame leaves.
use Rattle.std.proofs.Common.{◌≡◌, ◌⊎◌, inl, inr, ℕ, ◌+◌, ◌*◌, ◌/◌, ◌%◌, ◌<◌, ◌≤◌, ◌^◌, List, [], ◌∷◌, ◌++◌, length, Some, None, true, false, ap, sym, subst, ◌∙◌, arith}
use Rattle.std.specs.List.{slice_get}
use Rattle.std.specs.Prelude.{slice_index}
use Rattle.std.proofs.lemmas.Bool.{false≢true}
use Rattle.std.proofs.lemmas.List.{length-append}
use Rattle.std.proofs.lemmas.Option.{none-some, slice_get_within}
use Rattle.sv32_tables.specs.declared.shared_use.SharedUse.{SharedUse}
use Rattle.sv32_tables.specs.declared.shared_use.SharedUse.TheVariants.{Root, Leaf}
use Rattle.sv32_tables.specs.Word.{is_valid, table_of}
use Rattle.sv32_tables.specs.Pool.{word_at}
use Rattle.sv32_tables.specs.Sv32.{Access, reached, through}
use Rattle.sv32_tables.specs.Shared.{IsShared, IsWordOf, shared_leaf_at, shared_of}
use Rattle.sv32_tables.proofs.Uses.{slice_get-push, slice_get-more}
use Rattle.sv32_tables.proofs.Walked.{IsWay, reached-way}
use Rattle.sv32_tables.proofs.WordLaws.{table_of-pointer}

-- a frame in use has its words within the pool
pub shared_inside : (words : List ℕ) (uses : List SharedUse) (frame index : ℕ) (u : SharedUse) → IsShared words uses → slice_get uses frame ≡ Some u → index < 1024
    → frame * 1024 + index < length words
shared_inside words uses frame index u pool there inside =
    let used = slice_get_within uses frame u there in
    omega (arith, used, inside, pool.size, pool.room)

-- a valid word of a root leads to a leaf table
pub linked_leaf : (uses : List SharedUse) (word leaf : ℕ) → IsWordOf uses Root word → table_of word ≡ Some leaf → slice_get uses leaf ≡ Some Leaf
linked_leaf uses word leaf (inl zeroed) e =
    let none : table_of word ≡ None = ap (λ (w : ℕ). table_of w) zeroed in
    absurd (none-some leaf (sym none ∙ e))
linked_leaf uses word leaf (inr led) e =
    let there : table_of word ≡ Some led.0 = ap (λ (w : ℕ). table_of w) led.2 ∙ table_of-pointer led.0 in
    let joined = sym there ∙ e in
    let same : led.0 ≡ leaf = cc in
    subst (λ (f : ℕ). slice_get uses f ≡ Some Leaf) same led.1

-- a valid word that was read of a root leads to a leaf table
pub read_link : (words : List ℕ) (uses : List SharedUse) (root region word leaf : ℕ) → IsShared words uses → slice_get uses root ≡ Some Root → region < 1024
    → word ≡ word_at words root region → Some leaf ≡ table_of word → slice_get uses leaf ≡ Some Leaf
read_link words uses root region word leaf pool made inside read e =
    linked_leaf uses word leaf (subst (λ (w : ℕ). IsWordOf uses Root w) (sym read) (pool.word root region Root made inside)) (sym e)

-- the number in a word of a root is that of a frame, unless the word is 0
pub number-link : (uses : List SharedUse) (word : ℕ) → length uses ≤ 256 → IsWordOf uses Root word
    → (is_valid word ≡ true → 4096 ≤ word / 1024) × (word / 1024 < 4352)
number-link uses word room (inl zeroed) =
    let invalid : is_valid word ≡ false = ap (λ (w : ℕ). is_valid w) zeroed in
    (λ e. absurd (false≢true (sym invalid ∙ e)), omega (arith, zeroed))
number-link uses word room (inr led) =
    let used = slice_get_within uses led.0 Leaf led.1 in
    let is = led.2 in
    (λ e. omega (arith, is), omega (arith, is, used, room))

-- the walk of the Privileged ISA over the words makes of each access what the entry lets through
pub reached-shared : (words : List ℕ) (uses : List SharedUse) (root page : ℕ) → IsShared words uses → slice_get uses root ≡ Some Root → page < 2 ^ 20
    → (access : Access) → reached words root page access ≡ through access (shared_leaf_at (shared_of words uses) root page)
reached-shared words uses root page pool made inside =
    reached-way words root page (way (pool.word root (page / 1024) Root made (omega (arith, inside))))
  where
    way : IsWordOf uses Root (word_at words root (page / 1024)) → IsWay words root page
    way (inl zeroed) = inl zeroed
    way (inr led) = inr (led.0, led.2, pool.word led.0 (page % 1024) Leaf led.1 (omega arith))

-- a pool with other words for the frames in use is one
pub shared-changed : (old new : List ℕ) (uses : List SharedUse) → IsShared old uses → length new ≡ length old
    → ((k : ℕ) → length uses * 1024 ≤ k → slice_index new k ≡ slice_index old k)
    → ((frame index : ℕ) (u : SharedUse) → slice_get uses frame ≡ Some u → index < 1024 → IsWordOf uses u (word_at new frame index))
    → IsShared new uses
shared-changed old new uses pool size spare word =
    record { size = size ∙ pool.size; room = pool.room; spare = λ k past. spare k past ∙ pool.spare k past; word = word }

-- one more frame in use, whose words are all 0
pub shared-made : (words : List ℕ) (uses : List SharedUse) (u : SharedUse) → IsShared words uses → length uses < 256 → IsShared words (uses ++ u ∷ [])
shared-made words uses u pool fits =
    let longer : length (uses ++ u ∷ []) ≡ length uses + 1 = length-append uses (u ∷ []) in
    record {
      size = pool.size;
      room = omega (arith, longer, fits);
      spare = λ k past. pool.spare k (omega (arith, longer, past));
      word = λ frame index v made inside. on frame index v inside (slice_get-push uses u frame v made);
    }
  where
    more : (v : SharedUse) (word : ℕ) → IsWordOf uses v word → IsWordOf (uses ++ u ∷ []) v word
    more Root word (inl zeroed) = inl zeroed
    more Root word (inr led) = inr (led.0, slice_get-more uses u led.0 Leaf led.1, led.2)
    more Leaf word is = is

    zero_word : (v : SharedUse) (word : ℕ) → word ≡ 0 → IsWordOf (uses ++ u ∷ []) v word
    zero_word Root word zeroed = inl zeroed
    zero_word Leaf word zeroed = inl zeroed

    on : (frame index : ℕ) (v : SharedUse) → index < 1024 → (slice_get uses frame ≡ Some v) ⊎ ((frame ≡ length uses) × (u ≡ v))
        → IsWordOf (uses ++ u ∷ []) v (word_at words frame index)
    on frame index v inside (inl made) = more v (word_at words frame index) (pool.word frame index v made inside)
    on frame index v inside (inr last) = zero_word v (word_at words frame index) (pool.spare (frame * 1024 + index) (omega (arith, last.0)))
