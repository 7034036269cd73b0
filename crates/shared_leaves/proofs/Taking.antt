-- What a record of an item that is taken out says of its frame.
use Rattle.std.proofs.Common.{◌≡◌, ◌≢◌, ℕ, Bool, true, false, not, ◌&&◌, ◌||◌, ◌==◌, if◌then◌else◌, List, [], Option, Some, None, refl, sym, ap, ◌∙◌, arith}
use Rattle.std.specs.Prelude.{slice_get}
use Rattle.std.specs.List.{list_any}
use Rattle.std.proofs.lemmas.Bool.Decides.{nat_tests}
use Rattle.guard_math.specs.Block.{BlockValue, holds}
use Rattle.sv32_tables.specs.declared.shared_use.SharedUse.{SharedUse}
use Rattle.sv32_tables.specs.declared.shared_use.SharedUse.TheVariants.{Root as RootUse, Leaf as LeafUse}
use Rattle.sv32_tables.specs.Shared.{IsSharedRoot, SharedValue}
use Rattle.tlb_model.specs.declared.entry.Entry.{Entry as TlbEntry}
use Rattle.depend_table.specs.Depend.{Depend, has, lies_in, same_block, same_item}
use Rattle.depend_table.proofs.Members.{same_itself}
use Rattle.shared_leaves.specs.declared.key.Key.{Key}
use Rattle.shared_leaves.specs.Key.{is_leaf, same_key}
use Rattle.shared_leaves.specs.Kept.{is_on}
use Rattle.shared_leaves.specs.Cache.{IsCache, key_at, note_of}
use Rattle.shared_leaves.proofs.Invariant.{leaf_keyed, standing, used}
use Rattle.depend_table.proofs.Coded.{key_itself, key_tells, one_key}
use Rattle.depend_table.proofs.Records.{has_any}
use Rattle.depend_table.proofs.Tests.{both, number_itself, same_numbers, same_tests}
use Rattle.shared_leaves.proofs.Codes.{key_coding}

-- an item passes the test with itself
pub item_itself : (d : Depend) → same_item d.item d.item ≡ true
item_itself d = (both (same_item d.item d.item) ((d.root == d.root) && same_block d.block d.block) (same_itself d)).0

-- choices of what is left
pub join : {X : Type 0} (a b : Bool) (x : Option X) → (if b then None else (if a then None else x)) ≡ (if a || b then None else x)
join true true x = refl
join true false x = refl
join false b x = refl

pub none_left : {X : Type 0} (a b : Bool) → ◌≡◌ {A = Option X} (if a then None else None) (if b then None else None)
none_left true true = refl
none_left true false = refl
none_left false true = refl
none_left false false = refl

pub not_true_is : (b : Bool) → not b ≡ true → b ≡ false
not_true_is true is = absurd (cc)
not_true_is false is = refl

pub not_false : (b : Bool) → not b ≡ false → b ≡ true
not_false true is = refl
not_false false is = absurd (cc)

pub together : (a b : Bool) → a ≡ true → b ≡ true → (a && b) ≡ true
together true b x y = y
together false b x y = x

-- what was dropped with a record is what will be left
pub nothing_left : (ds new : List Depend) (d : Depend) (to es : List TlbEntry) → has ds d ≡ true → to ≡ []
    → (if list_any (λ e. same_item e.item d.item) new then [] else to) ≡ (if list_any (λ e. same_item e.item d.item) ds then [] else es)
nothing_left ds new d to es there dropped =
    on (list_any (λ e. same_item e.item d.item) new) (list_any (λ e. same_item e.item d.item) ds) (has_any (λ e. same_item e.item d.item) ds d there (item_itself d)) dropped
  where
    on : (a b : Bool) → b ≡ true → to ≡ [] → (if a then [] else to) ≡ (if b then [] else es)
    on a false is dropped = absurd (cc)
    on true true is dropped = refl
    on false true is dropped = dropped

-- a record of the item is not left, nor is one that is covered
pub gone : (a b c : Bool) → b ≡ true → (a && (not b && not c)) ≡ false
gone true true c is = refl
gone false b c is = refl
gone true false c is = absurd (cc)

pub covered : (a b l c : Bool) → l ≡ true → c ≡ true → (a && (not b && not (l && c))) ≡ false
covered false b l c x y = refl
covered true true l c x y = refl
covered true false true true x y = refl
covered true false true false x y = absurd (cc)
covered true false false c x y = absurd (cc)

-- blocks lie in themselves
pub lies_itself : (b : BlockValue) → lies_in b b ≡ true
lies_itself b = grind (arith, nat_tests)

module _ (t : SharedValue) (keys : List Key) (tlbs : List (List TlbEntry)) (ds : List Depend) (cache : IsCache t keys tlbs ds) (d : Depend) (there : has ds d ≡ true) where
  abbrev K : Key
  K = key_at keys d.root

  -- the record's own key
  pub own : slice_get keys d.root ≡ Some K
  own = standing t keys tlbs ds cache d.root (cache.within d there)

  -- frames and keys are one by the same tests
  pub frame_test : (f : ℕ) (k : Key) → slice_get keys f ≡ Some k → (f == d.root) ≡ same_key k K
  frame_test f k at = same_tests (f == d.root) (same_key k K)
      (λ e. let one = one_key keys d.root k K (ap (slice_get keys) (sym (same_numbers f d.root e)) ∙ at) own in ap (same_key k) (sym one) ∙ key_itself key_coding k)
      (λ e. let one = key_tells key_coding k K e in ap (λ (n : ℕ). n == d.root) (cache.apart f d.root k at (own ∙ ap (λ (x : Key). Some x) (sym one))) ∙ number_itself d.root)

  -- whether it takes out a page of a key
  pub hit : (k : Key) (page : ℕ) → is_on k page d.item (note_of keys d) ≡ (same_key k K && holds d.block page)
  hit k page = ap (λ (b : Bool). b && (same_key k K && holds d.block page)) (item_itself d)

  pub unlike : (k : Key) → is_leaf k ≢ is_leaf K → same_key k K ≡ false
  unlike k differs = on (same_key k K) refl
    where
      on : (b : Bool) → same_key k K ≡ b → b ≡ false
      on false e = refl
      on true e = absurd (differs (ap is_leaf (key_tells key_coding k K e)))

  -- the frame of a record that is no leaf table's is a root
  pub rooted : is_leaf K ≡ false → IsSharedRoot t d.root
  rooted root = let found = used t keys tlbs ds cache d.root K own in on found.0 found.1
    where
      on : (x : SharedUse) → slice_get t.uses d.root ≡ Some x → IsSharedRoot t d.root
      on RootUse is = is
      on LeafUse is = let key = leaf_keyed t keys tlbs ds cache d.root is in absurd (let no' : false ≡ true = sym root ∙ key.1 in cc)
