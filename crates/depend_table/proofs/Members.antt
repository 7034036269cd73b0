-- What the tests of sameness and of membership tell.
use Rattle.std.proofs.Common.{◌≡◌, ◌⊎◌, inl, inr, ℕ, Bool, true, false, not, ◌&&◌, ◌||◌, ◌==◌, List, refl, sym, ap, ◌∙◌, arith}
use Rattle.std.proofs.lemmas.Bool.Decides.{nat_tests}
use Rattle.cap_format.specs.Kind.{number_of}
use Rattle.cap_format.proofs.KindNumbers.{kind_of_number}
use Rattle.cap_format.specs.declared.kind.CapKind.{CapKind}
use Rattle.cap_format.specs.declared.item.Item.{Item}
use Rattle.cap_format.specs.declared.item.Item.TheVariants.{Header, Slot}
use Rattle.guard_math.specs.Block.{BlockValue, block_of}
use Rattle.depend_table.proofs.Tests.{both, same_numbers}
use Rattle.depend_table.specs.Depend.{Adds, Depend, Takes, depend, has, same, same_block, same_item}

-- items that pass the test are one
pub same_item_tells : (a b : Item) → same_item a b ≡ true → a ≡ b
same_item_tells (Header j n) (Header k m) holds =
    let parts = both (number_of j == number_of k) (n == m) holds in
    ap (λ (x : CapKind). Header x n) (kind_of_number j k (same_numbers (number_of j) (number_of k) parts.0)) ∙ ap (λ (x : ℕ). Header k x) (same_numbers n m parts.1)
same_item_tells (Header j n) (Slot h t) holds = absurd (cc)
same_item_tells (Slot g s) (Header k m) holds = absurd (cc)
same_item_tells (Slot g s) (Slot h t) holds =
    let parts = both (g == h) (s == t) holds in
    ap (λ (x : ℕ). Slot x s) (same_numbers g h parts.0) ∙ ap (λ (x : ℕ). Slot h x) (same_numbers s t parts.1)

-- blocks that pass the test are one
pub same_block_tells : (b c : BlockValue) → same_block b c ≡ true → b ≡ c
same_block_tells b c holds =
    let parts = both (b.base == c.base) (b.l2 == c.l2) holds in
    ap (λ (x : ℕ). block_of x b.l2) (same_numbers b.base c.base parts.0) ∙ ap (λ (x : ℕ). block_of c.base x) (same_numbers b.l2 c.l2 parts.1)

-- records that pass the test are one
pub same_tells : (d e : Depend) → same d e ≡ true → d ≡ e
same_tells d e holds =
    let parts = both (same_item d.item e.item) ((d.root == e.root) && same_block d.block e.block) holds in
    let others = both (d.root == e.root) (same_block d.block e.block) parts.1 in
    ap (λ (x : Item). depend x d.root d.block) (same_item_tells d.item e.item parts.0)
    ∙ ap (λ (x : ℕ). depend e.item x d.block) (same_numbers d.root e.root others.0)
    ∙ ap (λ (x : BlockValue). depend e.item e.root x) (same_block_tells d.block e.block others.1)

-- an item passes the test with itself
same_item_itself : (a : Item) → same_item a a ≡ true
same_item_itself (Header k n) = grind (arith, nat_tests)
same_item_itself (Slot g s) = grind (arith, nat_tests)

-- a record passes the test with itself
pub same_itself : (d : Depend) → same d d ≡ true
same_itself d = rw (same_item_itself d.item) (numbers d.root d.block.base d.block.l2)
  where
    numbers : (r b l : ℕ) → ((r == r) && ((b == b) && (l == l))) ≡ true
    numbers r b l = grind (arith, nat_tests)

-- a record that was noted is there
pub has-added_itself : (old new : List Depend) (d : Depend) → Adds old new d → has new d ≡ true
has-added_itself old new d adds = adds.records d ∙ rw (same_itself d) refl

-- what was there is there still
pub has-added : (old new : List Depend) (d e : Depend) → Adds old new d → has old e ≡ true → has new e ≡ true
has-added old new d e adds there = adds.records e ∙ rw there (on (same d e))
  where
    on : (b : Bool) → (b || true) ≡ true
    on true = refl
    on false = refl

-- nothing else came
pub has-added_cases : (old new : List Depend) (d e : Depend) → Adds old new d → has new e ≡ true → (has old e ≡ true) ⊎ (e ≡ d)
has-added_cases old new d e adds there = on (same d e) refl (sym (adds.records e) ∙ there)
  where
    on : (b : Bool) → same d e ≡ b → (b || has old e) ≡ true → (has old e ≡ true) ⊎ (e ≡ d)
    on true is holds = inr (sym (same_tells d e is))
    on false is holds = inl holds

-- what was there is there still, but for the record that was taken
pub has-taken_cases : (old new : List Depend) (d e : Depend) → Takes old new d → has old e ≡ true → (has new e ≡ true) ⊎ (e ≡ d)
has-taken_cases old new d e takes there = on (same d e) refl
  where
    on : (b : Bool) → same d e ≡ b → (has new e ≡ true) ⊎ (e ≡ d)
    on true is = inr (sym (same_tells d e is))
    on false is = inl (takes.records e ∙ rw (is, there) refl)

-- nothing came
pub has-taken : (old new : List Depend) (d e : Depend) → Takes old new d → has new e ≡ true → has old e ≡ true
has-taken old new d e takes there = (both (not (same d e)) (has old e) (sym (takes.records e) ∙ there)).1

-- the record that was taken is gone
pub has-taken_itself : (old new : List Depend) (d : Depend) → Takes old new d → has new d ≡ false
has-taken_itself old new d takes = takes.records d ∙ rw (same_itself d) refl
