-- What keeps a cache one: dropping entries, making room, and a new entry at the end.
use Rattle.std.proofs.Common.{◌≡◌, ◌<◌, ℕ, Bool, true, false, if◌then◌else◌, not, ◌||◌, ◌&&◌, ◌==◌, nat_lt, List, [], ◌∷◌, ◌++◌, length, filter, drop, None, refl, ◌∙◌, arith, length-append}
use Rattle.std.proofs.lemmas.Bool.Decides.{nat_tests}
use Rattle.std.proofs.lemmas.List.Sums.{count_by-le-length, length-filter}
use Rattle.guard_math.specs.Block.{BlockValue, holds}
use Rattle.tlb_model.specs.declared.entry.Entry.{Entry}
use Rattle.tlb_model.specs.Tlb.{IsTlb, look, room, without_block, without_page}
use Rattle.tlb_model.proofs.Looks.{IsSingle-filter, IsSingle_push, look-filter, look-behind_none}

-- entries that are kept by their root and page
IsTlb-filter : (keep : ℕ → ℕ → Bool) (es : List Entry) → IsTlb es → IsTlb (filter (λ e. keep e.root e.page) es)
IsTlb-filter keep es is =
    let counted = length-filter (λ (e : Entry). keep e.root e.page) es in
    let fewer = count_by-le-length (λ (e : Entry). keep e.root e.page) es in
    record { size = omega (arith, is.size, counted, fewer); single = IsSingle-filter keep es is.single }

pub without_page_is : (es : List Entry) (r p : ℕ) → IsTlb es → IsTlb (without_page es r p)
without_page_is es r p is = IsTlb-filter (λ a b. not ((a == r) && (b == p))) es is

pub without_block_is : (es : List Entry) (r : ℕ) (block : BlockValue) → IsTlb es → IsTlb (without_block es r block)
without_block_is es r block is = IsTlb-filter (λ a b. not (a == r) || not (holds block b)) es is

pub push_is : (es : List Entry) (e : Entry) → IsTlb es → length es < 64 → look es e.root e.page ≡ None → IsTlb (es ++ e ∷ [])
push_is es e is space none =
    record { size = omega (arith, space, length-append es (e ∷ [])); single = IsSingle_push es e is.single none }

-- an entry that was taken out isn't found, also with room made
pub room_none : (es : List Entry) (r p : ℕ) → look (room (without_page es r p)) r p ≡ None
room_none es r p = at_room (without_page es r p) none
  where
    none : look (without_page es r p) r p ≡ None
    none = look-filter (λ a b. not ((a == r) && (b == p))) es r p ∙ on ((r == r) && (p == p)) (grind (arith, nat_tests))
      where
        on : (b : Bool) → b ≡ true → (if not b then look es r p else None) ≡ None
        on true is = refl
        on false is = absurd (cc)

    at_room : (xs : List Entry) → look xs r p ≡ None → look (room xs) r p ≡ None
    at_room [] none = refl
    at_room (e ∷ xs) none = on (nat_lt (length (e ∷ xs)) 64)
      where
        on : (b : Bool) → look (if b then e ∷ xs else drop 1 (e ∷ xs)) r p ≡ None
        on true = none
        on false = look-behind_none e xs r p none
