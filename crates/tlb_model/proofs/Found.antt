-- The laws of looking.
use Rattle.std.proofs.Common.{◌≡◌, ◌⊎◌, inl, inr, ℕ, Bool, true, false, if◌then◌else◌, not, ◌&&◌, ◌||◌, ◌==◌, nat_lt, List, [], ◌∷◌, ◌++◌, length, drop, Some, None, refl, sym, ◌∙◌}
use Rattle.guard_math.specs.Block.{holds}
use Rattle.sv32_tables.specs.declared.leaf.Leaf.{Leaf}
use Rattle.tlb_model.specs.declared.entry.Entry.{Entry}
use Rattle.tlb_model.specs.Entry.{entry_of, is_of}
use Rattle.tlb_model.specs.Tlb.{IsSingle, look, room, without_page}
use Rattle.tlb_model.specs.Laws.{DropLaw, FillLaw}
use Rattle.tlb_model.proofs.Looks.{IsSingle-filter, is_of_itself, look-behind, look-filter, look_push_cases, look_push_new, of_tells}
use Rattle.tlb_model.proofs.Kept.{room_none}

pub drop_law : DropLaw
drop_law es root block r p =
    look-filter (λ a b. not (a == root) || not (holds block b)) es r p ∙ on (r == root) (holds block p)
  where
    on : (x y : Bool) → (if not x || not y then look es r p else None) ≡ (if x && y then None else look es r p)
    on true true = refl
    on true false = refl
    on false true = refl
    on false false = refl

-- what is found with room made was found before
room-found : (es : List Entry) (r p : ℕ) (l : Leaf) → IsSingle es → look (room es) r p ≡ Some l → look es r p ≡ Some l
room-found [] r p l single found = found
room-found (e ∷ es) r p l single found = on (nat_lt (length (e ∷ es)) 64) found
  where
    on : (b : Bool) → look (if b then e ∷ es else drop 1 (e ∷ es)) r p ≡ Some l → look (e ∷ es) r p ≡ Some l
    on true here = here
    on false here = look-behind e es r p l single here

-- what is found without a page was found before
page-found : (es : List Entry) (root page r p : ℕ) (l : Leaf) → look (without_page es root page) r p ≡ Some l → look es r p ≡ Some l
page-found es root page r p l found =
    on ((r == root) && (p == page)) (sym (look-filter (λ a b. not ((a == root) && (b == page))) es r p) ∙ found)
  where
    on : (b : Bool) → (if not b then look es r p else None) ≡ Some l → look es r p ≡ Some l
    on true none = absurd (cc)
    on false same = same

pub fill_law : FillLaw
fill_law es root page leaf is = record { new = new; old = old }
  where
    last : Entry
    last = entry_of root page leaf

    rest : List Entry
    rest = room (without_page es root page)

    new : look (rest ++ last ∷ []) root page ≡ Some leaf
    new = look_push_new rest last root page (room_none es root page) ∙ on (is_of root page last) (is_of_itself last)
      where
        on : (b : Bool) → b ≡ true → (if b then Some leaf else None) ≡ Some leaf
        on true same = refl
        on false same = absurd (cc)

    old : (r p : ℕ) (found : Leaf) → look (rest ++ last ∷ []) r p ≡ Some found → ((r ≡ root) × (p ≡ page) × (found ≡ leaf)) ⊎ (look es r p ≡ Some found)
    old r p found here =
        elim (look_push_cases rest last r p found here) [
          | inl before ↦ inr (page-found es root page r p found (room-found (without_page es root page) r p found (IsSingle-filter (λ a b. not ((a == root) && (b == page))) es is.single) before))
          | inr both ↦ let parts = of_tells r p last both.0 in inl (sym parts.0, sym parts.1, both.1)
        ]
