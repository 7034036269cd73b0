-- Each item has a place of its own.
use Rattle.std.proofs.Common.{◌≡◌, ◌≢◌, ℕ, ◌+◌, ◌*◌, ◌<◌, true, if◌then◌else◌, nat_lt, sym, ap, ◌∙◌, arith}
use Rattle.std.proofs.lemmas.Bool.Decides.{nat_tests}
use Rattle.cap_format.specs.declared.kind.CapKind.{CapKind}
use Rattle.cap_format.specs.declared.kind.CapKind.TheVariants.{Null, Page, CapPage, Gpt, Window, LocalWindow, Endpoint, Entry, Process, Schedule, Range, Discrim, KernLog, SysCtl}
use Rattle.cap_format.specs.declared.item.Item.{Item}
use Rattle.cap_format.specs.declared.item.Item.TheVariants.{Header, Slot}
use Rattle.cap_format.specs.Kind.{is_object, number_of, object_limit}
use Rattle.cap_format.proofs.KindNumbers.{kind_of_number, number_small}
use Rattle.cap_format.specs.Item.{IsItem}
use Rattle.depend_table.specs.Place.{first_place, place_of}

-- the type number of the kind whose headers have this place among them, 14 for a place of a slot
sort_at : ℕ → ℕ
sort_at place = if nat_lt place 4096 then 1 else if nat_lt place 4352 then 2 else if nat_lt place 5376 then 3 else if nat_lt place 6400 then 6 else if nat_lt place 6656 then 8 else 14

sort_of_header : (k : CapKind) (n : ℕ) → is_object k ≡ true → n < object_limit k → sort_at (first_place k + n) ≡ number_of k
unfolding sort_at
sort_of_header Page n is low = grind (arith, nat_tests)
sort_of_header CapPage n is low = grind (arith, nat_tests)
sort_of_header Gpt n is low = grind (arith, nat_tests)
sort_of_header Endpoint n is low = grind (arith, nat_tests)
sort_of_header Process n is low = grind (arith, nat_tests)
sort_of_header Null n is low = absurd (cc)
sort_of_header Window n is low = absurd (cc)
sort_of_header LocalWindow n is low = absurd (cc)
sort_of_header Entry n is low = absurd (cc)
sort_of_header Schedule n is low = absurd (cc)
sort_of_header Range n is low = absurd (cc)
sort_of_header Discrim n is low = absurd (cc)
sort_of_header KernLog n is low = absurd (cc)
sort_of_header SysCtl n is low = absurd (cc)

sort_of_slot : (g s : ℕ) → sort_at (6656 + g * 16 + s) ≡ 14
unfolding sort_at
sort_of_slot g s = grind (arith, nat_tests)

header_and_slot : (k : CapKind) (n g s : ℕ) → is_object k ≡ true → n < object_limit k → first_place k + n ≢ 6656 + g * 16 + s
header_and_slot k n g s is low same =
    let sort : number_of k ≡ 14 = sym (sort_of_header k n is low) ∙ ap sort_at same ∙ sort_of_slot g s in
    let small = number_small k in
    omega (arith, sort, small)

-- items of one place are one
pub item_of_place : (a b : Item) → IsItem a → IsItem b → place_of a ≡ place_of b → a ≡ b
item_of_place (Header j n) (Header k m) isa isb same =
    let kinds : j ≡ k = kind_of_number j k (sym (sort_of_header j n isa.0 isa.1) ∙ ap sort_at same ∙ sort_of_header k m isb.0 isb.1) in
    let first : first_place j ≡ first_place k = ap first_place kinds in
    let numbers : n ≡ m = omega (arith, same, first) in
    ap (λ (x : CapKind). Header x n) kinds ∙ ap (λ (x : ℕ). Header k x) numbers
item_of_place (Header j n) (Slot h t) isa isb same = absurd (header_and_slot j n h t isa.0 isa.1 same)
item_of_place (Slot g s) (Header k m) isa isb same = absurd (header_and_slot k m g s isb.0 isb.1 (sym same))
item_of_place (Slot g s) (Slot h t) isa isb same =
    let gpts : g ≡ h = omega (arith, same, isa.1, isb.1) in
    let slots : s ≡ t = omega (arith, same, gpts) in
    ap (λ (x : ℕ). Slot x s) gpts ∙ ap (λ (x : ℕ). Slot h x) slots

-- each item's place is one of those that there are
pub place_small : (a : Item) → IsItem a → place_of a < 23040
place_small (Header Page n) is = let low = is.1 in omega (arith, low)
place_small (Header CapPage n) is = let low = is.1 in omega (arith, low)
place_small (Header Gpt n) is = let low = is.1 in omega (arith, low)
place_small (Header Endpoint n) is = let low = is.1 in omega (arith, low)
place_small (Header Process n) is = let low = is.1 in omega (arith, low)
place_small (Header Null n) is = absurd (let no = is.0 in cc)
place_small (Header Window n) is = absurd (let no = is.0 in cc)
place_small (Header LocalWindow n) is = absurd (let no = is.0 in cc)
place_small (Header Entry n) is = absurd (let no = is.0 in cc)
place_small (Header Schedule n) is = absurd (let no = is.0 in cc)
place_small (Header Range n) is = absurd (let no = is.0 in cc)
place_small (Header Discrim n) is = absurd (let no = is.0 in cc)
place_small (Header KernLog n) is = absurd (let no = is.0 in cc)
place_small (Header SysCtl n) is = absurd (let no = is.0 in cc)
place_small (Slot g s) is = omega (arith, is.0, is.1)
