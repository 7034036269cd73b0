-- Places of pages in their regions, and the blocks of reads there.
use Rattle.std.proofs.Common.{◌≡◌, ◌⊎◌, inl, inr, ℕ, ◌+◌, ◌*◌, ◌/◌, ◌%◌, ◌^◌, ◌<◌, ◌≤◌, min, true, ◌&&◌, nat_le, nat_eq, List, [], ◌∷◌, ◌++◌, map, refl, sym, ap, ◌∙◌, arith}
use Rattle.std.specs.List.{AllByRecursion as Each}
use Rattle.std.proofs.Math.Nat.{le_trans}
use Rattle.std.proofs.lemmas.Bool.{cases_lt, eqb-true}
use Rattle.std.proofs.lemmas.Bool.Decides.{nat_tests}
use Rattle.guard_math.specs.Block.{BlockValue, IsBlock, IsWithin, around, covers, first_page, holds, page_count}
use Rattle.guard_math.proofs.BlockLaws.{IsBlock-around, IsWithin-around, base_of_first_page, covers-around, holds-page, pages_of_size}
use Rattle.walk_meaning.specs.declared.noted.Noted.{Noted}
use Rattle.walk_meaning.specs.Trail.{noted, noted_in}
use Rattle.walk_meaning.proofs.Alike.{Alike, alike-above, alike-add}
use Rattle.walk_meaning.proofs.BlockLaw.{Falls}
use Rattle.walk_meaning.proofs.ReadsLaw.{NotedAt}
use Rattle.producers.specs.Producer.{cut}
use Rattle.producers.proofs.Cuts.{cut-noted}
use Rattle.depend_table.specs.Depend.{lies_in}

-- ---- a page of a region

-- a page by its region and its place
pub whole_page : (p : ℕ) → p / 1024 * 1024 + p % 1024 ≡ p
whole_page p = omega arith

-- the bits of its address in the region
pub page_low : (p : ℕ) → p * 4096 % 2 ^ 22 ≡ p % 1024 * 4096
page_low p = omega arith

-- an address of a region, and one of its places
pub place_low : (r j : ℕ) → j < 1024 → (r * 1024 + j) * 4096 % 2 ^ 22 ≡ j * 4096
place_low r j less = omega (arith, less)

pub place_high : (r j : ℕ) → j < 1024 → (r * 1024 + j) * 4096 / 2 ^ 22 ≡ r
place_high r j less = omega (arith, less)

pub page_high : (p : ℕ) → p * 4096 / 2 ^ 22 ≡ p / 1024
page_high p = omega arith

-- ---- reads at a place

-- the block of a read that is cut to its region, at a place of the region
pub record InPlace (j : ℕ) (n : Noted) : Type 0 where
  pub round : n.block ≡ around (j * 4096) n.block.l2
  pub low : 12 ≤ n.block.l2
  pub high : n.block.l2 ≤ 22

-- the block round an address has a page where both have the same bits above the size
holds-around : (a l p : ℕ) → 12 ≤ l → l ≤ 32 → a < 2 ^ 32 → holds (around a l) p ≡ nat_eq (p * 4096 / 2 ^ l) (a / 2 ^ l)
holds-around a l p low high fits =
    let page : p * 4096 / 4096 ≡ p = omega arith in
    ap (holds (around a l)) (sym page) ∙ (holds-page (around a l) (IsBlock-around a l low high fits) (p * 4096) ∙ covers-around a (p * 4096) l)

same_true : (m n : ℕ) → m ≡ n → nat_eq m n ≡ true
same_true m n e = grind (arith, nat_tests, e)

true_same : (m n : ℕ) → nat_eq m n ≡ true → m ≡ n
true_same m n e = eqb-true m n e

-- it has the place
pub place-held : (j : ℕ) (n : Noted) → j < 1024 → InPlace j n → holds n.block j ≡ true
place-held j n less at =
    ap (λ (b : BlockValue). holds b j) at.round
    ∙ (holds-around (j * 4096) n.block.l2 j at.low (let h = at.high in omega (arith, h)) (omega (arith, less))
    ∙ same_true (j * 4096 / 2 ^ n.block.l2) (j * 4096 / 2 ^ n.block.l2) refl)

-- a block that lies within another one lies in it by its pages
pages_within : (b c : BlockValue) → IsBlock b → IsBlock c → IsWithin b c → lies_in b c ≡ true
pages_within b c isb isc within =
    on (first_page b) (page_count b) (first_page c) (page_count c) b.base c.base (2 ^ b.l2) (2 ^ c.l2)
    (base_of_first_page b isb) (base_of_first_page c isc) (pages_of_size b.l2 isb.low) (pages_of_size c.l2 isc.low) within.from within.to
  where
    on : (f n g m b c s t : ℕ) → b ≡ f * 4096 → c ≡ g * 4096 → s ≡ n * 4096 → t ≡ m * 4096 → c ≤ b → b + s ≤ c + t
        → (nat_le g f && nat_le (f + n) (g + m)) ≡ true
    on f n g m b c s t e1 e2 e3 e4 from to =
        let low : g ≤ f = omega (arith, e1, e2, from) in
        let high : f + n ≤ g + m = omega (arith, e1, e2, e3, e4, to) in
        rw (le_true g f low, le_true (f + n) (g + m) high) refl
      where
        le_true : (x y : ℕ) → x ≤ y → nat_le x y ≡ true
        le_true x y e = grind (arith, nat_tests, e)

-- of two blocks at one place the smaller lies in the larger
pub place-nested : (j : ℕ) (n m : Noted) → j < 1024 → InPlace j n → InPlace j m → n.block.l2 ≤ m.block.l2 → lies_in n.block m.block ≡ true
place-nested j n m less at more smaller =
    let a : ℕ = j * 4096 in
    let fits : a < 2 ^ 32 = omega (arith, less) in
    let high : n.block.l2 ≤ 32 = let h = at.high in omega (arith, h) in
    let high_too : m.block.l2 ≤ 32 = let h = more.high in omega (arith, h) in
    (λ i. lies_in (at.round i) (more.round i))
    ∙ pages_within (around a n.block.l2) (around a m.block.l2) (IsBlock-around a n.block.l2 at.low high fits) (IsBlock-around a m.block.l2 more.low high_too fits)
    (IsWithin-around a n.block.l2 m.block.l2 smaller)

-- a read, cut
pub cut-placed : (p : ℕ) (n : Noted) → NotedAt (p * 4096) n → cut n ≡ noted n.item (p % 1024 * 4096) (min n.block.l2 22)
cut-placed p n at =
    let whole : n ≡ noted n.item (p * 4096) n.block.l2 = ap (λ (b : BlockValue). noted_in n.item b) at.round in
    ap cut whole ∙ (cut-noted n.item (p * 4096) n.block.l2 ∙ ap (λ (a : ℕ). noted n.item a (min n.block.l2 22)) (page_low p))

pub in-place : (p : ℕ) (n : Noted) → NotedAt (p * 4096) n → InPlace (p % 1024) (cut n)
in-place p n at =
    let size : (cut n).block.l2 ≡ min n.block.l2 22 = refl in
    let low = at.low in
    record {
      round = ap (λ (m : Noted). m.block) (cut-placed p n at);
      low = omega (arith, low);
      high = omega arith;
    }

-- an address of the region whose place lies in the cut block lies in the block
pub uncut-covers : (p j : ℕ) (n : Noted) → p < 2 ^ 20 → NotedAt (p * 4096) n → j < 1024 → holds (cut n).block j ≡ true → covers n.block ((p / 1024 * 1024 + j) * 4096) ≡ true
uncut-covers p j n fits at less held =
    ap (λ (b : BlockValue). covers b ((p / 1024 * 1024 + j) * 4096)) at.round
    ∙ (covers-around (p * 4096) ((p / 1024 * 1024 + j) * 4096) l ∙ same_true ((p / 1024 * 1024 + j) * 4096 / 2 ^ l) (p * 4096 / 2 ^ l) (alike (cases_lt 22 l)))
  where
    l : ℕ
    l = n.block.l2

    low : 12 ≤ l
    low = at.low

    place : ℕ
    place = p % 1024 * 4096

    cut_alike : l ≤ 22 → j * 4096 / 2 ^ l ≡ place / 2 ^ l
    cut_alike le =
        let small : min l 22 ≡ l = omega (arith, le) in
        let block : (cut n).block ≡ around place l = ap (λ (m : Noted). m.block) (cut-placed p n at) ∙ ap (around place) small in
        true_same (j * 4096 / 2 ^ l) (place / 2 ^ l)
        (sym (ap (λ (b : BlockValue). holds b j) block ∙ holds-around place l j low (omega (arith, le)) (omega arith)) ∙ held)

    alike : (22 < l) ⊎ (l ≤ 22) → (p / 1024 * 1024 + j) * 4096 / 2 ^ l ≡ p * 4096 / 2 ^ l
    alike (inl more) =
        let near : (p / 1024 * 1024 + j) * 4096 / 2 ^ 22 ≡ p * 4096 / 2 ^ 22 = place_high (p / 1024) j less ∙ sym (page_high p) in
        alike-above 22 l ((p / 1024 * 1024 + j) * 4096) (p * 4096) (omega (arith, more)) near
    alike (inr le) =
        let base : ℕ = p / 1024 * 4194304 in
        let one : base + j * 4096 ≡ (p / 1024 * 1024 + j) * 4096 = omega arith in
        let two : base + place ≡ p * 4096 = omega arith in
        let added : Alike l (base + j * 4096) (base + place) = alike-add l 22 base (j * 4096) place le (omega arith) (cut_alike le) in
        ap (λ (x : ℕ). x / 2 ^ l) (sym one) ∙ (added ∙ ap (λ (x : ℕ). x / 2 ^ l) two)

-- the block of a read has the page of the address
pub whole-held : (p : ℕ) (n : Noted) → p < 2 ^ 20 → NotedAt (p * 4096) n → holds n.block p ≡ true
whole-held p n fits at =
    ap (λ (b : BlockValue). holds b p) at.round
    ∙ (holds-around (p * 4096) n.block.l2 p at.low at.high (omega (arith, fits))
    ∙ same_true (p * 4096 / 2 ^ n.block.l2) (p * 4096 / 2 ^ n.block.l2) refl)

-- ---- blocks of a region or more

-- the block has each page of a region, or none
pub IsWide : BlockValue → Type 0
IsWide b = (r p : ℕ) → p / 1024 ≡ r → holds b p ≡ holds b (r * 1024)

pub wide-block : (p : ℕ) (n : Noted) → p < 2 ^ 20 → NotedAt (p * 4096) n → 22 ≤ n.block.l2 → IsWide n.block
unfolding IsWide
wide-block p n fits at more r q region =
    let l : ℕ = n.block.l2 in
    let high : l ≤ 32 = at.high in
    let inside : p * 4096 < 2 ^ 32 = omega (arith, fits) in
    let near : q * 4096 / 2 ^ 22 ≡ r * 1024 * 4096 / 2 ^ 22 = omega (arith, region) in
    ap (λ (b : BlockValue). holds b q) at.round
    ∙ (holds-around (p * 4096) l q at.low high inside
    ∙ (ap (λ (x : ℕ). nat_eq x (p * 4096 / 2 ^ l)) (alike-above 22 l (q * 4096) (r * 1024 * 4096) more near)
    ∙ (sym (holds-around (p * 4096) l (r * 1024) at.low high inside) ∙ ap (λ (b : BlockValue). holds b (r * 1024)) (sym at.round))))

pub wide-same : (b : BlockValue) (r p : ℕ) → IsWide b → p / 1024 ≡ r → holds b p ≡ holds b (r * 1024)
unfolding IsWide
wide-same b r p wide region = wide r p region

-- ---- sizes along reads

-- each read before one has no smaller block
pub falls-before : (top : ℕ) (before after : List Noted) (n : Noted) → Falls top (before ++ n ∷ after) → Each (λ m. n.block.l2 ≤ m.block.l2) before
falls-before top [] after n falls = tt
falls-before top (m ∷ before) after n falls = (first before m falls.1, falls-before m.block.l2 before after n falls.1)
  where
    first : (before : List Noted) (m : Noted) → Falls m.block.l2 (before ++ n ∷ after) → n.block.l2 ≤ m.block.l2
    first [] m falls = falls.0
    first (k ∷ before) m falls = le_trans (first before k falls.1) falls.0

pub falls-weaker : (l m : ℕ) (xs : List Noted) → l ≤ m → Falls l xs → Falls m xs
falls-weaker l m [] le falls = tt
falls-weaker l m (x ∷ xs) le falls = (le_trans falls.0 le, falls.1)

-- so it is with the rest of the reads
pub falls-behind : (top : ℕ) (before xs : List Noted) → Falls top (before ++ xs) → Falls top xs
falls-behind top [] xs falls = falls
falls-behind top (m ∷ before) xs falls = falls-weaker m.block.l2 top xs falls.0 (falls-behind m.block.l2 before xs falls.1)

-- and with cut reads
pub falls-cut : (top : ℕ) (xs : List Noted) → Falls top xs → Falls (min top 22) (map cut xs)
falls-cut top [] falls = tt
falls-cut top (x ∷ xs) falls =
    let first = falls.0 in
    let below : min x.block.l2 22 ≤ min top 22 = omega (arith, first) in
    (below, falls-cut x.block.l2 xs falls.1)
