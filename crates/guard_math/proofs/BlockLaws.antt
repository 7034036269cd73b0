-- Facts about blocks: where they lie, which hold which, and what pages they have.
use Rattle.std.proofs.Common.{ℕ, true, ◌&&◌, nat_le, nat_lt, nat_eq, ◌≡◌, ◌⊎◌, inl, inr, ◌≤◌, ◌<◌, ◌+◌, ◌-◌, ◌*◌, ◌/◌, ◌%◌, ◌^◌, sym, ap, ◌∙◌, arith}
use Rattle.std.proofs.Math.Nat.{div-mul-le_self, lt-div-mul-add, div-div-eq-div-mul, div-eq_of_lt-le, mul-mod_left, mul_assoc, mul_comm, pow-le-pow_right, mod-eq-sub-div-mul, add-mul, mul-le-mul_right}
use Rattle.std.proofs.lemmas.Nat.{pow-add, pow_pos}
use Rattle.std.proofs.Math.Bool.{and_comm}
use Rattle.std.proofs.lemmas.Bool.Decides.{nat_tests}
use Rattle.guard_math.specs.Block.{BlockValue, IsBlock, IsWithin, around, covers, end_of, first_page, holds, page_count}

-- a size of a page or more, in pages
pub pages_of_size : (l2 : ℕ) → 12 ≤ l2 → 2 ^ l2 ≡ 2 ^ (l2 - 12) * 4096
pages_of_size l2 low =
    let parts : l2 ≡ l2 - 12 + 12 = omega arith in
    ap (λ (n : ℕ). 2 ^ n) parts ∙ pow-add 2 (l2 - 12) 12

-- a multiple of s is s times its quotient
pub quotient_of_multiple : (n s : ℕ) → n % s ≡ 0 → n ≡ n / s * s
quotient_of_multiple n s even =
    let cut = mod-eq-sub-div-mul n s in
    let below = div-mul-le_self n s in
    omega arith

-- a block's base is its first page's first address
pub base_of_first_page : (b : BlockValue) → IsBlock b → b.base ≡ first_page b * 4096
base_of_first_page b is =
    let size = pages_of_size b.l2 is.low in
    let whole : b.base ≡ b.base / 2 ^ b.l2 * 2 ^ b.l2 = quotient_of_multiple b.base (2 ^ b.l2) is.aligned in
    let pages : b.base ≡ b.base / 2 ^ b.l2 * 2 ^ (b.l2 - 12) * 4096 =
    whole ∙ ap (λ (n : ℕ). b.base / 2 ^ b.l2 * n) size ∙ sym (mul_assoc (b.base / 2 ^ b.l2) (2 ^ (b.l2 - 12)) 4096) in
    let even : b.base % 4096 ≡ 0 = ap (λ (n : ℕ). n % 4096) pages ∙ mul-mod_left (b.base / 2 ^ b.l2 * 2 ^ (b.l2 - 12)) 4096 in
    omega (arith, even)

-- the page of an address is one of the block's exactly where the address is
pub holds-page : (b : BlockValue) → IsBlock b → (a : ℕ) → holds b (a / 4096) ≡ covers b a
holds-page b is a =
    let base = base_of_first_page b is in
    let size = pages_of_size b.l2 is.low in
    on (first_page b) (page_count b) b.base (2 ^ b.l2) base size
  where
    on : (first count base size : ℕ) → base ≡ first * 4096 → size ≡ count * 4096
        → (nat_le first (a / 4096) && nat_lt (a / 4096) (first + count)) ≡ (nat_le base a && nat_lt a (base + size))
    on first count base size p q = grind (arith, nat_tests)

-- the block round an address is one
pub IsBlock-around : (a l2 : ℕ) → 12 ≤ l2 → l2 ≤ 32 → a < 2 ^ 32 → IsBlock (around a l2)
IsBlock-around a l2 low high fits =
    let below = div-mul-le_self a (2 ^ l2) in
    record { low = low; high = high; inside = omega (arith, below, fits); aligned = mul-mod_left (a / 2 ^ l2) (2 ^ l2) }

-- an address is one of the block round another exactly where both have the same bits above the size
pub covers-around : (a b l2 : ℕ) → covers (around a l2) b ≡ nat_eq (b / 2 ^ l2) (a / 2 ^ l2)
covers-around a b l2 = on (2 ^ l2) (pow_pos l2)
  where
    on : (s : ℕ) → 0 < s → (nat_le (a / s * s) b && nat_lt b (a / s * s + s)) ≡ nat_eq (b / s) (a / s)
    on s positive =
        let low = div-mul-le_self b s in
        let high = lt-div-mul-add {a = b} positive in
        let back : a / s * s ≤ b → b < a / s * s + s → b / s ≡ a / s =
        λ l h. let top : b < (a / s + 1) * s = omega (arith, h, add-mul (a / s) 1 s) in div-eq_of_lt-le s l top in
        grind (arith, nat_tests, low, high, back)

-- a block round an address covers it
pub covers-around_self : (a l2 : ℕ) → covers (around a l2) a ≡ true
covers-around_self a l2 =
    let low = div-mul-le_self a (2 ^ l2) in
    let high = lt-div-mul-add {a = a} (pow_pos l2) in
    grind (arith, nat_tests, low, high)

-- blocks round one address lie within each other, by their sizes
pub IsWithin-around : (a l m : ℕ) → l ≤ m → IsWithin (around a l) (around a m)
IsWithin-around a l m smaller =
    let parts : m ≡ l + (m - l) = omega arith in
    let size : 2 ^ m ≡ 2 ^ l * 2 ^ (m - l) = ap (λ (n : ℕ). 2 ^ n) parts ∙ pow-add 2 l (m - l) in
    let ends = on (2 ^ l) (2 ^ (m - l)) (2 ^ m) (pow_pos (m - l)) size in
    record { from = ends.0; to = ends.1 }
  where
    on : (s k t : ℕ) → 0 < k → t ≡ s * k → (a / t * t ≤ a / s * s) × (a / s * s + s ≤ a / t * t + t)
    on s k t positive product =
        let quotient : a / t ≡ a / s / k = ap (λ (n : ℕ). a / n) product ∙ sym (div-div-eq-div-mul a s k) in
        let base : a / t * t ≡ a / s / k * k * s =
        ap (λ (n : ℕ). n * t) quotient ∙ ap (λ (n : ℕ). a / s / k * n) (product ∙ mul_comm s k) ∙ sym (mul_assoc (a / s / k) k s) in
        let low : a / s / k * k * s ≤ a / s * s = mul-le-mul_right s (div-mul-le_self (a / s) k) in
        let cut = lt-div-mul-add {a = a / s} positive in
        let under : a / s + 1 ≤ a / s / k * k + k = omega (arith, cut) in
        let high : (a / s + 1) * s ≤ (a / s / k * k + k) * s = mul-le-mul_right s under in
        let left = add-mul (a / s) 1 s in
        let right = add-mul (a / s / k * k) k s in
        let order = mul_comm s k in
        (omega (arith, base, low), omega (arith, base, high, left, right, order, product))

-- an address of the inner block is one of the outer
pub covers-within : (b c : BlockValue) (a : ℕ) → IsWithin b c → covers b a ≡ (covers b a && covers c a)
covers-within b c a within = on b.base (end_of b) c.base (end_of c) within.from within.to
  where
    on : (b e c d : ℕ) → c ≤ b → e ≤ d
        → (nat_le b a && nat_lt a e) ≡ ((nat_le b a && nat_lt a e) && (nat_le c a && nat_lt a d))
    on b e c d low high = grind (arith, nat_tests)

-- the same with the outer block in front
pub covers-within_behind : (b c : BlockValue) (a : ℕ) → IsWithin c b → covers c a ≡ (covers b a && covers c a)
covers-within_behind b c a within = covers-within c b a within ∙ and_comm (covers c a) (covers b a)

-- of two blocks one of which lies within the other, the smaller lies within the larger
pub IsWithin-smaller : (b c : BlockValue) → IsWithin b c ⊎ IsWithin c b → b.l2 ≤ c.l2 → IsWithin b c
IsWithin-smaller b c (inl within) smaller = within
IsWithin-smaller b c (inr within) smaller =
    let sizes : 2 ^ b.l2 ≤ 2 ^ c.l2 = pow-le-pow_right {n = 2} (omega arith) smaller in
    record { from = omega (arith, within.from, within.to, sizes); to = omega (arith, within.from, within.to, sizes) }

-- the same with the smaller block behind
pub IsWithin-smaller_behind : (b c : BlockValue) → IsWithin b c ⊎ IsWithin c b → c.l2 ≤ b.l2 → IsWithin c b
IsWithin-smaller_behind b c (inl within) smaller = IsWithin-smaller c b (inr within) smaller
IsWithin-smaller_behind b c (inr within) smaller = within
