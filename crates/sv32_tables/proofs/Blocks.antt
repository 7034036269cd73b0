-- The pages of a block lie below 2^20.
use Rattle.std.proofs.Common.{◌≡◌, ℕ, ◌+◌, ◌-◌, ◌*◌, ◌/◌, ◌<◌, ◌≤◌, ◌^◌, ◌⊎◌, inl, inr, leb, true, false, ap, ◌∙◌, arith}
use Rattle.std.proofs.Math.Nat.{add-mul, mul-le-mul_right}
use Rattle.std.proofs.lemmas.Nat.{pow-add}
use Rattle.std.proofs.lemmas.Bool.Decides.{leb_tells}
use Rattle.guard_math.specs.Block.{BlockValue, IsBlock, first_page, page_count}
use Rattle.guard_math.proofs.BlockLaws.{base_of_first_page, pages_of_size, quotient_of_multiple}

pub pages_below : (b : BlockValue) → IsBlock b → first_page b + page_count b ≤ 1048576
pages_below b is =
    let parts : 32 ≡ 32 - b.l2 + b.l2 = let high = is.high in omega arith in
    let whole : 2 ^ 32 ≡ 2 ^ (32 - b.l2) * 2 ^ b.l2 = ap (λ (n : ℕ). 2 ^ n) parts ∙ pow-add 2 (32 - b.l2) b.l2 in
    let base = quotient_of_multiple b.base (2 ^ b.l2) is.aligned in
    let top = ends b.base (b.base / 2 ^ b.l2) (2 ^ (32 - b.l2)) (2 ^ b.l2) base whole is.inside in
    let pages = base_of_first_page b is in
    let size = pages_of_size b.l2 is.low in
    omega (arith, top, pages, size)
  where
    ends : (base q t s : ℕ) → base ≡ q * s → 2 ^ 32 ≡ t * s → base < 2 ^ 32 → base + s ≤ 2 ^ 32
    ends base q t s multiple whole inside = on (leb_tells t q)
      where
        on : ((leb t q ≡ true) × (t ≤ q)) ⊎ ((leb t q ≡ false) × (q < t)) → base + s ≤ 2 ^ 32
        on (inl past) = absurd (let over = mul-le-mul_right s past.1 in omega (arith, over, multiple, whole, inside))
        on (inr less) =
            let next : (q + 1) * s ≤ t * s = mul-le-mul_right s (let below = less.1 in omega (arith, below)) in
            omega (arith, next, add-mul q 1 s, multiple, whole)
