-- An offset and what a guard left of an address stay in the space.
use Rattle.std.proofs.Common.{◌≡◌, ℕ, ◌+◌, ◌-◌, ◌*◌, ◌/◌, ◌%◌, ◌^◌, ◌<◌, ◌≤◌, true, refl, ◌∙◌, ap, subst, arith}
use Rattle.std.proofs.Math.Nat.{mul-le-mul_right, mul_comm, add-mul, div-lt_iff_lt-mul}
use Rattle.std.proofs.lemmas.Nat.{pow-add, pow_pos}
use Rattle.cap_format.specs.Kind.{is_window, object_limit}
use Rattle.cap_format.specs.declared.kind.CapKind.{CapKind}
use Rattle.cap_format.specs.declared.kind.CapKind.TheVariants.{Window, LocalWindow}
use Rattle.guard_math.proofs.BlockLaws.{quotient_of_multiple}

-- an offset is any address
pub window_limit : (kind : CapKind) → is_window kind ≡ true → object_limit kind ≡ 2 ^ 32
window_limit Window e = refl
window_limit LocalWindow e = refl
window_limit _ e = absurd (cc (e))

-- a multiple of a size and less than the size stay below a larger power
pub aligned_sum : (offset rest l m : ℕ) → l ≤ m → offset < 2 ^ m → offset % 2 ^ l ≡ 0 → rest < 2 ^ l → offset + rest < 2 ^ m
aligned_sum offset rest l m le fits aligned left =
    let parts : m ≡ l + (m - l) = omega arith in
    let size = ap (λ (n : ℕ). 2 ^ n) parts ∙ (pow-add 2 l (m - l) ∙ mul_comm (2 ^ l) (2 ^ (m - l))) in
    let whole = quotient_of_multiple offset (2 ^ l) aligned in
    let P : ℕ → Type 0 = λ n. offset < n in
    let below : offset / 2 ^ l < 2 ^ (m - l) = (div-lt_iff_lt-mul {k = 2 ^ l} {x = offset} {y = 2 ^ (m - l)} (pow_pos l)).1 (subst P size fits) in
    let top : (offset / 2 ^ l + 1) * 2 ^ l ≤ 2 ^ (m - l) * 2 ^ l = mul-le-mul_right (2 ^ l) (omega arith) in
    omega (arith, whole, top, add-mul (offset / 2 ^ l) 1 (2 ^ l))
