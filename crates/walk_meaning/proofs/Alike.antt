-- Addresses that are alike from a bit on: what guards, GPTs and windows make of them.
use Rattle.std.proofs.Common.{◌≡◌, ℕ, ◌+◌, ◌-◌, ◌*◌, ◌/◌, ◌%◌, ◌^◌, ◌<◌, ◌≤◌, sym, ◌∙◌, ap, arith}
use Rattle.std.proofs.Math.Nat.{div-div-eq-div-mul, add-mul-div_right, mul_comm, mul_assoc, add_comm}
use Rattle.std.proofs.Math.Arith.{mod-mul}
use Rattle.std.proofs.Math.Pow.{mod-mod-pow}
use Rattle.std.proofs.lemmas.Nat.{pow-add, pow_pos, div-mul-add}
use Rattle.guard_math.specs.Block.{around, block_of}
use Rattle.guard_math.proofs.BlockLaws.{quotient_of_multiple}

-- the two addresses have the same bits from l on
abbrev pub Alike : ℕ → ℕ → ℕ → Type 0
Alike l x y = x / 2 ^ l ≡ y / 2 ^ l

-- the larger of two sizes is a multiple of the smaller
pub size_by : (l m : ℕ) → l ≤ m → 2 ^ m ≡ 2 ^ l * 2 ^ (m - l)
size_by l m le =
    let parts : m ≡ l + (m - l) = omega arith in
    ap (λ (n : ℕ). 2 ^ n) parts ∙ pow-add 2 l (m - l)

-- alike from a bit on, alike from a higher one on
pub alike-above : (l m x y : ℕ) → l ≤ m → Alike l x y → Alike m x y
alike-above l m x y le alike =
    let cut = λ (n : ℕ). ap (λ (s : ℕ). n / s) (size_by l m le) ∙ sym (div-div-eq-div-mul n (2 ^ l) (2 ^ (m - l))) in
    cut x ∙ (ap (λ (n : ℕ). n / 2 ^ (m - l)) alike ∙ sym (cut y))

-- what is left below a bit of a multiple
mod_div : (n s k : ℕ) → 0 < s → 0 < k → n % (s * k) / s ≡ n / s % k
mod_div n s k s_pos k_pos =
    let cut = ap (λ (t : ℕ). n % t) (mul_comm s k) ∙ mod-mul n {m = k} {c = s} k_pos s_pos in
    let below : n % s < s = omega arith in
    ap (λ (t : ℕ). t / s) cut ∙ div-mul-add (n / s % k) s (n % s) below

-- what is left of them behind a guard or a GPT is alike
pub alike-mod : (l m x y : ℕ) → l ≤ m → Alike l x y → Alike l (x % 2 ^ m) (y % 2 ^ m)
alike-mod l m x y le alike =
    let cut = λ (n : ℕ). ap (λ (s : ℕ). n % s / 2 ^ l) (size_by l m le) ∙ mod_div n (2 ^ l) (2 ^ (m - l)) (pow_pos l) (pow_pos (m - l)) in
    cut x ∙ (ap (λ (n : ℕ). n % 2 ^ (m - l)) alike ∙ sym (cut y))

-- so is what a window makes of them, whose offset is a multiple of a size not below
pub alike-add : (l m c x y : ℕ) → l ≤ m → c % 2 ^ m ≡ 0 → Alike l x y → Alike l (c + x) (c + y)
alike-add l m c x y le aligned alike =
    let size = size_by l m le in
    let times : c ≡ c / 2 ^ m * 2 ^ (m - l) * 2 ^ l =
    quotient_of_multiple c (2 ^ m) aligned
    ∙ (ap (λ (t : ℕ). c / 2 ^ m * t) (size ∙ mul_comm (2 ^ l) (2 ^ (m - l))) ∙ sym (mul_assoc (c / 2 ^ m) (2 ^ (m - l)) (2 ^ l))) in
    let over = λ (n : ℕ). ap (λ (t : ℕ). (t + n) / 2 ^ l) times ∙ (ap (λ (t : ℕ). t / 2 ^ l) (add_comm (c / 2 ^ m * 2 ^ (m - l) * 2 ^ l) n) ∙ add-mul-div_right n (c / 2 ^ m * 2 ^ (m - l)) (pow_pos l)) in
    over x ∙ (ap (λ (q : ℕ). q + c / 2 ^ m * 2 ^ (m - l)) alike ∙ sym (over y))

-- the blocks round them, of a size not below, are the same
pub around-alike : (l m a b : ℕ) → l ≤ m → Alike l a b → around a m ≡ around b m
around-alike l m a b le alike = ap (λ (q : ℕ). block_of (q * 2 ^ m) m) (alike-above l m a b le alike)

-- a size of a page or more keeps the offset in the page
pub low-mod : (m a : ℕ) → 12 ≤ m → a % 2 ^ m % 4096 ≡ a % 4096
low-mod m a low =
    let parts : m ≡ m - 12 + 12 = omega arith in
    ap (λ (n : ℕ). a % 2 ^ n % 4096) parts ∙ mod-mod-pow a (m - 12) 12

-- so does an offset that is a multiple of such a size
pub low-add : (m c a : ℕ) → 12 ≤ m → c % 2 ^ m ≡ 0 → (c + a) % 4096 ≡ a % 4096
low-add m c a low aligned = let page : c % 4096 ≡ 0 = sym (low-mod m c low) ∙ ap (λ (n : ℕ). n % 4096) aligned in omega (arith, page)
