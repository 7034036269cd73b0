use Rattle.std.proofs.Common.{◌≡◌, ℕ, suc, ◌+◌, ◌*◌, ◌/◌, ◌-◌, List, length, get_or, refl, sym, ap, ◌∙◌, arith}
use Rattle.std.proofs.lemmas.List.{get_or_past}
use Rattle.object_parts.specs.Part.{mixed, two_at, folded_twos}
use Rattle.object_parts.proofs.feeding.folded.Goals as goal

pub loop-i-init : goal.loop-i-init
unfolding folded_twos
loop-i-init c = refl

-- two more
twos_more : (h i : ℕ) (numbers : List ℕ) → folded_twos h numbers (i + 1) ≡ mixed (folded_twos h numbers i) (two_at numbers i)
unfolding folded_twos
twos_more h i numbers = let next : i + 1 ≡ suc i = omega arith in ap (λ (n : ℕ). folded_twos h numbers n) next

pub loop-i-preserved : goal.loop-i-preserved
loop-i-preserved c =
    let l = c.loop-i in
    c.mixed-sum.ensures
    ∙ ap (λ x. mixed l.sum x) c.two_at.ensures
    ∙ ap (λ h. mixed h (two_at c.args.numbers.now l.i)) l.invariant
    ∙ sym (twos_more c.args.start l.i c.args.numbers.now)

-- behind the last number there is none
last_two : (numbers : List ℕ) (i : ℕ) → length numbers ≡ 2 * i + 1 → two_at numbers i ≡ get_or numbers (length numbers - 1) 0
last_two numbers i odd =
    let at : 2 * i ≡ length numbers - 1 = omega (arith, odd) in
    let none : get_or numbers (2 * i + 1) 0 ≡ 0 = get_or_past numbers (2 * i + 1) 0 (omega (arith, odd)) in
    let high : 4294967296 * get_or numbers (2 * i + 1) 0 ≡ 0 = ap (λ (n : ℕ). 4294967296 * n) none in
    let low : get_or numbers (2 * i) 0 ≡ get_or numbers (length numbers - 1) 0 = ap (λ (n : ℕ). get_or numbers n 0) at in
    omega (arith, high, low)

pub returns-then-count-eq1 : goal.returns-then-count-eq1
returns-then-count-eq1 c =
    let l = c.loop-i in
    let numbers = c.args.numbers.now in
    let odd : length numbers ≡ 2 * l.i + 1 = omega (arith, c.if-count-eq1.true, c.loop-i-test.false, l.auto.i-end) in
    let half : (length numbers + 1) / 2 ≡ l.i + 1 = omega (arith, odd) in
    c.mixed.ensures
    ∙ ap (λ x. mixed l.sum x) (c.from.ensures ∙ sym (last_two numbers l.i odd))
    ∙ ap (λ h. mixed h (two_at numbers l.i)) l.invariant
    ∙ sym (twos_more c.args.start l.i numbers)
    ∙ ap (λ (n : ℕ). folded_twos c.args.start numbers n) (sym half)
