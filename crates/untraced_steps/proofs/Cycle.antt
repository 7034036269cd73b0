-- Steps of harts, one behind the other.
use Rattle.std.proofs.Common.{◌≡◌, ◌<◌, ◌≤◌, ◌+◌, ◌-◌, ◌*◌, ◌∙◌, ◌∷◌, ◌++◌, [], ℕ, zero, suc, Bool, if◌then◌else◌, replicate, refl, sym, ap, arith}
use Rattle.std.proofs.Math.Nat.{suc-mul}
use Rattle.std.proofs.lemmas.Bool.{lt-ltb, le-ltb}
use Rattle.machine_state.specs.declared.event.Event.TheVariants.{Step}
use Rattle.untraced_steps.specs.HartSteps.{hart_behind, in_cycle, rounds, steps_from}

-- the hart behind one that is not the last
hart_behind-next : (first last hart : ℕ) → hart < last → hart_behind first last hart ≡ suc hart
hart_behind-next first last hart less =
    let next : hart + 1 ≡ suc hart = omega arith in
    ap (λ (b : Bool). if b then hart + 1 else first) (lt-ltb hart last less) ∙ next

-- the hart behind the last
hart_behind-last : (first last hart : ℕ) → last ≤ hart → hart_behind first last hart ≡ first
hart_behind-last first last hart past = ap (λ (b : Bool). if b then hart + 1 else first) (le-ltb hart last past)

-- the first step that is left, and those behind it
pub in_cycle_more : (first last hart times : ℕ) → 1 ≤ times → in_cycle first last hart times ≡ Step hart ∷ in_cycle first last (hart_behind first last hart) (times - 1)
in_cycle_more first last hart zero some = absurd (omega arith)
in_cycle_more first last hart (suc n) some =
    let less : suc n - 1 ≡ n = omega arith in
    ap (λ k. Step hart ∷ in_cycle first last (hart_behind first last hart) k) (sym less)

-- one hart alone
pub in_cycle_alone : (hart times : ℕ) → in_cycle hart hart hart times ≡ replicate times (Step hart)
in_cycle_alone hart zero = refl
in_cycle_alone hart (suc n) =
    ap (λ more. Step hart ∷ more)
    (ap (λ h. in_cycle hart hart h n) (hart_behind-last hart hart hart (omega arith)) ∙ in_cycle_alone hart n)

-- the rest of a round, and what is behind it
in_cycle-round : (last hart k n : ℕ) → hart + k ≡ last → in_cycle 0 last hart (suc (k + n)) ≡ steps_from hart (suc k) ++ in_cycle 0 last 0 n
in_cycle-round last hart zero n ends =
    let none : 0 + n ≡ n = omega arith in
    ap (λ m. Step hart ∷ in_cycle 0 last (hart_behind 0 last hart) m) none
    ∙ ap (λ h. Step hart ∷ in_cycle 0 last h n) (hart_behind-last 0 last hart (omega (arith, ends)))
in_cycle-round last hart (suc k) n ends =
    let size : suc k + n ≡ suc (k + n) = omega arith in
    ap (λ more. Step hart ∷ more)
    (ap (in_cycle 0 last (hart_behind 0 last hart)) size
    ∙ ap (λ h. in_cycle 0 last h (suc (k + n))) (hart_behind-next 0 last hart (omega (arith, ends)))
    ∙ in_cycle-round last (suc hart) k n (omega (arith, ends)))

-- rounds of harts, the last of which is this one
in_cycle-rounds : (last times : ℕ) → in_cycle 0 last 0 (times * suc last) ≡ rounds (suc last) times
in_cycle-rounds last zero =
    let none : 0 * suc last ≡ 0 = omega arith in
    ap (in_cycle 0 last 0) none
in_cycle-rounds last (suc times) =
    let shifted : (x : ℕ) → x + suc last ≡ suc (last + x) = λ x. omega arith in
    ap (in_cycle 0 last 0) (suc-mul times (suc last) ∙ shifted (times * suc last))
    ∙ in_cycle-round last 0 last (times * suc last) (omega arith)
    ∙ ap (λ more. steps_from 0 (suc last) ++ more) (in_cycle-rounds last times)

-- rounds of no hart have no step
rounds-none : (times : ℕ) → rounds 0 times ≡ []
rounds-none zero = refl
rounds-none (suc times) = rounds-none times

-- so many rounds of so many harts
pub in_cycle_all : (harts times : ℕ) → in_cycle 0 (harts - 1) 0 (times * harts) ≡ rounds harts times
in_cycle_all zero times =
    let none : times * 0 ≡ 0 = omega arith in
    ap (in_cycle 0 (0 - 1) 0) none ∙ sym (rounds-none times)
in_cycle_all (suc last) times =
    let one_less : suc last - 1 ≡ last = omega arith in
    ap (λ l. in_cycle 0 l 0 (times * suc last)) one_less ∙ in_cycle-rounds last times
