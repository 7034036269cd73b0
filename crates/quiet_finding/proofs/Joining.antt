-- Groups that are joined.
use Rattle.std.proofs.Common.{◌≡◌, ℕ, ◌==◌, Bool, true, false, ◌||◌, if◌then◌else◌, refl, sym, ◌∙◌, ap, eqb-true}
use Rattle.quiet_runs.specs.declared.reached_by.ReachedBy.{ReachedBy}
use Rattle.quiet_runs.specs.declared.reached_by.ReachedBy.TheVariants.{Nobody, Alone, Several}
use Rattle.quiet_runs.specs.Reaching.{joined}

-- nobody adds nothing
pub joined-nobody : (a : ReachedBy) → joined a Nobody ≡ a
joined-nobody Nobody = refl
joined-nobody (Alone p) = refl
joined-nobody Several = refl

pub joined-assoc : (a b c : ReachedBy) → joined (joined a b) c ≡ joined a (joined b c)
joined-assoc Nobody b c = refl
joined-assoc (Alone p) Nobody c = refl
joined-assoc (Alone p) (Alone q) Nobody = by (p == q)
  where
    by : (same : Bool) → joined (if same then Alone p else Several) Nobody ≡ (if same then Alone p else Several)
    by true = refl
    by false = refl
joined-assoc (Alone p) (Alone q) (Alone r) = by (p == q) (q == r) refl refl
  where
    by : (first second : Bool) → (p == q) ≡ first → (q == r) ≡ second
        → joined (if first then Alone p else Several) (Alone r) ≡ joined (Alone p) (if second then Alone q else Several)
    by true true e f = let one : p ≡ q = eqb-true p q e in let two : q ≡ r = eqb-true q r f in ap (λ (n : ℕ). if p == n then Alone p else Several) (sym two)
    by true false e f = let one : p ≡ q = eqb-true p q e in ap (λ (n : ℕ). if n == r then Alone p else Several) one ∙ ap (λ (same : Bool). if same then Alone p else Several) f
    by false true e f = ap (λ (same : Bool). if same then Alone p else Several) (sym e)
    by false false e f = refl
joined-assoc (Alone p) (Alone q) Several = by (p == q)
  where
    by : (same : Bool) → joined (if same then Alone p else Several) Several ≡ Several
    by true = refl
    by false = refl
joined-assoc (Alone p) Several c = refl
joined-assoc Several b c = refl

-- the same of tests
pub or-false : (b : Bool) → (b || false) ≡ b
or-false true = refl
or-false false = refl

pub or-assoc : (a b c : Bool) → ((a || b) || c) ≡ (a || (b || c))
or-assoc true b c = refl
or-assoc false b c = refl
