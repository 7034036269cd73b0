-- What is found step by step is what is needed.
use Rattle.std.proofs.Common.{◌≡◌, ℕ, ◌+◌, ◌*◌, ◌≤◌, ◌==◌, true, false, List, [], ◌∷◌, map, length, refl, sym, ◌∙◌, ap, ap₂, subst, arith}
use Rattle.machine_state.specs.State.{State}
use Rattle.separation_policy.specs.Policy.{PolicyValue}
use Rattle.separation_policy.specs.Making.{bare_policy}
use Rattle.separation_check.specs.declared.crossing.Crossing.{Crossing}
use Rattle.separation_check.specs.Crossings.{meant_crossing}
use Rattle.policy_lines.specs.declared.permission.Permission.{Permission}
use Rattle.policy_lines.specs.Permission.{lines_of}
use Rattle.policy_lines.specs.Unused.{holds_in}
use Rattle.policy_lines.specs.Least.{with_lines, only, thinned}
use Rattle.policy_lines.specs.Needed.{barred, named_by, bare_crossings, barred_in, candidates, least_in, LinesAre, BarredAre, needed_by, needed_in, passages_by, passages_in}
use Rattle.policy_lines.proofs.Filtered.{empty}
use Rattle.policy_lines.proofs.Named.{barred-meant, named-meant}
use Rattle.policy_lines.proofs.Adding.{bare-count, bare-twice}

-- the policy now is without lines, and these are its crossings but for counts
module _ (policy now : PolicyValue) (s : State) (found : List Crossing) (cleared : now ≡ bare_policy policy) (means : map meant_crossing found ≡ bare_crossings policy s) where
  counts : length now.domains ≡ length policy.domains
  counts = ap (λ (p : PolicyValue). length p.domains) cleared ∙ bare-count policy

  still : bare_policy now ≡ bare_policy policy
  still = ap (λ (p : PolicyValue). bare_policy p) cleared ∙ bare-twice policy

  pub these-barred : map meant_crossing (barred (length now.domains) found) ≡ barred_in policy s
  these-barred =
      sym (barred-meant (length now.domains) found)
      ∙ ap₂ (λ (n : ℕ) (xs : List Crossing). barred n xs) counts means

  abbrev tried : List Permission
  tried = lines_of (only now (named_by (length now.domains) found))

  these-tried : tried ≡ candidates policy s
  these-tried =
      ap₂ (λ (bare : PolicyValue) (lines : List Permission). lines_of (with_lines bare lines)) still
      (sym (named-meant (length now.domains) found) ∙ ap₂ (λ (n : ℕ) (xs : List Crossing). named_by n xs) counts means)

  these-least : thinned (λ some. holds_in (only now some) s) [] tried ≡ least_in policy s
  these-least = ap₂ (λ (bare : PolicyValue) (lines : List Permission). thinned (λ some. holds_in (with_lines bare some) s) [] lines) still these-tried

  -- by what is barred
  module _ (those : List Crossing) (are : those ≡ barred (length now.domains) found) where
    barred-are : map meant_crossing those ≡ barred_in policy s
    barred-are = ap (λ (xs : List Crossing). map meant_crossing xs) are ∙ these-barred

    some-barred : (xs : List Crossing) → (length xs == 0) ≡ false → (ys : List Crossing) → map meant_crossing xs ≡ ys
        → (BarredAre (map meant_crossing xs) ≡ needed_by (least_in policy s) ys) × (passages_by (length (candidates policy s)) ys ≡ 1)
    some-barred [] e ys is = absurd (cc (e))
    some-barred (x ∷ xs) e [] is = absurd (cc (is))
    some-barred (x ∷ xs) e (y ∷ ys) is = (ap (λ (zs : List Crossing). BarredAre zs) is, refl)

    pub tells-barred : (length those == 0) ≡ false → (BarredAre (map meant_crossing those) ≡ needed_in policy s) × (passages_in policy s ≡ 1)
    tells-barred e = some-barred those e (barred_in policy s) barred-are

    none-barred : (length those == 0) ≡ true → barred_in policy s ≡ []
    none-barred e = sym barred-are ∙ ap (λ (xs : List Crossing). map meant_crossing xs) (empty those e)

    pub tells-lines : (length those == 0) ≡ true → (kept : List Permission) → kept ≡ thinned (λ some. holds_in (only now some) s) [] tried → LinesAre kept ≡ needed_in policy s
    tells-lines e kept is =
        ap (λ (lines : List Permission). LinesAre lines) (is ∙ these-least)
        ∙ ap (λ (xs : List Crossing). needed_by (least_in policy s) xs) (sym (none-barred e))

    pub tells-passages : (length those == 0) ≡ true → passages_in policy s ≡ 1 + length tried
    tells-passages e =
        ap₂ (λ (n : ℕ) (xs : List Crossing). passages_by n xs) (ap (λ (lines : List Permission). length lines) (sym these-tried)) (none-barred e)

-- all places are passed once at least
pub once : (policy : PolicyValue) (s : State) → 1 ≤ passages_in policy s
once policy s = by (barred_in policy s)
  where
    by : (xs : List Crossing) → 1 ≤ passages_by (length (candidates policy s)) xs
    by [] = omega arith
    by (x ∷ xs) = omega arith

-- ---- what is read

-- of one passage
pub read-once : (start after k n : ℕ) → n ≡ 1 → after ≡ start + k → after ≡ start + k * n
read-once start after k n once read = subst (λ (m : ℕ). after ≡ start + k * m) (sym once) (omega (arith, read))

-- of one, and then one for each line that is tried
pub read-all : (start after end k n tried : ℕ) → n ≡ 1 + tried → after ≡ start + k → end ≡ after + k * tried → end ≡ start + k * n
read-all start after end k n tried all first read = subst (λ (m : ℕ). end ≡ start + k * m) (sym all) (omega (arith, first, read))

-- the same of no more than that
pub within-all : (start after end k n tried : ℕ) → n ≡ 1 + tried → after ≡ start + k → end ≤ after + k * tried → end ≤ start + k * n
within-all start after end k n tried all first read = subst (λ (m : ℕ). end ≤ start + k * m) (sym all) (omega (arith, first, read))
