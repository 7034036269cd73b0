-- What is left of lines that are tried one by one is enough, and no fewer are.
use Rattle.std.proofs.Common.{◌≡◌, ◌↔◌, ℕ, ◌+◌, ◌<◌, inl, inr, ◌++◌, Bool, true, false, not, cond, if◌then◌else◌, List, [], ◌∷◌, drop, length, get_or, refl, sym, ◌∙◌, ap, ap₂, subst, add-one, drop-cons}
use Rattle.std.specs.List.{Contains}
use Rattle.std.proofs.lemmas.List.{append-nil, append_assoc}
use Rattle.std.proofs.lemmas.List.Elements.{Contains-append_left, Contains-append_right, Contains-append_cases}
use Rattle.separation_check.proofs.Listed.{later-element, element-one}
use Rattle.policy_lines.specs.declared.permission.Permission.{Permission}
use Rattle.policy_lines.specs.Least.{thinned}

-- each line of the one list is in the other
abbrev pub Within : List Permission → List Permission → Type 0
Within xs ys = (line : Permission) → Contains xs line → Contains ys line

module _ (Enough : List Permission → Type 0) (enough : List Permission → Bool)
    (decides : (xs : List Permission) → (enough xs ≡ true) ↔ Enough xs)
    (more : (xs ys : List Permission) → Within xs ys → Enough xs → Enough ys) where
  not_enough : (xs : List Permission) → enough xs ≡ false → Enough xs → ⊥
  not_enough xs fails is = let sure = (decides xs).1 is in cc (fails, sure)

  -- what is left is enough
  pub thinned-enough : (rest kept : List Permission) → Enough (kept ++ rest) → Enough (thinned enough kept rest)
  thinned-enough [] kept is = subst Enough (append-nil kept) is
  thinned-enough (line ∷ rest) kept is = by (enough (kept ++ rest)) refl (thinned-enough rest kept) (thinned-enough rest (kept ++ line ∷ []))
    where
      by : (b : Bool) → enough (kept ++ rest) ≡ b → (Enough (kept ++ rest) → Enough (thinned enough kept rest))
          → (Enough ((kept ++ line ∷ []) ++ rest) → Enough (thinned enough (kept ++ line ∷ []) rest))
          → Enough (thinned enough (if b then kept else kept ++ line ∷ []) rest)
      by true tells left_out stays = left_out ((decides (kept ++ rest)).0 tells)
      by false tells left_out stays = stays (subst Enough (sym (append_assoc kept (line ∷ []) rest)) is)

  -- no fewer of the lines than with one of the first left out are
  abbrev pub NoneOver : List Permission → List Permission → Type 0
  NoneOver kept all = (fewer : List Permission) (line : Permission) → Within fewer all → Contains kept line → (Contains fewer line → ⊥) → Enough fewer → ⊥

  -- a list with one line more behind it
  into : (kept rest : List Permission) (line : Permission) → Within ((kept ++ line ∷ []) ++ rest) (kept ++ line ∷ rest)
  into kept rest line other at = subst (λ (xs : List Permission). Contains xs other) (append_assoc kept (line ∷ []) rest) at

  wider : (kept rest : List Permission) (line : Permission) → Within (kept ++ rest) (kept ++ line ∷ rest)
  wider kept rest line other at = elim (Contains-append_cases kept rest other at) [
    | inl before ↦ Contains-append_left kept (line ∷ rest) other before
    | inr behind ↦ Contains-append_right kept (line ∷ rest) other (later-element line rest other behind)
  ]

  -- what is not the line itself is of the others
  beside : (kept rest : List Permission) (line other : Permission) → (line ≡ other → ⊥) → Contains (kept ++ line ∷ rest) other → Contains (kept ++ rest) other
  beside kept rest line other apart at = elim (Contains-append_cases kept (line ∷ rest) other at) [
    | inl before ↦ Contains-append_left kept rest other before
    | inr behind ↦ elim (Contains-append_cases (line ∷ []) rest other behind) [
      | inl here ↦ absurd (apart (element-one line other here))
      | inr later ↦ Contains-append_right kept rest other later
    ]
  ]

  keeps : (kept rest : List Permission) (line : Permission) → enough (kept ++ rest) ≡ false → NoneOver kept (kept ++ line ∷ rest) → NoneOver (kept ++ line ∷ []) ((kept ++ line ∷ []) ++ rest)
  keeps kept rest line fails before fewer one within at missing is = elim (Contains-append_cases kept (line ∷ []) one at) [
    | inl old ↦ before fewer one (λ other there. into kept rest line other (within other there)) old missing is
    | inr new ↦
        let same = element-one line one new in
        not_enough (kept ++ rest) fails (more fewer (kept ++ rest)
        (λ other there. beside kept rest line other (λ e. missing (subst (λ (x : Permission). Contains fewer x) (sym e ∙ same) there)) (into kept rest line other (within other there))) is)
  ]

  abbrev Least : List Permission → Type 0
  Least xs = NoneOver xs xs

  -- and no fewer of them are
  pub thinned-least : (rest kept : List Permission) → NoneOver kept (kept ++ rest) → NoneOver (thinned enough kept rest) (thinned enough kept rest)
  thinned-least [] kept before = subst (λ (xs : List Permission). NoneOver kept xs) (append-nil kept) before
  thinned-least (line ∷ rest) kept before = by (enough (kept ++ rest)) refl (thinned-least rest kept) (thinned-least rest (kept ++ line ∷ []))
    where
      by : (b : Bool) → enough (kept ++ rest) ≡ b → (NoneOver kept (kept ++ rest) → Least (thinned enough kept rest))
          → (NoneOver (kept ++ line ∷ []) ((kept ++ line ∷ []) ++ rest) → Least (thinned enough (kept ++ line ∷ []) rest))
          → Least (thinned enough (if b then kept else kept ++ line ∷ []) rest)
      by true tells left_out stays = left_out (λ fewer one within at missing is. before fewer one (λ other there. wider kept rest line other (within other there)) at missing is)
      by false tells left_out stays = stays (keeps kept rest line tells before)

-- one line is tried, as a loop goes on
pub one-thinned : (enough : List Permission → Bool) (lines : List Permission) (i : ℕ) (line : Permission) (passes : Bool) (kept after : List Permission) → i < length lines → line ≡ get_or lines i line
    → passes ≡ enough (kept ++ drop (i + 1) lines) → after ≡ kept ++ cond (not passes) (line ∷ []) []
    → thinned enough after (drop (i + 1) lines) ≡ thinned enough kept (drop i lines)
one-thinned enough lines i line passes kept after there same is more =
    ap (λ (ks : List Permission). thinned enough ks (drop (i + 1) lines)) (more ∙ (either passes ∙ ap (λ (b : Bool). if b then kept else kept ++ line ∷ []) is))
    ∙ ap (λ (ls : List Permission). thinned enough kept ls) (sym split)
  where
    either : (b : Bool) → kept ++ cond (not b) (line ∷ []) [] ≡ (if b then kept else kept ++ line ∷ [])
    either true = append-nil kept
    either false = refl

    split : drop i lines ≡ line ∷ drop (i + 1) lines
    split = drop-cons lines i line there ∙ ap₂ (λ (l : Permission) (n : ℕ). l ∷ drop n lines) (sym same) (sym (add-one i))
