-- A class that lacks an edge of some choice has no round.
use Rattle.std.proofs.Common.{◌≡◌, ℕ, suc, ◌+◌, ◌*◌, ◌<◌, ◌≤◌, ◌⊎◌, inl, inr, true, false, Bool, List, [], ◌∷◌, ◌++◌, length, set, replicate, All, sym, ap, ◌∙◌, subst, arith, true≢false, length-set}
use Rattle.std.proofs.lemmas.Bool.{cases_eq}
use Rattle.std.proofs.lemmas.List.{get_or-set_same, get_or-set_other, get_or-replicate, length-replicate}
use Rattle.reaches_back.specs.Edges.{end_of, walked, AreEdges}
use Rattle.fair_rounds.specs.Table.{is_marked}
use Rattle.fair_rounds.specs.Loops.{IsLoopless, AreLoopless}
use Rattle.fair_rounds.specs.Classes.{class_of, IsFalling, IsInnerFrom, AreInner, Lacks}
use Rattle.fair_rounds.proofs.Passing.{contains-parts, All-front, All-back}
use Rattle.fair_rounds.proofs.Edges.{walked-append, end-inside, walked-inside}
use Rattle.fair_rounds.proofs.Flooding.{kept-more}

-- all edges of a node have their places in the table
pub row-within : (nodes width at : ℕ) → at < nodes → at * width + width ≤ nodes * width
row-within nodes width at a = grind arith

module _ (width : ℕ) (ends classes : List ℕ) (are : AreEdges width ends (length classes)) (falling : IsFalling width ends classes) where
  -- the class falls along edges
  class-walk : (at : ℕ) (path : List ℕ) → at < length classes → All (λ c. c < width) path → class_of classes (walked width ends at path) ≤ class_of classes at
  class-walk at [] a all = omega arith
  class-walk at (c ∷ path) a all =
      let l = all 0 c (omega arith) in
      let one = falling.falls at a c l in
      let rest = class-walk (end_of width ends at c) path (end-inside width ends (length classes) are at c a l) (λ k d m. all (suc k) d (omega arith)) in
      omega (arith, one, rest)

  pub lacking-loopless : (inner : List Bool) → AreInner width ends classes inner → (at : ℕ) → at < length classes → Lacks width inner (class_of classes at) → IsLoopless width ends at
  lacking-loopless inner is at a lack cycle loop =
      let p = contains-parts cycle lack.choice (loop.round.each lack.choice lack.within) in
      let all : All (λ c. c < width) (p.0 ++ lack.choice ∷ p.1) = subst (All (λ c. c < width)) p.2 loop.round.choices in
      let pre = All-front (λ c. c < width) p.0 (lack.choice ∷ p.1) all in
      let post : All (λ c. c < width) p.1 = All-back (λ c. c < width) (lack.choice ∷ []) p.1 (All-back (λ c. c < width) p.0 (lack.choice ∷ p.1) all) in
      let mid = walked width ends at p.0 in
      let end = end_of width ends mid lack.choice in
      let a-mid : mid < length classes = walked-inside width ends (length classes) are at p.0 a pre in
      let a-end : end < length classes = end-inside width ends (length classes) are mid lack.choice a-mid lack.within in
      let leads : walked width ends end p.1 ≡ at = sym (walked-append width ends at p.0 (lack.choice ∷ p.1)) ∙ ap (walked width ends at) (sym p.2) ∙ loop.back in
      let to-mid = class-walk at p.0 a pre in
      let to-end = falling.falls mid a-mid lack.choice lack.within in
      let to-at : class_of classes at ≤ class_of classes end = subst (λ n. class_of classes n ≤ class_of classes end) leads (class-walk end p.1 a-end post) in
      let same : class_of classes end ≡ class_of classes mid = omega (arith, to-mid, to-end, to-at) in
      let own : class_of classes mid ≡ class_of classes at = omega (arith, to-mid, to-end, to-at) in
      let there = is.each mid a-mid lack.choice lack.within same in
      true≢false (sym there ∙ ap (λ k. is_marked inner (k * width + lack.choice)) own ∙ lack.none)

-- one node more
pub inner-more : (width : ℕ) (ends classes : List ℕ) (old new : List Bool) (at : ℕ) → ((i : ℕ) → is_marked old i ≡ true → is_marked new i ≡ true)
    → ((i : ℕ) → i < at → IsInnerFrom width ends classes i old) → IsInnerFrom width ends classes at new → (i : ℕ) → i < at + 1 → IsInnerFrom width ends classes i new
inner-more width ends classes old new at kept before here i l c m h = by (cases_eq i at)
  where
    by : (i ≡ at) ⊎ (i ≡ at → ⊥) → is_marked new (class_of classes i * width + c) ≡ true
    by (inl e) = (let is : IsInnerFrom width ends classes i new = subst (λ j. IsInnerFrom width ends classes j new) (sym e) here in is c m h)
    by (inr apart) = kept (class_of classes i * width + c) (before i (omega (arith, l, apart)) c m h)

-- one choice more, marked or not
module _ (P : ℕ → Type 0) (class width choice : ℕ) (marks : List Bool) (before : (c : ℕ) → c < choice → P c → is_marked marks (class * width + c) ≡ true) where
  pub choice-marked : class * width + choice < length marks → (c : ℕ) → c < choice + 1 → P c → is_marked (set marks (class * width + choice) true) (class * width + c) ≡ true
  choice-marked inside c l p = by (cases_eq c choice)
    where
      by : (c ≡ choice) ⊎ (c ≡ choice → ⊥) → is_marked (set marks (class * width + choice) true) (class * width + c) ≡ true
      by (inl e) = ap (λ d. is_marked (set marks (class * width + choice) true) (class * width + d)) e ∙ get_or-set_same marks (class * width + choice) true false inside
      by (inr apart) = kept-more marks (class * width + choice) inside (class * width + c) (before c (omega (arith, l, apart)) p)

  pub choice-left : (P choice → ⊥) → (c : ℕ) → c < choice + 1 → P c → is_marked marks (class * width + c) ≡ true
  choice-left none c l p = by (cases_eq c choice)
    where
      by : (c ≡ choice) ⊎ (c ≡ choice → ⊥) → is_marked marks (class * width + c) ≡ true
      by (inl e) = absurd (none (subst P e p))
      by (inr apart) = before c (omega (arith, l, apart)) p

-- no node is marked, or one more that is so
pub loopless-none : (width : ℕ) (ends : List ℕ) (nodes : ℕ) → AreLoopless width ends nodes (replicate nodes false)
loopless-none width ends nodes = record {
  many = length-replicate nodes false;
  each = λ at l h. absurd (true≢false (sym h ∙ get_or-replicate nodes at false false l));
}

pub loopless-more : (width : ℕ) (ends : List ℕ) (nodes : ℕ) (marks : List Bool) → AreLoopless width ends nodes marks → (at : ℕ) → at < nodes → (b : Bool) → (b ≡ true → IsLoopless width ends at)
    → AreLoopless width ends nodes (set marks at b)
loopless-more width ends nodes marks are at l b here = record { many = length-set marks at b ∙ are.many; each = each }
  where
    each : (i : ℕ) → i < nodes → is_marked (set marks at b) i ≡ true → IsLoopless width ends i
    each i m h = by (cases_eq i at)
      where
        by : (i ≡ at) ⊎ (i ≡ at → ⊥) → IsLoopless width ends i
        by (inl e) = subst (IsLoopless width ends) (sym e) (here (sym (get_or-set_same marks at b false (omega (arith, l, are.many))) ∙ ap (is_marked (set marks at b)) (sym e) ∙ h))
        by (inr apart) = are.each i m (sym (get_or-set_other marks at i b false apart) ∙ h)
