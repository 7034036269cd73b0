-- Choices one behind the other: where they lead, and whether they pass a goal.
use Rattle.std.proofs.Common.{◌≡◌, ℕ, zero, suc, ◌+◌, ◌<◌, Bool, true, false, ◌||◌, List, [], ◌∷◌, ◌++◌, length, get_or, All, refl, ap, ◌∙◌, subst, arith, length-append, true≢false}
use Rattle.std.proofs.lemmas.List.{get_or_append_left, get_or-append-add}
use Rattle.std.proofs.lemmas.List.Elements.{All-append}
use Rattle.std.specs.List.{Contains}
use Rattle.fair_rounds.specs.Rounds.{IsRound, after, passes}

or-false : (a b : Bool) → (a || b) ≡ false → (a ≡ false) × (b ≡ false)
or-false false b h = (refl, h)
or-false true b h = absurd (true≢false h)

or-both : (a b : Bool) → a ≡ false → b ≡ false → (a || b) ≡ false
or-both false b h k = k
or-both true b h k = absurd (true≢false h)

module _ {S : Type 0} (next : S → ℕ → S) where
  pub after-append : (s : S) (p q : List ℕ) → after next s (p ++ q) ≡ after next (after next s p) q
  after-append s [] q = refl
  after-append s (c ∷ p) q = after-append (next s c) p q

  module _ (goal : S → Bool) where
    -- what passes no goal begins at none
    pub passes-here : (s : S) (path : List ℕ) → passes next goal s path ≡ false → goal s ≡ false
    passes-here s [] h = h
    passes-here s (c ∷ path) h = (or-false (goal s) (passes next goal (next s c) path) h).0

    pub passes-next : (s : S) (c : ℕ) (path : List ℕ) → passes next goal s (c ∷ path) ≡ false → passes next goal (next s c) path ≡ false
    passes-next s c path h = (or-false (goal s) (passes next goal (next s c) path) h).1

    pub passes-cons : (s : S) (c : ℕ) (path : List ℕ) → goal s ≡ false → passes next goal (next s c) path ≡ false → passes next goal s (c ∷ path) ≡ false
    passes-cons s c path h k = or-both (goal s) (passes next goal (next s c) path) h k

    pub passes-front : (s : S) (p q : List ℕ) → passes next goal s (p ++ q) ≡ false → passes next goal s p ≡ false
    passes-front s [] q h = passes-here s q h
    passes-front s (c ∷ p) q h = passes-cons s c p (passes-here s (c ∷ (p ++ q)) h) (passes-front (next s c) p q (passes-next s c (p ++ q) h))

    pub passes-back : (s : S) (p q : List ℕ) → passes next goal s (p ++ q) ≡ false → passes next goal (after next s p) q ≡ false
    passes-back s [] q h = h
    passes-back s (c ∷ p) q h = passes-back (next s c) p q (passes-next s c (p ++ q) h)

    pub passes-both : (s : S) (p q : List ℕ) → passes next goal s p ≡ false → passes next goal (after next s p) q ≡ false → passes next goal s (p ++ q) ≡ false
    passes-both s [] q h k = k
    passes-both s (c ∷ p) q h k = passes-cons s c (p ++ q) (passes-here s (c ∷ p) h) (passes-both (next s c) p q (passes-next s c p h) k)

    pub passes-end : (s : S) (path : List ℕ) → passes next goal s path ≡ false → goal (after next s path) ≡ false
    passes-end s [] h = h
    passes-end s (c ∷ path) h = passes-end (next s c) path (passes-next s c path h)

-- what holds of both lists holds of each
pub All-front : {X : Type 0} (P : X → Type 0) (xs ys : List X) → All P (xs ++ ys) → All P xs
All-front P xs ys all k d l = subst P (get_or_append_left xs ys d k l) (all k d (omega (arith, l, length-append xs ys)))

pub All-back : {X : Type 0} (P : X → Type 0) (xs ys : List X) → All P (xs ++ ys) → All P ys
All-back P xs ys all k d l = subst P (get_or-append-add xs ys k d) (all (length xs + k) d (omega (arith, l, length-append xs ys)))

-- an item of either list is one of both
pub contains-left : {X : Type 0} (xs ys : List X) (x : X) → Contains xs x → Contains (xs ++ ys) x
contains-left xs ys x h = (h.0, omega (arith, h.1, length-append xs ys), get_or_append_left xs ys x h.0 h.1 ∙ h.2)

pub contains-right : {X : Type 0} (xs ys : List X) (x : X) → Contains ys x → Contains (xs ++ ys) x
contains-right xs ys x h = (length xs + h.0, omega (arith, h.1, length-append xs ys), get_or-append-add xs ys h.0 x ∙ h.2)

-- a list is what stands before an item, the item and what stands behind
pub contains-parts : {X : Type 0} (xs : List X) (x : X) → Contains xs x → (pre : List X) × (post : List X) × (xs ≡ pre ++ x ∷ post)
contains-parts {X} xs x h = parts xs h.0 h.1 h.2
  where
    parts : (xs : List X) (k : ℕ) → k < length xs → get_or xs k x ≡ x → (pre : List X) × (post : List X) × (xs ≡ pre ++ x ∷ post)
    parts [] k l e = absurd (omega arith)
    parts (y ∷ xs) zero l e = ([], xs, ap (λ z. z ∷ xs) e)
    parts (y ∷ xs) (suc k) l e = let r = parts xs k (omega arith) e in (y ∷ r.0, r.1, ap (λ zs. y ∷ zs) r.2)

-- rounds with more choices before or behind them are rounds
pub round-more : (width : ℕ) (round more : List ℕ) → IsRound width round → All (λ c. c < width) more → IsRound width (round ++ more)
round-more width round more is all = record {
  choices = All-append (λ c. c < width) round more is.choices all;
  each = λ c l. contains-left round more c (is.each c l);
}

pub round-behind : (width : ℕ) (before round : List ℕ) → All (λ c. c < width) before → IsRound width round → IsRound width (before ++ round)
round-behind width before round all is = record {
  choices = All-append (λ c. c < width) before round all is.choices;
  each = λ c l. contains-right before round c (is.each c l);
}
