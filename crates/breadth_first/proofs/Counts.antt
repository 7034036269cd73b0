-- Marks of states, and counts of them.
use Rattle.std.proofs.Common.{◌≡◌, ℕ, zero, suc, ◌+◌, ◌<◌, ◌≤◌, ◌⊎◌, inl, inr, Bool, true, false, cond, List, [], ◌∷◌, ◌++◌, length, map, take, slice_get, get_or, Some, All, refl, sym, ap, ◌∙◌, subst, arith}
use Rattle.std.proofs.lemmas.Bool.{cases_lt}
use Rattle.std.proofs.lemmas.List.{length-map, length_push, get_or-map}
use Rattle.std.proofs.lemmas.Option.{slice_get_within, get_or_from_slice_get, same_Some}
use Rattle.std.specs.List.{fold, count_by}
use Rattle.breadth_first.specs.System.{System, IsEquality}
use Rattle.breadth_first.specs.Paths.{after}
use Rattle.breadth_first.specs.Kept.{Keeps}
use Rattle.breadth_first.specs.Answer.{IsFirst, IsCount}
use Rattle.breadth_first.specs.Origins.{IsPathTo}
use Rattle.breadth_first.specs.Progress.{IsOpened}
use Rattle.breadth_first.specs.declared.answer.Count.{Count}
use Rattle.breadth_first.proofs.Fronts.{front-push, front-back, slice_get-last}
use Rattle.breadth_first.proofs.Keys.{keeps-map}
use Rattle.breadth_first.proofs.Tracing.{shorter}
use Rattle.breadth_first.proofs.Endings.{All-from}

-- one element more
pub take-next : {X : Type 0} (xs : List X) (i : ℕ) (x : X) → slice_get xs i ≡ Some x → take (suc i) xs ≡ take i xs ++ x ∷ []
take-next [] i x h = cc
take-next (y ∷ xs) zero x h = ap (λ z. z ∷ []) (same_Some y x h)
take-next (y ∷ xs) (suc i) x h = ap (λ l. y ∷ l) (take-next xs i x h)

-- how many of the marks are set is how many pass
fold-map : {A B C : Type 0} (f : A → B) (h : C → B → C) (xs : List A) (a : C) → fold h a (map f xs) ≡ fold (λ b x. h b (f x)) a xs
fold-map f h [] a = refl
fold-map f h (x ∷ xs) a = fold-map f h xs (h a (f x))

pub count-map : {A : Type 0} (f : A → Bool) (xs : List A) → count_by (λ mark. mark) (map f xs) ≡ count_by f xs
count-map f xs = fold-map f (λ a x. a + cond x 1 0) xs 0

module _ {S : Type 0} (test : S → Bool) (states : List S) (marks : List Bool) (are : marks ≡ map test states) where
  -- the mark of a state
  pub mark-of : (i : ℕ) (s : S) → slice_get states i ≡ Some s → get_or marks i false ≡ test s
  mark-of i s at =
      ap (λ l. get_or l i false) are ∙ get_or-map test states i s false (slice_get_within states i s at) ∙ ap test (get_or_from_slice_get states i s s at)

  pub marks-many : length marks ≡ length states
  marks-many = ap length are ∙ length-map states test

  -- no mark is set
  pub none-passes : ((k : ℕ) → k < length marks → get_or marks k false ≡ false) → All (λ s. test s ≡ false) states
  none-passes none = All-from (λ s. test s ≡ false) states (λ i s at. sym (mark-of i s at) ∙ none i (omega (arith, slice_get_within states i s at, marks-many)))

module _ {S : Type 0} (g : System S) (law : IsEquality g.same) where
  -- the first state that passes
  pub first-passes : (t : ℕ) (states : List S) (marks : List Bool) → marks ≡ map (g.test t) states → IsOpened g states → (i : ℕ) → get_or marks i false ≡ true → ((k : ℕ) → k < i → get_or marks k false ≡ false) → (path : List ℕ) → IsPathTo g states i path → IsFirst g states t (length path)
  first-passes t states marks are begun i here before path to = record {
    path = path;
    choices = to.choices;
    long = refl;
    there = (i, slice_get_within states i (after g g.start path) to.leads, get_or_from_slice_get states i (after g g.start path) (after g g.start path) to.leads);
    passes = sym (mark-of (g.test t) states marks are i (after g g.start path) to.leads) ∙ here;
    least = shorter g law (λ s. g.test t s ≡ false) begun.upto states begun.front i path to (λ j s l at. sym (mark-of (g.test t) states marks are j s at) ∙ before j l);
  }

-- a count more
pub counts-more : {S : Type 0} (g : System S) (states : List S) (tests : List ℕ) (counts : List Count) (n t : ℕ) (count : Count)
    → ((i t : ℕ) (count : Count) → slice_get tests i ≡ Some t → slice_get counts i ≡ Some count → IsCount g states t count) → length counts ≡ n → slice_get tests n ≡ Some t → IsCount g states t count
    → (i u : ℕ) (c : Count) → slice_get tests i ≡ Some u → slice_get (counts ++ count ∷ []) i ≡ Some c → IsCount g states u c
counts-more g states tests counts n t count each many there is i u c at told = by (cases_lt i (length counts))
  where
    by : (i < length counts) ⊎ (length counts ≤ i) → IsCount g states u c
    by (inl l) = each i u c at (front-back (front-push counts count) i c l told)
    by (inr l) =
        let inside = slice_get_within (counts ++ count ∷ []) i c told in
        let e : i ≡ length counts = omega (arith, inside, length_push counts count) in
        let same : c ≡ count = same_Some c count (sym (subst (λ k. slice_get (counts ++ count ∷ []) k ≡ Some c) e told) ∙ slice_get-last counts count) in
        let which : u ≡ t = same_Some u t (sym at ∙ ap (slice_get tests) (e ∙ many) ∙ there) in
        subst (λ k. IsCount g states u k) (sym same) (subst (λ k. IsCount g states k count) (sym which) is)

pub opened-keeps : {K S : Type 0} {g h : System S} {held holds : K → Type 0} {means stands : K → S} → Keeps g held means h holds stands → (keys : List K) → All held keys → IsOpened g (map means keys) → IsOpened h (map stands keys)
opened-keeps {g = g} {h = h} {means = means} {stands = stands} keeps keys all is =
    subst (λ s. IsOpened s (map stands keys)) (sym keeps.system) (subst (IsOpened g) (sym (keeps-map keeps keys all)) is)
