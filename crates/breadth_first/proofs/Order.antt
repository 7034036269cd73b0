-- Laws of the breadth-first order.
use Rattle.std.proofs.Common.{◌≡◌, ℕ, zero, suc, ◌+◌, ◌-◌, ◌<◌, ◌≤◌, ◌⊎◌, inl, inr, Bool, true, false, if◌then◌else◌, List, [], ◌∷◌, ◌++◌, length, slice_get, Option, Some, None, Contains, refl, sym, ap, ◌∙◌, subst, arith}
use Rattle.std.proofs.lemmas.Bool.{cases_lt}
use Rattle.std.proofs.lemmas.List.Folds.{list_any_at}
use Rattle.std.proofs.lemmas.Map.Views.{Contains-from_any}
use Rattle.std.proofs.lemmas.Option.{slice_get_within, slice_get_past, get_or_from_slice_get, slice_get-get_or}
use Rattle.std.specs.List.{list_any}
use Rattle.indexmap.specs.IndexSet.{insert_key}
use Rattle.indexmap.proofs.SetLemmas.{set_all_push}
use Rattle.breadth_first.specs.System.{System, IsEquality}
use Rattle.breadth_first.specs.Paths.{after, AreChoices}
use Rattle.breadth_first.specs.Order.{successors, trying, opening, opened, reached}
use Rattle.breadth_first.specs.Front.{Front}
use Rattle.breadth_first.proofs.Fronts.{front-refl, front-push, front-trans, front-length, front-get, front-back, front-full, front-any, slice_get-last}

-- a test is true or false
pub cases : (b : Bool) → (b ≡ true) ⊎ (b ≡ false)
cases true = inl refl
cases false = inr refl

module _ {S : Type 0} (g : System S) (law : IsEquality g.same) where
  -- the state is among them
  abbrev pub has : List S → S → Type 0
  has states s = list_any (g.same s) states ≡ true

  pub same-refl : (s : S) → g.same s s ≡ true
  same-refl s = (law s s).1 refl

  -- where a state stands that is among them
  pub has-at : (states : List S) (s : S) → has states s → (i : ℕ) × (i < length states) × (slice_get states i ≡ Some s)
  has-at states s h =
      let c = Contains-from_any (λ x y. (law x y).0) s states h in
      (c.0, c.1, slice_get-get_or states c.0 s c.1 ∙ ap Some c.2)

  pub has-from : (states : List S) (i : ℕ) (s : S) → slice_get states i ≡ Some s → has states s
  has-from states i s h =
      list_any_at (g.same s) states i s (slice_get_within states i s h) (ap (g.same s) (get_or_from_slice_get states i s s h) ∙ same-refl s)

  pub Contains-has : (states : List S) (s : S) → has states s → Contains states s
  Contains-has states s h = Contains-from_any (λ x y. (law x y).0) s states h

  -- inserting a state that is there changes nothing, and another goes last
  pub insert-there : (states : List S) (s : S) → has states s → insert_key g.same states s ≡ states
  insert-there states s h = ap (λ b. if b then states else states ++ s ∷ []) h

  pub insert-new : (states : List S) (s : S) → list_any (g.same s) states ≡ false → insert_key g.same states s ≡ states ++ s ∷ []
  insert-new states s h = ap (λ b. if b then states else states ++ s ∷ []) h

  pub insert-front : (states : List S) (s : S) → Front states (insert_key g.same states s)
  insert-front states s = by (cases (list_any (g.same s) states))
    where
      by : (list_any (g.same s) states ≡ true) ⊎ (list_any (g.same s) states ≡ false) → Front states (insert_key g.same states s)
      by (inl h) = subst (Front states) (sym (insert-there states s h)) (front-refl states)
      by (inr h) = subst (Front states) (sym (insert-new states s h)) (front-push states s)

  pub insert-has : (states : List S) (s : S) → has (insert_key g.same states s) s
  insert-has states s = by (cases (list_any (g.same s) states))
    where
      by : (list_any (g.same s) states ≡ true) ⊎ (list_any (g.same s) states ≡ false) → has (insert_key g.same states s) s
      by (inl h) = subst (λ l. has l s) (sym (insert-there states s h)) h
      by (inr h) = subst (λ l. has l s) (sym (insert-new states s h)) (has-from (states ++ s ∷ []) (length states) s (slice_get-last states s))

  -- one choice more
  pub trying-suc : (states : List S) (s : S) (n : ℕ) → trying g states s (suc n) ≡ insert_key g.same (trying g states s n) (g.next s n)
  trying-suc states s n = set_all_push g.same states (successors g s n) (g.next s n)

  pub trying-step : (states : List S) (s : S) (n : ℕ) → Front (trying g states s n) (trying g states s (suc n))
  trying-step states s n = subst (Front (trying g states s n)) (sym (trying-suc states s n)) (insert-front (trying g states s n) (g.next s n))

  pub trying-front : (states : List S) (s : S) (n : ℕ) → Front states (trying g states s n)
  trying-front states s zero = front-refl states
  trying-front states s (suc n) = front-trans (trying-front states s n) (trying-step states s n)

  pub trying-more : (states : List S) (s : S) (n k : ℕ) → Front (trying g states s n) (trying g states s (n + k))
  trying-more states s n zero =
      let e : n ≡ n + 0 = omega arith in
      subst (λ m. Front (trying g states s n) (trying g states s m)) e (front-refl (trying g states s n))
  trying-more states s n (suc k) =
      let e : suc (n + k) ≡ n + suc k = omega arith in
      subst (λ m. Front (trying g states s n) (trying g states s m)) e (front-trans (trying-more states s n k) (trying-step states s (n + k)))

  pub trying-upto : (states : List S) (s : S) (n m : ℕ) → n ≤ m → Front (trying g states s n) (trying g states s m)
  trying-upto states s n m l =
      let e : n + (m - n) ≡ m = omega arith in
      subst (λ t. Front (trying g states s n) (trying g states s t)) e (trying-more states s n (m - n))

  pub trying-has : (states : List S) (s : S) (n c : ℕ) → c < n → has (trying g states s n) (g.next s c)
  trying-has states s n c l =
      front-any (g.same (g.next s c)) (trying-upto states s (suc c) n (omega arith)) (subst (λ t. has t (g.next s c)) (sym (trying-suc states s c)) (insert-has (trying g states s c) (g.next s c)))

  -- what one state more adds
  pub opened-suc : (n : ℕ) (s : S) → slice_get (opened g n) n ≡ Some s → opened g (suc n) ≡ trying g (opened g n) s g.choices
  unfolding opened
  opened-suc n s h = ap (opening g (opened g n)) h

  pub opened-done : (n : ℕ) → length (opened g n) ≤ n → opened g (suc n) ≡ opened g n
  unfolding opened
  opened-done n l = ap (opening g (opened g n)) (slice_get_past (opened g n) n l)

  pub opened-step : (n : ℕ) → Front (opened g n) (opened g (suc n))
  unfolding opened
  opened-step n = by (slice_get (opened g n) n)
    where
      by : (o : Option S) → Front (opened g n) (opening g (opened g n) o)
      by None = front-refl (opened g n)
      by (Some s) = trying-front (opened g n) s g.choices

  pub opened-more : (n k : ℕ) → Front (opened g n) (opened g (n + k))
  opened-more n zero =
      let e : n ≡ n + 0 = omega arith in
      subst (λ m. Front (opened g n) (opened g m)) e (front-refl (opened g n))
  opened-more n (suc k) =
      let e : suc (n + k) ≡ n + suc k = omega arith in
      subst (λ m. Front (opened g n) (opened g m)) e (front-trans (opened-more n k) (opened-step (n + k)))

  pub opened-upto : (n m : ℕ) → n ≤ m → Front (opened g n) (opened g m)
  opened-upto n m l =
      let e : n + (m - n) ≡ m = omega arith in
      subst (λ t. Front (opened g n) (opened g t)) e (opened-more n (m - n))

  -- where nothing is left to open, nothing comes
  pub opened-still : (n k : ℕ) → length (opened g n) ≤ n → opened g (n + k) ≡ opened g n
  opened-still n zero l =
      let e : n + 0 ≡ n = omega arith in
      ap (opened g) e
  opened-still n (suc k) l =
      let e : n + suc k ≡ suc (n + k) = omega arith in
      let before = opened-still n k l in
      let short : length (opened g (n + k)) ≤ n + k = omega (arith, ap length before) in
      ap (opened g) e ∙ opened-done (n + k) short ∙ before

  -- the states within some choices are those that the opening of some brings
  pub reached-opened : (d : ℕ) → (n : ℕ) × (reached g d ≡ opened g n)
  unfolding opened reached
  reached-opened zero = (0, refl)
  reached-opened (suc d) = (length (reached g d), refl)

  pub reached-suc : (d : ℕ) → reached g (suc d) ≡ opened g (length (reached g d))
  unfolding reached
  reached-suc d = refl

  pub reached-start : reached g 0 ≡ g.start ∷ []
  unfolding reached
  reached-start = refl

  pub opened-start : opened g 0 ≡ g.start ∷ []
  unfolding opened
  opened-start = refl

  pub reached-step : (d : ℕ) → Front (reached g d) (reached g (suc d))
  reached-step zero =
      subst (λ l. Front l (reached g 1)) (opened-start ∙ sym reached-start)
      (subst (Front (opened g 0)) (sym (reached-suc 0)) (opened-upto 0 (length (reached g 0)) (omega arith)))
  reached-step (suc d) =
      let shorter : length (reached g d) ≤ length (reached g (suc d)) = front-length (reached-step d) in
      subst (λ l. Front l (reached g (suc (suc d)))) (sym (reached-suc d))
      (subst (Front (opened g (length (reached g d)))) (sym (reached-suc (suc d))) (opened-upto (length (reached g d)) (length (reached g (suc d))) shorter))

  pub reached-upto : (d e : ℕ) → d ≤ e → Front (reached g d) (reached g e)
  reached-upto d e l =
      let whole : d + (e - d) ≡ e = omega arith in
      subst (λ t. Front (reached g d) (reached g t)) whole (more (e - d))
    where
      more : (k : ℕ) → Front (reached g d) (reached g (d + k))
      more zero =
          let s : d ≡ d + 0 = omega arith in
          subst (λ m. Front (reached g d) (reached g m)) s (front-refl (reached g d))
      more (suc k) =
          let s : suc (d + k) ≡ d + suc k = omega arith in
          subst (λ m. Front (reached g d) (reached g m)) s (front-trans (more k) (reached-step (d + k)))

  -- a state that is there is opened when its turn comes
  pub opened-turn : (n j : ℕ) (s : S) → slice_get (opened g n) j ≡ Some s → slice_get (opened g j) j ≡ Some s
  opened-turn n j s h = by (cases_lt j n) (cases_lt j (length (opened g j)))
    where
      by : (j < n) ⊎ (n ≤ j) → (j < length (opened g j)) ⊎ (length (opened g j) ≤ j) → slice_get (opened g j) j ≡ Some s
      by (inr l) _ = front-get (opened-upto n j l) j s h
      by (inl l) (inl lt) = front-back (opened-upto j n (omega arith)) j s lt h
      by (inl l) (inr ge) =
          let e : j + (n - j) ≡ n = omega arith in
          let all = opened-still j (n - j) ge in
          let inside = slice_get_within (opened g n) j s h in
          absurd (omega (arith, ap length (sym (ap (opened g) e) ∙ all)))

  -- each choice of a state that is reached leads to one that is reached with one choice more
  pub reached-next : (d : ℕ) (s : S) (c : ℕ) → has (reached g d) s → c < g.choices → has (reached g (suc d)) (g.next s c)
  reached-next d s c h l =
      let place = has-at (reached g d) s h in
      let o = reached-opened d in
      let turn = opened-turn o.0 place.0 s (subst (λ t. slice_get t place.0 ≡ Some s) o.1 place.2) in
      let there = subst (λ t. has t (g.next s c)) (sym (opened-suc place.0 s turn)) (trying-has (opened g place.0) s g.choices c l) in
      subst (λ t. has t (g.next s c)) (sym (reached-suc d)) (front-any (g.same (g.next s c)) (opened-upto (suc place.0) (length (reached g d)) (omega (arith, place.1))) there)

  -- so is the state after a path
  pub reached-path : (path : List ℕ) (d : ℕ) (s : S) → AreChoices g path → has (reached g d) s → has (reached g (d + length path)) (after g s path)
  reached-path [] d s a h =
      let e : d ≡ d + 0 = omega arith in
      subst (λ e. has (reached g e) s) e h
  reached-path (c ∷ path) d s a h =
      let e : suc d + length path ≡ d + suc (length path) = omega arith in
      subst (λ e. has (reached g e) (after g (g.next s c) path)) e
      (reached-path path (suc d) (g.next s c) (λ k x l. a (suc k) x (omega arith)) (reached-next d s c h (a 0 c (omega arith))))

  pub reached-from_start : (path : List ℕ) (d : ℕ) → AreChoices g path → length path ≤ d → has (reached g d) (after g g.start path)
  reached-from_start path d a l =
      let start : has (reached g 0) g.start = subst (λ t. has t g.start) (sym reached-start) (has-from (g.start ∷ []) 0 g.start refl) in
      let there = reached-path path 0 g.start a start in
      front-any (g.same (after g g.start path)) (reached-upto (0 + length path) d (omega arith)) there

  -- where a choice more brings no state, no choices do
  pub closed-path : (d : ℕ) → length (reached g (suc d)) ≤ length (reached g d) → (path : List ℕ) (s : S) → AreChoices g path → has (reached g d) s → has (reached g d) (after g s path)
  closed-path d full [] s a h = h
  closed-path d full (c ∷ path) s a h =
      closed-path d full path (g.next s c) (λ k x l. a (suc k) x (omega arith))
      (subst (λ t. has t (g.next s c)) (front-full (reached-step d) full) (reached-next d s c h (a 0 c (omega arith))))

  pub closed-from_start : (d : ℕ) → length (reached g (suc d)) ≤ length (reached g d) → (path : List ℕ) → AreChoices g path → has (reached g d) (after g g.start path)
  closed-from_start d full path a =
      closed-path d full path g.start a (reached-from_start [] d (λ k x l. absurd (omega arith)) (omega arith))
