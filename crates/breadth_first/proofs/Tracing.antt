-- Paths by origins: each leads to its state, no shorter one does, and none of its length that is earlier.
use Rattle.std.proofs.Common.{◌≡◌, ℕ, zero, suc, ◌+◌, ◌-◌, ◌<◌, ◌≤◌, ◌⊎◌, inl, inr, List, [], ◌∷◌, length, slice_get, Some, refl, sym, ap, ◌∙◌, subst, arith}
use Rattle.std.proofs.lemmas.Bool.{cases_lt}
use Rattle.std.proofs.lemmas.Option.{slice_get_within, same_Some}
use Rattle.breadth_first.specs.System.{System, IsEquality}
use Rattle.breadth_first.specs.Paths.{after, AreChoices, IsEarlier}
use Rattle.breadth_first.specs.Order.{trying, opened, reached}
use Rattle.breadth_first.specs.Origins.{StandsBefore, IsOrigin, AreOrigins, IsPathTo, Continues}
use Rattle.breadth_first.specs.Trace.{AreEarlier, LeadsBack}
use Rattle.breadth_first.specs.declared.origins.Origin.{Origin}
use Rattle.breadth_first.specs.Front.{Front}
use Rattle.breadth_first.proofs.Fronts.{front-refl, front-trans, front-length, front-get, front-back, slice_get-some}
use Rattle.breadth_first.proofs.Order.{has, has-at, trying-has, trying-upto, opened-suc, opened-turn, opened-upto, reached-suc, reached-opened, reached-start, opened-start, reached-from_start}

module _ {S : Type 0} (g : System S) (law : IsEquality g.same) where
  -- a state is one choice farther than the one that it came from
  module _ (states : List S) (i : ℕ) (origin : Origin) (is : IsOrigin g states i origin) where
    child-nearer : (d : ℕ) → i < length (reached g (suc d)) → origin.parent < length (reached g d)
    child-nearer d l = by (cases_lt origin.parent (length (reached g d)))
      where
        by : (origin.parent < length (reached g d)) ⊎ (length (reached g d) ≤ origin.parent) → origin.parent < length (reached g d)
        by (inl h) = h
        by (inr h) =
            let f = front-length (opened-upto g law (length (reached g d)) origin.parent h) in
            absurd (omega (arith, is.from, ap length (reached-suc g law d)))

    child-farther : (d : ℕ) → origin.parent < length (reached g d) → i < length (reached g (suc d))
    child-farther d l =
        let f = front-length (opened-upto g law (suc origin.parent) (length (reached g d)) l) in
        omega (arith, is.to, ap length (reached-suc g law d))

    child-later : (d : ℕ) → i < length (reached g d) → 0 < d
    child-later zero l = absurd (omega (arith, is.earlier, ap length (reached-start g law)))
    child-later (suc d) l = omega arith

  -- a state that was found is there when its turn comes
  pub turn-of : (states : List S) (origins : List Origin) → AreOrigins g states origins → (i : ℕ) (s : S) → slice_get states i ≡ Some s → slice_get (opened g i) i ≡ Some s
  turn-of states origins all zero s h = ap (λ l. slice_get l 0) (opened-start g law) ∙ sym all.start ∙ h
  turn-of states origins all (suc i) s h =
      let o = slice_get-some origins (suc i) (omega (arith, slice_get_within states (suc i) s h, all.many)) in
      let is = all.each (suc i) o.0 (omega arith) o.1 in
      opened-turn g law (suc o.0.parent) (suc i) s (is.stands ∙ sym is.leads ∙ h)

  -- the empty path
  pub continues-none : (states : List S) (i : ℕ) (s : S) → slice_get states i ≡ Some s → slice_get (opened g i) i ≡ Some s → Continues g states i i []
  continues-none states i s h turn = record {
    choices = λ k d l. absurd (omega arith);
    state = s;
    from = h;
    leads = h;
    few = λ d l. (let e : d ≡ d + 0 = omega arith in subst (λ n. i < length (reached g n)) e l);
    least = λ d l. omega arith;
    farther = λ d l. (let e : d ≡ d - 0 = omega arith in subst (λ n. i < length (reached g n)) e l);
    turn = turn;
    earlier = earlier;
  }
    where
      earlier : (b : ℕ) (t : S) → slice_get (opened g i) b ≡ Some t → (other : List ℕ) → AreChoices g other → length other ≡ 0 → (b < i) ⊎ ((b ≡ i) × IsEarlier other []) → StandsBefore g i (after g t other)
      earlier b t at [] choices long (inl l) = record { index = b; before = l; at = at }
      earlier b t at [] choices long (inr (is, none)) = absurd none
      earlier b t at (c ∷ other) choices long which = absurd (omega (arith, long))

  -- one choice more, before the others
  pub continues-more : (states : List S) (at i : ℕ) (path : List ℕ) (origin : Origin) → IsOrigin g states at origin → Continues g states at i path → Continues g states origin.parent i (origin.choice ∷ path)
  continues-more states at i path origin is c = record {
    choices = first;
    state = is.parent;
    from = is.at;
    leads = c.leads ∙ ap (λ s. Some (after g s path)) here;
    few = λ d l. (let e : suc d + length path ≡ d + suc (length path) = omega arith in subst (λ n. i < length (reached g n)) e (c.few (suc d) (child-farther states at origin is d l)));
    least = λ d l. one_more d l;
    farther = λ d l. nearer d l;
    turn = is.turn;
    earlier = earlier;
  }
    where
      first : AreChoices g (origin.choice ∷ path)
      first zero d l = is.choice
      first (suc k) d l = c.choices k d (omega arith)

      one_more : (d : ℕ) → i < length (reached g d) → suc (length path) ≤ d
      one_more d l = omega (arith, c.least d l, child-later states at origin is (d - length path) (c.farther d l))

      here : c.state ≡ g.next is.parent origin.choice
      here = same_Some c.state (g.next is.parent origin.choice) (sym c.from ∙ is.leads)

      -- where a choice leads from a state that stands before, or an earlier one from the same
      stands : (n : ℕ) (u : S) → n ≤ at → (l : List S) → Front l (opened g n) → has g law l u → length l ≤ at → StandsBefore g at u
      stands n u below l front there few =
          let place = has-at g law l u there in
          record { index = place.0; before = omega (arith, place.1, few); at = front-get (opened-upto g law n at below) place.0 u (front-get front place.0 u place.2) }

      earlier : (b : ℕ) (t : S) → slice_get (opened g origin.parent) b ≡ Some t → (other : List ℕ) → AreChoices g other → length other ≡ suc (length path) → (b < origin.parent) ⊎ ((b ≡ origin.parent) × IsEarlier other (origin.choice ∷ path)) → StandsBefore g i (after g t other)
      earlier b t there [] choices long which = absurd (omega (arith, long))
      earlier b t there (d ∷ other) choices long (inl l) =
          let turn = opened-turn g law origin.parent b t there in
          let come = subst (λ l. has g law l (g.next t d)) (sym (opened-suc g law b t turn)) (trying-has g law (opened g b) t g.choices d (choices 0 d (omega arith))) in
          let s = stands (suc b) (g.next t d) (omega (arith, l, is.earlier)) (opened g (suc b)) (front-refl (opened g (suc b))) come (omega (arith, is.from, front-length (opened-upto g law (suc b) origin.parent l))) in
          c.earlier s.index (g.next t d) s.at other (λ k x m. choices (suc k) x (omega arith)) (omega (arith, long)) (inl s.before)
      earlier b t there (d ∷ other) choices long (inr (same, inl l)) =
          let parent : t ≡ is.parent = same_Some t is.parent (sym there ∙ ap (slice_get (opened g origin.parent)) same ∙ is.turn) in
          let come = subst (λ p. has g law (trying g (opened g origin.parent) is.parent origin.choice) (g.next p d)) (sym parent) (trying-has g law (opened g origin.parent) is.parent origin.choice d l) in
          let front = subst (Front (trying g (opened g origin.parent) is.parent origin.choice)) (sym (opened-suc g law origin.parent is.parent is.turn)) (trying-upto g law (opened g origin.parent) is.parent origin.choice g.choices (omega (arith, is.choice))) in
          let s = stands (suc origin.parent) (g.next t d) is.earlier (trying g (opened g origin.parent) is.parent origin.choice) front come (omega (arith, is.place)) in
          c.earlier s.index (g.next t d) s.at other (λ k x m. choices (suc k) x (omega arith)) (omega (arith, long)) (inl s.before)
      earlier b t there (d ∷ other) choices long (inr (same, inr (which, rest))) =
          let parent : t ≡ is.parent = same_Some t is.parent (sym there ∙ ap (slice_get (opened g origin.parent)) same ∙ is.turn) in
          let next : c.state ≡ g.next t d = here ∙ ap (λ p. g.next p origin.choice) (sym parent) ∙ ap (g.next t) (sym which) in
          c.earlier at (g.next t d) (c.turn ∙ ap Some next) other (λ k x m. choices (suc k) x (omega arith)) (omega (arith, long)) (inr (refl, rest))

      nearer : (d : ℕ) → i < length (reached g d) → origin.parent < length (reached g (d - suc (length path)))
      nearer d l =
          let e : d - length path ≡ suc (d - suc (length path)) = omega (arith, one_more d l) in
          child-nearer states at origin is (d - suc (length path)) (subst (λ n. at < length (reached g n)) e (c.farther d l))

  -- a path from the start is a path to the state
  pub path-from_start : (states : List S) (i : ℕ) (path : List ℕ) → slice_get states 0 ≡ Some g.start → Continues g states 0 i path → IsPathTo g states i path
  path-from_start states i path start c = record {
    choices = c.choices;
    leads = c.leads ∙ ap (λ s. Some (after g s path)) (same_Some c.state g.start (sym c.from ∙ start));
    few = λ d l. few d l;
    least = c.least;
    earlier = λ other choices long sooner. c.earlier 0 g.start (ap (λ l. slice_get l 0) (opened-start g law)) other choices long (inr (refl, sooner));
  }
    where
      some : (d : ℕ) → 0 < length (reached g d)
      some d =
          let f = front-length (opened-upto g law 0 (reached-opened g law d).0 (omega arith)) in
          omega (arith, ap length (reached-opened g law d).1, ap length (opened-start g law))

      few : (d : ℕ) → length path ≤ d → i < length (reached g d)
      few d l =
          let e : (d - length path) + length path ≡ d = omega arith in
          subst (λ n. i < length (reached g n)) e (c.few (d - length path) (some (d - length path)))

  -- each state has a path
  pub path-exists : (states : List S) (origins : List Origin) → AreOrigins g states origins → (i : ℕ) (s : S) → slice_get states i ≡ Some s → (path : List ℕ) × IsPathTo g states i path
  path-exists states origins all i s h = back (suc i) i [] (omega arith) (slice_get_within states i s h) (continues-none states i s h (turn-of states origins all i s h))
    where
      back : (n at : ℕ) (path : List ℕ) → at < n → at < length states → Continues g states at i path → (whole : List ℕ) × IsPathTo g states i whole
      back zero at path l w c = absurd (omega arith)
      back (suc n) zero path l w c = (path, path-from_start states i path all.start c)
      back (suc n) (suc at) path l w c =
          let o = slice_get-some origins (suc at) (omega (arith, all.many)) in
          let is = all.each (suc at) o.0 (omega arith) o.1 in
          back n o.0.parent (o.0.choice ∷ path) (omega (arith, is.earlier)) (omega (arith, is.earlier)) (continues-more states (suc at) i path o.0 is c)

  -- two lists that the opening of states begins with agree
  pub agree : (m n : ℕ) (states others : List S) → Front states (opened g m) → Front others (opened g n) → (i : ℕ) (s : S) → i < length states → slice_get others i ≡ Some s → slice_get states i ≡ Some s
  agree m n states others a b i s l h =
      let more = front-trans a (opened-upto g law m (m + n) (omega arith)) in
      let other = front-trans b (opened-upto g law n (m + n) (omega arith)) in
      front-back more i s l (front-get other i s h)

  -- what holds of each state before one holds of each state to which a shorter path leads
  pub shorter : (P : S → Type 0) (n : ℕ) (states : List S) → Front states (opened g n) → (i : ℕ) (path : List ℕ) → IsPathTo g states i path → ((j : ℕ) (s : S) → j < i → slice_get states j ≡ Some s → P s)
      → (other : List ℕ) → AreChoices g other → length other < length path → P (after g g.start other)
  shorter P n states front i path to before other choices l =
      let e = length other in
      let place = has-at g law (reached g e) (after g g.start other) (reached-from_start g law other e choices (omega arith)) in
      let early : place.0 < i = later (cases_lt i (length (reached g e))) place.0 place.1 in
      let m = reached-opened g law e in
      before place.0 (after g g.start other) early
      (agree n m.0 states (reached g e) front (subst (Front (reached g e)) m.1 (front-refl (reached g e))) place.0 (after g g.start other) (omega (arith, early, slice_get_within states i (after g g.start path) to.leads)) place.2)
    where
      later : (i < length (reached g (length other))) ⊎ (length (reached g (length other)) ≤ i) → (j : ℕ) → j < length (reached g (length other)) → j < i
      later (inl h) j k = absurd (omega (arith, to.least (length other) h))
      later (inr h) j k = omega arith

  -- and of each to which a path of the same length leads that is earlier
  pub sooner : (P : S → Type 0) (n : ℕ) (states : List S) → Front states (opened g n) → (i : ℕ) (path : List ℕ) → IsPathTo g states i path → ((j : ℕ) (s : S) → j < i → slice_get states j ≡ Some s → P s)
      → (other : List ℕ) → AreChoices g other → length other ≡ length path → IsEarlier other path → P (after g g.start other)
  sooner P n states front i path to before other choices long earlier =
      let s = to.earlier other choices long earlier in
      before s.index (after g g.start other) s.before
      (agree n i states (opened g i) front (front-refl (opened g i)) s.index (after g g.start other) (omega (arith, s.before, slice_get_within states i (after g g.start path) to.leads)) s.at)

  -- origins that are told are earlier
  pub are-earlier : (states : List S) (origins : List Origin) → AreOrigins g states origins → AreEarlier origins
  are-earlier states origins all i origin positive at = (all.each i origin positive at).earlier

  -- a path that origins tell is a path to the state
  pub told-path : (states : List S) (origins : List Origin) → AreOrigins g states origins → (i : ℕ) (s : S) → slice_get states i ≡ Some s → (path : List ℕ) → LeadsBack origins 0 i path → IsPathTo g states i path
  told-path states origins all i s there path back = path-from_start states i path all.start (go path 0 back)
    where
      go : (path : List ℕ) (at : ℕ) → LeadsBack origins at i path → Continues g states at i path
      go [] at e = subst (λ n. Continues g states n i []) (sym e) (continues-none states i s there (turn-of states origins all i s there))
      go (choice ∷ path) at (child, origin, positive, place, parent, is, rest) =
          let more = continues-more states child i path origin (all.each child origin positive place) (go path child rest) in
          subst (λ c. Continues g states at i (c ∷ path)) is (subst (λ n. Continues g states n i (origin.choice ∷ path)) parent more)
