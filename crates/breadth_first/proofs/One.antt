-- Two answers to one question tell the same.
use Rattle.std.proofs.Common.{◌≡◌, ◌≢◌, ℕ, zero, suc, ◌+◌, ◌-◌, ◌*◌, ◌<◌, ◌≤◌, ◌⊎◌, inl, inr, Bool, true, false, List, [], ◌∷◌, length, take, slice_get, get_or, Option, Some, None, is_some, All, IfSome, MatchOption, refl, sym, ap, ◌∙◌, subst, arith, true≢false}
use Rattle.std.proofs.lemmas.Bool.{cases_lt}
use Rattle.std.proofs.lemmas.List.{ext_get_or}
use Rattle.std.proofs.lemmas.List.Elements.{All-contains}
use Rattle.std.proofs.lemmas.Option.{slice_get_within, slice_get-get_or, same_Some}
use Rattle.std.specs.List.{concat}
use Rattle.fair_rounds.specs.Rounds.{passes}
use Rattle.breadth_first.specs.System.{System, IsEquality}
use Rattle.breadth_first.specs.Paths.{after, AreChoices, CanCome, IsEarlier}
use Rattle.breadth_first.specs.Order.{trying, opened, reached}
use Rattle.breadth_first.specs.Answer.{before, seen, IsFound, IsSeen, IsClosed, LeavesOut, EndsByDepth, EndsByStates, IsOpen, IsFirst, IsCount, AreCounts, IsLost, IsAvoided, Holds, Misses, IsMissed, want_of, IsAnswer}
use Rattle.breadth_first.specs.Told.{told, want_told, missed_told}
use Rattle.breadth_first.specs.Told.MissedTold.{TellsLost, TellsAvoided}
use Rattle.breadth_first.specs.Told.Told.{TellsFound, TellsClosed, TellsOpen}
use Rattle.breadth_first.specs.Front.{Front}
use Rattle.breadth_first.specs.declared.answer.Limits.{Limits}
use Rattle.breadth_first.specs.declared.answer.Size.{Size}
use Rattle.breadth_first.specs.declared.answer.Count.{Count}
use Rattle.breadth_first.specs.declared.answer.Want.{Want}
use Rattle.breadth_first.specs.declared.answer.Want.TheVariants.{Ever, Must, MustAfter}
use Rattle.breadth_first.specs.declared.answer.Missed.{Missed}
use Rattle.breadth_first.specs.declared.answer.Missed.TheVariants.{Lost, Avoided}
use Rattle.breadth_first.specs.declared.answer.Explored.{Explored}
use Rattle.breadth_first.specs.declared.answer.Explored.TheVariants.{Found, Closed, Open}
use Rattle.breadth_first.proofs.Fronts.{front-refl, front-trans, front-length, front-full, front-any, front-compare, slice_get-some}
use Rattle.breadth_first.proofs.Order.{has, has-from, trying-has, trying-front, opened-suc, opened-turn, opened-upto, reached-suc, reached-opened, reached-upto, reached-next}
use Rattle.breadth_first.proofs.Tracing.{agree}
use Rattle.breadth_first.proofs.Endings.{All-at}

-- of two lists of one length one is earlier, or they are the same
compared : (a b : List ℕ) → length a ≡ length b → (a ≡ b) ⊎ (IsEarlier a b ⊎ IsEarlier b a)
compared [] [] e = inl refl
compared [] (d ∷ b) e = absurd (omega (arith, e))
compared (c ∷ a) [] e = absurd (omega (arith, e))
compared (c ∷ a) (d ∷ b) e = by (cases_lt c d) (cases_lt d c) (compared a b (omega (arith, e)))
  where
    rest : c ≡ d → (a ≡ b) ⊎ (IsEarlier a b ⊎ IsEarlier b a) → (c ∷ a ≡ d ∷ b) ⊎ (IsEarlier (c ∷ a) (d ∷ b) ⊎ IsEarlier (d ∷ b) (c ∷ a))
    rest same (inl is) = inl (ap (λ x. x ∷ a) same ∙ ap (λ l. d ∷ l) is)
    rest same (inr (inl l)) = inr (inl (inr (same, l)))
    rest same (inr (inr l)) = inr (inr (inr (sym same, l)))

    by : (c < d) ⊎ (d ≤ c) → (d < c) ⊎ (c ≤ d) → (a ≡ b) ⊎ (IsEarlier a b ⊎ IsEarlier b a) → (c ∷ a ≡ d ∷ b) ⊎ (IsEarlier (c ∷ a) (d ∷ b) ⊎ IsEarlier (d ∷ b) (c ∷ a))
    by (inl l) _ _ = inr (inl (inl l))
    by (inr j) (inl l) _ = inr (inr (inl l))
    by (inr j) (inr k) tails = rest (omega (arith, j, k)) tails

-- the front of a list
taken : {X : Type 0} (n : ℕ) (xs : List X) → Front (take n xs) xs
taken zero xs = record { rest = xs; is = refl }
taken (suc n) [] = record { rest = []; is = refl }
taken (suc n) (x ∷ xs) = let f = taken n xs in record { rest = f.rest; is = ap (λ l. x ∷ l) f.is }

-- sizes by their numbers
same-size : (x y : Size) → x.states ≡ y.states → x.tried ≡ y.tried → x.depth ≡ y.depth → x ≡ y
same-size x y states tried depth = whole
  where
    by : ℕ → ℕ → ℕ → Size
    by s t d = record { states = s; tried = t; depth = d }

    whole : by x.states x.tried x.depth ≡ by y.states y.tried y.depth
    whole = ap (λ n. by n x.tried x.depth) states ∙ ap (λ n. by y.states n x.depth) tried ∙ ap (λ n. by y.states y.tried n) depth

-- so with counts
same-counted : (x y : Count) → x.states ≡ y.states → x.first ≡ y.first → x ≡ y
same-counted x y states first = whole
  where
    by : ℕ → Option ℕ → Count
    by s f = record { states = s; first = f }

    whole : by x.states x.first ≡ by y.states y.first
    whole = ap (λ n. by n x.first) states ∙ ap (λ f. by y.states f) first

module _ {S : Type 0} (g : System S) (law : IsEquality g.same) (limits : Limits) where
  -- ---- paths

  -- the first path of which something holds
  module _ (bad good : List ℕ → Type 0) (apart : (path : List ℕ) → bad path → good path → ⊥) where
    record IsLeast (path : List ℕ) : Type 0 where
      choices : AreChoices g path
      is : bad path
      shortest : (other : List ℕ) → AreChoices g other → length other < length path → good other
      earliest : (other : List ℕ) → AreChoices g other → length other ≡ length path → IsEarlier other path → good other

    only : (a b : List ℕ) → IsLeast a → IsLeast b → a ≡ b
    only a b x y = by (cases_lt (length a) (length b)) (cases_lt (length b) (length a))
      where
        long : length a ≡ length b → (a ≡ b) ⊎ (IsEarlier a b ⊎ IsEarlier b a) → a ≡ b
        long e (inl is) = is
        long e (inr (inl l)) = absurd (apart a x.is (y.earliest a x.choices e l))
        long e (inr (inr l)) = absurd (apart b y.is (x.earliest b y.choices (sym e) l))

        by : (length a < length b) ⊎ (length b ≤ length a) → (length b < length a) ⊎ (length a ≤ length b) → a ≡ b
        by (inl l) _ = absurd (apart a x.is (y.shortest a x.choices l))
        by (inr j) (inl l) = absurd (apart b y.is (x.shortest b y.choices l))
        by (inr j) (inr k) = let e : length a ≡ length b = omega (arith, j, k) in long e (compared a b e)

  -- ---- a state that violates a property

  violates : List ℕ → Type 0
  violates path = is_some (g.violated (after g g.start path)) ≡ true

  holds : List ℕ → Type 0
  holds path = g.violated (after g g.start path) ≡ None

  not-both : (path : List ℕ) → is_some (g.violated (after g g.start path)) ≡ true → g.violated (after g g.start path) ≡ None → ⊥
  not-both path bad none = true≢false (sym bad ∙ ap is_some none)

  found-bad : (property : ℕ) (path : List ℕ) → IsFound g limits property path → is_some (g.violated (after g g.start path)) ≡ true
  found-bad property path f = ap is_some f.violates

  found-found : (p q : ℕ) (a b : List ℕ) → IsFound g limits p a → IsFound g limits q b → TellsFound p a ≡ TellsFound q b
  found-found p q a b x y = ap (λ n. TellsFound n a) properties ∙ ap (TellsFound q) same
    where
      same : a ≡ b
      same = only (λ path. is_some (g.violated (after g g.start path)) ≡ true) (λ path. g.violated (after g g.start path) ≡ None) not-both a b
          (record { choices = x.choices; is = found-bad p a x; shortest = x.shortest; earliest = x.earliest })
          (record { choices = y.choices; is = found-bad q b y; shortest = y.shortest; earliest = y.earliest })

      properties : p ≡ q
      properties = same_Some p q (sym x.violates ∙ ap (λ path. g.violated (after g g.start path)) same ∙ y.violates)

  found-closed : (p : ℕ) (path : List ℕ) (size : Size) → IsFound g limits p path → IsClosed g limits size → ⊥
  found-closed p path size f c = not-both path (found-bad p path f) (c.holds path f.choices)

  -- the states that were seen are the first
  seen-front : (size : Size) → Front (seen g size) (reached g (suc size.depth))
  seen-front size = taken size.states (reached g (suc size.depth))

  seen-opened : (size : Size) → Front (seen g size) (opened g (reached-opened g law (suc size.depth)).0)
  seen-opened size = subst (Front (seen g size)) (reached-opened g law (suc size.depth)).1 (seen-front size)

  reached-front : (d : ℕ) → Front (reached g d) (opened g (reached-opened g law d).0)
  reached-front d = subst (Front (reached g d)) (reached-opened g law d).1 (front-refl (reached g d))

  found-open : (p : ℕ) (path : List ℕ) (size : Size) → IsFound g limits p path → IsOpen g limits size → ⊥
  found-open p path size f o = by o.limit
    where
      by : EndsByDepth g limits size ⊎ EndsByStates g limits size → ⊥
      by (inl e) =
          let short : length path ≤ size.depth = subst (λ l. IfSome l (λ n. length path ≤ n)) e.limit f.far in
          not-both path (found-bad p path f) (o.holds path f.choices short)
      by (inr e) =
          let room : f.index < size.states = subst (λ l. IfSome l (λ n. f.index < n)) e.limit f.room in
          let inside : f.index < length (seen g size) = omega (arith, room, o.states) in
          let s = after g g.start path in
          let there = agree g law (reached-opened g law (suc size.depth)).0 (reached-opened g law (length path)).0 (seen g size) (reached g (length path)) (seen-opened size) (reached-front (length path)) f.index s inside f.at in
          let is = All-at (IsSeen g (suc size.depth)) (seen g size) o.each f.index s there in
          not-both path (found-bad p path f) is.holds

  -- ---- all states

  -- of two searches that came to all states, none came to one farther
  no-farther : (x : Size) (d : ℕ) → IsClosed g limits x → x.depth < d → (path : List ℕ) → AreChoices g path → length path ≡ d
      → ((other : List ℕ) → AreChoices g other → length other < d → after g g.start other ≢ after g g.start path) → ⊥
  no-farther x d c l path are long new =
      let is = All-contains (IsSeen g x.depth) (seen g x) (after g g.start path) c.each (c.all path are) in
      new is.path is.choices (omega (arith, is.few, l)) is.leads

  closed-size : (x y : Size) → IsClosed g limits x → IsClosed g limits y → x ≡ y
  closed-size x y a b = same-size x y states (a.tried ∙ ap (λ n. n * g.choices) states ∙ sym b.tried) depth
    where
      by : (x.depth < y.depth) ⊎ (y.depth ≤ x.depth) → (y.depth < x.depth) ⊎ (x.depth ≤ y.depth) → x.depth ≡ y.depth
      by (inl l) _ = absurd (no-farther x y.depth a l b.farthest.path b.farthest.choices b.farthest.long b.farthest.new)
      by (inr j) (inl l) = absurd (no-farther y x.depth b l a.farthest.path a.farthest.choices a.farthest.long a.farthest.new)
      by (inr j) (inr k) = omega (arith, j, k)

      depth : x.depth ≡ y.depth
      depth = by (cases_lt x.depth y.depth) (cases_lt y.depth x.depth)

      states : x.states ≡ y.states
      states = sym a.within ∙ ap (λ d. length (reached g d)) depth ∙ b.within

  -- where nothing is left, nothing comes
  still : (d k : ℕ) → reached g (suc d) ≡ reached g d → reached g (d + k) ≡ reached g d
  still d zero e =
      let n : d + 0 ≡ d = omega arith in
      ap (reached g) n
  still d (suc k) e =
      let n : d + suc k ≡ suc (d + k) = omega arith in
      ap (reached g) n ∙ reached-suc g law (d + k) ∙ ap (λ l. opened g (length l)) (still d k e) ∙ sym (reached-suc g law d) ∙ e

  no-more : (x : Size) → IsClosed g limits x → (d : ℕ) → length (reached g d) ≤ x.states
  no-more x c d = by (cases_lt x.depth d)
    where
      by : (x.depth < d) ⊎ (d ≤ x.depth) → length (reached g d) ≤ x.states
      by (inl l) =
          let e : x.depth + (d - x.depth) ≡ d = omega (arith, l) in
          omega (arith, ap length (ap (reached g) (sym e) ∙ still x.depth (d - x.depth) c.still), c.within)
      by (inr l) = omega (arith, front-length (reached-upto g law d x.depth l), c.within)

  -- ---- no room

  -- a state for which there is no room is one more than there is room for
  no-room : (size : Size) → LeavesOut g size → length (seen g size) ≡ size.states → length (reached g (suc size.depth)) ≤ size.states → ⊥
  no-room size e many few =
      let all : reached g (suc size.depth) ≡ seen g size = front-full (seen-front size) (omega (arith, many, few)) in
      let there = reached-next g law size.depth e.parent e.choice (has-from g law (reached g size.depth) e.at e.parent e.state) e.within in
      true≢false (sym (subst (λ l. has g law l (g.next e.parent e.choice)) all there) ∙ e.new)

  closed-open : (x y : Size) → IsClosed g limits x → IsOpen g limits y → ⊥
  closed-open x y c o = by o.limit
    where
      by : EndsByDepth g limits y ⊎ EndsByStates g limits y → ⊥
      by (inl e) =
          let far : x.depth ≤ y.depth = subst (λ l. IfSome l (λ n. x.depth ≤ n)) e.limit c.far in
          no-room y o.left o.states (omega (arith, no-more x c (suc y.depth), c.within, e.states, front-length (reached-upto g law x.depth y.depth far)))
      by (inr e) =
          let room : x.states ≤ y.states = subst (λ l. IfSome l (λ n. x.states ≤ n)) e.limit c.room in
          no-room y o.left o.states (omega (arith, room, no-more x c (suc y.depth)))

  -- the limit of choices ends no search that the other one ends
  depth-states : (x y : Size) → IsOpen g limits x → EndsByDepth g limits x → IsOpen g limits y → EndsByStates g limits y → ⊥
  depth-states x y a d b s =
      let far : y.depth < x.depth = subst (λ l. IfSome l (λ n. y.depth < n)) d.limit s.far in
      let room : x.states ≤ y.states = subst (λ l. IfSome l (λ n. x.states ≤ n)) s.limit a.room in
      no-room y b.left b.states (omega (arith, room, d.states, front-length (reached-upto g law (suc y.depth) x.depth far)))

  -- a state stands in one level
  one-level : (d e at : ℕ) → at < length (reached g d) → before g e ≤ at → d < e → ⊥
  one-level d zero at inside from l = omega (arith, l)
  one-level d (suc e) at inside from l = omega (arith, from, inside, front-length (reached-upto g law d e (omega (arith, l))))

  module _ (x y : Size) (a : IsOpen g limits x) (b : IsOpen g limits y) (s : LeavesOut g x) (t : LeavesOut g y) (same : x.states ≡ y.states) where
    turn : slice_get (opened g s.at) s.at ≡ Some s.parent
    turn = opened-turn g law (reached-opened g law x.depth).0 s.at s.parent (subst (λ l. slice_get l s.at ≡ Some s.parent) (reached-opened g law x.depth).1 s.state)

    -- both saw the same states
    same-seen : seen g x ≡ seen g y
    same-seen =
        let n = (reached-opened g law (suc x.depth)).0 in
        let m = (reached-opened g law (suc y.depth)).0 in
        let one = front-trans (seen-opened x) (opened-upto g law n (n + m) (omega arith)) in
        let other = front-trans (seen-opened y) (opened-upto g law m (n + m) (omega arith)) in
        sym (front-full (front-compare one other (omega (arith, a.states, b.states, same))) (omega (arith, a.states, b.states, same)))

    -- what has no room in the one has none in the other
    unseen : has g law (seen g y) (g.next s.parent s.choice) → ⊥
    unseen there = true≢false (sym (subst (λ l. has g law l (g.next s.parent s.choice)) (sym same-seen) there) ∙ s.new)

    -- the one didn't come to a state before the other
    not-before : s.at < t.at → ⊥
    not-before l =
        let come = subst (λ l. has g law l (g.next s.parent s.choice)) (sym (opened-suc g law s.at s.parent turn)) (trying-has g law (opened g s.at) s.parent g.choices s.choice s.within) in
        let front = front-trans (opened-upto g law (suc s.at) t.at l) (trying-front g law (opened g t.at) t.parent t.choice) in
        unseen (subst (λ l. has g law l (g.next s.parent s.choice)) (sym t.kept) (front-any (g.same (g.next s.parent s.choice)) front come))

    not-below : s.at ≡ t.at → s.parent ≡ t.parent → s.choice < t.choice → ⊥
    not-below e p l =
        let come = subst (λ r. has g law (trying g (opened g t.at) t.parent t.choice) (g.next r s.choice)) (sym p) (trying-has g law (opened g t.at) t.parent t.choice s.choice l) in
        unseen (subst (λ l. has g law l (g.next s.parent s.choice)) (sym t.kept) come)

    not-deeper : s.at ≡ t.at → x.depth < y.depth → ⊥
    not-deeper e l = one-level x.depth y.depth s.at (slice_get_within (reached g x.depth) s.at s.parent s.state) (omega (arith, e, t.last)) l

  left-left : (x y : Size) → IsOpen g limits x → IsOpen g limits y → LeavesOut g x → LeavesOut g y → x.states ≡ y.states → x ≡ y
  left-left x y a b s t same = same-size x y same (s.tried ∙ count ∙ sym t.tried) depth
    where
      equal : (m n : ℕ) → (m < n → ⊥) → (n < m → ⊥) → m ≡ n
      equal m n below above = omega (arith, below, above)

      at : s.at ≡ t.at
      at = equal s.at t.at (not-before x y a b s t same) (not-before y x b a t s (sym same))

      parent : s.parent ≡ t.parent
      parent = same_Some s.parent t.parent (sym (turn x y a b s t same) ∙ ap (λ n. slice_get (opened g n) n) at ∙ turn y x b a t s (sym same))

      choice : s.choice ≡ t.choice
      choice = equal s.choice t.choice (not-below x y a b s t same at parent) (not-below y x b a t s (sym same) (sym at) (sym parent))

      depth : x.depth ≡ y.depth
      depth = equal x.depth y.depth (not-deeper x y a b s t same at) (not-deeper y x b a t s (sym same) (sym at))

      count : s.at * g.choices + s.choice + 1 ≡ t.at * g.choices + t.choice + 1
      count = ap (λ n. n * g.choices + s.choice + 1) at ∙ ap (λ n. t.at * g.choices + n + 1) choice

  open-size : (x y : Size) → IsOpen g limits x → IsOpen g limits y → x ≡ y
  open-size x y a b = by a.limit b.limit
    where
      deep : EndsByDepth g limits x → EndsByDepth g limits y → x.states ≡ y.states
      deep d e =
          let depth : x.depth ≡ y.depth = same_Some x.depth y.depth (sym d.limit ∙ e.limit) in
          d.states ∙ ap (λ d. length (reached g d)) depth ∙ sym e.states

      by : EndsByDepth g limits x ⊎ EndsByStates g limits x → EndsByDepth g limits y ⊎ EndsByStates g limits y → x ≡ y
      by (inl d) (inl e) = left-left x y a b a.left b.left (deep d e)
      by (inl d) (inr e) = absurd (depth-states x y a d b e)
      by (inr d) (inl e) = absurd (depth-states y x b e a d)
      by (inr d) (inr e) = left-left x y a b a.left b.left (same_Some x.states y.states (sym d.limit ∙ e.limit))

  -- ---- counts

  firsts : (states : List S) (t : ℕ) (a b : Option ℕ) → MatchOption a (All (λ s. g.test t s ≡ false) states) (IsFirst g states t) → MatchOption b (All (λ s. g.test t s ≡ false) states) (IsFirst g states t) → a ≡ b
  firsts states t None None x y = refl
  firsts states t None (Some d) x y = absurd (true≢false (sym y.passes ∙ All-contains (λ s. g.test t s ≡ false) states (after g g.start y.path) x y.there))
  firsts states t (Some d) None x y = absurd (true≢false (sym x.passes ∙ All-contains (λ s. g.test t s ≡ false) states (after g g.start x.path) y x.there))
  firsts states t (Some d) (Some e) x y = ap Some (equal (cases_lt d e) (cases_lt e d))
    where
      equal : (d < e) ⊎ (e ≤ d) → (e < d) ⊎ (d ≤ e) → d ≡ e
      equal (inl l) _ = absurd (true≢false (sym x.passes ∙ y.least x.path x.choices (omega (arith, l, x.long))))
      equal (inr j) (inl l) = absurd (true≢false (sym y.passes ∙ x.least y.path y.choices (omega (arith, l, y.long))))
      equal (inr j) (inr k) = omega (arith, j, k)

  same-count : (states : List S) (t : ℕ) (x y : Count) → IsCount g states t x → IsCount g states t y → x ≡ y
  same-count states t x y a b = same-counted x y (a.number ∙ sym b.number) (firsts states t x.first y.first a.first b.first)

  same-counts : (states : List S) (tests : List ℕ) (x y : List Count) → AreCounts g states tests x → AreCounts g states tests y → x ≡ y
  same-counts states tests x y a b = ext_get_or nothing x y (a.many ∙ sym b.many) each
    where
      nothing : Count
      nothing = record { states = 0; first = None }

      each : (i : ℕ) → i < length x → get_or x i nothing ≡ get_or y i nothing
      each i l =
          let t = slice_get-some tests i (omega (arith, l, a.many)) in
          same-count states t.0 (get_or x i nothing) (get_or y i nothing)
          (a.each i t.0 (get_or x i nothing) t.1 (slice_get-get_or x i nothing l)) (b.each i t.0 (get_or y i nothing) t.1 (slice_get-get_or y i nothing (omega (arith, l, a.many, b.many))))

  -- ---- what can't be come to

  -- a want that is missed doesn't hold, within however many rounds
  pub not-missed : (states : List S) (most : ℕ) (want : Want) (missed : Missed) → Misses g states want missed → Holds g most want → ⊥
  not-missed states most (Ever t) (Lost lost) is can =
      let come = can lost.path.items is.choices in
      true≢false (sym come.2 ∙ is.never come.0 come.1)
  not-missed states most (Ever t) (Avoided avoided) is can = is
  not-missed states most (Must t) (Lost lost) is must = is
  not-missed states most (Must t) (Avoided avoided) is must =
      let e = is.evasion in
      let v = e.evades most in
      let same : g.start ≡ after g g.start e.stem = (law g.start (after g g.start e.stem)).0 e.begins in
      true≢false (sym (must v.rounds v.many v.are) ∙ subst (λ s. passes g.next (g.test t) s (concat v.rounds) ≡ false) (sym same) v.never)
  not-missed states most (MustAfter t) (Lost lost) is must = is
  not-missed states most (MustAfter t) (Avoided avoided) is must =
      let e = is.evasion in
      let v = e.evades most in
      true≢false (sym (must e.stem e.choices e.begins v.rounds v.many v.are) ∙ v.never)

  same-lost : (states : List S) (t : ℕ) (a b : List ℕ) → IsLost g states t a → IsLost g states t b → a ≡ b
  same-lost states t a b x y =
      only (λ p. CanCome g t (after g g.start p) → ⊥) (λ p. CanCome g t (after g g.start p)) (λ p bad good. bad good) a b
      (record { choices = x.choices; is = stuck (after g g.start a) x.never; shortest = x.shortest; earliest = x.earliest })
      (record { choices = y.choices; is = stuck (after g g.start b) y.never; shortest = y.shortest; earliest = y.earliest })
    where
      stuck : (s : S) → ((other : List ℕ) → AreChoices g other → g.test t (after g s other) ≡ false) → CanCome g t s → ⊥
      stuck s never come = true≢false (sym come.2 ∙ never come.0 come.1)

  same-avoided : (first : S → Bool) (t : ℕ) (a c b d : List ℕ) → IsAvoided g first t a c → IsAvoided g first t b d → a ≡ b
  same-avoided first t a c b d x y = by (cases_lt (length a) (length b)) (cases_lt (length b) (length a))
    where
      long : length a ≡ length b → (a ≡ b) ⊎ (IsEarlier a b ⊎ IsEarlier b a) → a ≡ b
      long e (inl is) = is
      long e (inr (inl l)) = absurd (y.earliest a c x.evasion e l)
      long e (inr (inr l)) = absurd (x.earliest b d y.evasion (sym e) l)

      by : (length a < length b) ⊎ (length b ≤ length a) → (length b < length a) ⊎ (length a ≤ length b) → a ≡ b
      by (inl l) _ = absurd (omega (arith, l, y.shortest a c x.evasion))
      by (inr j) (inl l) = absurd (omega (arith, l, x.shortest b d y.evasion))
      by (inr j) (inr k) = let e : length a ≡ length b = omega (arith, j, k) in long e (compared a b e)

  -- one want is missed in one way, but for the cycle
  same-way : (states : List S) (want : Want) (x y : Missed) → Misses g states want x → Misses g states want y → want_of x ≡ want_of y → want_told x ≡ want_told y
  same-way states (Ever t) (Lost a) (Lost b) x y e = ap (λ n. TellsLost n a.path.items) e ∙ ap (TellsLost b.want) (same-lost states t a.path.items b.path.items x y)
  same-way states (Ever t) (Lost a) (Avoided b) x y e = absurd y
  same-way states (Ever t) (Avoided a) b x y e = absurd x
  same-way states (Must t) (Lost a) b x y e = absurd x
  same-way states (Must t) (Avoided a) (Lost b) x y e = absurd y
  same-way states (Must t) (Avoided a) (Avoided b) x y e =
      ap (λ n. TellsAvoided n a.path.items) e ∙ ap (TellsAvoided b.want) (same-avoided (g.same g.start) t a.path.items a.cycle.items b.path.items b.cycle.items x y)
  same-way states (MustAfter t) (Lost a) b x y e = absurd x
  same-way states (MustAfter t) (Avoided a) (Lost b) x y e = absurd y
  same-way states (MustAfter t) (Avoided a) (Avoided b) x y e =
      ap (λ n. TellsAvoided n a.path.items) e ∙ ap (TellsAvoided b.want) (same-avoided (g.first t) t a.path.items a.cycle.items b.path.items b.cycle.items x y)

  same-missed : (states : List S) (most : ℕ) (wants : List Want) (x y : Option Missed) → IsMissed g states most wants x → IsMissed g states most wants y → missed_told x ≡ missed_told y
  same-missed states most wants None None a b = refl
  same-missed states most wants None (Some m) a b = absurd (not-missed states most b.want m b.misses (All-at (Holds g most) wants a (want_of m) b.want b.there))
  same-missed states most wants (Some m) None a b = absurd (not-missed states most a.want m a.misses (All-at (Holds g most) wants b (want_of m) a.want a.there))
  same-missed states most wants (Some m) (Some n) a b =
      let e = by (cases_lt (want_of m) (want_of n)) (cases_lt (want_of n) (want_of m)) in
      let same : a.want ≡ b.want = same_Some a.want b.want (sym a.there ∙ ap (slice_get wants) e ∙ b.there) in
      ap Some (same-way states a.want m n a.misses (subst (λ w. Misses g states w n) (sym same) b.misses) e)
    where
      by : (want_of m < want_of n) ⊎ (want_of n ≤ want_of m) → (want_of n < want_of m) ⊎ (want_of m ≤ want_of n) → want_of m ≡ want_of n
      by (inl l) _ = absurd (not-missed states most a.want m a.misses (b.earlier (want_of m) a.want l a.there))
      by (inr j) (inl l) = absurd (not-missed states most b.want n b.misses (a.earlier (want_of n) b.want l b.there))
      by (inr j) (inr k) = omega (arith, j, k)

  -- ---- all

  pub one_answer : (wants : List Want) (counts : List ℕ) (a b : Explored) → IsAnswer g limits wants counts a → IsAnswer g limits wants counts b → told a ≡ told b
  one_answer wants counts (Found p path) (Found q other) x y = found-found p q path.items other.items x y
  one_answer wants counts (Found p path) (Closed size all missed) x y = absurd (found-closed p path.items size x y.0)
  one_answer wants counts (Found p path) (Open size all) x y = absurd (found-open p path.items size x y.0)
  one_answer wants counts (Closed size all missed) (Found p path) x y = absurd (found-closed p path.items size y x.0)
  one_answer wants counts (Closed size all missed) (Closed size' all' missed') x y =
      let same = closed-size size size' x.0 y.0 in
      let many = same-counts (seen g size) counts all.items all'.items x.1 (subst (λ s. AreCounts g (seen g s) counts all'.items) (sym same) y.1) in
      let way = same-missed (seen g size) size.states wants missed missed' x.2 (subst (λ s. IsMissed g (seen g s) s.states wants missed') (sym same) y.2) in
      ap (λ s. TellsClosed s all.items (missed_told missed)) same ∙ ap (λ c. TellsClosed size' c (missed_told missed)) many ∙ ap (TellsClosed size' all'.items) way
  one_answer wants counts (Closed size all missed) (Open size' all') x y = absurd (closed-open size size' x.0 y.0)
  one_answer wants counts (Open size all) (Found p path) x y = absurd (found-open p path.items size y x.0)
  one_answer wants counts (Open size all) (Closed size' all' missed') x y = absurd (closed-open size' size y.0 x.0)
  one_answer wants counts (Open size all) (Open size' all') x y =
      let same = open-size size size' x.0 y.0 in
      let many = same-counts (seen g size) counts all.items all'.items x.1 (subst (λ s. AreCounts g (seen g s) counts all'.items) (sym same) y.1) in
      ap (λ s. TellsOpen s all.items) same ∙ ap (TellsOpen size') many
