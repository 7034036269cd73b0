-- What is told of a search, and what that rests on.
use Rattle.std.proofs.Common.{◌≡◌, ℕ, suc, ◌*◌, ◌-◌, ◌<◌, ◌≤◌, Bool, true, false, List, [], ◌∷◌, length, slice_get, Option, Some, None, is_some, IfSome, IfOk, OnOk, Result, Ok, Err, not, ◌==◌, refl, sym, ap, subst, arith}
use Rattle.std.proofs.lemmas.Bool.Decides.{Decides-eqb}
use Rattle.std.proofs.lemmas.List.{length_push}
use Rattle.std.proofs.lemmas.Option.{slice_get_within}
use Rattle.breadth_first.specs.System.{System, IsEquality}
use Rattle.breadth_first.specs.Paths.{after, AreChoices, IsEarlier}
use Rattle.breadth_first.specs.Order.{trying, opened, reached}
use Rattle.breadth_first.specs.Answer.{seen, first_violating, IsFound, IsClosed}
use Rattle.breadth_first.specs.Front.{Front}
use Rattle.breadth_first.specs.Origins.{AreOrigins, IsPathTo}
use Rattle.breadth_first.specs.Progress.{EndsBadly, IsFull, AreWithin, IsOpened}
use Rattle.breadth_first.specs.declared.origins.Origin.{Origin}
use Rattle.breadth_first.specs.declared.answer.Limits.{Limits}
use Rattle.breadth_first.specs.declared.answer.Size.{Size}
use Rattle.breadth_first.proofs.Fronts.{front-refl, front-length}
use Rattle.breadth_first.proofs.Order.{trying-front, trying-upto, opened-suc, reached-opened, reached-step, reached-start}
use Rattle.breadth_first.proofs.Endings.{closed, found, find-at, seen-is, reached-front}

module _ {S : Type 0} (g : System S) (law : IsEquality g.same) where
  -- where there was no room
  pub full-opened : (limit : Option ℕ) (at choice : ℕ) (states : List S) → IsFull g limit at choice states → IsOpened g states
  full-opened limit at choice states full = record {
    upto = suc at;
    front = subst (λ l. Front l (opened g (suc at))) (sym full.kept) (subst (Front (trying g (opened g at) full.parent choice)) (sym (opened-suc g law at full.parent full.state)) (trying-upto g law (opened g at) full.parent choice g.choices (omega (arith, full.within))));
  }

  pub full-at : (limit : Option ℕ) (at choice : ℕ) (states : List S) → IsFull g limit at choice states → at < length states
  full-at limit at choice states full =
      omega (arith, slice_get_within (opened g at) at full.parent full.state, front-length (trying-front g law (opened g at) full.parent choice), ap length full.kept)

  pub within-opened : (d : ℕ) (states : List S) → AreWithin g d states → IsOpened g states
  within-opened d states is = record { upto = (reached-opened g law d).0; front = reached-front g law d states (subst (λ l. Front l (reached g d)) (sym is.are) (front-refl (reached g d))) }

  -- where all states were reached
  pub closed-seen : (limits : Limits) (size : Size) (states : List S) → size.states ≡ length states → (origins : List Origin) → AreOrigins g states origins → AreWithin g size.depth states → length (reached g (suc size.depth)) ≤ length states
      → size.tried ≡ size.states * g.choices → IfSome limits.depth (λ n. size.depth ≤ n) → IfSome limits.states (λ n. size.states ≤ n) → IsClosed g limits size × (seen g size ≡ states)
  closed-seen limits size states many origins all is full tried far room =
      let front : Front states (reached g (suc size.depth)) = subst (λ l. Front l (reached g (suc size.depth))) (sym is.are) (reached-step g law size.depth) in
      (closed g law limits size states front many origins all is full tried far room, seen-is g law limits size states front many)

  -- where the start violates a property
  pub found-start : (limits : Limits) (property : ℕ) → IfSome limits.states (λ n. 0 < n) → g.violated g.start ≡ Some property → IsFound g limits property []
  found-start limits property room bad = record {
    far = far limits.depth;
    choices = λ k d l. absurd (omega arith);
    violates = bad;
    shortest = λ other choices l. absurd (omega arith);
    earliest = none;
    index = 0;
    at = ap (λ l. slice_get l 0) (reached-start g law);
    room = room;
    first = subst (λ l. first_violating g l ≡ Some g.start) (sym (reached-start g law)) (find-at (λ s. is_some (g.violated s)) (g.start ∷ []) 0 g.start refl (ap is_some bad) (λ j y l e. absurd (omega arith)));
  }
    where
      none : (other : List ℕ) → AreChoices g other → length other ≡ 0 → IsEarlier other [] → g.violated (after g g.start other) ≡ None
      none [] choices long earlier = absurd earlier
      none (c ∷ other) choices long earlier = absurd (omega (arith, long))

      far : (limit : Option ℕ) → IfSome limit (λ n. 0 ≤ n)
      far None = tt
      far (Some n) = omega arith

  -- the last of the states
  pub found-last : (limits : Limits) (d property : ℕ) (states : List S) → Front states (reached g (suc d)) → (bad : EndsBadly g property states) → (n last : ℕ) → n ≡ length states → last ≡ n - 1 → (path : List ℕ) → IsPathTo g states last path → IfSome limits.depth (λ n. d < n)
      → IfSome limits.states (λ m. length states ≤ m) → IsFound g limits property path
  found-last limits d property states front bad n last many is path to below few =
      let place : last ≡ length bad.others = omega (arith, many, is, ap length bad.are, length_push bad.others bad.last) in
      found g law limits d property states front bad path (subst (λ i. IsPathTo g states i path) place to) below few

-- as many as a limit has room for
pub room-of : {K : Type 0} (limit : Option ℕ) (keys : List K) (n : ℕ) → n ≡ length keys → IfSome limit (λ m. length keys ≤ m) → IfSome limit (λ m. n ≤ m)
room-of limit keys n e room = subst (λ k. IfSome limit (λ m. k ≤ m)) (sym e) room

-- what follows from what is said of the value in an `Ok`
pub ok-then : {T E : Type 0} (r : Result T E) {P Q : T → Type 0} → IfOk r P → ((x : T) → P x → Q x) → IfOk r Q
ok-then (Ok x) p f = f x p
ok-then (Err e) p f = p

pub on-ok : {T E : Type 0} (r : Result T E) {P Q : Type 0} → OnOk r P → (P → Q) → OnOk r Q
on-ok (Ok x) p f = f p
on-ok (Err e) p f = p

pub on-ok-any : {T E : Type 0} (r : Result T E) {Q : Type 0} → Q → OnOk r Q
on-ok-any (Ok x) q = q
on-ok-any (Err e) q = tt

-- a list that isn't empty
pub not-empty : (n : ℕ) → 0 < n → not (n == 0) ≡ true
not-empty n l = by (n == 0) refl
  where
    by : (b : Bool) → (n == 0) ≡ b → not (n == 0) ≡ true
    by true e = absurd (omega (arith, (Decides-eqb n 0).0 e))
    by false e = ap not e
