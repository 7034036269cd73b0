-- Facts about texts of things that have numbers, and of the members of a list, that are written one behind the other.
use Rattle.std.proofs.Common.{ℕ, zero, suc, ◌≡◌, ◌+◌, ◌-◌, ◌<◌, ◌≤◌, List, [], ◌∷◌, ◌++◌, length, take, slice_get, Option, None, Some, Result, Ok, Err, true, false, is_none, IsErr, refl, sym, ap, subst, ◌∙◌, arith, append_assoc, append-nil, add-one, add-zero, add-suc, flat_map}
use Rattle.std.proofs.KnownBytes.{Appends-nil, Appends-trans}
use Rattle.std.proofs.lemmas.Option.{slice_get_within, get_or_from_slice_get, slice_get-get_or}
use Rattle.std.specs.Io.KnownBytes.{Appends}
use Rattle.coy_io.specs.Lines.{line_feed}
use Rattle.coy_io.specs.Pieces.{AppendsSome}
use Rattle.coy_io.specs.Written.{Wrote}
use Rattle.coy_io.proofs.Texts.{Written, whole, cut, failed, cut_before, cut_behind}
use Rattle.coy_io.proofs.Texts.{member_more as one_member_more, member_stops as one_member_stops, members_done as members_all}
use Rattle.run_text.specs.Each.{each_below}
use Rattle.run_text.specs.Standing.{member_text, queue_text}

-- ---- texts of things that have numbers

each_below-suc : (f : ℕ → List ℕ) (n : ℕ) → each_below f (n + 1) ≡ each_below f n ++ f n
unfolding each_below
each_below-suc f n = ap (each_below f) (add-one n)

-- nothing was written of none
pub each_none : (f : ℕ → List ℕ) (a : Option (List ℕ)) → Appends a a (each_below f 0)
unfolding each_below
each_none f a = Appends-nil a

-- one more was written
pub each_more : (f : ℕ → List ℕ) (n : ℕ) (a b c : Option (List ℕ)) → Appends a b (each_below f n) → Appends b c (f n) → Appends a c (each_below f (n + 1))
each_more f n a b c done next = subst (Appends a c) (sym (each_below-suc f n)) (Appends-trans a b c (each_below f n) (f n) done next)

each_below-add : (f : ℕ → List ℕ) (i k : ℕ) → (rest : List ℕ) × (each_below f (i + k) ≡ each_below f i ++ rest)
unfolding each_below
each_below-add f i zero = ([], ap (each_below f) (add-zero i) ∙ sym (append-nil (each_below f i)))
each_below-add f i (suc k) =
    let before = each_below-add f i k in
    (before.0 ++ f (i + k), ap (each_below f) (add-suc i k) ∙ ap (λ text. text ++ f (i + k)) before.1 ∙ append_assoc (each_below f i) before.0 (f (i + k)))

-- a front part of one behind those before it
pub each_cut : (f : ℕ → List ℕ) (i n : ℕ) (a b c : Option (List ℕ)) → i < n → Appends a b (each_below f i) → AppendsSome b c (f i) → AppendsSome a c (each_below f n)
each_cut f i n a b c inside done cut =
    let more = each_below-add f (i + 1) (n - (i + 1)) in
    let same : n ≡ i + 1 + (n - (i + 1)) = omega arith in
    let whole : each_below f n ≡ (each_below f i ++ f i) ++ more.0 = ap (each_below f) same ∙ more.1 ∙ ap (λ text. text ++ more.0) (each_below-suc f i) in
    subst (AppendsSome a c) (sym whole) (cut_before a c (each_below f i ++ f i) more.0 (cut_behind a b c (each_below f i) (f i) done cut))

-- texts of things that have numbers, one by one
module _ (f : ℕ → List ℕ) where
  pub none_yet : (a : Option (List ℕ)) (m : ℕ) → Written a a m m (each_below f 0)
  none_yet a m = record { bytes = each_none f a; quiet = refl }

  pub one_more : {T E : Type 0} (v : T) (i : ℕ) (a b c : Option (List ℕ)) (l m n : ℕ) → Written a b l m (each_below f i) → Wrote {T = T} {E = E} b c m n (Ok v) (f i) → Written a c l n (each_below f (i + 1))
  one_more v i a b c l m n done one = record { bytes = each_more f i a b c done.bytes one.text; quiet = one.cause.quiet ∙ done.quiet }

  pub one_stops : {T E U F : Type 0} (e : F) (r : Result T E) (i k : ℕ) (a b c : Option (List ℕ)) (l m n : ℕ) → i < k → IsErr r → Written a b l m (each_below f i) → Wrote {T = U} {E = F} b c m n (Err e) (f i) → Wrote a c l n r (each_below f k)
  one_stops e r i k a b c l m n inside is done one = record {
    text = cut r a c (each_below f k) is (each_cut f i k a b c inside done.bytes one.text);
    cause = failed r (Err e) l m n is refl done.quiet one.cause;
  }

  pub all_done : {T E : Type 0} (v : T) (i k : ℕ) (a b : Option (List ℕ)) (m n : ℕ) → k ≤ i → i ≤ k → Written a b m n (each_below f i) → Wrote {T = T} {E = E} a b m n (Ok v) (each_below f k)
  all_done v i k a b m n past within done =
      let equal : i ≡ k = omega arith in
      whole v a b m n (each_below f k) (subst (λ j. Written a b m n (each_below f j)) equal done)

-- texts of the members of a list, one by one
module _ (f : ℕ → List ℕ) (xs : List ℕ) (i p : ℕ) (is : slice_get xs i ≡ Some p) where
  pub members_within : i + 1 ≤ length xs
  members_within = let within = slice_get_within xs i p is in omega arith

  module _ (a b c : Option (List ℕ)) (l m n : ℕ) (done : Written a b l m (flat_map f (take i xs))) where
    pub member_more : {T E : Type 0} (v : T) → Wrote {T = T} {E = E} b c m n (Ok v) (f p) → Written a c l n (flat_map f (take (i + 1) xs))
    member_more v one =
        one_member_more f xs xs i p refl (slice_get_within xs i p is) (sym (get_or_from_slice_get xs i p p is)) a b c l m n done v one

    pub member_stops : {T E U F : Type 0} (e : F) (r : Result T E) → IsErr r → Wrote {T = U} {E = F} b c m n (Err e) (f p) → Wrote a c l n r (flat_map f xs)
    member_stops e r failing one =
        one_member_stops f xs xs i p refl (slice_get_within xs i p is) (sym (get_or_from_slice_get xs i p p is)) a b c l m n done e r failing one

pub members_done : {T E : Type 0} (f : ℕ → List ℕ) (xs : List ℕ) (v : T) (i : ℕ) (a b : Option (List ℕ)) (m n : ℕ) → slice_get xs i ≡ None → i ≤ length xs → Written a b m n (flat_map f (take i xs)) → Wrote {T = T} {E = E} a b m n (Ok v) (flat_map f xs)
members_done f xs v i a b m n is within done = members_all f xs xs v i a b m n refl (omega (arith, past)) within done
  where
    past : i < length xs → ⊥
    past inside = let there : None ≡ Some _ = sym is ∙ slice_get-get_or xs i 0 inside in cc

-- ---- the line of a list of processes

pub queue_none : (name list : List ℕ) → is_none (slice_get list 0) ≡ true → queue_text name list ≡ []
unfolding queue_text
queue_none name [] is = refl
queue_none name (p ∷ ps) is = cc

pub queue_some : (name list : List ℕ) → is_none (slice_get list 0) ≡ false → queue_text name list ≡ name ++ (flat_map member_text list ++ line_feed)
unfolding queue_text
queue_some name [] is = cc
queue_some name (p ∷ ps) is = refl
