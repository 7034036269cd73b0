-- Facts about texts that are written one behind the other.
use Rattle.std.proofs.Common.{ℕ, ◌≡◌, ◌+◌, ◌<◌, ◌≤◌, List, [], ◌∷◌, ◌++◌, length, take, drop, get_or, Option, Result, Ok, Err, IsErr, refl, sym, ap, subst, ◌∙◌, arith, append-nil, length-append, flat_map}
use Rattle.std.proofs.KnownBytes.{Appends-trans}
use Rattle.std.proofs.Math.Seq.{take-append-add, take-length}
use Rattle.std.proofs.lemmas.List.{take-append-le, take-append-drop, take_more}
use Rattle.std.proofs.lemmas.Grind.{flat_map-append}
use Rattle.std.specs.Io.KnownBytes.{Appends}
use Rattle.coy_io.specs.Causes.{HasCause, Rose}
use Rattle.coy_io.specs.Pieces.{AppendsSome}
use Rattle.coy_io.specs.Written.{Writes, Wrote}

-- a front part of a text is one of each longer text
pub cut_before : (a b : Option (List ℕ)) (x y : List ℕ) → AppendsSome a b x → AppendsSome a b (x ++ y)
cut_before a b x y (n, short, front) =
    (n, omega (arith, length-append x y), subst (Appends a b) (sym (take-append-le n x y (omega arith))) front)

-- a text that was written, and a front part of the next one
pub cut_behind : (a b c : Option (List ℕ)) (x y : List ℕ) → Appends a b x → AppendsSome b c y → AppendsSome a c (x ++ y)
cut_behind a b c x y first (n, short, front) =
    (length x + n, omega (arith, length-append x y), subst (Appends a c) (sym (take-append-add x y n)) (Appends-trans a b c x (take n y) first front))

-- a text that was written, and the next one as far as its call came
pub behind : {T E : Type 0} (r : Result T E) (a b c : Option (List ℕ)) (x y : List ℕ) → Appends a b x → Writes b c r y → Writes a c r (x ++ y)
behind (Ok v) a b c x y first second = Appends-trans a b c x y first second
behind (Err e) a b c x y first second = cut_behind a b c x y first second

-- ---- at a return

-- a call that failed wrote a front part
pub cut : {T E : Type 0} (r : Result T E) (a b : Option (List ℕ)) (x : List ℕ) → IsErr r → AppendsSome a b x → Writes a b r x
cut (Ok v) a b x is front = cc
cut (Err e) a b x is front = front

-- and has the cause of the call that failed in it
pub failed : {T E U F : Type 0} (r : Result T E) (s : Result U F) (a b c : ℕ) → IsErr r → IsErr s → b ≡ a → HasCause b c s → HasCause a c r
failed (Ok v) s a b c is was same cause = cc
failed (Err e) (Ok v) a b c is was same cause = cc
failed (Err e) (Err f) a b c is was same cause =
    let later : a ≤ c = omega (arith, cause.later) in
    let rose : Rose b c = cause.rose in
    record { later = later; quiet = tt; rose = subst (λ n. Rose n c) same rose }

-- the last call's cause is the whole call's
pub caused : {T E : Type 0} (r : Result T E) (a b c : ℕ) → b ≡ a → HasCause b c r → HasCause a c r
caused r a b c same cause = subst (λ n. HasCause n c r) same cause

pub same_cut : (a b : Option (List ℕ)) (x y : List ℕ) → x ≡ y → AppendsSome a b x → AppendsSome a b y
same_cut a b x y same front = subst (AppendsSome a b) same front

pub same : {T E : Type 0} (r : Result T E) (a b : Option (List ℕ)) (m n : ℕ) (x y : List ℕ) → x ≡ y → Wrote a b m n r x → Wrote a b m n r y
same r a b m n x y equal wrote = subst (Wrote a b m n r) equal wrote

-- ---- one text behind another

-- a call that succeeded, and then what the next ones did
pub go_on : {T E U F : Type 0} (v : T) (r : Result U F) (a b c : Option (List ℕ)) (l m n : ℕ) (x y : List ℕ) → Wrote {T = T} {E = E} a b l m (Ok v) x → Wrote b c m n r y → Wrote a c l n r (x ++ y)
go_on v r a b c l m n x y first second = record {
  text = behind r a b c x y first.text second.text;
  cause = caused r l m n first.cause.quiet second.cause;
}

-- a call that failed, with other texts to come
pub stop : {T E U F : Type 0} (e : F) (r : Result T E) (a b : Option (List ℕ)) (m n : ℕ) (x y : List ℕ) → IsErr r → Wrote {T = U} {E = F} a b m n (Err e) x → Wrote a b m n r (x ++ y)
stop e r a b m n x y is wrote = record {
  text = cut r a b (x ++ y) is (cut_before a b x y wrote.text);
  cause = failed r (Err e) m m n is refl refl wrote.cause;
}

-- ---- what a loop wrote so far

pub record Written (old new : Option (List ℕ)) (was now : ℕ) (text : List ℕ) : Type 0 where
  pub bytes : Appends old new text
  pub quiet : now ≡ was

pub whole : {T E : Type 0} (v : T) (a b : Option (List ℕ)) (m n : ℕ) (x : List ℕ) → Written a b m n x → Wrote {T = T} {E = E} a b m n (Ok v) x
whole v a b m n x done = record {
  text = done.bytes;
  cause = let quiet : n ≡ m = done.quiet in record { later = omega arith; quiet = quiet; rose = tt };
}

-- texts of the members of a list, one by one: that of member `i` behind those before it
module _ {A : Type 0} (f : A → List ℕ) (all xs : List A) (i : ℕ) (x : A) (same : xs ≡ all) (there : i < length xs) (at : x ≡ get_or xs i x) where
  front_more : take (i + 1) all ≡ take i all ++ x ∷ []
  front_more = ap (take (i + 1)) (sym same) ∙ (take_more xs i x there ∙ (ap (λ y. take i xs ++ y ∷ []) (sym at) ∙ ap (λ ys. take i ys ++ x ∷ []) same))

  texts_more : flat_map f (take (i + 1) all) ≡ flat_map f (take i all) ++ f x
  texts_more = ap (flat_map f) front_more ∙ flat_map-append f (take i all) (x ∷ []) ∙ ap (λ text. flat_map f (take i all) ++ text) (append-nil (f x))

  texts_whole : flat_map f all ≡ (flat_map f (take i all) ++ f x) ++ flat_map f (drop (i + 1) all)
  texts_whole =
      ap (flat_map f) (sym (take-append-drop (i + 1) all)) ∙ flat_map-append f (take (i + 1) all) (drop (i + 1) all)
      ∙ ap (λ text. text ++ flat_map f (drop (i + 1) all)) texts_more

  module _ (a b c : Option (List ℕ)) (l m n : ℕ) (done : Written a b l m (flat_map f (take i all))) where
    pub member_more : {T E : Type 0} (v : T) → Wrote {T = T} {E = E} b c m n (Ok v) (f x) → Written a c l n (flat_map f (take (i + 1) all))
    member_more v one = record {
      bytes = subst (Appends a c) (sym texts_more) (Appends-trans a b c (flat_map f (take i all)) (f x) done.bytes one.text);
      quiet = one.cause.quiet ∙ done.quiet;
    }

    pub member_stops : {T E U F : Type 0} (e : F) (r : Result T E) → IsErr r → Wrote {T = U} {E = F} b c m n (Err e) (f x) → Wrote a c l n r (flat_map f all)
    member_stops e r failing one = record {
      text = cut r a c (flat_map f all) failing
          (subst (AppendsSome a c) (sym texts_whole) (cut_before a c (flat_map f (take i all) ++ f x) (flat_map f (drop (i + 1) all)) (cut_behind a b c (flat_map f (take i all)) (f x) done.bytes one.text)));
      cause = failed r (Err e) l m n failing refl done.quiet one.cause;
    }

-- and all of them
pub members_done : {A T E : Type 0} (f : A → List ℕ) (all xs : List A) (v : T) (i : ℕ) (a b : Option (List ℕ)) (m n : ℕ) → xs ≡ all → length xs ≤ i → i ≤ length xs → Written a b m n (flat_map f (take i all)) → Wrote {T = T} {E = E} a b m n (Ok v) (flat_map f all)
members_done f all xs v i a b m n same past within done =
    let count : length xs ≡ length all = ap length same in
    let end : i ≡ length all = omega arith in
    whole v a b m n (flat_map f all) (subst (λ ys. Written a b m n (flat_map f ys)) (ap (λ k. take k all) end ∙ take-length all) done)
