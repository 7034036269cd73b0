-- The laws of fields: what is read is spelled so, what is spelled so is read, more bytes behind change no value and no
-- fault, and only bytes that are few are too short.
use Rattle.std.proofs.Common.{◌≡◌, ℕ, ◌+◌, ◌<◌, ◌≤◌, ◌⊎◌, Bool, true, false, if◌then◌else◌, List, ◌++◌, length, take, drop, Result, Ok, Err, refl, sym, ap, subst, ◌∙◌, append_assoc, arith, inl, inr}
use Rattle.std.specs.Prelude.{nat_le}
use Rattle.std.proofs.lemmas.Bool.{le-leb, leb-true, leb-false}
use Rattle.std.proofs.lemmas.List.{length-append, take-append-drop, take_at, drop_at, length-take-le}
use Rattle.std.proofs.lemmas.List.Elements.{All-take}
use Rattle.listing_read.specs.Faults.{◌>>=◌}
use Rattle.image_binary.specs.declared.fault.ImageWord.{ImageWord}
use Rattle.image_binary.specs.declared.stop.Stop.{Stop}
use Rattle.image_binary.specs.declared.stop.Stop.TheVariants.{Short, Wrong}
use Rattle.image_binary.specs.Fields.{Read, Fields, ◌⨟◌, front_of, judged, field_of, field}
use Rattle.image_binary.specs.Laws.{AreBytes}
use Rattle.image_binary.proofs.Binds.{bind_ok, bind_err, read_parts, All-behind}

-- a value was read that is spelled by the bytes up to those behind it
pub record Spelled {A : Type 0} (fields : Fields A) (Fits : A → Type 0) (bytes : List ℕ) (x : A) (rest : List ℕ) : Type 0 where
  pub fits : Fits x
  pub parts : bytes ≡ fields.bytes x ++ rest

-- a field has a fault, also where more bytes stand behind
pub record IsSteady {A : Type 0} (read : List ℕ → Read A) (bytes : List ℕ) (left : ℕ) (fault : ImageWord) : Type 0 where
  pub within : left ≤ length bytes
  pub stays : (more : List ℕ) → read (bytes ++ more) ≡ Err (Wrong (left + length more) fault)

-- a field ends behind these bytes, which are fewer than so many
pub record IsShort (bytes : List ℕ) (left most : ℕ) : Type 0 where
  pub within : left ≤ length bytes
  pub few : length bytes < most

-- the laws of fields, of whose values those that fit have a spelling, of at most so many bytes
pub record IsLawful {A : Type 0} (fields : Fields A) (Fits : A → Type 0) (most : ℕ) : Type 0 where
  pub spelled : (bytes : List ℕ) (x : A) (rest : List ℕ) → AreBytes bytes → fields.read bytes ≡ Ok (x, rest) → Spelled fields Fits bytes x rest
  pub again : (x : A) (more : List ℕ) → Fits x → fields.read (fields.bytes x ++ more) ≡ Ok (x, more)
  pub steady : (bytes : List ℕ) (left : ℕ) (fault : ImageWord) → AreBytes bytes → fields.read bytes ≡ Err (Wrong left fault) → IsSteady fields.read bytes left fault
  pub short : (bytes : List ℕ) (left : ℕ) → AreBytes bytes → fields.read bytes ≡ Err (Short left) → IsShort bytes left most
  pub few : (x : A) → Fits x → length (fields.bytes x) ≤ most

-- more bytes behind change no value
pub extended : {A : Type 0} (fields : Fields A) (Fits : A → Type 0) (most : ℕ) → IsLawful fields Fits most → (bytes : List ℕ) (x : A) (rest more : List ℕ) → AreBytes bytes
    → fields.read bytes ≡ Ok (x, rest) → fields.read (bytes ++ more) ≡ Ok (x, rest ++ more)
extended fields Fits most law bytes x rest more are e =
    let s = law.spelled bytes x rest are e in
    let whole : bytes ++ more ≡ fields.bytes x ++ (rest ++ more) = ap (λ l. l ++ more) s.parts ∙ append_assoc (fields.bytes x) rest more in
    ap fields.read whole ∙ law.again x (rest ++ more) s.fits

-- a bound that is higher
pub wider : {A : Type 0} (fields : Fields A) (Fits : A → Type 0) (m n : ℕ) → IsLawful fields Fits m → m ≤ n → IsLawful fields Fits n
wider fields Fits m n law le = record {
  spelled = law.spelled;
  again = law.again;
  steady = law.steady;
  short = λ bytes left are e. let s = law.short bytes left are e in record { within = s.within; few = omega (arith, s.few) };
  few = λ x fits. let few = law.few x fits in omega arith;
}

-- ---- one field

-- what a front of n bytes is
front_ok : (n : ℕ) (bytes front rest : List ℕ) → front_of n bytes ≡ Ok (front, rest) → (n ≤ length bytes) × (take n bytes ≡ front) × (drop n bytes ≡ rest)
unfolding front_of
front_ok n bytes front rest e = on (nat_le n (length bytes)) refl e
  where
    on : (b : Bool) → nat_le n (length bytes) ≡ b → (λ (r : Read (List ℕ)). r) (if b then Ok (take n bytes, drop n bytes) else Err (Short (length bytes))) ≡ Ok (front, rest)
        → (n ≤ length bytes) × (take n bytes ≡ front) × (drop n bytes ≡ rest)
    on true b e = let p = read_parts (take n bytes) front (drop n bytes) rest e in (leb-true _ _ b, p.0, p.1)
    on false b e = absurd cc

-- n bytes are there
front_there : (n : ℕ) (front more : List ℕ) → length front ≡ n → front_of n (front ++ more) ≡ Ok (front, more)
unfolding front_of
front_there n front more len =
    rw (le-leb n (length (front ++ more)) (omega (arith, length-append front more)), take_at front more n len, drop_at front more n len) refl

-- or they are not
front_short : (n : ℕ) (bytes : List ℕ) (stop : Stop) → front_of n bytes ≡ Err stop → (length bytes < n) × (Short (length bytes) ≡ stop)
unfolding front_of
front_short n bytes stop e = on (nat_le n (length bytes)) refl e
  where
    on : (b : Bool) → nat_le n (length bytes) ≡ b → (λ (r : Read (List ℕ)). r) (if b then Ok (take n bytes, drop n bytes) else Err (Short (length bytes))) ≡ Err stop
        → (length bytes < n) × (Short (length bytes) ≡ stop)
    on true b e = absurd cc
    on false b e = (leb-false _ _ b, cc)

judged_ok : {A : Type 0} (bytes rest end : List ℕ) (r : Result A ImageWord) (x : A) → judged bytes rest r ≡ Ok (x, end) → (r ≡ Ok x) × (rest ≡ end)
judged_ok bytes rest end (Ok y) x e = let p = read_parts y x rest end e in (ap Ok p.0, p.1)
judged_ok bytes rest end (Err fault) x e = absurd cc

judged_err : {A : Type 0} (bytes rest : List ℕ) (r : Result A ImageWord) (stop : Stop) → judged bytes rest r ≡ Err stop
    → (fault : ImageWord) × (r ≡ Err fault) × (Wrong (length bytes) fault ≡ stop)
judged_err bytes rest (Ok y) stop e = absurd cc
judged_err bytes rest (Err fault) stop e = (fault, refl, cc)

-- the number and the fault of a stop
wrong_parts : (m n : ℕ) (f g : ImageWord) → Wrong m f ≡ Wrong n g → (m ≡ n) × (f ≡ g)
wrong_parts m n f g e = (cc, cc)

short_part : (m n : ℕ) → Short m ≡ Short n → m ≡ n
short_part m n e = cc

-- a field whose bytes are n, and are judged to be its value
module _ {A : Type 0} (n : ℕ) (spelling : A → List ℕ) (judge : List ℕ → Result A ImageWord) (Fits : A → Type 0)
    (spells : (l : List ℕ) (x : A) → length l ≡ n → AreBytes l → judge l ≡ Ok x → (spelling x ≡ l) × Fits x)
    (reads : (x : A) → Fits x → (length (spelling x) ≡ n) × (judge (spelling x) ≡ Ok x)) where
  judged_front : List ℕ → List ℕ × List ℕ → Read A
  judged_front bytes front = judged bytes front.1 (judge front.0)

  field_spelled : (bytes : List ℕ) (x : A) (rest : List ℕ) → AreBytes bytes → field_of n judge bytes ≡ Ok (x, rest) → Spelled (field n spelling judge) Fits bytes x rest
  unfolding field_of judged_front
  field_spelled bytes x rest are e =
      let b = bind_ok (front_of n bytes) (judged_front bytes) (x, rest) e in
      let f = front_ok n bytes b.0.0 b.0.1 b.1 in
      let j = judged_ok bytes b.0.1 rest (judge b.0.0) x b.2 in
      let len : length b.0.0 ≡ n = ap length (sym f.1) ∙ length-take-le n bytes f.0 in
      let s = spells b.0.0 x len (subst AreBytes f.1 (All-take (λ byte. byte < 256) n bytes are)) j.0 in
      record {
        fits = s.1;
        parts = sym (take-append-drop n bytes) ∙ ap (λ l. l ++ drop n bytes) (f.1 ∙ sym s.0) ∙ ap (λ l. spelling x ++ l) (f.2 ∙ j.1);
      }

  field_again : (x : A) (more : List ℕ) → Fits x → field_of n judge (spelling x ++ more) ≡ Ok (x, more)
  unfolding field_of
  field_again x more fits = let r = reads x fits in rw (front_there n (spelling x) more r.0, r.1) refl

  field_steady : (bytes : List ℕ) (left : ℕ) (fault : ImageWord) → AreBytes bytes → field_of n judge bytes ≡ Err (Wrong left fault) → IsSteady (field_of n judge) bytes left fault
  unfolding field_of judged_front
  field_steady bytes left fault are e = on (bind_err (front_of n bytes) (judged_front bytes) (Wrong left fault) e)
    where
      on : (front_of n bytes ≡ Err (Wrong left fault)) ⊎ ((x : List ℕ × List ℕ) × (front_of n bytes ≡ Ok x) × (judged_front bytes x ≡ Err (Wrong left fault)))
          → IsSteady (field_of n judge) bytes left fault
      on (inl bad) = absurd (let s = (front_short n bytes (Wrong left fault) bad).1 in cc)
      on (inr b) =
          let f = front_ok n bytes b.0.0 b.0.1 b.1 in
          let j = judged_err bytes b.0.1 (judge b.0.0) (Wrong left fault) b.2 in
          let w = wrong_parts (length bytes) left j.0 fault j.2 in
          let len : length b.0.0 ≡ n = ap length (sym f.1) ∙ length-take-le n bytes f.0 in
          let split : bytes ≡ b.0.0 ++ drop n bytes = sym (take-append-drop n bytes) ∙ ap (λ l. l ++ drop n bytes) f.1 in
          record {
            within = omega (arith, w.0);
            stays = λ more.
                let whole : bytes ++ more ≡ b.0.0 ++ (drop n bytes ++ more) = ap (λ l. l ++ more) split ∙ append_assoc b.0.0 (drop n bytes) more in
                let count : length (b.0.0 ++ (drop n bytes ++ more)) ≡ left + length more = ap length (sym whole) ∙ length-append bytes more ∙ ap (λ k. k + length more) w.0 in
                ap (field_of n judge) whole
                ∙ rw (front_there n b.0.0 (drop n bytes ++ more) len, j.1, w.1) (ap (λ k. Err (Wrong k fault)) count);
          }

  field_short : (bytes : List ℕ) (left : ℕ) → AreBytes bytes → field_of n judge bytes ≡ Err (Short left) → IsShort bytes left n
  unfolding field_of judged_front
  field_short bytes left are e = on (bind_err (front_of n bytes) (judged_front bytes) (Short left) e)
    where
      on : (front_of n bytes ≡ Err (Short left)) ⊎ ((x : List ℕ × List ℕ) × (front_of n bytes ≡ Ok x) × (judged_front bytes x ≡ Err (Short left))) → IsShort bytes left n
      on (inl bad) =
          let s = front_short n bytes (Short left) bad in
          let same = short_part (length bytes) left s.1 in
          record { within = omega (arith, same); few = s.0 }
      on (inr b) = absurd (let j = (judged_err bytes b.0.1 (judge b.0.0) (Short left) b.2).2 in cc)

  pub field_is : IsLawful (field n spelling judge) Fits n
  field_is = record {
    spelled = field_spelled;
    again = field_again;
    steady = field_steady;
    short = field_short;
    few = λ x fits. let r = reads x fits in omega (arith, r.0);
  }

-- ---- several fields

-- fields behind others that suit their values
module _ {A B : Type 0} (first : Fields A) (next : A → Fields B) (FitsA : A → Type 0) (FitsB : A → B → Type 0) (m n : ℕ)
    (one : IsLawful first FitsA m) (two : (x : A) → FitsA x → IsLawful (next x) (FitsB x) n) where
  both_fit : A × B → Type 0
  both_fit x = FitsA x.0 × FitsB x.0 x.1

  -- what was read of both
  both_read : A → B × List ℕ → Read (A × B)
  both_read x y = Ok ((x, y.0), y.1)

  -- what is read behind the first
  rest_read : A × List ℕ → Read (A × B)
  rest_read x = (next x.0).read x.1 >>= both_read x.0

  -- the bytes behind the first are bytes
  rest_are : (bytes : List ℕ) (x : A) (rest : List ℕ) → AreBytes bytes → Spelled first FitsA bytes x rest → AreBytes rest
  rest_are bytes x rest are s = All-behind (λ byte. byte < 256) (first.bytes x) rest (subst AreBytes s.parts are)

  pair_spelled : (bytes : List ℕ) (x : A × B) (rest : List ℕ) → AreBytes bytes → (first ⨟ next).read bytes ≡ Ok (x, rest) → Spelled (first ⨟ next) both_fit bytes x rest
  unfolding both_fit both_read rest_read
  pair_spelled bytes x rest are e =
      let a = bind_ok (first.read bytes) rest_read (x, rest) e in
      let s = one.spelled bytes a.0.0 a.0.1 are a.1 in
      let b = bind_ok ((next a.0.0).read a.0.1) (both_read a.0.0) (x, rest) a.2 in
      let t = (two a.0.0 s.fits).spelled a.0.1 b.0.0 b.0.1 (rest_are bytes a.0.0 a.0.1 are s) b.1 in
      let p = read_parts (a.0.0, b.0.0) x b.0.1 rest b.2 in
      let found : Spelled (first ⨟ next) both_fit bytes (a.0.0, b.0.0) b.0.1 =
      record {
        fits = (s.fits, t.fits);
        parts = s.parts ∙ ap (λ l. first.bytes a.0.0 ++ l) t.parts ∙ sym (append_assoc (first.bytes a.0.0) ((next a.0.0).bytes b.0.0) b.0.1);
      } in
      subst (λ (l : List ℕ). Spelled (first ⨟ next) both_fit bytes x l) p.1 (subst (λ (z : A × B). Spelled (first ⨟ next) both_fit bytes z b.0.1) p.0 found)

  pair_again : (x : A × B) (more : List ℕ) → both_fit x → (first ⨟ next).read ((first ⨟ next).bytes x ++ more) ≡ Ok (x, more)
  unfolding both_fit
  pair_again x more fits =
      let front = first.bytes x.0 in
      let back = (next x.0).bytes x.1 in
      ap (first ⨟ next).read (append_assoc front back more) ∙ rw (one.again x.0 (back ++ more) fits.0, (two x.0 fits.0).again x.1 more fits.1) refl

  pair_steady : (bytes : List ℕ) (left : ℕ) (fault : ImageWord) → AreBytes bytes → (first ⨟ next).read bytes ≡ Err (Wrong left fault) → IsSteady (first ⨟ next).read bytes left fault
  unfolding both_read rest_read
  pair_steady bytes left fault are e = on (bind_err (first.read bytes) rest_read (Wrong left fault) e)
    where
      behind : (x : A × List ℕ) → first.read bytes ≡ Ok x
          → ((next x.0).read x.1 ≡ Err (Wrong left fault)) ⊎ ((y : B × List ℕ) × ((next x.0).read x.1 ≡ Ok y) × (both_read x.0 y ≡ Err (Wrong left fault)))
          → IsSteady (first ⨟ next).read bytes left fault
      behind x ok (inl bad) =
          let s = one.spelled bytes x.0 x.1 are ok in
          let t = (two x.0 s.fits).steady x.1 left fault (rest_are bytes x.0 x.1 are s) bad in
          let len = ap length s.parts ∙ length-append (first.bytes x.0) x.1 in
          record {
            within = omega (arith, t.within, len);
            stays = λ more. rw (extended first FitsA m one bytes x.0 x.1 more are ok, t.stays more) refl;
          }
      behind x ok (inr y) = absurd (let no = y.2 in cc)

      on : (first.read bytes ≡ Err (Wrong left fault)) ⊎ ((x : A × List ℕ) × (first.read bytes ≡ Ok x) × (rest_read x ≡ Err (Wrong left fault)))
          → IsSteady (first ⨟ next).read bytes left fault
      on (inl bad) =
          let t = one.steady bytes left fault are bad in
          record { within = t.within; stays = λ more. rw (t.stays more) refl }
      on (inr a) = behind a.0 a.1 (bind_err ((next a.0.0).read a.0.1) (both_read a.0.0) (Wrong left fault) a.2)

  pair_short : (bytes : List ℕ) (left : ℕ) → AreBytes bytes → (first ⨟ next).read bytes ≡ Err (Short left) → IsShort bytes left (m + n)
  unfolding both_read rest_read
  pair_short bytes left are e = on (bind_err (first.read bytes) rest_read (Short left) e)
    where
      behind : (x : A × List ℕ) → first.read bytes ≡ Ok x
          → ((next x.0).read x.1 ≡ Err (Short left)) ⊎ ((y : B × List ℕ) × ((next x.0).read x.1 ≡ Ok y) × (both_read x.0 y ≡ Err (Short left)))
          → IsShort bytes left (m + n)
      behind x ok (inl bad) =
          let s = one.spelled bytes x.0 x.1 are ok in
          let t = (two x.0 s.fits).short x.1 left (rest_are bytes x.0 x.1 are s) bad in
          let len = ap length s.parts ∙ length-append (first.bytes x.0) x.1 in
          record { within = omega (arith, t.within, len); few = omega (arith, t.few, len, one.few x.0 s.fits) }
      behind x ok (inr y) = absurd (let no = y.2 in cc)

      on : (first.read bytes ≡ Err (Short left)) ⊎ ((x : A × List ℕ) × (first.read bytes ≡ Ok x) × (rest_read x ≡ Err (Short left))) → IsShort bytes left (m + n)
      on (inl bad) = let t = one.short bytes left are bad in record { within = t.within; few = omega (arith, t.few) }
      on (inr a) = behind a.0 a.1 (bind_err ((next a.0.0).read a.0.1) (both_read a.0.0) (Short left) a.2)

  pub pair_is : IsLawful (first ⨟ next) (λ x. FitsA x.0 × FitsB x.0 x.1) (m + n)
  unfolding both_fit
  pair_is = record {
    spelled = pair_spelled;
    again = pair_again;
    steady = pair_steady;
    short = pair_short;
    few = λ x fits. omega (arith, length-append (first.bytes x.0) ((next x.0).bytes x.1), one.few x.0 fits.0, (two x.0 fits.0).few x.1 fits.1);
  }
