-- Steps of reading, over the bytes that a reader holds and those that its source gives.
use Rattle.std.proofs.Common.{◌≡◌, ℕ, ◌+◌, ◌-◌, ◌<◌, ◌≤◌, List, [], ◌∷◌, ◌++◌, length, drop, Option, Ok, Err, refl, sym, ap, subst, ◌∙◌, append_assoc, append-nil, arith, inl, inr, length-append}
use Rattle.std.specs.Io.KnownBytes.{Consumes}
use Rattle.std.proofs.KnownBytes.{Consumes-nil, Consumes-trans, Consumes-kept}
use Rattle.std.proofs.lemmas.List.{drop_at}
use Rattle.std.proofs.lemmas.List.Elements.{All-append, All-cons, All-nil}
use Rattle.coy_io.specs.Limits.{input_limit}
use Rattle.image_binary.specs.declared.fault.ImageFault.{ImageFault}
use Rattle.image_binary.specs.declared.fault.ImageFault.TheVariants.{Refused, ReadFault, TooLong, OutOfMemory}
use Rattle.image_binary.specs.declared.fault.ImageWord.{ImageWord}
use Rattle.image_binary.specs.declared.stop.Stop.{Stop}
use Rattle.image_binary.specs.declared.stop.Stop.TheVariants.{Short, Wrong}
use Rattle.image_binary.specs.Fields.{Read, Fields, counted}
use Rattle.image_binary.specs.Laws.{AreBytes}
use Rattle.image_binary.specs.Reader.{Reader, offset_of, Fills, Supplies, StepsTo, StopsAt}
use Rattle.image_binary.proofs.Binds.{done}
use Rattle.image_binary.proofs.Lawful.{IsLawful, extended}

-- ---- bytes that come

-- a reader that has taken nothing yet
pub fills_none : (reader : Reader) (old : Option (List ℕ)) → Fills reader reader old old []
fills_none reader old = record {
  bytes = All-nil (λ byte. byte < 256);
  taken = Consumes-nil old;
  held = sym (append-nil reader.held);
  at = refl;
}

-- and one that took more
pub fills_more : (from mid to : Reader) (a b c : Option (List ℕ)) (got more : List ℕ) → Fills from mid a b got → Fills mid to b c more → Fills from to a c (got ++ more)
fills_more from mid to a b c got more first second = record {
  bytes = All-append (λ byte. byte < 256) got more first.bytes second.bytes;
  taken = Consumes-trans a b c got more first.taken second.taken;
  held = second.held ∙ ap (λ l. l ++ more) first.held ∙ append_assoc from.held got more;
  at = second.at ∙ first.at;
}

-- it holds more
pub fills_longer : (mid to : Reader) (b c : Option (List ℕ)) (more : List ℕ) → 0 < length more → Fills mid to b c more → length mid.held < length to.held
fills_longer mid to b c more some fills =
    let len = ap length fills.held ∙ length-append mid.held more in
    omega arith

-- ---- what was read of the bytes that are held

counted_ok : {A : Type 0} (r : Read A) (x : A) (left : ℕ) → Ok (x, left) ≡ counted r → (rest : List ℕ) × (r ≡ Ok (x, rest)) × (length rest ≡ left)
counted_ok {A = A} (Ok y) x left e =
    let both : (x, left) ≡ (y.0, length y.1) = cc in
    (y.1, ap (λ (z : A). done z y.1) (sym (ap (λ (p : A × ℕ). p.0) both)), sym (ap (λ (p : A × ℕ). p.1) both))
counted_ok (Err stop) x left e = absurd cc

counted_err : {A : Type 0} (r : Read A) (stop : Stop) → Err stop ≡ counted r → r ≡ Err stop
counted_err (Ok y) stop e = absurd cc
counted_err (Err s) stop e = cc

module _ {A : Type 0} (fields : Fields A) (Fits : A → Type 0) (most : ℕ) (law : IsLawful fields Fits most)
    (from reader : Reader) (old now : Option (List ℕ)) (got : List ℕ) (fills : Fills from reader old now got) (are : AreBytes reader.held) where
  -- a value, and how many bytes stand behind it
  pub left_within : (x : A) (left : ℕ) → Ok (x, left) ≡ counted (fields.read reader.held) → left ≤ length reader.held
  left_within x left e =
      let c = counted_ok (fields.read reader.held) x left e in
      let s = law.spelled reader.held x c.0 are c.1 in
      let len = ap length s.parts ∙ length-append (fields.bytes x) c.0 in
      omega (arith, c.2)

  pub steps_to : (to : Reader) (x : A) (left : ℕ) → Ok (x, left) ≡ counted (fields.read reader.held)
      → reader.at + length reader.held ≤ input_limit → to.at + left ≡ reader.at + length reader.held → to.held ≡ drop (length reader.held - left) reader.held → StepsTo fields.read from to old now x
  steps_to to x left e limit at held =
      let c = counted_ok (fields.read reader.held) x left e in
      let s = law.spelled reader.held x c.0 are c.1 in
      let len = ap length s.parts ∙ length-append (fields.bytes x) c.0 in
      let count : length reader.held - left ≡ length (fields.bytes x) = omega (arith, c.2) in
      let rest : to.held ≡ c.0 = held ∙ ap (λ n. drop n reader.held) count ∙ ap (drop (length (fields.bytes x))) s.parts ∙ drop_at (fields.bytes x) c.0 (length (fields.bytes x)) refl in
      let total = ap length fills.held in
      let same = ap length rest in
      record {
        got = got;
        bytes = fills.bytes;
        taken = fills.taken;
        few = omega (arith, total, fills.at);
        total = omega (arith, at, c.2, same, total, fills.at);
        reads = λ more.
            ap (λ l. fields.read (l ++ more)) (sym fills.held)
            ∙ extended fields Fits most law reader.held x c.0 more are c.1
            ∙ ap (λ l. Ok (x, l ++ more)) (sym rest);
      }

  -- a fault
  pub wrong_within : (left : ℕ) (fault : ImageWord) → Err (Wrong left fault) ≡ counted (fields.read reader.held) → left ≤ length reader.held
  wrong_within left fault e = (law.steady reader.held left fault are (counted_err (fields.read reader.held) (Wrong left fault) e)).within

  pub stops_wrong : (left offset : ℕ) (fault : ImageWord) → Err (Wrong left fault) ≡ counted (fields.read reader.held)
      → reader.at + length reader.held ≤ input_limit → offset ≡ offset_of reader left → StopsAt fields.read from old now (Refused offset fault)
  stops_wrong left offset fault e limit is =
      let s = law.steady reader.held left fault are (counted_err (fields.read reader.held) (Wrong left fault) e) in
      let total = ap length fills.held in
      record {
        got = got;
        last = [];
        bytes = subst AreBytes (sym (append-nil got)) fills.bytes;
        taken = subst (Consumes old now) (sym (append-nil got)) fills.taken;
        few = omega (arith, total, fills.at);
        cause = (
          left,
          omega (arith, is, total, fills.at),
          omega (arith, s.within, total),
          refl,
          inl (λ more. ap (λ l. fields.read (l ++ more)) (sym fills.held) ∙ s.stays more),
        );
      }

  -- bytes that are too few
  pub short_within : (left : ℕ) → Err (Short left) ≡ counted (fields.read reader.held) → left ≤ length reader.held
  short_within left e = (law.short reader.held left are (counted_err (fields.read reader.held) (Short left) e)).within

  pub short_few : (left : ℕ) → Err (Short left) ≡ counted (fields.read reader.held) → length reader.held < most
  short_few left e = (law.short reader.held left are (counted_err (fields.read reader.held) (Short left) e)).few

  pub stops_short : (left : ℕ) (to : Reader) (new : Option (List ℕ)) (fault : ImageFault) → Err (Short left) ≡ counted (fields.read reader.held)
      → reader.at + length reader.held ≤ input_limit → Supplies (Err fault) left reader to now new → StopsAt fields.read from old new fault
  stops_short left to new (Refused offset fault) e limit s =
      let r = counted_err (fields.read reader.held) (Short left) e in
      let w = (law.short reader.held left are r).within in
      let total = ap length fills.held in
      record {
        got = got;
        last = [];
        bytes = subst AreBytes (sym (append-nil got)) fills.bytes;
        taken = subst (Consumes old new) (sym (append-nil got)) (Consumes-kept old now new got fills.taken s.2);
        few = omega (arith, total, fills.at);
        cause = (
          left,
          omega (arith, s.0, total, fills.at),
          omega (arith, w, total),
          refl,
          inr (ap fields.read (sym fills.held) ∙ r, s.1, s.3),
        );
      }
  stops_short left to new TooLong e limit s =
      let r = counted_err (fields.read reader.held) (Short left) e in
      let total = ap length fills.held in
      record {
        got = got;
        last = s.1 ∷ [];
        bytes = All-append (λ byte. byte < 256) got (s.1 ∷ []) fills.bytes (All-cons (λ byte. byte < 256) s.1 [] s.2 (All-nil (λ byte. byte < 256)));
        taken = Consumes-trans old now new got (s.1 ∷ []) fills.taken s.3;
        few = omega (arith, total, fills.at);
        cause = (left, ap fields.read (sym fills.held) ∙ r, omega (arith, s.0, total, fills.at), refl);
      }
  stops_short left to new ReadFault e limit s =
      let r = counted_err (fields.read reader.held) (Short left) e in
      let total = ap length fills.held in
      record {
        got = got;
        last = [];
        bytes = subst AreBytes (sym (append-nil got)) fills.bytes;
        taken = subst (Consumes old new) (sym (append-nil got)) (Consumes-kept old now new got fills.taken s);
        few = omega (arith, total, fills.at);
        cause = (left, ap fields.read (sym fills.held) ∙ r, refl);
      }
  stops_short left to new OutOfMemory e limit s = absurd s
