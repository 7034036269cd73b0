-- Values that are made of what fields give have the laws of fields.
use Rattle.std.proofs.Common.{◌≡◌, ℕ, List, ◌++◌, length, Ok, Err, sym, ap, subst, ◌∙◌, arith}
use Rattle.image_binary.specs.declared.fault.ImageWord.{ImageWord}
use Rattle.image_binary.specs.declared.stop.Stop.{Stop}
use Rattle.image_binary.specs.declared.stop.Stop.TheVariants.{Short, Wrong}
use Rattle.image_binary.specs.Fields.{Read, Fields, made}
use Rattle.image_binary.specs.Laws.{AreBytes}
use Rattle.image_binary.proofs.Binds.{read_parts}
use Rattle.image_binary.proofs.Lawful.{Spelled, IsSteady, IsLawful}

-- what was read where something was made
made_ok : {A B : Type 0} (make : A → B) (r : Read A) (y : B) (rest : List ℕ) → made make r ≡ Ok (y, rest) → (x : A) × (r ≡ Ok (x, rest)) × (make x ≡ y)
made_ok make (Ok x) y rest e = let p = read_parts (make x.0) y x.1 rest e in (x.0, ap (λ l. Ok (x.0, l)) p.1, p.0)
made_ok make (Err stop) y rest e = absurd cc

made_err : {A B : Type 0} (make : A → B) (r : Read A) (stop : Stop) → made make r ≡ Err stop → r ≡ Err stop
made_err make (Ok x) stop e = absurd cc
made_err make (Err s) stop e = cc

-- a value of the fields that makes another, and has the bytes of that
pub record Makes {A B : Type 0} (fields : Fields A) (Fits : A → Type 0) (whole : Fields B) (make : A → B) (y : B) : Type 0 where
  pub of : A
  pub fits : Fits of
  pub makes : make of ≡ y
  pub same : whole.bytes y ≡ fields.bytes of

-- a value that fits is made of one that fits, and has its bytes
pub record IsMade {A B : Type 0} (fields : Fields A) (Fits : A → Type 0) (whole : Fields B) (FitsB : B → Type 0) (make : A → B) : Type 0 where
  pub reads : (bytes : List ℕ) → whole.read bytes ≡ made make (fields.read bytes)
  pub there : (x : A) → Fits x → FitsB (make x) × (whole.bytes (make x) ≡ fields.bytes x)
  pub back : (y : B) → FitsB y → Makes fields Fits whole make y

module _ {A B : Type 0} (fields : Fields A) (Fits : A → Type 0) (most : ℕ) (law : IsLawful fields Fits most)
    (whole : Fields B) (FitsB : B → Type 0) (make : A → B) (is : IsMade fields Fits whole FitsB make) where
  made_spelled : (bytes : List ℕ) (y : B) (rest : List ℕ) → AreBytes bytes → whole.read bytes ≡ Ok (y, rest) → Spelled whole FitsB bytes y rest
  made_spelled bytes y rest are e =
      let m = made_ok make (fields.read bytes) y rest (sym (is.reads bytes) ∙ e) in
      let s = law.spelled bytes m.0 rest are m.1 in
      let t = is.there m.0 s.fits in
      subst (λ (z : B). Spelled whole FitsB bytes z rest) m.2
      (record { fits = t.0; parts = s.parts ∙ ap (λ l. l ++ rest) (sym t.1) })

  made_again : (y : B) (more : List ℕ) → FitsB y → whole.read (whole.bytes y ++ more) ≡ Ok (y, more)
  made_again y more fits =
      let b = is.back y fits in
      ap (λ l. whole.read (l ++ more)) b.same ∙ is.reads (fields.bytes b.of ++ more)
      ∙ ap (made make) (law.again b.of more b.fits) ∙ ap (λ (z : B). Ok (z, more)) b.makes

  made_steady : (bytes : List ℕ) (left : ℕ) (fault : ImageWord) → AreBytes bytes → whole.read bytes ≡ Err (Wrong left fault) → IsSteady whole.read bytes left fault
  made_steady bytes left fault are e =
      let s = law.steady bytes left fault are (made_err make (fields.read bytes) (Wrong left fault) (sym (is.reads bytes) ∙ e)) in
      record { within = s.within; stays = λ more. is.reads (bytes ++ more) ∙ ap (made make) (s.stays more) }

  pub made_is : IsLawful whole FitsB most
  made_is = record {
    spelled = made_spelled;
    again = made_again;
    steady = made_steady;
    short = λ bytes left are e. law.short bytes left are (made_err make (fields.read bytes) (Short left) (sym (is.reads bytes) ∙ e));
    few = λ y fits.
        let b = is.back y fits in
        let few = law.few b.of b.fits in
        let len = ap length b.same in
        omega arith;
  }
