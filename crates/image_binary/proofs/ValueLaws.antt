-- Fields that are more than numbers have the laws of fields.
use Rattle.std.proofs.Common.{◌≡◌, ℕ, zero, suc, ◌+◌, ◌*◌, ◌%◌, ◌^◌, ◌<◌, ◌≤◌, Bool, true, false, if◌then◌else◌, List, [], ◌∷◌, Some, None, Ok, refl, sym, ap, subst, ◌∙◌, arith}
use Rattle.std.specs.Prelude.{nat_le, ◌==◌, ok_or, codes, bytes_eq}
use Rattle.std.specs.List.{find, AllByRecursion}
use Rattle.std.proofs.lemmas.Bool.{leb-true, eqb-true, eq-eqb}
use Rattle.std.proofs.lemmas.Option.{cond_some, option_and_then_some}
use Rattle.std.proofs.lemmas.Slice.Eq.{bytes_eq-Decides}
use Rattle.byteorder.specs.Endian.{little_bytes, little_number}
use Rattle.byteorder.specs.Numbers.{little_from-lt}
use Rattle.cap_format.specs.declared.kind.CapKind.{CapKind}
use Rattle.cap_format.specs.declared.kind.CapKind.TheVariants as kinds
use Rattle.cap_format.specs.Kind.{number_of, is_object}
use Rattle.cap_format.specs.Capability.{Capability, IsCapability}
use Rattle.cap_format.specs.Spelling.{spelling}
use Rattle.object_store.specs.declared.sizes.Sizes.{Sizes}
use Rattle.rv32_decode.specs.declared.insn.Insn.{Insn}
use Rattle.rv32_decode.specs.Table.{insn_at}
use Rattle.rv32_decode.specs.Word.{word_of}
use Rattle.listing_read.specs.Faults.{◌>>=◌, ensured}
use Rattle.listing_read.specs.Statement.{is_recipient}
use Rattle.image_binary.specs.declared.fault.ImageWord.TheVariants.{BadMagic, BadCap, BadInstruction, NoObject, BadValue}
use Rattle.image_binary.specs.Fields.{tested}
use Rattle.image_binary.specs.Values.{mark_number, mark_of, mark, flags_of, flags, magic_of, magic, object_kinds, object_kind_with, object_kind_of, kind_of_object, instruction_with, instruction_of, instruction, uncounted_of, is_there, cap_of, cap, recipient_of, recipient}
use Rattle.image_binary.proofs.Binds.{bind_ok, ensured_ok, ok_or_ok}
use Rattle.image_binary.proofs.Lawful.{IsLawful, field_is}
use Rattle.image_binary.proofs.NumberLaws.{width_1, width_4, tested_ok, again_number, bytes_below}
use Rattle.image_binary.proofs.SpelledCaps.{uncounted_again, uncounted_ok}

-- ---- marks

-- a mark is a number below 2
mark_back : (n : ℕ) → n ≤ 1 → mark_number (n == 1) ≡ n
mark_back zero few = refl
mark_back (suc zero) few = refl
mark_back (suc (suc n)) few = absurd (omega arith)

mark_again : (m : Bool) → mark_of (little_bytes 1 (mark_number m)) ≡ Ok m
unfolding mark_of
mark_again true = refl
mark_again false = refl

pub mark_is : IsLawful mark (λ _. Unit {0}) 1
unfolding mark_of
mark_is =
    field_is 1 (λ m. little_bytes 1 (mark_number m)) mark_of (λ _. Unit {0})
    (λ bytes x len are e.
    let b = bind_ok (tested 1 (λ n. nat_le n 1) BadValue bytes) (λ n. Ok (n == 1)) x e in
    let t = tested_ok 1 width_1 (λ n. nat_le n 1) BadValue bytes b.0 len are b.1 in
    let x_is : (b.0 == 1) ≡ x = cc in
    (ap (λ m. little_bytes 1 (mark_number m)) (sym x_is) ∙ ap (little_bytes 1) (mark_back b.0 (leb-true _ _ t.1.passes)) ∙ t.0, tt))
    (λ x fits. (refl, mark_again x))

-- two marks are a number below 4
flags_back : (n : ℕ) → n ≤ 3 → mark_number (n % 2 == 1) + 2 * mark_number (nat_le 2 n) ≡ n
flags_back zero few = refl
flags_back (suc zero) few = refl
flags_back (suc (suc zero)) few = refl
flags_back (suc (suc (suc zero))) few = refl
flags_back (suc (suc (suc (suc n)))) few = absurd (omega arith)

flags_again : (ha bg : Bool) → flags_of (little_bytes 1 (mark_number ha + 2 * mark_number bg)) ≡ Ok (ha, bg)
unfolding flags_of
flags_again true true = refl
flags_again true false = refl
flags_again false true = refl
flags_again false false = refl

pub flags_is : IsLawful flags (λ _. Unit {0}) 1
unfolding flags_of
flags_is =
    field_is 1 (λ f. little_bytes 1 (mark_number f.0 + 2 * mark_number f.1)) flags_of (λ _. Unit {0})
    (λ bytes x len are e.
    let b = bind_ok (tested 1 (λ n. nat_le n 3) BadValue bytes) (λ n. Ok (n % 2 == 1, nat_le 2 n)) x e in
    let t = tested_ok 1 width_1 (λ n. nat_le n 3) BadValue bytes b.0 len are b.1 in
    let x_is : (b.0 % 2 == 1, nat_le 2 b.0) ≡ x = cc in (
      ap (λ (f : Bool × Bool). little_bytes 1 (mark_number f.0 + 2 * mark_number f.1)) (sym x_is)
          ∙ ap (little_bytes 1) (flags_back b.0 (leb-true _ _ t.1.passes)) ∙ t.0,
      tt,
    ))
    (λ x fits. (refl, flags_again x.0 x.1))

-- ---- the letters at the start

ensured_is : {E : Type 0} (b : Bool) (d : E) (x : Unit {0}) → ensured b d ≡ Ok x → b ≡ true
ensured_is true d x e = refl
ensured_is false d x e = absurd cc

pub magic_is : IsLawful magic (λ _. Unit {0}) 8
unfolding magic_of
magic_is =
    field_is 8 (λ _. codes "COYIMG02") magic_of (λ _. Unit {0})
    (λ bytes x len are e. (sym ((bytes_eq-Decides bytes (codes "COYIMG02")).0 (ensured_is (bytes_eq bytes (codes "COYIMG02")) BadMagic x e)), tt))
    (λ x fits. (refl, refl))

-- ---- kinds of objects

-- what is found passes the test, and is one of them
pub found_is : {A : Type 0} (test : A → Bool) (P : A → Type 0) (xs : List A) (x : A) → AllByRecursion P xs → find test xs ≡ Some x → (test x ≡ true) × P x
found_is test P [] x all e = absurd cc
found_is test P (y ∷ ys) x all e = on (test y) refl (found_is test P ys x all.1) e
  where
    on : (b : Bool) → test y ≡ b → (find test ys ≡ Some x → (test x ≡ true) × P x) → (if b then Some y else find test ys) ≡ Some x → (test x ≡ true) × P x
    on true passes others e = let same : y ≡ x = cc in subst (λ z. (test z ≡ true) × P z) same (passes, all.0)
    on false passes others e = others e

kind_again : (kind : CapKind) → is_object kind ≡ true → object_kind_of (little_bytes 1 (number_of kind)) ≡ Ok kind
unfolding object_kind_of object_kinds
kind_again kinds.Page is = refl
kind_again kinds.CapPage is = refl
kind_again kinds.Gpt is = refl
kind_again kinds.Endpoint is = refl
kind_again kinds.Process is = refl
kind_again _ is = absurd cc

pub kind_is : IsLawful kind_of_object (λ kind. is_object kind ≡ true) 1
unfolding object_kind_of object_kinds
kind_is =
    field_is 1 (λ kind. little_bytes 1 (number_of kind)) object_kind_of (λ kind. is_object kind ≡ true)
    (λ bytes x len are e.
    let f = found_is (λ kind. number_of kind == little_number 1 bytes) (λ kind. is_object kind ≡ true) object_kinds x (refl, (refl, (refl, (refl, (refl, tt))))) (ok_or_ok (object_kind_with (little_number 1 bytes)) BadValue x e) in
    (ap (little_bytes 1) (eqb-true (number_of x) (little_number 1 bytes) f.0) ∙ width_1.back bytes len are, f.1))
    (λ x fits. (refl, kind_again x fits))

-- ---- instructions

-- an instruction has a word of 32 bits that says it
pub record HasWord32 (insn : Insn) : Type 0 where
  pub small : word_of insn < 256 ^ 4
  pub says : insn_at (word_of insn) ≡ Some insn

pub instruction_is : IsLawful instruction HasWord32 4
unfolding instruction_of
instruction_is =
    field_is 4 (λ insn. little_bytes 4 (word_of insn)) instruction_of HasWord32
    (λ bytes x len are e.
    let bits = little_number 4 bytes in
    option_and_then_some (λ insn. if word_of insn == bits then Some insn else None) (insn_at bits) x (ok_or_ok (instruction_with bits) BadInstruction x e)
    (λ insn known given.
    let c = cond_some (word_of insn == bits) insn x given in
    let same : word_of insn ≡ bits = eqb-true (word_of insn) bits c.0 in
    subst (λ (y : Insn). (little_bytes 4 (word_of y) ≡ bytes) × HasWord32 y) c.1 (
      ap (little_bytes 4) same ∙ width_4.back bytes len are,
      record { small = rw same (little_from-lt 0 4 bytes (bytes_below bytes are)); says = ap insn_at same ∙ known },
    )))
    (λ x fits. (refl, rw (again_number 4 (word_of x) fits.small, fits.says, eq-eqb (word_of x) (word_of x) refl) refl))

-- ---- capabilities

-- a capability without a count, to what is there
pub record IsUncounted (sizes : Sizes) (c : Capability) : Type 0 where
  pub is : IsCapability c
  pub none : c.count ≡ 0
  pub there : is_there sizes c ≡ true

pub cap_is : (sizes : Sizes) → IsLawful (cap sizes) (IsUncounted sizes) 16
unfolding cap_of
cap_is sizes =
    field_is 16 spelling (cap_of sizes) (IsUncounted sizes)
    (λ bytes x len are e.
    let a = bind_ok (ok_or (uncounted_of bytes) BadCap) (λ c. ensured (is_there sizes c) NoObject >>= λ _. Ok c) x e in
    let b = ensured_ok (is_there sizes a.0) NoObject (λ _. Ok a.0) x a.2 in
    let same : a.0 ≡ x = cc in
    let u = uncounted_ok bytes a.0 (ok_or_ok (uncounted_of bytes) BadCap a.0 a.1) in
    subst (λ (y : Capability). (spelling y ≡ bytes) × IsUncounted sizes y) same (u.0, record { is = u.1; none = u.2; there = b.0 }))
    (λ x fits. (refl, rw (uncounted_again x fits.is fits.none, fits.there) refl))

pub record IsReceiver (sizes : Sizes) (c : Capability) : Type 0 where
  pub cap : IsUncounted sizes c
  pub kind : is_recipient c.kind ≡ true

pub recipient_is : (sizes : Sizes) → IsLawful (recipient sizes) (IsReceiver sizes) 16
unfolding recipient_of
recipient_is sizes =
    field_is 16 spelling (recipient_of sizes) (IsReceiver sizes)
    (λ bytes x len are e.
    let a = bind_ok (ok_or (uncounted_of bytes) BadCap) (λ c. ensured (is_recipient c.kind) BadCap >>= λ _. ensured (is_there sizes c) NoObject >>= λ _. Ok c) x e in
    let k = ensured_ok (is_recipient a.0.kind) BadCap (λ _. ensured (is_there sizes a.0) NoObject >>= λ _. Ok a.0) x a.2 in
    let b = ensured_ok (is_there sizes a.0) NoObject (λ _. Ok a.0) x k.1 in
    let same : a.0 ≡ x = cc in
    let u = uncounted_ok bytes a.0 (ok_or_ok (uncounted_of bytes) BadCap a.0 a.1) in
    subst (λ (y : Capability). (spelling y ≡ bytes) × IsReceiver sizes y) same
    (u.0, record { cap = record { is = u.1; none = u.2; there = b.0 }; kind = k.0 }))
    (λ x fits. (refl, rw (uncounted_again x fits.cap.is fits.cap.none, fits.kind, fits.cap.there) refl))
