-- Statements have the laws of fields.
use Rattle.std.proofs.Common.{◌≡◌, ℕ, ◌+◌, ◌-◌, ◌%◌, ◌≤◌, ◌&&◌, min, Bool, true, List, ◌++◌, length, Ok, Err, refl, sym, ap, subst, ◌∙◌, arith}
use Rattle.std.specs.Prelude.{nat_le, nat_lt, ◌==◌}
use Rattle.std.proofs.lemmas.Bool.{and_parts, leb-true, eqb-true}
use Rattle.byteorder.specs.Endian.{little_bytes, little_number}
use Rattle.cap_format.specs.declared.kind.CapKind.{CapKind}
use Rattle.cap_format.specs.declared.kind.CapKind.TheVariants as kinds
use Rattle.cap_format.specs.Kind.{is_object}
use Rattle.cap_format.specs.Capability.{Capability}
use Rattle.gpt_objects.specs.Header.{header_of}
use Rattle.object_store.specs.declared.sizes.Sizes.{Sizes}
use Rattle.object_store.specs.Sizes.{size_in}
use Rattle.rv32_decode.specs.declared.insn.Insn.{Insn}
use Rattle.listing_read.specs.Faults.{◌>>=◌}
use Rattle.listing_read.specs.declared.statement.Statement.{Statement}
use Rattle.listing_read.specs.declared.statement.Statement.TheVariants as says
use Rattle.image_binary.specs.declared.fault.ImageWord.TheVariants.{BadType, NoObject, BadValue}
use Rattle.image_binary.specs.declared.form.Form.{Form}
use Rattle.image_binary.specs.declared.form.Form.TheVariants as forms
use Rattle.image_binary.specs.Fields.{Read, Fields, ◌⨟◌, made, block}
use Rattle.image_binary.specs.Values.{between, word, object, cap, recipient}
use Rattle.image_binary.specs.Statements.{page_fields, code_fields, cap_fields, gpt_fields, slot_fields, endpoint_fields, process_fields, reg_fields, capreg_fields, count_fields, region_fields, form_number, all_forms, form_with, form_judged, form, form_of, fields_bytes, fields_of, statement_bytes, statement_of}
use Rattle.image_binary.proofs.Binds.{ok_or_ok}
use Rattle.image_binary.proofs.Lawful.{IsLawful, field_is, pair_is, wider}
use Rattle.image_binary.proofs.MadeLaws.{Makes, IsMade, made_is}
use Rattle.image_binary.proofs.NumberLaws.{width_1, width_2, width_4, IsTested, number_is, block_is}
use Rattle.image_binary.proofs.ValueLaws.{mark_is, flags_is, found_is, kind_is, HasWord32, instruction_is, IsUncounted, cap_is, IsReceiver, recipient_is}

-- ---- values that fit their fields

abbrev pub IsObject : Sizes → CapKind → ℕ → Type 0
IsObject sizes kind n = IsTested 2 (λ n. nat_lt n (size_in sizes kind)) n

abbrev pub IsBetween : ℕ → ℕ → ℕ → Type 0
IsBetween least most n = IsTested 1 (λ n. nat_le least n && nat_le n most) n

abbrev pub IsWord : ℕ → Type 0
IsWord n = IsTested 4 (λ _. true) n

object_is : (sizes : Sizes) (kind : CapKind) → IsLawful (object sizes kind) (IsObject sizes kind) 2
object_is sizes kind = number_is 2 width_2 (λ n. nat_lt n (size_in sizes kind)) NoObject

between_is : (least most : ℕ) → IsLawful (between least most) (IsBetween least most) 1
between_is least most = number_is 1 width_1 (λ n. nat_le least n && nat_le n most) BadValue

pub word_is : IsLawful word IsWord 4
word_is = number_is 4 width_4 (λ _. true) BadValue

-- fields behind others, whatever these are
pub pair : {A B : Type 0} {first : Fields A} {next : A → Fields B} {FitsA : A → Type 0} {FitsB : A → B → Type 0} {m n : ℕ}
    → IsLawful first FitsA m → ((x : A) → FitsA x → IsLawful (next x) (FitsB x) n) → IsLawful (first ⨟ next) (λ x. FitsA x.0 × FitsB x.0 x.1) (m + n)
pair {first = first} {next = next} {FitsA = FitsA} {FitsB = FitsB} {m = m} {n = n} one two = pair_is first next FitsA FitsB m n one two

-- ---- the fields of each form

abbrev pub PageFits : Sizes → ℕ × (ℕ × (ℕ × List ℕ)) → Type 0
PageFits sizes x =
    IsObject sizes kinds.Page x.0 × (IsTested 2 (λ n. nat_le n 4095) x.1.0 × (IsBetween 1 (min 64 (4096 - x.1.0)) x.1.1.0 × (length x.1.1.1 ≡ x.1.1.0)))

few_bytes : (at n : ℕ) → IsBetween 1 (min 64 (4096 - at)) n → IsLawful (block n) (λ bytes. length bytes ≡ n) 64
few_bytes at n is =
    let most : n ≤ min 64 (4096 - at) = leb-true _ _ (and_parts (nat_le 1 n) (nat_le n (min 64 (4096 - at))) is.passes).1 in
    wider (block n) (λ bytes. length bytes ≡ n) n 64 (block_is n) (omega arith)

page_is : (sizes : Sizes) → IsLawful (page_fields sizes) (PageFits sizes) 69
page_is sizes =
    pair (object_is sizes kinds.Page) (λ _ _. pair (number_is 2 width_2 (λ n. nat_le n 4095) BadValue) (λ at _. pair (between_is 1 (min 64 (4096 - at))) (λ n is. few_bytes at n is)))

abbrev pub CodeFits : Sizes → ℕ × (ℕ × Insn) → Type 0
CodeFits sizes x = IsObject sizes kinds.Page x.0 × (IsTested 2 (λ n. nat_le n 4092 && (n % 4 == 0)) x.1.0 × HasWord32 x.1.1)

code_is : (sizes : Sizes) → IsLawful (code_fields sizes) (CodeFits sizes) 8
code_is sizes =
    pair (object_is sizes kinds.Page) (λ _ _. pair (number_is 2 width_2 (λ n. nat_le n 4092 && (n % 4 == 0)) BadValue) (λ _ _. instruction_is))

-- which object of a kind, which of so many places, and what it holds
abbrev pub HeldFits : Sizes → CapKind → ℕ → ℕ → ℕ × (ℕ × Capability) → Type 0
HeldFits sizes kind least most x = IsObject sizes kind x.0 × (IsBetween least most x.1.0 × IsUncounted sizes x.1.1)

held_is : (sizes : Sizes) (kind : CapKind) (least most : ℕ) → IsLawful (object sizes kind ⨟ λ _. between least most ⨟ λ _. cap sizes) (HeldFits sizes kind least most) 19
held_is sizes kind least most = pair (object_is sizes kind) (λ _ _. pair (between_is least most) (λ _ _. cap_is sizes))

abbrev pub GptFits : Sizes → ℕ × (ℕ × (Bool × Bool)) → Type 0
GptFits sizes x = IsObject sizes kinds.Gpt x.0 × (IsBetween 12 31 x.1.0 × Unit {0})

gpt_is : (sizes : Sizes) → IsLawful (gpt_fields sizes) (GptFits sizes) 4
gpt_is sizes = pair (object_is sizes kinds.Gpt) (λ _ _. pair (between_is 12 31) (λ _ _. flags_is))

abbrev pub EndpointFits : Sizes → ℕ × (Capability × (ℕ × (ℕ × Bool))) → Type 0
EndpointFits sizes x = IsObject sizes kinds.Endpoint x.0 × (IsReceiver sizes x.1.0 × (IsWord x.1.1.0 × (IsWord x.1.1.1.0 × Unit {0})))

endpoint_is : (sizes : Sizes) → IsLawful (endpoint_fields sizes) (EndpointFits sizes) 27
endpoint_is sizes = pair (object_is sizes kinds.Endpoint) (λ _ _. pair (recipient_is sizes) (λ _ _. pair word_is (λ _ _. pair word_is (λ _ _. mark_is))))

abbrev pub ProcessFits : Sizes → ℕ × (ℕ × (Capability × (Capability × (Capability × Bool)))) → Type 0
ProcessFits sizes x =
    IsObject sizes kinds.Process x.0 × (IsTested 4 (λ n. n % 4 == 0) x.1.0
    × (IsUncounted sizes x.1.1.0 × (IsUncounted sizes x.1.1.1.0 × (IsUncounted sizes x.1.1.1.1.0 × Unit {0}))))

process_is : (sizes : Sizes) → IsLawful (process_fields sizes) (ProcessFits sizes) 55
process_is sizes =
    pair (object_is sizes kinds.Process) (λ _ _. pair (number_is 4 width_4 (λ n. n % 4 == 0) BadValue) (λ _ _.
    pair (cap_is sizes) (λ _ _. pair (cap_is sizes) (λ _ _. pair (cap_is sizes) (λ _ _. mark_is)))))

abbrev pub RegFits : Sizes → ℕ × (ℕ × ℕ) → Type 0
RegFits sizes x = IsObject sizes kinds.Process x.0 × (IsBetween 1 31 x.1.0 × IsWord x.1.1)

reg_is : (sizes : Sizes) → IsLawful (reg_fields sizes) (RegFits sizes) 7
reg_is sizes = pair (object_is sizes kinds.Process) (λ _ _. pair (between_is 1 31) (λ _ _. word_is))

abbrev pub CountFits : Sizes → CapKind × (ℕ × ℕ) → Type 0
CountFits sizes x = (is_object x.0 ≡ true) × (IsObject sizes x.0 x.1.0 × IsTested 4 (λ n. nat_le n 1048575) x.1.1)

count_is : (sizes : Sizes) → IsLawful (count_fields sizes) (CountFits sizes) 7
count_is sizes = pair kind_is (λ kind _. pair (object_is sizes kind) (λ _ _. number_is 4 width_4 (λ n. nat_le n 1048575) BadValue))

abbrev pub RegionFits : Sizes → ℕ × (ℕ × (ℕ × (ℕ × ℕ))) → Type 0
RegionFits sizes x =
    IsObject sizes kinds.Gpt x.0 × (IsBetween 0 15 x.1.0 × (IsBetween 1 (16 - x.1.0) x.1.1.0
    × (IsTested 2 (λ n. nat_le (n + x.1.1.0) sizes.pages) x.1.1.1.0 × IsBetween 0 31 x.1.1.1.1)))

region_is : (sizes : Sizes) → IsLawful (region_fields sizes) (RegionFits sizes) 7
region_is sizes =
    pair (object_is sizes kinds.Gpt) (λ _ _. pair (between_is 0 15) (λ slot _. pair (between_is 1 (16 - slot)) (λ count _.
    pair (number_is 2 width_2 (λ n. nat_le (n + count) sizes.pages) NoObject) (λ _ _. between_is 0 31))))

-- ---- the statements of each form

-- the values of a statement fit its fields
abbrev pub Fits : Sizes → Statement → Type 0
Fits sizes (says.Page number at bytes) = PageFits sizes (number, (at, (length bytes, bytes)))
Fits sizes (says.Code number at insn) = CodeFits sizes (number, (at, insn))
Fits sizes (says.CapSlot number slot cap) = HeldFits sizes kinds.CapPage 0 255 (number, (slot, cap))
Fits sizes (says.Gpt number header) = GptFits sizes (number, (header.l2v, (header.ha, header.bg)))
Fits sizes (says.GptSlot number slot cap) = HeldFits sizes kinds.Gpt 0 15 (number, (slot, cap))
Fits sizes (says.Endpoint number recipient id payload matching) = EndpointFits sizes (number, (recipient, (id, (payload, matching))))
Fits sizes (says.Process number pc space schedule handler runs) = ProcessFits sizes (number, (pc, (space, (schedule, (handler, runs)))))
Fits sizes (says.Reg number index value) = RegFits sizes (number, (index, value))
Fits sizes (says.CapReg number index cap) = HeldFits sizes kinds.Process 1 31 (number, (index, cap))
Fits sizes (says.Count kind number count) = CountFits sizes (kind, (number, count))
Fits sizes (says.Region gpt slot count page restr) = RegionFits sizes (gpt, (slot, (count, (page, restr.0))))

-- a statement of this form, whose values fit
abbrev HasForm : Sizes → Form → Statement → Type 0
HasForm sizes form statement = (form_of statement ≡ form) × Fits sizes statement

-- the fields of a form as one value
abbrev of_form : Sizes → Form → Fields Statement
of_form sizes form = record { bytes = fields_bytes sizes; read = fields_of sizes form }

page_made : (sizes : Sizes) → IsMade (page_fields sizes) (PageFits sizes) (of_form sizes forms.Page) (HasForm sizes forms.Page) (λ x. says.Page x.0 x.1.0 x.1.1.1)
unfolding fields_of
page_made sizes = record {
  reads = λ bytes. refl;
  there = λ x fits.
      let len : length x.1.1.1 ≡ x.1.1.0 = fits.1.1.1 in (
        (refl, (fits.0, (fits.1.0, (subst (IsBetween 1 (min 64 (4096 - x.1.0))) (sym len) fits.1.1.0, refl)))),
        ap (λ n. (page_fields sizes).bytes (x.0, (x.1.0, (n, x.1.1.1)))) len,
      );
  back = back;
}
  where
    back : (s : Statement) → HasForm sizes forms.Page s → Makes (page_fields sizes) (PageFits sizes) (of_form sizes forms.Page) (λ x. says.Page x.0 x.1.0 x.1.1.1) s
    back (says.Page number at bytes) fits = record { of = (number, (at, (length bytes, bytes))); fits = fits.1; makes = refl; same = refl }
    back _ fits = absurd (let e = fits.0 in cc)

code_made : (sizes : Sizes) → IsMade (code_fields sizes) (CodeFits sizes) (of_form sizes forms.Code) (HasForm sizes forms.Code) (λ x. says.Code x.0 x.1.0 x.1.1)
unfolding fields_of
code_made sizes = record { reads = λ bytes. refl; there = λ x fits. ((refl, fits), refl); back = back }
  where
    back : (s : Statement) → HasForm sizes forms.Code s → Makes (code_fields sizes) (CodeFits sizes) (of_form sizes forms.Code) (λ x. says.Code x.0 x.1.0 x.1.1) s
    back (says.Code number at insn) fits = record { of = (number, (at, insn)); fits = fits.1; makes = refl; same = refl }
    back _ fits = absurd (let e = fits.0 in cc)

cap_slot_made : (sizes : Sizes) → IsMade (cap_fields sizes) (HeldFits sizes kinds.CapPage 0 255) (of_form sizes forms.CapSlot) (HasForm sizes forms.CapSlot) (λ x. says.CapSlot x.0 x.1.0 x.1.1)
unfolding fields_of
cap_slot_made sizes = record { reads = λ bytes. refl; there = λ x fits. ((refl, fits), refl); back = back }
  where
    back : (s : Statement) → HasForm sizes forms.CapSlot s → Makes (cap_fields sizes) (HeldFits sizes kinds.CapPage 0 255) (of_form sizes forms.CapSlot) (λ x. says.CapSlot x.0 x.1.0 x.1.1) s
    back (says.CapSlot number slot cap) fits = record { of = (number, (slot, cap)); fits = fits.1; makes = refl; same = refl }
    back _ fits = absurd (let e = fits.0 in cc)

gpt_made : (sizes : Sizes) → IsMade (gpt_fields sizes) (GptFits sizes) (of_form sizes forms.Gpt) (HasForm sizes forms.Gpt) (λ x. says.Gpt x.0 (header_of x.1.0 x.1.1.0 x.1.1.1))
unfolding fields_of
gpt_made sizes = record { reads = λ bytes. refl; there = λ x fits. ((refl, fits), refl); back = back }
  where
    back : (s : Statement) → HasForm sizes forms.Gpt s → Makes (gpt_fields sizes) (GptFits sizes) (of_form sizes forms.Gpt) (λ x. says.Gpt x.0 (header_of x.1.0 x.1.1.0 x.1.1.1)) s
    back (says.Gpt number header) fits = record { of = (number, (header.l2v, (header.ha, header.bg))); fits = fits.1; makes = refl; same = refl }
    back _ fits = absurd (let e = fits.0 in cc)

gpt_slot_made : (sizes : Sizes) → IsMade (slot_fields sizes) (HeldFits sizes kinds.Gpt 0 15) (of_form sizes forms.GptSlot) (HasForm sizes forms.GptSlot) (λ x. says.GptSlot x.0 x.1.0 x.1.1)
unfolding fields_of
gpt_slot_made sizes = record { reads = λ bytes. refl; there = λ x fits. ((refl, fits), refl); back = back }
  where
    back : (s : Statement) → HasForm sizes forms.GptSlot s → Makes (slot_fields sizes) (HeldFits sizes kinds.Gpt 0 15) (of_form sizes forms.GptSlot) (λ x. says.GptSlot x.0 x.1.0 x.1.1) s
    back (says.GptSlot number slot cap) fits = record { of = (number, (slot, cap)); fits = fits.1; makes = refl; same = refl }
    back _ fits = absurd (let e = fits.0 in cc)

endpoint_made : (sizes : Sizes) → IsMade (endpoint_fields sizes) (EndpointFits sizes) (of_form sizes forms.Endpoint) (HasForm sizes forms.Endpoint) (λ x. says.Endpoint x.0 x.1.0 x.1.1.0 x.1.1.1.0 x.1.1.1.1)
unfolding fields_of
endpoint_made sizes = record { reads = λ bytes. refl; there = λ x fits. ((refl, fits), refl); back = back }
  where
    back : (s : Statement) → HasForm sizes forms.Endpoint s → Makes (endpoint_fields sizes) (EndpointFits sizes) (of_form sizes forms.Endpoint) (λ x. says.Endpoint x.0 x.1.0 x.1.1.0 x.1.1.1.0 x.1.1.1.1) s
    back (says.Endpoint number recipient id payload matching) fits = record { of = (number, (recipient, (id, (payload, matching)))); fits = fits.1; makes = refl; same = refl }
    back _ fits = absurd (let e = fits.0 in cc)

process_made : (sizes : Sizes) → IsMade (process_fields sizes) (ProcessFits sizes) (of_form sizes forms.Process) (HasForm sizes forms.Process) (λ x. says.Process x.0 x.1.0 x.1.1.0 x.1.1.1.0 x.1.1.1.1.0 x.1.1.1.1.1)
unfolding fields_of
process_made sizes = record { reads = λ bytes. refl; there = λ x fits. ((refl, fits), refl); back = back }
  where
    back : (s : Statement) → HasForm sizes forms.Process s → Makes (process_fields sizes) (ProcessFits sizes) (of_form sizes forms.Process) (λ x. says.Process x.0 x.1.0 x.1.1.0 x.1.1.1.0 x.1.1.1.1.0 x.1.1.1.1.1) s
    back (says.Process number pc space schedule handler runs) fits = record { of = (number, (pc, (space, (schedule, (handler, runs))))); fits = fits.1; makes = refl; same = refl }
    back _ fits = absurd (let e = fits.0 in cc)

reg_made : (sizes : Sizes) → IsMade (reg_fields sizes) (RegFits sizes) (of_form sizes forms.Reg) (HasForm sizes forms.Reg) (λ x. says.Reg x.0 x.1.0 x.1.1)
unfolding fields_of
reg_made sizes = record { reads = λ bytes. refl; there = λ x fits. ((refl, fits), refl); back = back }
  where
    back : (s : Statement) → HasForm sizes forms.Reg s → Makes (reg_fields sizes) (RegFits sizes) (of_form sizes forms.Reg) (λ x. says.Reg x.0 x.1.0 x.1.1) s
    back (says.Reg number index value) fits = record { of = (number, (index, value)); fits = fits.1; makes = refl; same = refl }
    back _ fits = absurd (let e = fits.0 in cc)

capreg_made : (sizes : Sizes) → IsMade (capreg_fields sizes) (HeldFits sizes kinds.Process 1 31) (of_form sizes forms.CapReg) (HasForm sizes forms.CapReg) (λ x. says.CapReg x.0 x.1.0 x.1.1)
unfolding fields_of
capreg_made sizes = record { reads = λ bytes. refl; there = λ x fits. ((refl, fits), refl); back = back }
  where
    back : (s : Statement) → HasForm sizes forms.CapReg s → Makes (capreg_fields sizes) (HeldFits sizes kinds.Process 1 31) (of_form sizes forms.CapReg) (λ x. says.CapReg x.0 x.1.0 x.1.1) s
    back (says.CapReg number index cap) fits = record { of = (number, (index, cap)); fits = fits.1; makes = refl; same = refl }
    back _ fits = absurd (let e = fits.0 in cc)

count_made : (sizes : Sizes) → IsMade (count_fields sizes) (CountFits sizes) (of_form sizes forms.Count) (HasForm sizes forms.Count) (λ x. says.Count x.0 x.1.0 x.1.1)
unfolding fields_of
count_made sizes = record { reads = λ bytes. refl; there = λ x fits. ((refl, fits), refl); back = back }
  where
    back : (s : Statement) → HasForm sizes forms.Count s → Makes (count_fields sizes) (CountFits sizes) (of_form sizes forms.Count) (λ x. says.Count x.0 x.1.0 x.1.1) s
    back (says.Count kind number count) fits = record { of = (kind, (number, count)); fits = fits.1; makes = refl; same = refl }
    back _ fits = absurd (let e = fits.0 in cc)

region_made : (sizes : Sizes) → IsMade (region_fields sizes) (RegionFits sizes) (of_form sizes forms.Region) (HasForm sizes forms.Region) (λ x. says.Region x.0 x.1.0 x.1.1.0 x.1.1.1.0 (record { 0 = x.1.1.1.1 }))
unfolding fields_of
region_made sizes = record { reads = λ bytes. refl; there = λ x fits. ((refl, fits), refl); back = back }
  where
    back : (s : Statement) → HasForm sizes forms.Region s → Makes (region_fields sizes) (RegionFits sizes) (of_form sizes forms.Region) (λ x. says.Region x.0 x.1.0 x.1.1.0 x.1.1.1.0 (record { 0 = x.1.1.1.1 })) s
    back (says.Region gpt slot count page restr) fits = record { of = (gpt, (slot, (count, (page, restr.0)))); fits = fits.1; makes = refl; same = refl }
    back _ fits = absurd (let e = fits.0 in cc)

-- the fields of each form
pub of_form_is : (sizes : Sizes) (form : Form) → IsLawful (of_form sizes form) (HasForm sizes form) 69
of_form_is sizes forms.Page =
    made_is (page_fields sizes) (PageFits sizes) 69 (page_is sizes) (of_form sizes forms.Page) (HasForm sizes forms.Page) (λ x. says.Page x.0 x.1.0 x.1.1.1) (page_made sizes)
of_form_is sizes forms.Code =
    wider (of_form sizes forms.Code) (HasForm sizes forms.Code) 8 69
    (made_is (code_fields sizes) (CodeFits sizes) 8 (code_is sizes) (of_form sizes forms.Code) (HasForm sizes forms.Code) (λ x. says.Code x.0 x.1.0 x.1.1) (code_made sizes)) (omega arith)
of_form_is sizes forms.CapSlot =
    wider (of_form sizes forms.CapSlot) (HasForm sizes forms.CapSlot) 19 69
    (made_is (cap_fields sizes) (HeldFits sizes kinds.CapPage 0 255) 19 (held_is sizes kinds.CapPage 0 255) (of_form sizes forms.CapSlot) (HasForm sizes forms.CapSlot) (λ x. says.CapSlot x.0 x.1.0 x.1.1) (cap_slot_made sizes)) (omega arith)
of_form_is sizes forms.Gpt =
    wider (of_form sizes forms.Gpt) (HasForm sizes forms.Gpt) 4 69
    (made_is (gpt_fields sizes) (GptFits sizes) 4 (gpt_is sizes) (of_form sizes forms.Gpt) (HasForm sizes forms.Gpt) (λ x. says.Gpt x.0 (header_of x.1.0 x.1.1.0 x.1.1.1)) (gpt_made sizes)) (omega arith)
of_form_is sizes forms.GptSlot =
    wider (of_form sizes forms.GptSlot) (HasForm sizes forms.GptSlot) 19 69
    (made_is (slot_fields sizes) (HeldFits sizes kinds.Gpt 0 15) 19 (held_is sizes kinds.Gpt 0 15) (of_form sizes forms.GptSlot) (HasForm sizes forms.GptSlot) (λ x. says.GptSlot x.0 x.1.0 x.1.1) (gpt_slot_made sizes)) (omega arith)
of_form_is sizes forms.Endpoint =
    wider (of_form sizes forms.Endpoint) (HasForm sizes forms.Endpoint) 27 69
    (made_is (endpoint_fields sizes) (EndpointFits sizes) 27 (endpoint_is sizes) (of_form sizes forms.Endpoint) (HasForm sizes forms.Endpoint) (λ x. says.Endpoint x.0 x.1.0 x.1.1.0 x.1.1.1.0 x.1.1.1.1) (endpoint_made sizes)) (omega arith)
of_form_is sizes forms.Process =
    wider (of_form sizes forms.Process) (HasForm sizes forms.Process) 55 69
    (made_is (process_fields sizes) (ProcessFits sizes) 55 (process_is sizes) (of_form sizes forms.Process) (HasForm sizes forms.Process) (λ x. says.Process x.0 x.1.0 x.1.1.0 x.1.1.1.0 x.1.1.1.1.0 x.1.1.1.1.1) (process_made sizes)) (omega arith)
of_form_is sizes forms.Reg =
    wider (of_form sizes forms.Reg) (HasForm sizes forms.Reg) 7 69
    (made_is (reg_fields sizes) (RegFits sizes) 7 (reg_is sizes) (of_form sizes forms.Reg) (HasForm sizes forms.Reg) (λ x. says.Reg x.0 x.1.0 x.1.1) (reg_made sizes)) (omega arith)
of_form_is sizes forms.CapReg =
    wider (of_form sizes forms.CapReg) (HasForm sizes forms.CapReg) 19 69
    (made_is (capreg_fields sizes) (HeldFits sizes kinds.Process 1 31) 19 (held_is sizes kinds.Process 1 31) (of_form sizes forms.CapReg) (HasForm sizes forms.CapReg) (λ x. says.CapReg x.0 x.1.0 x.1.1) (capreg_made sizes)) (omega arith)
of_form_is sizes forms.Count =
    wider (of_form sizes forms.Count) (HasForm sizes forms.Count) 7 69
    (made_is (count_fields sizes) (CountFits sizes) 7 (count_is sizes) (of_form sizes forms.Count) (HasForm sizes forms.Count) (λ x. says.Count x.0 x.1.0 x.1.1) (count_made sizes)) (omega arith)
of_form_is sizes forms.Region =
    wider (of_form sizes forms.Region) (HasForm sizes forms.Region) 7 69
    (made_is (region_fields sizes) (RegionFits sizes) 7 (region_is sizes) (of_form sizes forms.Region) (HasForm sizes forms.Region) (λ x. says.Region x.0 x.1.0 x.1.1.0 x.1.1.1.0 (record { 0 = x.1.1.1.1 })) (region_made sizes)) (omega arith)

-- ---- statements

form_again : (f : Form) → form_judged (little_bytes 1 (form_number f)) ≡ Ok f
unfolding form_judged all_forms
form_again forms.Page = refl
form_again forms.Code = refl
form_again forms.CapSlot = refl
form_again forms.Gpt = refl
form_again forms.GptSlot = refl
form_again forms.Endpoint = refl
form_again forms.Process = refl
form_again forms.Reg = refl
form_again forms.CapReg = refl
form_again forms.Count = refl
form_again forms.Region = refl

form_is : IsLawful form (λ _. Unit {0}) 1
unfolding form_judged all_forms
form_is =
    field_is 1 (λ f. little_bytes 1 (form_number f)) form_judged (λ _. Unit {0})
    (λ bytes x len are e.
    let f = found_is (λ f. form_number f == little_number 1 bytes) (λ _. Unit {0}) all_forms x (tt, (tt, (tt, (tt, (tt, (tt, (tt, (tt, (tt, (tt, (tt, tt))))))))))) (ok_or_ok (form_with (little_number 1 bytes)) BadType x e) in
    (ap (little_bytes 1) (eqb-true (form_number x) (little_number 1 bytes) f.0) ∙ width_1.back bytes len are, tt))
    (λ x fits. (refl, form_again x))

-- a statement as one value
abbrev pub statement : Sizes → Fields Statement
statement sizes = record { bytes = statement_bytes sizes; read = statement_of sizes }

-- its form and its fields
abbrev formed : Sizes → Fields (Form × Statement)
formed sizes = form ⨟ λ f. of_form sizes f

abbrev FormedFits : Sizes → Form × Statement → Type 0
FormedFits sizes x = Unit {0} × HasForm sizes x.0 x.1

formed_is : (sizes : Sizes) → IsLawful (formed sizes) (FormedFits sizes) 70
formed_is sizes = pair form_is (λ f _. of_form_is sizes f)

-- a chain that ends in a value made of the last
last_made : {A B : Type 0} (r : Read A) (next : A × List ℕ → Read B)
    → (r >>= next) ≡ made (λ (x : A × B). x.1) (r >>= λ x. next x >>= λ y. Ok ((x.0, y.0), y.1))
last_made (Err stop) next = refl
last_made {A = A} {B = B} (Ok x) next = on (next x)
  where
    on : (r : Read B) → r ≡ made (λ (z : A × B). z.1) (r >>= λ y. Ok ((x.0, y.0), y.1))
    on (Ok y) = refl
    on (Err stop) = refl

statement_made : (sizes : Sizes) → IsMade (formed sizes) (FormedFits sizes) (statement sizes) (Fits sizes) (λ x. x.1)
unfolding statement_of
statement_made sizes = record {
  reads = λ bytes. last_made (form.read bytes) (λ x. fields_of sizes x.0 x.1);
  there = λ x fits. (fits.1.1, ap (λ f. form.bytes f ++ fields_bytes sizes x.1) fits.1.0);
  back = λ s fits. record { of = (form_of s, s); fits = (tt, (refl, fits)); makes = refl; same = refl };
}

pub statement_is : (sizes : Sizes) → IsLawful (statement sizes) (Fits sizes) 70
statement_is sizes = made_is (formed sizes) (FormedFits sizes) 70 (formed_is sizes) (statement sizes) (Fits sizes) (λ x. x.1) (statement_made sizes)
