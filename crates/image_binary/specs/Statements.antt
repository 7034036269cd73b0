-- The statements of an image: a byte that tells the form, and the fields of that form.
use Rattle.std.specs.Prelude.{ℕ, ◌-◌, ◌==◌, List, [], ◌∷◌, ◌++◌, length, ok_or, Option, Result, Bool, ⊤}
use Rattle.std.specs.List.{find}
use Rattle.byteorder.specs.Endian.{little_bytes, little_number}
use Rattle.cap_format.specs.declared.kind.CapKind.{CapKind}
use Rattle.cap_format.specs.declared.kind.CapKind.TheVariants as kinds
use Rattle.cap_format.specs.Capability.{Capability}
use Rattle.gpt_objects.specs.Header.{header_of}
use Rattle.object_store.specs.declared.sizes.Sizes.{Sizes}
use Rattle.rv32_decode.specs.declared.insn.Insn.{Insn}
use Rattle.rv32_decode.specs.InRange.{InRange}
use Rattle.listing_read.specs.Faults.{◌>>=◌}
use Rattle.listing_read.specs.declared.statement.Statement.{Statement}
use Rattle.listing_read.specs.declared.statement.Statement.TheVariants as says
use Rattle.image_binary.specs.declared.fault.ImageWord.{ImageWord}
use Rattle.image_binary.specs.declared.fault.ImageWord.TheVariants.{BadType}
use Rattle.image_binary.specs.declared.form.Form.{Form}
use Rattle.image_binary.specs.declared.form.Form.TheVariants as forms
use Rattle.image_binary.specs.Fields.{Fields, Read, ◌⨟◌, made, field, block}
use Rattle.image_binary.specs.Values.{between, word, object, first_page, offset, word_offset, length_from, code_address, allocation_count, mark, flags, kind_of_object, instruction, cap, recipient}

-- ---- the fields of each form

-- N, OFF, length, the bytes
abbrev pub page_fields : Sizes → Fields (ℕ × (ℕ × (ℕ × List ℕ)))
page_fields sizes = object sizes kinds.Page ⨟ λ _. offset ⨟ λ at. length_from at ⨟ λ n. block n

-- N, OFF, the instruction
abbrev pub code_fields : Sizes → Fields (ℕ × (ℕ × Insn))
code_fields sizes = object sizes kinds.Page ⨟ λ _. word_offset ⨟ λ _. instruction

-- N, S, the capability
abbrev pub cap_fields : Sizes → Fields (ℕ × (ℕ × Capability))
cap_fields sizes = object sizes kinds.CapPage ⨟ λ _. between 0 255 ⨟ λ _. cap sizes

-- N, l2v, flags
abbrev pub gpt_fields : Sizes → Fields (ℕ × (ℕ × (Bool × Bool)))
gpt_fields sizes = object sizes kinds.Gpt ⨟ λ _. between 12 31 ⨟ λ _. flags

-- N, S, the capability
abbrev pub slot_fields : Sizes → Fields (ℕ × (ℕ × Capability))
slot_fields sizes = object sizes kinds.Gpt ⨟ λ _. between 0 15 ⨟ λ _. cap sizes

-- N, the recipient, id, payload, whether it takes that payload alone
abbrev pub endpoint_fields : Sizes → Fields (ℕ × (Capability × (ℕ × (ℕ × Bool))))
endpoint_fields sizes = object sizes kinds.Endpoint ⨟ λ _. recipient sizes ⨟ λ _. word ⨟ λ _. word ⨟ λ _. mark

-- N, pc, the capabilities of the space, the schedule and the handler, whether it runs
abbrev pub process_fields : Sizes → Fields (ℕ × (ℕ × (Capability × (Capability × (Capability × Bool)))))
process_fields sizes =
    object sizes kinds.Process ⨟ λ _. code_address ⨟ λ _. cap sizes ⨟ λ _. cap sizes ⨟ λ _. cap sizes ⨟ λ _. mark

-- N, I, value
abbrev pub reg_fields : Sizes → Fields (ℕ × (ℕ × ℕ))
reg_fields sizes = object sizes kinds.Process ⨟ λ _. between 1 31 ⨟ λ _. word

-- N, I, the capability
abbrev pub capreg_fields : Sizes → Fields (ℕ × (ℕ × Capability))
capreg_fields sizes = object sizes kinds.Process ⨟ λ _. between 1 31 ⨟ λ _. cap sizes

-- the kind, N, the count
abbrev pub count_fields : Sizes → Fields (CapKind × (ℕ × ℕ))
count_fields sizes = kind_of_object ⨟ λ kind. object sizes kind ⨟ λ _. allocation_count

-- N, S, COUNT, PAGE, the restrictions; all its slots are slots of the GPT
abbrev pub region_fields : Sizes → Fields (ℕ × (ℕ × (ℕ × (ℕ × ℕ))))
region_fields sizes =
    object sizes kinds.Gpt ⨟ λ _. between 0 15 ⨟ λ slot. between 1 (16 - slot) ⨟ λ count.
    first_page sizes count ⨟ λ _. between 0 31

-- ---- the form

-- the number of a form
abbrev pub form_number : Form → ℕ
form_number forms.Page = 1
form_number forms.Code = 2
form_number forms.CapSlot = 3
form_number forms.Gpt = 4
form_number forms.GptSlot = 5
form_number forms.Endpoint = 6
form_number forms.Process = 7
form_number forms.Reg = 8
form_number forms.CapReg = 9
form_number forms.Count = 10
form_number forms.Region = 11

-- all forms, in the order of their type numbers
unfoldable pub all_forms : List Form
all_forms =
    forms.Page ∷ forms.Code ∷ forms.CapSlot ∷ forms.Gpt ∷ forms.GptSlot ∷ forms.Endpoint ∷ forms.Process ∷ forms.Reg ∷
    forms.CapReg ∷ forms.Count ∷ forms.Region ∷ []

-- the form that has a number, if there is one
abbrev pub form_with : ℕ → Option Form
form_with number = find (λ form. form_number form == number) all_forms

-- the form that a byte gives; of no other number is there one
unfoldable pub form_judged : List ℕ → Result Form ImageWord
form_judged bytes = ok_or (form_with (little_number 1 bytes)) BadType

-- a form is one byte
abbrev pub form : Fields Form
form = field 1 (λ form. little_bytes 1 (form_number form)) form_judged

-- the form of a statement
abbrev pub form_of : Statement → Form
form_of (says.Page number at bytes) = forms.Page
form_of (says.Code number at insn) = forms.Code
form_of (says.CapSlot number slot cap) = forms.CapSlot
form_of (says.Gpt number header) = forms.Gpt
form_of (says.GptSlot number slot cap) = forms.GptSlot
form_of (says.Endpoint number recipient id payload matching) = forms.Endpoint
form_of (says.Process number pc space schedule handler runs) = forms.Process
form_of (says.Reg number index value) = forms.Reg
form_of (says.CapReg number index cap) = forms.CapReg
form_of (says.Count kind number count) = forms.Count
form_of (says.Region gpt slot count page restr) = forms.Region

-- ---- a statement whole

-- the bytes of its fields
abbrev pub fields_bytes : Sizes → Statement → List ℕ
fields_bytes sizes (says.Page number at bytes) = (page_fields sizes).bytes (number, (at, (length bytes, bytes)))
fields_bytes sizes (says.Code number at insn) = (code_fields sizes).bytes (number, (at, insn))
fields_bytes sizes (says.CapSlot number slot cap) = (cap_fields sizes).bytes (number, (slot, cap))
fields_bytes sizes (says.Gpt number header) = (gpt_fields sizes).bytes (number, (header.l2v, (header.ha, header.bg)))
fields_bytes sizes (says.GptSlot number slot cap) = (slot_fields sizes).bytes (number, (slot, cap))
fields_bytes sizes (says.Endpoint number recipient id payload matching) =
    (endpoint_fields sizes).bytes (number, (recipient, (id, (payload, matching))))
fields_bytes sizes (says.Process number pc space schedule handler runs) =
    (process_fields sizes).bytes (number, (pc, (space, (schedule, (handler, runs)))))
fields_bytes sizes (says.Reg number index value) = (reg_fields sizes).bytes (number, (index, value))
fields_bytes sizes (says.CapReg number index cap) = (capreg_fields sizes).bytes (number, (index, cap))
fields_bytes sizes (says.Count kind number count) = (count_fields sizes).bytes (kind, (number, count))
fields_bytes sizes (says.Region gpt slot count page restr) =
    (region_fields sizes).bytes (gpt, (slot, (count, (page, restr.0))))

-- its instruction, if it has one, has a word
abbrev pub HasWord : Statement → Type 0
HasWord (says.Code number at insn) = InRange insn
HasWord _ = ⊤

-- the statement of this form whose fields the bytes begin with
unfoldable pub fields_of : Sizes → Form → List ℕ → Read Statement
fields_of sizes forms.Page bytes = made (λ x. says.Page x.0 x.1.0 x.1.1.1) ((page_fields sizes).read bytes)
fields_of sizes forms.Code bytes = made (λ x. says.Code x.0 x.1.0 x.1.1) ((code_fields sizes).read bytes)
fields_of sizes forms.CapSlot bytes = made (λ x. says.CapSlot x.0 x.1.0 x.1.1) ((cap_fields sizes).read bytes)
fields_of sizes forms.Gpt bytes = made (λ x. says.Gpt x.0 (header_of x.1.0 x.1.1.0 x.1.1.1)) ((gpt_fields sizes).read bytes)
fields_of sizes forms.GptSlot bytes = made (λ x. says.GptSlot x.0 x.1.0 x.1.1) ((slot_fields sizes).read bytes)
fields_of sizes forms.Endpoint bytes =
    made (λ x. says.Endpoint x.0 x.1.0 x.1.1.0 x.1.1.1.0 x.1.1.1.1) ((endpoint_fields sizes).read bytes)
fields_of sizes forms.Process bytes =
    made (λ x. says.Process x.0 x.1.0 x.1.1.0 x.1.1.1.0 x.1.1.1.1.0 x.1.1.1.1.1) ((process_fields sizes).read bytes)
fields_of sizes forms.Reg bytes = made (λ x. says.Reg x.0 x.1.0 x.1.1) ((reg_fields sizes).read bytes)
fields_of sizes forms.CapReg bytes = made (λ x. says.CapReg x.0 x.1.0 x.1.1) ((capreg_fields sizes).read bytes)
fields_of sizes forms.Count bytes = made (λ x. says.Count x.0 x.1.0 x.1.1) ((count_fields sizes).read bytes)
fields_of sizes forms.Region bytes =
    made (λ x. says.Region x.0 x.1.0 x.1.1.0 x.1.1.1.0 (record { 0 = x.1.1.1.1 })) ((region_fields sizes).read bytes)

-- the bytes of a statement
abbrev pub statement_bytes : Sizes → Statement → List ℕ
statement_bytes sizes statement = form.bytes (form_of statement) ++ fields_bytes sizes statement

-- the statement that the bytes begin with
unfoldable pub statement_of : Sizes → List ℕ → Read Statement
statement_of sizes bytes = do
  x ← form.read bytes
  fields_of sizes x.0 x.1
