-- The line that is printed for each thing is that of its statement, so it is read as that.
use Rattle.std.proofs.Common.{ℕ, ◌≡◌, Bool, true, false, List, refl, arith, ◌∙◌}
use Rattle.std.specs.Prelude.{Some}
use Rattle.std.proofs.lemmas.Bool.{ne_eqb}
use Rattle.cap_format.specs.Capability.{bare}
use Rattle.cap_format.proofs.Ranges.{IsCapability-bare}
use Rattle.cap_format.specs.declared.fault.FaultCode.TheVariants.{Stopped}
use Rattle.process_objects.specs.declared.state.State.{State}
use Rattle.process_objects.specs.declared.state.State.TheVariants.{Running, Faulted}
use Rattle.process_objects.specs.Process.{slot_of}
use Rattle.process_objects.proofs.Ranges.{IsCapability-slot_of}
use Rattle.object_store.specs.declared.sizes.Sizes.{Sizes}
use Rattle.object_store.specs.Ranges.{IsWithinLimits}
use Rattle.listing_read.specs.Terms.{terms_of}
use Rattle.listing_read.specs.Statement.{IsStatement, IsTyped}
use Rattle.listing_read.specs.declared.statement.Statement.{Statement}
use Rattle.listing_read.specs.declared.statement.Statement.TheVariants as says
use Rattle.listing_read.specs.declared.terms.Version.TheVariants.{One}
use Rattle.statement_text.specs.Words.{run_word}
use Rattle.statement_text.specs.Text.{statement_text}
use Rattle.statement_text.specs.ReadsBack.{ReadsBack, IsSayable}
use Rattle.statement_text.proofs.Statements.{statement_reads}
use Rattle.run_text.specs.Objects.{count_text, row_text, slot_text, header_text, endpoint_text, process_text, register_text, state_word}
use Rattle.read_back.specs.Laws.{CountsReadBack, RowsReadBack, CapPageSlotsReadBack, HeadersReadBack, GptSlotsReadBack, EndpointsReadBack, runs_of, ProcessesReadBack, RegistersReadBack, CapRegistersReadBack}

-- a text that is that of a statement reads as it does
read_as : (sizes : Sizes) (text : List ℕ) (x : Statement) → text ≡ statement_text x → IsWithinLimits sizes → IsStatement sizes x → IsTyped x → IsSayable One x → ReadsBack (terms_of One sizes) text x
read_as sizes text x same limits is typed sayable =
    let reads = statement_reads (terms_of One sizes) x limits is typed sayable in
    record { line = reads.line; text_is = same ∙ reads.text_is; short = reads.short; whole = reads.whole; said = reads.said }

-- `count KIND N C`
pub count_reads : CountsReadBack
unfolding count_text
count_reads sizes kind n count limits is some =
    read_as sizes _ (says.Count kind n count) (rw (ne_eqb count 0 (λ none. omega arith)) refl) limits is tt tt

-- `page N OFF HEX`
pub row_reads : RowsReadBack
unfolding row_text
row_reads sizes n at bytes limits is sixteen each some =
    read_as sizes _ (says.Page n at bytes) (rw some refl) limits is (each, omega arith) tt

-- `cap N S CAP`
pub cap_reads : CapPageSlotsReadBack
unfolding slot_text
cap_reads sizes n i c limits is below in_range some =
    read_as sizes _ (says.CapSlot n i (bare c)) (rw some refl) limits is (IsCapability-bare c in_range, below) tt

-- `slot N S CAP`
pub slot_reads : GptSlotsReadBack
unfolding slot_text
slot_reads sizes n i c limits is in_range some =
    read_as sizes _ (says.GptSlot n i (bare c)) (rw some refl) limits is (IsCapability-bare c in_range) tt

-- `gpt N V [ha] [bg]`
pub header_reads : HeadersReadBack
unfolding header_text
header_reads sizes n header limits is in_range some =
    read_as sizes _ (says.Gpt n header)
    (rw some refl) limits is in_range tt

-- `endpoint N REC ID PAYLOAD FLAG`
pub endpoint_reads : EndpointsReadBack
unfolding endpoint_text
endpoint_reads sizes n e limits is in_range id payload some =
    read_as sizes _ (says.Endpoint n (bare e.recipient) e.id e.payload e.matching)
    (rw some refl) limits is (IsCapability-bare e.recipient in_range, id, payload) tt

-- the word of a state
state_word-runs : (state : State) (runs : Bool) → runs_of state ≡ Some runs → state_word state ≡ run_word runs
unfolding state_word
state_word-runs Running true is = refl
state_word-runs (Faulted Stopped address) false is = refl
state_word-runs _ _ is = cc

-- `process N PC SPACE SCHEDULE HANDLER STATE`
pub process_reads : ProcessesReadBack
unfolding process_text
process_reads sizes n p runs limits is in_range fits state some =
    let slot = λ (i : ℕ). IsCapability-bare (slot_of p i) (IsCapability-slot_of p i in_range) in
    read_as sizes _ (says.Process n p.pc (bare (slot_of p 0)) (bare (slot_of p 1)) (bare (slot_of p 2)) runs)
    (rw (some, state_word-runs p.state runs state) refl) limits is (fits, slot 0, slot 1, slot 2) tt

-- `reg N I VALUE`
pub register_reads : RegistersReadBack
unfolding register_text
register_reads sizes n i value limits is fits some =
    read_as sizes _ (says.Reg n i value) (rw (ne_eqb value 0 (λ none. omega arith)) refl) limits is fits tt

-- `capreg N I CAP`
pub capreg_reads : CapRegistersReadBack
unfolding slot_text
capreg_reads sizes n i c limits is in_range some =
    read_as sizes _ (says.CapReg n i (bare c)) (rw some refl) limits is (IsCapability-bare c in_range) tt
