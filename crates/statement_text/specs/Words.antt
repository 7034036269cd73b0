-- The words of a statement, as it is written: those of objects are the words of their lines anywhere.
use Rattle.std.specs.Prelude.{ℕ, ◌==◌, Bool, if◌then◌else◌, List, [], ◌∷◌, codes, decimal}
use Rattle.coy_text.specs.Numeral.{hex_text}
use Rattle.cap_words.specs.Text.{letters}
use Rattle.rv32_asm.specs.Text.{words_from}
use Rattle.object_lines.specs.Words.{count_words, page_words, held_words, gpt_words, endpoint_words, process_words, register_words}
use Rattle.listing_read.specs.declared.statement.Statement.{Statement}
use Rattle.listing_read.specs.declared.statement.Statement.TheVariants.{Page, Code, CapSlot, Gpt, GptSlot, Endpoint, Process, Reg, CapReg, Count, Region}
use Rattle.listing_read.specs.declared.schedule.Timed.{Timed}
use Rattle.listing_read.specs.declared.schedule.Timed.TheVariants.{Step, Tick, Round}

-- the letters of a region's restrictions, where there are any
abbrev pub letter_words : ℕ → List (List ℕ)
letter_words restr = if restr == 0 then [] else letters restr ∷ []

-- whether a process runs
abbrev pub run_word : Bool → List ℕ
run_word runs = if runs then codes "run" else codes "stop"

-- the words of a statement
abbrev pub statement_words : Statement → List (List ℕ)
statement_words (Page number at bytes) = page_words number at bytes
statement_words (Code number at insn) = codes "code" ∷ decimal number ∷ hex_text 3 at ∷ words_from insn
statement_words (CapSlot number slot cap) = held_words (codes "cap") number slot cap
statement_words (Gpt number header) = gpt_words number header
statement_words (GptSlot number slot cap) = held_words (codes "slot") number slot cap
statement_words (Endpoint number recipient id payload matching) = endpoint_words number recipient id payload matching
statement_words (Process number pc space schedule handler runs) =
    process_words number pc space schedule handler (run_word runs)
statement_words (Reg number index value) = register_words number index value
statement_words (CapReg number index cap) = held_words (codes "capreg") number index cap
statement_words (Count kind number count) = count_words kind number count
statement_words (Region gpt slot count page restr) =
    codes "region" ∷ decimal gpt ∷ decimal slot ∷ decimal count ∷ decimal page ∷ letter_words restr.0

-- the words of what a schedule asks for
abbrev pub event_words : Timed → List (List ℕ)
event_words (Step hart times) = codes "step" ∷ decimal hart ∷ decimal times ∷ []
event_words (Tick hart) = codes "tick" ∷ decimal hart ∷ []
event_words (Round times) = codes "round" ∷ decimal times ∷ []
