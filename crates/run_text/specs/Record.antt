-- Records as lines. Addresses and values have eight hexadecimal digits, numbers of objects are decimal.
use Rattle.std.specs.Prelude.{ℕ, List, ◌++◌, codes, decimal, slice_index, Option, Some, None}
use Rattle.coy_text.specs.Bytes.{bytes_text}
use Rattle.coy_text.specs.Numeral.{hex_text}
use Rattle.cap_words.specs.Kind.{kind_word}
use Rattle.rv32_asm.specs.Text.{text_of}
use Rattle.cap_format.specs.declared.fault.FaultCode.{FaultCode}
use Rattle.rv32_decode.specs.declared.insn.Insn.{Insn as InsnRead}
use Rattle.walk_meaning.specs.declared.kind.Kind.{Kind}
use Rattle.machine_state.specs.declared.record.Record.{Record}
use Rattle.machine_state.specs.declared.record.Record.TheVariants.{Access, Insn, Message, Fault, Log, Destroy, Halt}
use Rattle.coy_io.specs.Lines.{line_feed}
use Rattle.run_text.specs.Names.{fault_name, access_name, target_name}

-- a process and an address
abbrev pub place_text : ℕ → ℕ → List ℕ
place_text process address = decimal process ++ codes " " ++ hex_text 8 address

-- the four words of a message
abbrev pub words_text : List ℕ → List ℕ
words_text words =
    hex_text 8 (slice_index words 0) ++ codes "," ++ hex_text 8 (slice_index words 1) ++ codes "," ++
    hex_text 8 (slice_index words 2) ++ codes "," ++ hex_text 8 (slice_index words 3)

-- who hears a fault
abbrev pub hearer_text : Option ℕ → List ℕ
hearer_text (Some process) = codes "to " ++ decimal process
hearer_text None = codes "unheard"

-- an access that reached an object
abbrev pub access_said : ℕ → Kind → ℕ → ℕ → List ℕ
access_said process kind address number =
    access_name kind ++ codes " " ++ place_text process address ++ codes " " ++ target_name kind ++ codes " " ++
    decimal number

-- an instruction
abbrev pub insn_said : ℕ → ℕ → InsnRead → List ℕ
insn_said process at insn = codes "insn " ++ place_text process at ++ codes " " ++ text_of insn

-- from whom a message came, to whom it went, and through what
abbrev pub envelope_said : ℕ → ℕ → ℕ → ℕ → List ℕ
envelope_said from to endpoint payload =
    codes "msg " ++ decimal from ++ codes " " ++ decimal to ++ codes " endpoint=" ++ decimal endpoint ++
    codes " payload=" ++ hex_text 8 payload

-- a fault
abbrev pub fault_said : ℕ → FaultCode → ℕ → Option ℕ → List ℕ
fault_said process code address to =
    codes "fault " ++ decimal process ++ codes " " ++ fault_name code ++ codes " " ++ hex_text 8 address ++
    codes " " ++ hearer_text to

-- what a record's line says
abbrev pub said : Record → List ℕ
said (Access process kind address number) = access_said process kind address number
said (Insn process at insn) = insn_said process at insn
said (Message from to endpoint payload words length caps) =
    envelope_said from to endpoint payload ++ codes " words=" ++ words_text words ++
    codes " len=" ++ decimal length ++ codes " caps=" ++ decimal caps
said (Fault process code address to) = fault_said process code address to
said (Log process bytes) = codes "log " ++ decimal process ++ codes " " ++ bytes_text bytes
said (Destroy kind number) = codes "destroy " ++ kind_word kind ++ codes " " ++ decimal number
said (Halt process) = codes "halt " ++ decimal process

-- the line of a record
abbrev pub record_text : Record → List ℕ
record_text entry = said entry ++ line_feed
