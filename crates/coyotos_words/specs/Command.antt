-- What the program's words ask for. A word that begins with `-` stands in no form, but for `--help` by itself.
use Rattle.std.specs.Prelude.{ℕ, ◌==◌, nat_le, Bool, true, false, if◌then◌else◌, List, [], ◌∷◌, Option, Some, None, option_map, option_and_then, codes}
use Rattle.std.specs.List.{list_any}
use Rattle.std.specs.Str.{bytes_eq}
use Rattle.coy_text.specs.Numeral.{dec_of, hex_of}
use Rattle.walk_meaning.specs.declared.kind.Kind.{Kind}
use Rattle.walk_meaning.specs.declared.kind.Kind.TheVariants.{Fetch, Load, Store, CapLoad, CapStore}
use Rattle.coyotos_words.specs.declared.command.Command.{Command}
use Rattle.coyotos_words.specs.declared.command.RunCommand.TheVariants.{Run, Trace, Tables, Walk}
use Rattle.coyotos_words.specs.declared.command.Command.TheVariants.{Help, Check, Schedule, Make, Pack, Unpack, Migrate, Confine, Share, Back}

-- a word that begins with `-`
abbrev pub is_dashed : List ℕ → Bool
is_dashed [] = false
is_dashed (byte ∷ word) = byte == 45

-- `--help` by itself
abbrev pub is_help : List (List ℕ) → Bool
is_help [] = false
is_help (word ∷ []) = bytes_eq word (codes "--help")
is_help (word ∷ other ∷ words) = false

-- the forms of one word, each with what it asks for
abbrev pub bare_commands : List (List ℕ × Command)
bare_commands =
    (codes "check", Check) ∷ (codes "run", Schedule Run) ∷ (codes "trace", Schedule Trace) ∷ (codes "tables", Schedule Tables) ∷ (codes "pack", Pack) ∷ (codes "unpack", Unpack) ∷
    (codes "migrate", Migrate) ∷ (codes "confine", Confine) ∷ (codes "share", Share) ∷ []

-- what a form of one word asks for
abbrev pub bare_named : List (List ℕ × Command) → List ℕ → Option Command
bare_named [] word = None
bare_named (entry ∷ table) word = if bytes_eq word entry.0 then Some entry.1 else bare_named table word

-- what a word asks for with no words behind it
abbrev pub bare_of : List ℕ → List (List ℕ) → Option Command
bare_of word [] = bare_named bare_commands word
bare_of word (other ∷ words) = None

-- the number of a process: decimal, and at most 255
abbrev pub in_byte : ℕ → Option ℕ
in_byte n = if nat_le n 255 then Some n else None

-- the number of a process that a word gives
abbrev pub process_named : List ℕ → Option ℕ
process_named word = option_and_then in_byte (dec_of word)

-- a kind of accesses
abbrev pub kind_named : List ℕ → Option Kind
kind_named word =
    if bytes_eq word (codes "fetch") then Some Fetch
    else (if bytes_eq word (codes "load") then Some Load
    else (if bytes_eq word (codes "store") then Some Store
    else (if bytes_eq word (codes "capload") then Some CapLoad
    else (if bytes_eq word (codes "capstore") then Some CapStore
    else None))))

-- the access of a process, of a kind, at an address
abbrev pub access_of : Option ℕ → Option Kind → Option ℕ → Option Command
access_of (Some process) (Some kind) (Some address) = Some (Schedule (Walk process kind address))
access_of _ _ _ = None

-- the access that three words name: the process in decimal, the kind, and the address in hexadecimal
abbrev pub access_named : List ℕ → List ℕ → List ℕ → Option Command
access_named process kind address = access_of (process_named process) (kind_named kind) (hex_of address)

-- the words behind `walk`
abbrev pub walk_of : List (List ℕ) → Option Command
walk_of (process ∷ kind ∷ address ∷ []) = access_named process kind address
walk_of _ = None

-- the generated text of a decimal number, or its summary
abbrev pub made_of : List ℕ → Bool → Option Command
made_of number summary = option_map (λ n. Make n summary) (dec_of number)

-- the words behind `make`
abbrev pub make_of : List (List ℕ) → Option Command
make_of (number ∷ []) = made_of number false
make_of (number ∷ word ∷ []) = if bytes_eq word (codes "summary") then made_of number true else None
make_of _ = None

-- the undoing of the last events, as many as a decimal number says
abbrev pub undone_of : List ℕ → Option Command
undone_of number = option_map (λ n. Back n) (dec_of number)

-- the words behind `back`
abbrev pub back_of : List (List ℕ) → Option Command
back_of (number ∷ []) = undone_of number
back_of _ = None

-- what words ask for of which none begins with `-`
abbrev pub form_of : List (List ℕ) → Option Command
form_of [] = None
form_of (word ∷ words) =
    if bytes_eq word (codes "walk") then walk_of words
    else (if bytes_eq word (codes "make") then make_of words
    else (if bytes_eq word (codes "back") then back_of words
    else bare_of word words))

-- what the program's words ask for
abbrev pub command_of : List (List ℕ) → Option Command
command_of words =
    if is_help words then Some Help
    else (if list_any is_dashed words then None else form_of words)
