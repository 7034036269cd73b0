-- The words of the lines that say what objects are, as a listing states them and as a state prints them: numbers in
-- decimal, offsets with three hexadecimal digits and all other hexadecimal fields with eight, bytes with two each,
-- capabilities without their counts.
use Rattle.std.specs.Prelude.{ℕ, Bool, true, false, if◌then◌else◌, List, [], ◌∷◌, ◌++◌, codes, decimal}
use Rattle.coy_io.specs.Lines.{line_feed}
use Rattle.coy_text.specs.Bytes.{bytes_text}
use Rattle.coy_text.specs.Numeral.{hex_text}
use Rattle.coy_text.specs.Spaced.{line_of}
use Rattle.cap_format.specs.declared.kind.CapKind.{CapKind}
use Rattle.cap_format.specs.Capability.{Capability}
use Rattle.cap_words.specs.Kind.{kind_word}
use Rattle.cap_words.specs.Text.{cap_text}
use Rattle.gpt_objects.specs.Header.{HeaderValue}

-- the line of these words, with its line feed
abbrev pub line_text : List (List ℕ) → List ℕ
line_text words = line_of words ++ line_feed

-- an object's count
abbrev pub count_words : CapKind → ℕ → ℕ → List (List ℕ)
count_words kind number count = codes "count" ∷ kind_word kind ∷ decimal number ∷ decimal count ∷ []

-- bytes of a page, from an offset on
abbrev pub page_words : ℕ → ℕ → List ℕ → List (List ℕ)
page_words number at bytes = codes "page" ∷ decimal number ∷ hex_text 3 at ∷ bytes_text bytes ∷ []

-- what a slot or a capability register of an object holds, by the line's first word
abbrev pub held_words : List ℕ → ℕ → ℕ → Capability → List (List ℕ)
held_words first number place cap = first ∷ decimal number ∷ decimal place ∷ cap_text cap ∷ []

-- the flags of a GPT
abbrev pub flag_words : Bool → Bool → List (List ℕ)
flag_words true true = codes "ha" ∷ codes "bg" ∷ []
flag_words true false = codes "ha" ∷ []
flag_words false true = codes "bg" ∷ []
flag_words false false = []

-- a GPT
abbrev pub gpt_words : ℕ → HeaderValue → List (List ℕ)
gpt_words number header = codes "gpt" ∷ decimal number ∷ decimal header.l2v ∷ flag_words header.ha header.bg

-- whether an endpoint takes its payload alone
abbrev pub match_word : Bool → List ℕ
match_word matching = if matching then codes "match" else codes "plain"

-- an endpoint
abbrev pub endpoint_words : ℕ → Capability → ℕ → ℕ → Bool → List (List ℕ)
endpoint_words number recipient id payload matching =
    codes "endpoint" ∷ decimal number ∷ cap_text recipient ∷ hex_text 8 id ∷ hex_text 8 payload ∷ match_word matching ∷ []

-- a process but for what it does
abbrev pub process_front : ℕ → ℕ → Capability → Capability → Capability → List (List ℕ)
process_front number pc space schedule handler =
    codes "process" ∷ decimal number ∷ hex_text 8 pc ∷ cap_text space ∷ cap_text schedule ∷ cap_text handler ∷ []

-- a process, and what it does
abbrev pub process_words : ℕ → ℕ → Capability → Capability → Capability → List ℕ → List (List ℕ)
process_words number pc space schedule handler state = process_front number pc space schedule handler ++ state ∷ []

-- a register of a process
abbrev pub register_words : ℕ → ℕ → ℕ → List (List ℕ)
register_words number index value = codes "reg" ∷ decimal number ∷ decimal index ∷ hex_text 8 value ∷ []
