-- Which words spell a capability, and what they spell: one function for each form of the words. What a kind has not is
-- 0, and its guard is 12/0. Where there may be names, one may stand in place of an object's number, behind a `$`; the
-- number is 0 then.
use Rattle.std.specs.Prelude.{ℕ, ◌≡◌, ◌<◌, ◌+◌, ◌-◌, ◌*◌, ◌==◌, ◌||◌, not, nat_le, Bool, false, if◌then◌else◌, List, [], ◌∷◌, length, Option, Some, None, option_map, bytes_eq, codes}
use Rattle.coy_text.specs.Numeral.{dec_of, hex_of}
use Rattle.coy_text.specs.Reading.{◌>>=◌, given}
use Rattle.coy_text.specs.Words.{cut_at}
use Rattle.cap_format.specs.declared.kind.CapKind.{CapKind}
use Rattle.cap_format.specs.declared.kind.CapKind.TheVariants.{Null, Page, CapPage, Gpt, Window, LocalWindow, Endpoint, Entry, Process, Schedule, Range, Discrim, KernLog, SysCtl}
use Rattle.cap_format.specs.Guard.{guard_of, no_guard}
use Rattle.cap_format.specs.Kind.{is_counted, is_memory, object_limit, payload_limit, restr_limit, slot_limit}
use Rattle.cap_words.specs.declared.spelling.Spelled.{Spelled}
use Rattle.cap_words.specs.declared.spelling.Guarded.{Guarded}
use Rattle.cap_words.specs.Name.{name_of, called}

-- a decimal number of at most `most`
unfoldable pub dec_to : ℕ → List ℕ → Option ℕ
dec_to most word = do
  number ← dec_of word
  _ ← given (nat_le number most)
  Some number

-- a capability without guard and restrictions
abbrev pub named : CapKind → ℕ → Spelled
named kind object =
    record { kind = kind; restr = 0; l2g = 12; matches = 0; object = object; name = None; payload = 0; slot = 0 }

-- one to the object that a name stands for
abbrev pub named_by : CapKind → List ℕ → Spelled
named_by kind name = record (named kind 0) { name = Some name }

-- what a number stands for, or the name in its place
abbrev pub object_by : CapKind → List ℕ → Option (List ℕ) → Option Spelled
object_by kind word None = option_map (named kind) (dec_of word)
object_by kind word (Some name) = option_map (named_by kind) (name_of name)

-- `N`, or `$NAME` where there may be names: a capability without guard and restrictions
unfoldable pub object_at : Bool → CapKind → List ℕ → Option Spelled
object_at names kind word = object_by kind word (called names word)

-- the same behind a guard
abbrev pub behind : Guarded → Spelled → Spelled
behind guarded spelled =
    record spelled { restr = guarded.restr; l2g = guarded.l2g; matches = guarded.matches }

-- `null`, `range`, `discrim`, `kernlog`, `sysctl`
unfoldable pub plain_kind_of : List ℕ → Option CapKind
plain_kind_of word =
    if bytes_eq word (codes "null") then Some Null
    else (if bytes_eq word (codes "range") then Some Range
    else (if bytes_eq word (codes "discrim") then Some Discrim
    else (if bytes_eq word (codes "kernlog") then Some KernLog
    else (if bytes_eq word (codes "sysctl") then Some SysCtl else None))))

-- 1 and the rest where the letter is the first of these, otherwise 0 and all of them
abbrev pub letter_at : ℕ → List ℕ → ℕ × List ℕ
letter_at wanted [] = (0, [])
letter_at wanted (first ∷ rest) = if first == wanted then (1, rest) else (0, first ∷ rest)

-- at least one of the letters `r`, `x`, `w`, `o`, `n` in this order, each at most once
unfoldable pub restr_of : List ℕ → Option ℕ
restr_of letters =
    let r = letter_at 114 letters in
    let x = letter_at 120 r.1 in
    let w = letter_at 119 x.1 in
    let o = letter_at 111 w.1 in
    let n = letter_at 110 o.1 in
    if (length letters == 0) || not (length n.1 == 0) then None
    else Some (r.0 + 2 * x.0 + 4 * w.0 + 8 * o.0 + 16 * n.0)

-- `M`, or `M+LETTERS`, behind `L/`
abbrev pub match_of : ℕ → List ℕ → Option (List ℕ × List ℕ) → Option Guarded
match_of l2g word None = do
  matches ← hex_of word
  Some (record { l2g = l2g; matches = matches; restr = 0 })
match_of l2g word (Some (digits, letters)) = do
  matches ← hex_of digits
  restr ← restr_of letters
  Some (record { l2g = l2g; matches = matches; restr = restr })

-- `L/M` or `L/M+LETTERS`, L decimal and M hexadecimal
unfoldable pub guarded_of : List ℕ → Option Guarded
guarded_of word = do
  parts ← cut_at 47 word
  l2g ← dec_of parts.0
  match_of l2g parts.1 (cut_at 43 parts.1)

-- `schedule:P`, P from 0 to the highest priority
unfoldable pub schedule_of : List ℕ → Option Spelled
schedule_of rest = do
  priority ← dec_to (object_limit Schedule - 1) rest
  Some (named Schedule priority)

-- `entry:N:PAYLOAD`, the payload hexadecimal
unfoldable pub entry_of : Bool → List ℕ → Option Spelled
entry_of names rest = do
  parts ← cut_at 58 rest
  spelled ← object_at names Entry parts.0
  payload ← hex_of parts.1
  Some (record spelled { payload = payload })

-- `page:N`, `cappage:N`, `gpt:N` and then `@` and the guard
unfoldable pub memory_of : Bool → CapKind → List ℕ → Option Spelled
memory_of names kind rest = do
  parts ← cut_at 64 rest
  spelled ← object_at names kind parts.0
  guarded ← guarded_of parts.1
  Some (behind guarded spelled)

-- `OFFSET` of a window, hexadecimal, and then `@` and the guard
unfoldable pub window_of : CapKind → ℕ → List ℕ → Option Spelled
window_of kind slot rest = do
  parts ← cut_at 64 rest
  offset ← hex_of parts.0
  guarded ← guarded_of parts.1
  Some (behind guarded (record (named kind offset) { slot = slot }))

-- `local:S:OFFSET`, S from 0 to 15, and then `@` and the guard
unfoldable pub local_of : List ℕ → Option Spelled
local_of rest = do
  parts ← cut_at 58 rest
  slot ← dec_to 15 parts.0
  window_of LocalWindow slot parts.1

-- a word whose part before its first `:` is this head
unfoldable pub headed : Bool → List ℕ → List ℕ → Option Spelled
headed names head rest =
    if bytes_eq head (codes "schedule") then schedule_of rest
    else (if bytes_eq head (codes "endpoint") then object_at names Endpoint rest
    else (if bytes_eq head (codes "process") then object_at names Process rest
    else (if bytes_eq head (codes "entry") then entry_of names rest
    else (if bytes_eq head (codes "page") then memory_of names Page rest
    else (if bytes_eq head (codes "cappage") then memory_of names CapPage rest
    else (if bytes_eq head (codes "gpt") then memory_of names Gpt rest
    else (if bytes_eq head (codes "window") then window_of Window 0 rest
    else (if bytes_eq head (codes "local") then local_of rest else None))))))))

-- a word that has the part before its first `:`, or none such
abbrev pub spelled_by : Bool → List ℕ → Option (List ℕ × List ℕ) → Option Spelled
spelled_by names word None = option_map (λ kind. named kind 0) (plain_kind_of word)
spelled_by names word (Some (head, rest)) = headed names head rest

-- what a word spells, if it spells a capability, where there may be names or not
unfoldable pub spelled_of : Bool → List ℕ → Option Spelled
spelled_of names word = spelled_by names word (cut_at 58 word)

-- what every spelling keeps: what its kind has not is 0 or 12/0, and what stands in it alone is in its range
pub record IsSpelled (spelled : Spelled) : Type 0 where
  pub restr : spelled.restr < restr_limit spelled.kind
  pub unguarded : is_memory spelled.kind ≡ false → guard_of spelled.l2g spelled.matches ≡ no_guard
  pub object : is_counted spelled.kind ≡ false → spelled.object < object_limit spelled.kind
  pub name : is_counted spelled.kind ≡ false → spelled.name ≡ None
  pub payload : spelled.payload < payload_limit spelled.kind
  pub slot : spelled.slot < slot_limit spelled.kind
