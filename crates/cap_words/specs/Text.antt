-- A capability as one word, as a listing spells it. No word shows a count, so a capability and its meaning, where it is
-- live, are one word.
use Rattle.std.specs.Prelude.{ℕ, ◌==◌, if◌then◌else◌, List, [], ◌++◌, codes, decimal}
use Rattle.coy_text.specs.Numeral.{hex_text}
use Rattle.cap_format.specs.declared.kind.CapKind.{CapKind}
use Rattle.cap_format.specs.declared.kind.CapKind.TheVariants.{Null, Page, CapPage, Gpt, Window, LocalWindow, Endpoint, Entry, Process, Schedule, Range, Discrim, KernLog, SysCtl}
use Rattle.cap_format.specs.Guard.{GuardValue}
use Rattle.cap_format.specs.Restr.{has}
use Rattle.cap_format.specs.Capability.{Capability}

-- the letter of a restriction, where it is there
abbrev pub letter : ℕ → ℕ → List ℕ → List ℕ
letter restr bit text = if has restr bit then text else []

-- the letters of all restrictions: no stores, no fetches, weak, opaque, no handlers
abbrev pub letters : ℕ → List ℕ
letters restr =
    letter restr 1 (codes "r") ++ letter restr 2 (codes "x") ++ letter restr 4 (codes "w") ++
    letter restr 8 (codes "o") ++ letter restr 16 (codes "n")

-- restrictions, where there are any
abbrev pub restr_text : ℕ → List ℕ
restr_text restr = if restr == 0 then [] else codes "+" ++ letters restr

-- a guard and the restrictions behind it
unfoldable pub guard_text : GuardValue → ℕ → List ℕ
guard_text guard restr = codes "@" ++ decimal guard.l2g ++ codes "/" ++ hex_text 5 guard.matches ++ restr_text restr

-- the word of a capability of a kind with this object number, offset or priority, payload, slot, guard and restrictions
unfoldable pub cap_word : CapKind → ℕ → ℕ → ℕ → GuardValue → ℕ → List ℕ
cap_word Null object payload slot guard restr = codes "null"
cap_word Range object payload slot guard restr = codes "range"
cap_word Discrim object payload slot guard restr = codes "discrim"
cap_word KernLog object payload slot guard restr = codes "kernlog"
cap_word SysCtl object payload slot guard restr = codes "sysctl"
cap_word Schedule object payload slot guard restr = codes "schedule:" ++ decimal object
cap_word Endpoint object payload slot guard restr = codes "endpoint:" ++ decimal object
cap_word Process object payload slot guard restr = codes "process:" ++ decimal object
cap_word Entry object payload slot guard restr = codes "entry:" ++ decimal object ++ codes ":" ++ hex_text 8 payload
cap_word Page object payload slot guard restr = codes "page:" ++ decimal object ++ guard_text guard restr
cap_word CapPage object payload slot guard restr = codes "cappage:" ++ decimal object ++ guard_text guard restr
cap_word Gpt object payload slot guard restr = codes "gpt:" ++ decimal object ++ guard_text guard restr
cap_word Window object payload slot guard restr = codes "window:" ++ hex_text 8 object ++ guard_text guard restr
cap_word LocalWindow object payload slot guard restr = codes "local:" ++ decimal slot ++ codes ":" ++ hex_text 8 object ++ guard_text guard restr

-- the word of a capability
abbrev pub cap_text : Capability → List ℕ
cap_text c = cap_word c.kind c.object c.payload c.slot c.guard c.restr
