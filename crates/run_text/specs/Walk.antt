-- What the command that tells of one walk prints.
use Rattle.std.specs.Prelude.{ℕ, ◌==◌, if◌then◌else◌, List, ◌++◌, codes, decimal, Option, Some, None, Result, Ok, Err}
use Rattle.coy_text.specs.Numeral.{hex_text}
use Rattle.cap_format.specs.Capability.{Capability}
use Rattle.walk_meaning.specs.declared.place.Place.{Place}
use Rattle.walk_meaning.specs.declared.place.WalkFault.{WalkFault}
use Rattle.coy_io.specs.Lines.{line_feed}
use Rattle.run_text.specs.Names.{fault_name}
use Rattle.cap_words.specs.Kind.{kind_word}
use Rattle.cap_words.specs.Text.{letters, cap_text}

-- all restrictions that were met, by their letters
abbrev pub met_text : ℕ → List ℕ
met_text restr = if restr == 0 then codes "-" else letters restr

-- where a walk ended
abbrev pub reach_text : Place → List ℕ
reach_text place = codes "reach " ++ kind_word place.kind ++ codes " " ++ decimal place.number ++ codes " " ++ hex_text 3 place.offset ++ codes " " ++ met_text place.restr.0

-- the handler that a walk gave its fault, if it gave one; the process's own is not looked at
abbrev pub handler_text : Option Capability → List ℕ
handler_text None = codes "none"
handler_text (Some c) = cap_text c

-- why a walk reached nothing
abbrev pub unreached_text : WalkFault → List ℕ
unreached_text fault = codes "fault " ++ fault_name fault.code ++ codes " " ++ handler_text fault.handler

-- the line of a walk
abbrev pub walk_text : Result Place WalkFault → List ℕ
walk_text (Ok place) = reach_text place ++ line_feed
walk_text (Err fault) = unreached_text fault ++ line_feed

-- what is printed in its place where there is no such process
abbrev pub no_process_text : List ℕ
no_process_text = codes "no process" ++ line_feed
