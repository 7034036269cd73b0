-- What the form that `clap` entered asks for, by the words that it put in its places.
use Rattle.std.specs.Prelude.{true, false, if◌then◌else◌, List, Option, Some, None, option_map, option_and_then, codes}
use Rattle.std.specs.Borrow.{Bor}
use Rattle.std.specs.Str.{bytes_eq}
use Rattle.clap.specs.Walk.{Row, Text, first_of}
use Rattle.coyotos_words.specs.Command.{bare_commands, bare_named, access_named, made_of, undone_of}
use Rattle.coyotos_words.specs.declared.command.Command.{Command}

-- the word in a place
abbrev pub text_in : Option (Bor Text) → Option Text
text_in = option_map (λ word. word.now)

-- an access, where all its places are filled
abbrev pub access_asked : Option Text → Option Text → Option Text → Option Command
access_asked (Some process) (Some kind) (Some address) = access_named process kind address
access_asked _ _ _ = None

-- a generated text, or its summary
abbrev pub number_asked : Option Text → Option Text → Option Command
number_asked None summary = None
number_asked (Some number) None = made_of number false
number_asked (Some number) (Some word) = if bytes_eq word (codes "summary") then made_of number true else None

-- an undoing, where its place is filled
abbrev pub undone_asked : Option Text → Option Command
undone_asked = option_and_then undone_of

-- the places of `walk`
abbrev pub walk_asked : List Row → Option Command
walk_asked rows = access_asked (first_of (codes "process") rows) (first_of (codes "kind") rows) (first_of (codes "address") rows)

-- the places of `make`
abbrev pub make_asked : List Row → Option Command
make_asked rows = number_asked (first_of (codes "number") rows) (first_of (codes "summary") rows)

-- the place of `back`
abbrev pub back_asked : List Row → Option Command
back_asked rows = undone_asked (first_of (codes "number") rows)

-- what the form asks for that was entered
abbrev pub asked : Option (Text × List Row) → Option Command
asked None = None
asked (Some (word, rows)) =
    if bytes_eq word (codes "walk") then walk_asked rows
    else (if bytes_eq word (codes "make") then make_asked rows
    else (if bytes_eq word (codes "back") then back_asked rows
    else bare_named bare_commands word))
