-- How each command is asked for: words that ask for it, and the line that names all commands.
use Rattle.std.specs.Prelude.{ℕ, ◌≡◌, ◌≢◌, ◌^◌, ◌<◌, true, false, List, [], ◌∷◌, ◌++◌, Some, codes, decimal}
use Rattle.std.specs.List.{list_any}
use Rattle.std.specs.Str.{bytes_eq}
use Rattle.coy_text.specs.Numeral.{hex_text}
use Rattle.coy_text.specs.Words.{field, words_of}
use Rattle.walk_meaning.specs.declared.kind.Kind.{Kind}
use Rattle.walk_meaning.specs.declared.kind.Kind.TheVariants.{Fetch, Load, Store, CapLoad, CapStore}
use Rattle.coyotos_words.specs.Command.{command_of}
use Rattle.coyotos_words.specs.declared.command.Command.{Command}
use Rattle.coyotos_words.specs.declared.command.RunCommand.TheVariants.{Run, Trace, Tables, Walk}
use Rattle.coyotos_words.specs.declared.command.Command.TheVariants.{Help, Check, Schedule, Make, Pack, Unpack, Migrate, Confine, Share, Back}

-- the word of a kind of accesses
abbrev pub access_word : Kind → List ℕ
access_word Fetch = codes "fetch"
access_word Load = codes "load"
access_word Store = codes "store"
access_word CapLoad = codes "capload"
access_word CapStore = codes "capstore"

-- words that ask for a command: the first is that of its form, and its numbers stand as they are printed
abbrev pub words_for : Command → List (List ℕ)
words_for Help = codes "--help" ∷ []
words_for Check = codes "check" ∷ []
words_for (Schedule Run) = codes "run" ∷ []
words_for (Schedule Trace) = codes "trace" ∷ []
words_for (Schedule Tables) = codes "tables" ∷ []
words_for (Schedule (Walk process kind address)) = codes "walk" ∷ decimal process ∷ access_word kind ∷ hex_text 8 address ∷ []
words_for (Make number false) = codes "make" ∷ decimal number ∷ []
words_for (Make number true) = codes "make" ∷ decimal number ∷ codes "summary" ∷ []
words_for Pack = codes "pack" ∷ []
words_for Unpack = codes "unpack" ∷ []
words_for Migrate = codes "migrate" ∷ []
words_for Confine = codes "confine" ∷ []
words_for Share = codes "share" ∷ []
words_for (Back number) = codes "back" ∷ decimal number ∷ []

-- the numbers of a command are in the ranges of their types
abbrev pub IsCommand : Command → Type 0
IsCommand (Schedule (Walk process kind address)) = (process < 2 ^ 8) × (address < 2 ^ 32)
IsCommand (Make number summary) = number < 2 ^ 32
IsCommand (Back number) = number < 2 ^ 32
IsCommand _ = Unit {0}

-- each command is asked for by its words
abbrev pub EachIsAskedFor : Type 0
EachIsAskedFor = (command : Command) → IsCommand command → command_of (words_for command) ≡ Some command

-- the line that tells how the program is used
abbrev pub usage_line : List ℕ
usage_line =
    codes "usage: coyotos check | run | trace | tables | walk P KIND ADDR | make N [summary]"
    ++ codes " | pack | unpack | migrate | confine | share | back N"

-- each command but `--help` is named in that line: the first of its words is one of the line's
abbrev pub EachIsNamed : Type 0
EachIsNamed = (command : Command) → command ≢ Help → list_any (bytes_eq (field (words_for command) 0)) (words_of usage_line) ≡ true
