-- Laws of what inputs come to, as statements.
use Rattle.std.specs.Prelude.{◌≡◌, ℕ, true, List, Some}
use Rattle.confine_command.specs.Decided.{IsDecided}
use Rattle.courses.specs.declared.exit.Exit.TheVariants.{Done}
use Rattle.migrate_command.specs.Same.{SaySame}
use Rattle.coyotos_words.specs.Command.{command_of}
use Rattle.coyotos_words.specs.declared.command.Command.{Command}
use Rattle.coyotos_words.specs.declared.command.Command.TheVariants.{Confine}
use Rattle.coyotos_cli.specs.Command.{asks_schedule}
use Rattle.coyotos_cli.specs.Input.{whole_input}
use Rattle.coyotos_cli.specs.Program.{command_course, out}

-- Two inputs with the same statements and events come to the same, for each command that runs or counts them. So what such
-- a command writes for a migrated text is what it writes for the input of that.
abbrev pub SameCourseLaw : Type 0
SameCourseLaw =
    (bytes text : List ℕ) → SaySame bytes text → (command : Command) → asks_schedule command ≡ true
    → command_course command (whole_input bytes) ≡ command_course command (whole_input text)

-- What the program writes of a cut is so of the machine that the listing boots, for any bytes, whether it was run or not.
abbrev pub ConfinedLaw : Type 0
ConfinedLaw = (words : List (List ℕ)) (bytes : List ℕ) → command_of words ≡ Some Confine → (out words bytes).exit ≡ Done
    → IsDecided bytes (out words bytes).text
