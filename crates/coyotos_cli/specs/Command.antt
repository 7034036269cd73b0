-- What commands ask for. The forms of the words are those of `coyotos_words`.
use Rattle.std.specs.Prelude.{ℕ, Bool, true, false, if◌then◌else◌, List, Option, Some, None}
use Rattle.coyotos_words.specs.declared.command.Command.{Command}
use Rattle.coyotos_words.specs.declared.command.Command.TheVariants.{Help, Check, Schedule, Make, Pack, Unpack, Migrate, Confine, Share, Back}
use Rattle.kernel_core.specs.Outcome.{Touch}
use Rattle.courses.specs.Course.{cached}
use Rattle.share_command.specs.Share.{shared_fetched}

-- What a command asks for: the input; a run, or a look at all GPTs, without which nothing is fetched; and whether the lines
-- behind a listing are a schedule to it, or nothing, since it reads no input. Whether the number of slots that it fetches is
-- told, and whether it runs over a mapping cache where it runs.
pub record Asks : Type 0 where
  pub input : Bool
  pub run : Bool
  pub schedule : Bool
  pub tells : Bool
  pub cache : Bool

-- each command by what it asks for. `--help` and `make` read no input; `back` walks ahead of each event as well, and the
-- number of slots that it fetches isn't told; `share` runs over shared leaf tables
abbrev pub asks_for : Command → Asks
asks_for Help = record { input = false; run = false; schedule = true; tells = true; cache = true }
asks_for Check = record { input = true; run = false; schedule = true; tells = true; cache = true }
asks_for (Schedule command) = record { input = true; run = true; schedule = true; tells = true; cache = true }
asks_for (Make number summary) = record { input = false; run = summary; schedule = true; tells = true; cache = true }
asks_for Pack = record { input = true; run = false; schedule = false; tells = true; cache = true }
asks_for Unpack = record { input = true; run = false; schedule = false; tells = true; cache = true }
asks_for Migrate = record { input = true; run = false; schedule = false; tells = true; cache = true }
asks_for Confine = record { input = true; run = true; schedule = false; tells = true; cache = true }
asks_for Share = record { input = true; run = true; schedule = true; tells = true; cache = false }
asks_for (Back number) = record { input = true; run = true; schedule = true; tells = false; cache = true }

-- whether a command asks for input
abbrev pub asks_input : Command → Bool
asks_input command = (asks_for command).input

-- whether words ask for a run or for a look at all GPTs; others fetch nothing
abbrev pub asks_run : Option Command → Bool
asks_run None = false
asks_run (Some command) = (asks_for command).run

-- whether the number of slots that are fetched is told
abbrev pub tells_fetches : Option Command → Bool
tells_fetches None = true
tells_fetches (Some command) = (asks_for command).tells

-- whether words run over a mapping cache where they run
abbrev pub has_cache : Option Command → Bool
has_cache None = true
has_cache (Some command) = (asks_for command).cache

-- how many slots touches fetch over the translator of words
abbrev pub count_of : Option Command → List Touch → ℕ
count_of asked = if has_cache asked then cached else shared_fetched

-- whether the lines behind a listing are a schedule to a command, or nothing
abbrev pub asks_schedule : Command → Bool
asks_schedule command = (asks_for command).schedule
