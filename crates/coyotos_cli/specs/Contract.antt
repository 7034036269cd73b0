-- What one call of the program promises, in the words that its clauses cite.
use Rattle.std.specs.Prelude.{◌≡◌, ◌+◌, ℕ, true, false, List, Option, Some, IfSome}
use Rattle.coyotos_words.specs.Command.{command_of}
use Rattle.coyotos_cli.specs.Command.{count_of, has_cache, asks_run, tells_fetches}
use Rattle.courses.specs.Course.{Course, course_fetches, course_output}
use Rattle.courses.specs.Ending.{Outputs, Fetches}
use Rattle.courses.specs.Bounds.{IsBounded}
use Rattle.share_command.specs.Few.{IsSharedBounded, TellsFew}
use Rattle.coyotos_words.specs.declared.command.Command.TheVariants.{Share}
use Rattle.courses.specs.Sure.{WritesSure}
use Rattle.courses.specs.Program as programs
use Rattle.coyotos_cli.specs.Program.{coyotos, out, fetched, whole_course}
use Rattle.coyotos_words.specs.declared.command.Command.{Command}
use Rattle.courses.specs.declared.exit.Exit.{Exit}
use Rattle.courses.specs.declared.exit.Exit.TheVariants.{Done, OutOfMemory}

-- the bytes that are read for words, where they are known
abbrev pub bytes_for : Option Command → Option (List ℕ) → Option (List ℕ)
bytes_for asked held = programs.bytes_for coyotos asked held

-- how words are answered, and how much of the input is read for them
abbrev pub HasForm : List (List ℕ) → Exit → Type 0
HasForm words exit = programs.HasForm coyotos words exit

abbrev pub ReadsInput : {S : Type 0} → (S → Option (List ℕ)) → List (List ℕ) → S → S → Exit → Type 0
ReadsInput held words old new exit = programs.ReadsInput coyotos held words old new exit

-- what was written and how it ended is what the words and the bytes that are read for them come to
pub record Answers (words : List (List ℕ)) (held taken taken' : Option (List ℕ)) (exit : Exit) : Type 0 where
  pub output : IfSome (bytes_for (command_of words) held) (λ bytes. Outputs taken taken' exit (out words bytes))
  pub unwritten : exit ≡ OutOfMemory → taken' ≡ taken

-- what a call wrote and how it ended is what it comes to, and so is how many slots it fetched, where their number is told
pub record ComesFor (asked : Option Command) (taken taken' : Option (List ℕ)) (fetches fetches' : ℕ) (exit : Exit) (course : Course) : Type 0 where
  pub output : Outputs taken taken' exit (course_output course)
  pub fetched : tells_fetches asked ≡ true → Fetches fetches fetches' exit (course_fetches (count_of asked) course)

-- reading failed behind bytes that end nothing, and exactly the records were written that they make sure; and exactly the
-- slots were fetched that the touches of these cost, where their number is told
pub record StandsFor (asked : Option Command) (held held' taken taken' : Option (List ℕ)) (fetches fetches' : ℕ) (course : List ℕ → Course) : Type 0 where
  pub writes : WritesSure held held' taken taken' course
  pub fetched : tells_fetches asked ≡ true → fetches' ≡ fetches + count_of asked (course writes.bytes).touches

-- how many slots are fetched: where their number is told, those of the whole run and never more, and over a mapping cache no
-- more than the bounds on it; and none for words that let nothing run or where memory was wanting
pub record FetchesFor (words : List (List ℕ)) (held : Option (List ℕ)) (fetches fetches' : ℕ) (exit : Exit) : Type 0 where
  pub counted : tells_fetches (command_of words) ≡ true → IfSome (bytes_for (command_of words) held) (λ bytes. Fetches fetches fetches' exit (fetched words bytes))
  pub bounded : tells_fetches (command_of words) ≡ true → has_cache (command_of words) ≡ true → IfSome (bytes_for (command_of words) held) (λ bytes. IsBounded fetches fetches' (whole_course words bytes))
  pub unfetched : asks_run (command_of words) ≡ false → fetches' ≡ fetches
  pub unspent : exit ≡ OutOfMemory → fetches' ≡ fetches

-- how few frames `share` tells where all was done, and how few slots it fetches
pub record SharesFor (words : List (List ℕ)) (held : Option (List ℕ)) (fetches fetches' : ℕ) (exit : Exit) : Type 0 where
  pub frames : exit ≡ Done → command_of words ≡ Some Share → IfSome (bytes_for (command_of words) held) (λ bytes. TellsFew (whole_course words bytes))
  pub bounded : command_of words ≡ Some Share → IfSome (bytes_for (command_of words) held) (λ bytes. IsSharedBounded fetches fetches' (whole_course words bytes))
