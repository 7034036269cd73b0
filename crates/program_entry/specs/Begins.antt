-- How a program ends that is handed its arguments and its streams.
use Rattle.std.specs.Prelude.{◌≡◌, ◌⊎◌, ℕ, List, Option, Some, Result, Ok}
use Rattle.std.specs.Process.{exit_status}
use Rattle.std.specs.declared.process.ExitCode.{ExitCode}
use Rattle.courses.specs.Exit.{status_of}
use Rattle.courses.specs.declared.exit.Exit.{Exit}
use Rattle.courses.specs.declared.exit.Exit.TheVariants.{OutOfMemory}

-- there was no memory to begin, and nothing was done
pub record LacksStart {S K : Type 0} (old new : S) (out out' : K) (exit : Exit) : Type 0 where
  pub lacks : exit ≡ OutOfMemory
  pub unread : new ≡ old
  pub unwritten : out' ≡ out

-- the call had these words and a buffered sink, and did so with them, or there was no memory to begin
abbrev pub Begins : {S K E : Type 0} → Option (List (List ℕ)) → S → S → Result K E → Result K E → Exit → (List (List ℕ) → K → K → Type 0) → Type 0
Begins (Some words) old new (Ok out) (Ok out') exit So = LacksStart old new out out' exit ⊎ So words out out'
Begins words old new out out' exit So = LacksStart old new out out' exit

-- the process ends with the status of an exit, which is said so on standard error, and of which this is so
pub record EndsWith (code : ExitCode) (Said So : Exit → Type 0) : Type 0 where
  pub exit : Exit
  pub status : exit_status code ≡ status_of exit
  pub said : Said exit
  pub so : So exit
