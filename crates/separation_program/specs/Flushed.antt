-- What one call of the program promises whose output is flushed behind it (this project's own).
use Rattle.std.specs.Prelude.{◌≡◌, ℕ, List, Option, Some}
use Rattle.std.specs.declared.io.buffered.BufWriter.{BufWriter}
use Rattle.coy_io.specs.declared.adapters.WriteSink.{WriteSink}
use Rattle.courses.specs.Flush.{GoesOutFor}
use Rattle.courses.specs.Program.{HasForm, ReadsInput, bytes_for, out, sure}
use Rattle.courses.specs.declared.exit.Exit.{Exit}
use Rattle.courses.specs.declared.exit.Exit.TheVariants.{OutOfMemory}
use Rattle.separation_program.specs.Program.{Judges, asked_by, separation}
use Rattle.separation_program.specs.Slots.{WantsFor}
use Rattle.separation_program.specs.declared.words.Aim.{Aim}
use Rattle.separation_program.specs.declared.words.Asked.TheVariants.{Judge}

-- what was done with words: what the writer behind the buffer got, how the program ends, and why; the theorem; how much of the
-- input was read; to which words Usage is answered; and how much was read, and of how many slots, where memory was wanting
pub record CallsFlushed {S W A : Type 0} (held : S → Option (List ℕ)) (source_faults : S → ℕ) (contents : W → Option (List ℕ))
    (input input' : S) (sink sink' : WriteSink (BufWriter W A)) (exit : Exit) (words : List (List ℕ)) : Type 0 where
  pub output : GoesOutFor held source_faults contents input input' sink sink' exit
      (bytes_for separation (asked_by words)) (out separation words) (sure separation words)
  pub judges : Judges words (held input) exit
  pub reads : ReadsInput separation held words input input' exit
  pub form : HasForm separation words exit
  pub wanting : (aim : Aim) → asked_by words ≡ Some (Judge aim) → exit ≡ OutOfMemory
      → (slots : ℕ) × WantsFor aim (held input) (held input') 0 slots
