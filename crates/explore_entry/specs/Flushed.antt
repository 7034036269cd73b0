-- What one call of the program promises whose output is flushed behind it (this project's own).
use Rattle.std.specs.Prelude.{◌≡◌, ℕ, List, Option}
use Rattle.std.specs.Io.KnownBytes.{Keeps}
use Rattle.std.specs.declared.io.buffered.BufWriter.{BufWriter}
use Rattle.coy_io.specs.Buffered.{taken_in}
use Rattle.coy_io.specs.declared.adapters.WriteSink.{WriteSink}
use Rattle.courses.specs.Ending.{Output}
use Rattle.courses.specs.Flush.{GoesOutFor}
use Rattle.courses.specs.Program.{HasForm, ReadsInput, bytes_for, out, sure}
use Rattle.courses.specs.declared.exit.Exit.{Exit}
use Rattle.courses.specs.declared.exit.Exit.TheVariants.{OutOfMemory}
use Rattle.explore_program.specs.Program.{asked_by, explore}
use Rattle.explore_program.specs.Theorem.{Judges, TellsFlushed}
use Rattle.explore_program.specs.Wanting.{Wants}

-- what was done with words: what is told answers what the input asks; what the writer behind the buffer got, how the program ends,
-- and why; the theorem; how much of the input was read; to which words Usage is answered; and where memory was wanting
pub record CallsFlushed {S W A : Type 0} (held : S → Option (List ℕ)) (source_faults : S → ℕ) (contents : W → Option (List ℕ))
    (input input' : S) (sink sink' : WriteSink (BufWriter W A)) (exit : Exit) (words : List (List ℕ)) : Type 0 where
  pub output : TellsFlushed words (held input) exit (Keeps (taken_in contents sink) (taken_in contents sink')) (λ told.
      GoesOutFor held source_faults contents input input' sink sink' exit
      (bytes_for (explore told) (asked_by words)) (out (explore told) words) (sure (explore told) words))
  pub judges : Judges words (held input) exit
  pub reads : (told : Output) → ReadsInput (explore told) held words input input' exit
  pub form : (told : Output) → HasForm (explore told) words exit
  pub wanting : exit ≡ OutOfMemory → Wants (held input) (held input')
