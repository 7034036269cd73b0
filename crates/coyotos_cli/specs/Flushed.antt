-- What one call of the program promises whose output is flushed behind it.
use Rattle.std.specs.Prelude.{◌≡◌, ◌≢◌, ◌⊎◌, ℕ, List, Option, Some, IfSome}
use Rattle.std.specs.declared.io.buffered.BufWriter.{BufWriter}
use Rattle.coy_io.specs.declared.adapters.WriteSink.{WriteSink}
use Rattle.confine_command.specs.Decided.{IsDecided}
use Rattle.courses.specs.Flush.{GoesOutFor}
use Rattle.courses.specs.Wanting.{StandsAtListing}
use Rattle.image_binary.specs.Unpacked.{StandsAtStatement}
use Rattle.courses.specs.declared.exit.Exit.{Exit}
use Rattle.courses.specs.declared.exit.Exit.TheVariants.{Done, OutOfMemory}
use Rattle.coyotos_words.specs.Command.{command_of}
use Rattle.coyotos_words.specs.declared.command.Command.TheVariants.{Confine, Unpack}
use Rattle.coyotos_cli.specs.Contract.{HasForm, ReadsInput, bytes_for}
use Rattle.coyotos_cli.specs.Program.{out, sure}

-- what was done with words: what the writer behind the buffer got, how the program ends, and why; that what `confine` writes of a
-- cut is so; how much of the input was read; to which words Usage is answered; and how much was read where memory was wanting
pub record CallsFlushed {S W A : Type 0} (held : S → Option (List ℕ)) (source_faults : S → ℕ) (contents : W → Option (List ℕ))
    (input input' : S) (sink sink' : WriteSink (BufWriter W A)) (exit : Exit) (words : List (List ℕ)) : Type 0 where
  pub output : GoesOutFor held source_faults contents input input' sink sink' exit (bytes_for (command_of words)) (out words) (sure words)
  pub decided : command_of words ≡ Some Confine → exit ≡ Done → IfSome (held input) (λ bytes. IsDecided bytes (out words bytes).text)
  pub reads : ReadsInput held words input input' exit
  pub form : HasForm words exit
  pub wanting : command_of words ≢ Some Unpack → exit ≡ OutOfMemory → StandsAtListing (held input) (held input')
  pub wanting_image : command_of words ≡ Some Unpack → exit ≡ OutOfMemory
      → (input' ≡ input) ⊎ StandsAtStatement (held input) (held input')
