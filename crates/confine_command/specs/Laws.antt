-- Laws of machines at their start, and of what is written of their cuts, as statements.
use Rattle.std.specs.Prelude.{◌≡◌, ◌≢◌, ℕ, List}
use Rattle.coy_io.specs.Lines.{parts_of}
use Rattle.listing_read.specs.Statement.{ListingValue}
use Rattle.image_builder.specs.Boot.{booted}
use Rattle.confinement.specs.Cut.{Cut}
use Rattle.confine_check.specs.declared.verdict.Verdict.TheVariants.{Sleeper}
use Rattle.confine_check.specs.Found.{verdict_in}
use Rattle.courses.specs.Course.{course_output}
use Rattle.courses.specs.Listed.{lines_course}
use Rattle.courses.specs.declared.exit.Exit.TheVariants.{Done}
use Rattle.confine_command.specs.Confine.{NobodySleeps, confine_course}
use Rattle.confine_command.specs.Decided.{IsDecided}

-- Nobody sleeps at the start of the machine that a listing boots, so none breaks a cut there.
pub record AwakeLaw : Type 0 where
  pub awake : (listing : ListingValue) → NobodySleeps (booted listing).queues
  pub never : (listing : ListingValue) (cut : Cut) (p : ℕ) → verdict_in cut (booted listing) ≢ Sleeper p

-- What an input comes to, where it comes to an end with all done, is so of the machine that it boots, whether the program
-- was run on it or not.
abbrev pub DecidedLaw : Type 0
DecidedLaw = (bytes : List ℕ) → (course_output (lines_course confine_course (parts_of bytes))).exit ≡ Done
    → IsDecided bytes (course_output (lines_course confine_course (parts_of bytes))).text
