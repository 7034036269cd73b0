-- Line by line, whether lines are passed over.
use Rattle.std.proofs.Common.{◌≡◌, ◌+◌, ◌∙◌, ◌∷◌, [], ℕ, List, Option, refl, sym, ap}
use Rattle.coy_io.specs.Lines.{Part, Line, LongLine, PastLimit}
use Rattle.coy_io.specs.Reader.{Reader}
use Rattle.listing_read.specs.Schedule.{eventless_line}
use Rattle.listing_read.specs.declared.fault.ScheduleFault.{ScheduleFault}
use Rattle.listing_read.specs.declared.fault.ScheduleFault.TheVariants.{LineTooLong}
use Rattle.judged_lines.specs.Judged.{JudgesAll}
use Rattle.judged_lines.specs.declared.stop.Stop.{Stop}
use Rattle.judged_lines.proofs.Made.{Follows}
use Rattle.listing_read.specs.Statement.{ListingValue}
use Rattle.schedule_replay.specs.Scheduled.{AtEnd, AtFault, AtLimit}
use Rattle.courses.specs.Course.{ends_in}
use Rattle.courses.specs.declared.exit.Exit.TheVariants.{ScheduleRefused}
use Rattle.courses.proofs.Rests.{TellsAlone, makes-rest}
use Rattle.image_commands.specs.Packed.{pack_output}
use Rattle.image_commands.specs.Passed.{JudgesEventless, PassesRest, passed, passed_with}

module _ (n : ℕ) where
  passed-end : passed n [] ≡ AtEnd
  unfolding passed
  passed-end = refl

  -- a line that is too long
  pub passed-long : (parts : List Part) → passed n (LongLine ∷ parts) ≡ AtFault (n + 1) LineTooLong
  unfolding passed
  passed-long parts = refl

  -- where the input goes on behind the last byte that is read
  pub passed-past : (parts : List Part) → passed n (PastLimit ∷ parts) ≡ AtLimit
  unfolding passed
  passed-past parts = refl

  -- any other line
  pub passed-line : (line : List ℕ) (parts : List Part) → passed n (Line line ∷ parts) ≡ passed_with (n + 1) (eventless_line line) (passed (n + 1) parts)
  unfolding passed
  passed-line line parts = refl

-- where lines end follows the judge of each
follows : Follows JudgesEventless LineTooLong (λ none. passed) (λ none n. AtEnd) AtFault AtLimit
follows = record {
  end = λ none n. passed-end n;
  long_line = λ none n parts. passed-long n parts;
  past_limit = λ none n parts. passed-past n parts;
  takes = λ none still n line done parts judged. passed-line n line parts ∙ ap (λ told. passed_with (n + 1) told (passed (n + 1) parts)) (sym judged);
  refuses = λ none still n line fault parts judged. passed-line n line parts ∙ ap (λ told. passed_with (n + 1) told (passed (n + 1) parts)) (sym judged);
}

-- lines were judged, and then they end
pub passes-rest : (old new : Reader) (held held' : Option (List ℕ)) (stop : Stop ScheduleFault) → JudgesAll JudgesEventless LineTooLong tt tt old new held held' stop
    → PassesRest old new held held' stop
passes-rest old new held held' stop a = makes-rest JudgesEventless LineTooLong (λ none. passed) (λ none n. AtEnd) AtFault AtLimit follows tt tt old new held held' stop a

-- where they are not all passed over, no more is told than why
pub tells : (listing : ListingValue) → TellsAlone (λ ending. ends_in (pack_output listing ending)) AtEnd AtFault AtLimit ScheduleRefused
tells listing = record {
  refusal = λ line fault. refl;
  limit = refl;
  given = λ line fault. record { read = λ bad. cc; write = λ bad. cc; memory = λ bad. cc };
  form = λ line fault bad. cc;
  unfinished = λ line fault. refl;
  going = refl;
  records = refl;
  touches = refl;
}
