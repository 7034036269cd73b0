-- The exit of lines of which not all were read, by why there is no further one (this project's own).
use Rattle.std.specs.Prelude.{◌≡◌, ℕ, List, Option, Some, None, Result, Ok, Err}
use Rattle.coy_io.specs.Lines.{Part}
use Rattle.coy_io.specs.Reader.{Reader, ahead}
use Rattle.judged_lines.specs.declared.stop.Stop.{Stop}
use Rattle.judged_lines.specs.declared.stop.Stop.TheVariants as stops
use Rattle.listing_read.specs.declared.fault.ListingFault.{ListingFault}
use Rattle.listing_read.specs.declared.fault.ListingFault.TheVariants as no_listing
use Rattle.schedule_replay.specs.Lines.{FailsOn}
use Rattle.schedule_replay.specs.Scheduled.{OnParts}
use Rattle.schedule_replay.specs.declared.counts.Counts.{Counts}
use Rattle.schedule_replay.specs.declared.replayed.Replayed.{Replayed}
use Rattle.schedule_replay.specs.declared.replayed.Replayed.TheVariants as answers
use Rattle.courses.specs.declared.exit.Exit.{Exit}
use Rattle.courses.specs.declared.exit.Exit.TheVariants.{ListingRefused, ScheduleRefused, ReadFault, WriteFault, OutOfMemory, TooLong}

-- the exit where there is no listing
abbrev pub listing_exit : ListingFault → Exit
listing_exit (no_listing.Refused line fault) = ListingRefused line fault
listing_exit no_listing.TooLong = TooLong
listing_exit no_listing.ReadFault = ReadFault
listing_exit no_listing.OutOfMemory = OutOfMemory

-- the exit of lines of a kind, by how their refusal is told, or none where all of them were read
abbrev pub stop_exit : {F : Type 0} → (ℕ → F → Exit) → Stop F → Option Exit
stop_exit refused stops.End = None
stop_exit refused (stops.Refused line fault) = Some (refused line fault)
stop_exit refused stops.TooLong = Some TooLong
stop_exit refused stops.ReadFault = Some ReadFault

-- the exit of a replay, or its counts where all lines were read and all events run
abbrev pub replay_exit : Replayed → Result Counts Exit
replay_exit (answers.Ended counts) = Ok counts
replay_exit (answers.Refused line fault) = Err (ScheduleRefused line fault)
replay_exit answers.TooLong = Err TooLong
replay_exit answers.ReadFault = Err ReadFault
replay_exit answers.WriteFault = Err WriteFault

-- what reading lines came to, up to where they end: all known lines make what ends so; where reading failed, the whole lines
-- that were read make what is made of them where none follows
abbrev pub MakesRest : {M F : Type 0} → (List Part → M) → M → (ℕ → F → M) → M → Reader → Reader → Option (List ℕ) → Option (List ℕ) → Stop F → Type 0
MakesRest made ends refused past old new held held' stops.End = OnParts (ahead old held) (λ parts. made parts ≡ ends)
MakesRest made ends refused past old new held held' (stops.Refused line fault) = OnParts (ahead old held) (λ parts. made parts ≡ refused line fault)
MakesRest made ends refused past old new held held' stops.TooLong = OnParts (ahead old held) (λ parts. made parts ≡ past)
MakesRest made ends refused past old new held held' stops.ReadFault = FailsOn made ends old new held held'
