-- What `pack` comes to (this project's own).
use Rattle.image_binary.specs.Image.{image_of}
use Rattle.listing_read.specs.Statement.{ListingValue}
use Rattle.schedule_replay.specs.Scheduled.{Ending, AtEnd, AtFault, AtLimit}
use Rattle.courses.specs.Course.{ends_in}
use Rattle.courses.specs.Ending.{Output, told_end}
use Rattle.courses.specs.Listed.{Behind}
use Rattle.courses.specs.declared.exit.Exit.TheVariants.{Done, ScheduleRefused, TooLong}
use Rattle.image_commands.specs.Passed.{passed}

-- what is written of a listing, by where the lines behind it end: its image where all of them are skipped
abbrev pub pack_output : ListingValue → Ending → Output
pack_output listing AtEnd = record { text = image_of listing; exit = Done }
pack_output listing (AtFault line fault) = told_end (ScheduleRefused line fault)
pack_output listing AtLimit = told_end TooLong

-- what the command comes to with a listing, the number of its line `end` and the lines behind that: nothing is written before
-- the last of them was read
abbrev pub pack_course : Behind
pack_course listing last rest = ends_in (pack_output listing (passed last rest))
