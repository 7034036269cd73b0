-- What `migrate` comes to, and `unpack` of what was packed (this project's own).
use Rattle.std.specs.Prelude.{◌++◌}
use Rattle.listing_read.specs.Statement.{ListingValue}
use Rattle.statement_text.specs.Text.{events_text, listing_text}
use Rattle.schedule_replay.specs.Asked.{Asked, asked}
use Rattle.schedule_replay.specs.Scheduled.{Ending, AtEnd, AtFault, AtLimit}
use Rattle.courses.specs.Course.{Course, ends_in}
use Rattle.courses.specs.Ending.{Output, told_end}
use Rattle.courses.specs.Listed.{Behind}
use Rattle.courses.specs.declared.exit.Exit.TheVariants.{Done, ScheduleRefused, TooLong}

-- what is written behind the lines, by the place where they end: nothing where all of them were read
abbrev pub last_of : Ending → Output
last_of AtEnd = told_end Done
last_of (AtFault line fault) = told_end (ScheduleRefused line fault)
last_of AtLimit = told_end TooLong

-- what the command comes to, by what the lines behind a listing ask for: the listing's text, and a line for each of them
-- that is not skipped
abbrev pub migrated : ListingValue → Asked → Course
migrated listing all = record (ends_in (last_of all.ending)) { records = listing_text listing ++ events_text all.lines }

-- what it comes to with a listing, the number of its line `end` and the lines behind that: nothing runs
abbrev pub migrate_course : Behind
migrate_course listing last rest = migrated listing (asked listing.sizes.harts last rest)
