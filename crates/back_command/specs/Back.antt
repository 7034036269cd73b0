-- What `back N` comes to (this project's own).
use Rattle.std.specs.Prelude.{ℕ, ◌-◌, min, List, ◌++◌, length, take, codes, decimal}
use Rattle.machine_state.specs.declared.event.Event.{Event}
use Rattle.machine_state.specs.State.{State}
use Rattle.kernel_core.specs.Run.{run_state}
use Rattle.image_builder.specs.Boot.{booted}
use Rattle.run_text.specs.State.{state_text}
use Rattle.schedule_replay.specs.Scheduled.{Scheduled, Ending, AtEnd, AtFault, AtLimit, scheduled}
use Rattle.courses.specs.Course.{Course, ends_in}
use Rattle.courses.specs.Ending.{Output, told_end}
use Rattle.courses.specs.Listed.{Behind}
use Rattle.courses.specs.declared.exit.Exit.TheVariants.{Done, ScheduleRefused, TooLong}

-- how many events of a run are remembered, unless it has fewer: its last
abbrev pub most_remembered : ℕ
most_remembered = 256

-- how many events are undone: as many as asked for, but no more than there were, and no more than are remembered
abbrev pub undone : ℕ → List Event → ℕ
undone number events = min number (min most_remembered (length events))

-- the events that are left: all but the last of them
abbrev pub events_left : ℕ → List Event → List Event
events_left number events = take (length events - undone number events) events

-- the line that tells how many events were undone
unfoldable pub count_text : ℕ → List ℕ
count_text count = codes "back " ++ decimal count ++ codes "\n"

-- what is written of so many events undone and of the state before them
abbrev pub back_text : ℕ → State → List ℕ
back_text count s = count_text count ++ state_text s

-- what is written, and how the program ends, by the events from a state on and by the place where the lines end: the state
-- is that of the run of all events but those that are undone
abbrev pub output_at : ℕ → State → List Event → Ending → Output
output_at number s events AtEnd = record { text = back_text (undone number events) (run_state s (events_left number events)); exit = Done }
output_at number s events (AtFault line fault) = told_end (ScheduleRefused line fault)
output_at number s events AtLimit = told_end TooLong

-- what the command comes to with what the lines ask for: nothing is written as they are read, and which slots are fetched is
-- no part of it
abbrev pub undoing : ℕ → State → Scheduled → Course
undoing number s all = ends_in (output_at number s all.events all.ending)

-- what it comes to with a listing, the number of its line `end` and the lines behind that: the machine of the listing runs
-- their events
abbrev pub back_course : ℕ → Behind
back_course number listing last rest = undoing number (booted listing) (scheduled listing.sizes.harts last rest)
