-- What a command comes to with the lines behind a listing: the records of their events, and what stands behind those (this
-- project's own).
use Rattle.std.specs.Prelude.{ℕ, ◌*◌, nat_lt, if◌then◌else◌, List, ◌++◌, codes, decimal}
use Rattle.cap_format.specs.declared.kind.CapKind.TheVariants.{Gpt, Process}
use Rattle.object_store.specs.Store.{size_of}
use Rattle.walk_meaning.specs.Trail.{slots}
use Rattle.walk_meaning.specs.Walk.{access}
use Rattle.walk_meaning.specs.declared.kind.Kind.{Kind}
use Rattle.machine_state.specs.declared.event.Event.{Event}
use Rattle.image_builder.specs.Boot.{booted}
use Rattle.kernel_core.specs.State.{State, space_of}
use Rattle.map_cache.specs.Held.{held_entries}
use Rattle.map_cache.specs.Kept.{KeptValue, cost_of, kept_after, kept_without, nothing}
use Rattle.run_text.specs.State.{state_text}
use Rattle.run_text.specs.Walk.{walk_text, no_process_text}
use Rattle.schedule_commands.specs.Runs.{mode_of}
use Rattle.courses.specs.Course.{Course, ends_in}
use Rattle.courses.specs.Ending.{Output, told_end}
use Rattle.courses.specs.Listed.{Behind}
use Rattle.courses.specs.Running.{Runner, run_course}
use Rattle.courses.specs.declared.exit.Exit.TheVariants.{Done, ScheduleRefused, ReadFault, WriteFault, TooLong}
use Rattle.schedule_commands.specs.Tables.{entries_text}
use Rattle.schedule_replay.specs.Scheduled.{Scheduled, scheduled}
use Rattle.schedule_replay.specs.Replay.{run_answer, count_answer}
use Rattle.schedule_replay.specs.declared.counts.Counts.{Counts}
use Rattle.schedule_replay.specs.declared.replayed.Replayed.{Replayed}
use Rattle.schedule_replay.specs.declared.replayed.Replayed.TheVariants as answers
use Rattle.schedule_commands.specs.declared.command.ScheduleCommand.{ScheduleCommand}
use Rattle.schedule_commands.specs.declared.command.ScheduleCommand.TheVariants.{Of, Summary}
use Rattle.coyotos_words.specs.declared.command.RunCommand.TheVariants.{Run, Trace, Tables, Walk}

-- what `walk` writes of a state: where an access of a process's space ends, by a walk at this moment
abbrev pub access_text : State → ℕ → Kind → ℕ → List ℕ
access_text s process kind address =
    if nat_lt process (size_of s.store.items Process) then walk_text (access s.store.items (space_of s process) address kind)
    else no_process_text

-- what `check` writes
abbrev pub count_text : ℕ → List ℕ
count_text events = codes "ok events=" ++ decimal events ++ codes "\n"

-- what `make N summary` writes
unfoldable pub summary_text : Counts → List ℕ
summary_text counts =
    codes "summary events=" ++ decimal counts.events ++ codes " messages=" ++ decimal counts.messages ++ codes " faults=" ++ decimal counts.faults ++
    codes " logs=" ++ decimal counts.logs ++ codes " destroys=" ++ decimal counts.destroys ++ codes "\n"

-- what `run` and `trace` write of the last state
abbrev pub last_state_text : State → List ℕ
last_state_text s = state_text s

-- what `tables` writes of it, and of what the mapping cache keeps then
abbrev pub tables_text : State → KeptValue → List ℕ
tables_text s kept = last_state_text s ++ entries_text (held_entries s.store.items kept)

-- what comes behind the records where all lines were read, by the last state, what is kept then, and the counts of the run
abbrev pub last_text : ScheduleCommand → State → KeptValue → Counts → List ℕ
last_text (Of Run) s kept counts = last_state_text s
last_text (Of Trace) s kept counts = last_state_text s
last_text (Of Tables) s kept counts = tables_text s kept
last_text (Of (Walk process kind address)) s kept counts = access_text s process kind address
last_text Summary s kept counts = summary_text counts

-- the slots that are fetched for it: all of each GPT to print a state, and those that the access of `walk` reads
abbrev pub fetches_for : ScheduleCommand → State → ℕ
fetches_for (Of (Walk process kind address)) s =
    if nat_lt process (size_of s.store.items Process) then slots s.store.items (space_of s process) address kind
    else 0
fetches_for (Of state) s = 16 * size_of s.store.items Gpt
fetches_for Summary s = 0

-- the accesses that are made for it
abbrev pub accesses_for : ScheduleCommand → State → ℕ
accesses_for (Of (Walk process kind address)) s = if nat_lt process (size_of s.store.items Process) then 1 else 0
accesses_for _ s = 0

-- the GPTs that are printed
abbrev pub printed_for : ScheduleCommand → State → ℕ
printed_for (Of (Walk process kind address)) s = 0
printed_for (Of state) s = size_of s.store.items Gpt
printed_for Summary s = 0

-- a command as one that runs the lines
abbrev pub runner_of : ScheduleCommand → Runner KeptValue
runner_of command = record {
  mode = mode_of command;
  text = last_text command;
  fetches = fetches_for command;
  accesses = accesses_for command;
  printed = printed_for command;
  entries = λ s kept. held_entries s.store.items kept;
}

-- ---- the lines behind a listing

-- over the mapping cache, which keeps nothing at first, the events of a run come first, and then what its answer comes to
abbrev pub course_behind : ScheduleCommand → State → List Event → Replayed → Course
course_behind command s events answer = run_course cost_of kept_after kept_without nothing (runner_of command) s events answer

-- what a command comes to with what the lines ask for
abbrev pub course_of : ScheduleCommand → State → Scheduled → Course
course_of command s all = course_behind command s all.events (run_answer s all)

-- what a command comes to with a listing, the number of its line `end` and the lines behind that: the machine of the
-- listing runs their events
abbrev pub schedule_course : ScheduleCommand → Behind
schedule_course command listing last rest = course_of command (booted listing) (scheduled listing.sizes.harts last rest)

-- what `check` writes last, and how the program ends, by the answer of a count
abbrev pub counted : Replayed → Output
counted (answers.Ended counts) = record { text = count_text counts.events; exit = Done }
counted (answers.Refused line fault) = told_end (ScheduleRefused line fault)
counted answers.TooLong = told_end TooLong
counted answers.ReadFault = told_end ReadFault
counted answers.WriteFault = told_end WriteFault

-- what `check` comes to with a listing, the number of its line `end` and the lines behind that: nothing runs, and their events
-- are counted
abbrev pub check_course : Behind
check_course listing last rest = ends_in (counted (count_answer (scheduled listing.sizes.harts last rest)))
