-- How many slots of GPTs the command reads (this project's own).
use Rattle.std.specs.Prelude.{ℕ, ◌+◌, ◌*◌, ◌≤◌, List, length}
use Rattle.cap_format.specs.declared.kind.CapKind.TheVariants.{Gpt}
use Rattle.object_store.specs.Store.{size_of}
use Rattle.machine_state.specs.declared.event.Event.{Event}
use Rattle.machine_state.specs.State.{State}
use Rattle.kernel_core.specs.Outcome.{Touch}
use Rattle.kernel_core.specs.Run.{run_state, run_touches}
use Rattle.image_builder.specs.Boot.{booted}
use Rattle.listing_read.specs.Listing.{Listed, Good}
use Rattle.reverse_run.specs.Reads.{a_memento, an_undo}
use Rattle.schedule_replay.specs.Scheduled.{Scheduled, Ending, AtEnd, scheduled}
use Rattle.courses.specs.Ending.{IsGiven}
use Rattle.courses.specs.declared.exit.Exit.{Exit}
use Rattle.back_command.specs.Back.{undone, events_left}

-- so many were read, where no fault and no want of memory ended the call; and never more than so many beside them
pub record FetchesBetween (own beside fetches fetches' : ℕ) (exit : Exit) : Type 0 where
  pub least : IsGiven exit → fetches + own ≤ fetches'
  pub most : fetches' ≤ fetches + own + beside

-- at least those that the events fetch where none is remembered, by how many slots touches fetch; and where no line is refused,
-- all slots of the GPTs of the state that is written
abbrev pub own_slots : (List Touch → ℕ) → ℕ → State → List Event → Ending → ℕ
own_slots count number s events AtEnd = count (run_touches s events) + 16 * size_of (run_state s (events_left number events)).store.items Gpt
own_slots count number s events _ = count (run_touches s events)

-- and beside these at most those that are read to remember each event, and to undo those that are undone
abbrev pub slots_beside : ℕ → List Event → Ending → ℕ
slots_beside number events AtEnd = a_memento * length events + an_undo * undone number events
slots_beside number events _ = a_memento * length events

-- so it is of what the lines of a schedule ask for, from this state on
abbrev pub FetchesUndoing : (List Touch → ℕ) → ℕ → State → ℕ → ℕ → Exit → Scheduled → Type 0
FetchesUndoing count number s fetches fetches' exit all =
    FetchesBetween (own_slots count number s all.events all.ending) (slots_beside number all.events all.ending) fetches fetches' exit

-- and of a listing and the lines behind it; where the listing is refused none is read
abbrev pub FetchesListed : (List Touch → ℕ) → ℕ → ℕ → ℕ → Exit → Listed → Type 0
FetchesListed count number fetches fetches' exit (Good listing last rest) =
    FetchesUndoing count number (booted listing) fetches fetches' exit (scheduled listing.sizes.harts last rest)
FetchesListed count number fetches fetches' exit _ = FetchesBetween 0 0 fetches fetches' exit
