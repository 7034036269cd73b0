-- What `share` comes to (this project's own).
use Rattle.std.specs.Prelude.{ℕ, List, [], ◌++◌, codes, decimal}
use Rattle.kernel_core.specs.Outcome.{Touch}
use Rattle.kernel_core.specs.State.{State}
use Rattle.image_builder.specs.Boot.{booted}
use Rattle.shared_leaves.specs.Kept.{SharedKept, cost_of, kept_after, kept_without, nothing}
use Rattle.shared_economy.specs.Counts.{fetched_by, frames}
use Rattle.schedule_replay.specs.Scheduled.{Scheduled, scheduled}
use Rattle.schedule_replay.specs.declared.mode.Mode.TheVariants.{Records}
use Rattle.courses.specs.Course.{Course}
use Rattle.courses.specs.Listed.{Behind}
use Rattle.courses.specs.Running.{Runner, running}

-- the line that tells how many frames are in use
unfoldable pub frames_text : ℕ → List ℕ
frames_text count = codes "frames " ++ decimal count ++ codes "\n"

-- the records are those that `run` writes; in place of the last state that line stands behind them, for which nothing is
-- fetched; a mapping cache there is none
abbrev pub share_runner : Runner SharedKept
share_runner = record {
  mode = Records;
  text = λ s kept counts. frames_text (frames kept);
  fetches = λ s. 0;
  accesses = λ s. 0;
  printed = λ s. 0;
  entries = λ s kept. [];
}

-- how many slots touches fetch over the command's translator: shared leaf tables that keep nothing at first
abbrev pub shared_fetched : List Touch → ℕ
shared_fetched touches = fetched_by nothing touches

-- what the command comes to with what the lines ask for, from this state on
abbrev pub sharing : State → Scheduled → Course
sharing s all = running cost_of kept_after kept_without nothing share_runner s all

-- what it comes to with a listing, the number of its line `end` and the lines behind that: the machine of the listing runs
-- their events
abbrev pub share_course : Behind
share_course listing last rest = sharing (booted listing) (scheduled listing.sizes.harts last rest)
