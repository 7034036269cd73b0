-- What the program comes to with its input (this project's own).
use Rattle.std.specs.Prelude.{ℕ, List, Option, Some, None}
use Rattle.coy_io.specs.Lines.{parts_of}
use Rattle.kernel_core.specs.Run.{run_state}
use Rattle.kernel_core.specs.State.{State}
use Rattle.image_builder.specs.Boot.{booted}
use Rattle.listing_read.specs.Listing.{Listed, Good, listing_of}
use Rattle.listing_read.specs.declared.place.Place.TheVariants.{Header}
use Rattle.separation_policy.specs.Making.{first_policy}
use Rattle.separation_policy.specs.Policy.{PolicyValue}
use Rattle.schedule_replay.specs.Scheduled.{Ending, AtEnd, AtFault, AtLimit, Scheduled, scheduled}
use Rattle.courses.specs.Course.{ends_in}
use Rattle.courses.specs.Ending.{Output, told_end}
use Rattle.courses.specs.Listed.{Behind}
use Rattle.courses.specs.declared.exit.Exit.TheVariants.{PolicyRefused, ScheduleRefused, TooLong}
use Rattle.separation_program.specs.Stated.{Stated, States, RefusedAt, PastEnd, stated}

-- ---- what is judged

-- a policy, and the state of which it is judged whether it holds
pub record Judged : Type 0 where
  pub policy : PolicyValue
  pub state : State

-- what is judged behind the events of a schedule: the state that they lead to, where no line of it is refused
abbrev pub judged_at : PolicyValue → State → Ending → Option Judged
judged_at policy s AtEnd = Some (record { policy = policy; state = s })
judged_at policy s _ = None

-- what is judged of a policy and what the lines of a schedule ask for, from this state on
abbrev pub judged_of : PolicyValue → State → Scheduled → Option Judged
judged_of policy s all = judged_at policy (run_state s all.events) all.ending

-- what is judged of a machine and what lines state
abbrev pub judged_by : State → ℕ → Stated → Option Judged
judged_by s harts (States policy last rest) = judged_of policy s (scheduled harts last rest)
judged_by s harts _ = None

-- what is judged of a listing and the lines behind it
abbrev pub judged_behind : Listed → Option Judged
judged_behind (Good listing last rest) = judged_by (booted listing) listing.sizes.harts (stated (first_policy listing.sizes) last rest)
judged_behind _ = None

-- what is judged of all bytes of an input, where no line of it is refused
abbrev pub judged : List ℕ → Option Judged
judged bytes = judged_behind (listing_of Header 1 (parts_of bytes))

-- ---- what is written

-- by what is told of a policy and the state that is judged
module _ (told : PolicyValue → State → Output) where
  -- what is written behind the events of a schedule: what is told of the state that they lead to, or the refusal of a line
  abbrev pub ended_output : PolicyValue → State → Ending → Output
  ended_output policy s AtEnd = told policy s
  ended_output policy s (AtFault line fault) = told_end (ScheduleRefused line fault)
  ended_output policy s AtLimit = told_end TooLong

  -- what is written of a policy and what the lines of a schedule ask for, from this state on
  abbrev pub judging : PolicyValue → State → Scheduled → Output
  judging policy s all = ended_output policy (run_state s all.events) all.ending

  -- what is written of a machine and what lines state
  abbrev pub stated_output : State → ℕ → Stated → Output
  stated_output s harts (States policy last rest) = judging policy s (scheduled harts last rest)
  stated_output s harts (RefusedAt line fault) = told_end (PolicyRefused line fault)
  stated_output s harts PastEnd = told_end TooLong

  -- what the program comes to with a listing, the number of its line `end` and the lines behind that; which slots are fetched is no
  -- part of it
  abbrev pub separation_course : Behind
  separation_course listing last rest = ends_in (stated_output (booted listing) listing.sizes.harts (stated (first_policy listing.sizes) last rest))

-- ---- what is so of it

-- something was judged, of which this holds
abbrev pub HasJudged : (PolicyValue → State → Type 0) → Option Judged → Type 0
HasJudged P None = ⊥
HasJudged P (Some j) = P j.policy j.state
