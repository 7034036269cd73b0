-- How many slots of GPTs the program reads for its input (this project's own).
use Rattle.std.specs.Prelude.{◌≡◌, ◌⊎◌, ℕ, ◌+◌, ◌*◌, List, [], ◌∷◌, length, Option, IfSome}
use Rattle.std.specs.Io.KnownBytes.{IsAtEnd}
use Rattle.coy_io.specs.Lines.{parts_of}
use Rattle.machine_state.specs.declared.event.Event.{Event}
use Rattle.machine_state.specs.Outcome.{Touch, spent, spent_at}
use Rattle.machine_state.specs.Outcome.Touch.{CapAccess}
use Rattle.kernel_core.specs.Run.{run_state, run_touches}
use Rattle.kernel_core.specs.State.{State}
use Rattle.image_builder.specs.Boot.{booted}
use Rattle.listing_read.specs.Listing.{Listed, Good, listing_of}
use Rattle.listing_read.specs.declared.place.Place.TheVariants.{Header}
use Rattle.separation_policy.specs.Making.{first_policy}
use Rattle.separation_policy.specs.Policy.{PolicyValue}
use Rattle.separation_check.specs.Crossings.{forbidden_in}
use Rattle.separation_check.specs.declared.crossing.Crossing.{Crossing}
use Rattle.policy_lines.specs.Passages.{ReadsWhole}
use Rattle.policy_lines.specs.Permission.{channels_of}
use Rattle.policy_lines.specs.Needed.{passages_in}
use Rattle.schedule_replay.specs.Scheduled.{Ending, AtEnd, Scheduled, scheduled}
use Rattle.courses.specs.Wanting.{StandsAtListing}
use Rattle.separation_program.specs.Stated.{Stated, States, stated}
use Rattle.separation_program.specs.declared.words.Aim.{Aim}
use Rattle.separation_program.specs.declared.words.Aim.TheVariants.{Holds, Least}

-- How many slots touches read where nothing is kept: each access of data is walked afresh, and reads what one of a capability
-- does, which is always walked.
abbrev pub walked : List Touch → ℕ
walked touches =
    spent {K = Unit {0}} (λ k o space address kind. spent_at {K = Unit {0}} (λ k o space address kind. 0) (λ k o space address kind. k) (λ k item. k) k (CapAccess o space address kind))
    (λ k o space address kind. k) (λ k item. k) tt touches

-- the number of GPTs of a state
abbrev pub gpts_of : State → ℕ
gpts_of s = length s.store.items.counts.gpts

-- those of one passage through all slots, by what crosses: where nothing does, there is one more for each line `reads` and
-- `writes` without which the policy is tried
abbrev pub passed_by : PolicyValue → List Crossing → ℕ → ℕ
passed_by policy [] all = all + all * length (channels_of policy)
passed_by policy (first ∷ rest) all = all

-- those that are read to judge a policy of a state, or to find the least lines with which it would hold
abbrev pub judged_slots : Aim → PolicyValue → State → ℕ
judged_slots Holds policy s = passed_by policy (forbidden_in policy s) (16 * gpts_of s)
judged_slots Least policy s = 16 * gpts_of s * passages_in policy s

-- how often all slots may have been gone through where memory is wanting for more, by what crosses: never where something does, as
-- that is told without memory
abbrev pub passed_before : PolicyValue → List Crossing → ℕ
passed_before policy [] = 1 + length (channels_of policy)
passed_before policy (first ∷ rest) = 0

-- to judge a policy of a state, or to find the least lines with which it would hold
abbrev pub passages_before : Aim → PolicyValue → State → ℕ
passages_before Holds policy s = passed_before policy (forbidden_in policy s)
passages_before Least policy s = passages_in policy s

-- memory was wanting for that: all slots were gone through so often, and no slot else was read
abbrev pub LacksJudging : Aim → PolicyValue → State → ℕ → ℕ → Type 0
LacksJudging aim policy s fetches fetches' = ReadsWhole (16 * gpts_of s) (passages_before aim policy s) fetches fetches'

-- by how many slots touches read, and how many are read to judge a policy of a state
module _ (count : List Touch → ℕ) (slots : PolicyValue → State → ℕ) where
  -- those of the events of a schedule, and where no line of it is refused, those that judge the state that they lead to
  abbrev pub ended_slots : PolicyValue → State → List Event → Ending → ℕ
  ended_slots policy s events AtEnd = count (run_touches s events) + slots policy (run_state s events)
  ended_slots policy s events _ = count (run_touches s events)

  -- those of a policy and what the lines of a schedule ask for, from this state on
  abbrev pub judging_slots : PolicyValue → State → Scheduled → ℕ
  judging_slots policy s all = ended_slots policy s all.events all.ending

  -- those of a machine and what lines state: none where a line of the policy is refused
  abbrev pub stated_slots : State → ℕ → Stated → ℕ
  stated_slots s harts (States policy last rest) = judging_slots policy s (scheduled harts last rest)
  stated_slots s harts _ = 0

  -- those of a listing and the lines behind it
  abbrev pub listed_slots : Listed → ℕ
  listed_slots (Good listing last rest) = stated_slots (booted listing) listing.sizes.harts (stated (first_policy listing.sizes) last rest)
  listed_slots _ = 0

-- where memory was wanting, by how many slots touches read, and what was to be found
module _ (count : List Touch → ℕ) (aim : Aim) where
  -- behind the lines of a schedule: all of them were read, and the slots are those of their events, and those that judging the
  -- state read to which they lead
  pub record LacksBehind (policy : PolicyValue) (s : State) (all : Scheduled) (fetches fetches' : ℕ) : Type 0 where
    pub ended : all.ending ≡ AtEnd
    pub judging : LacksJudging aim policy (run_state s all.events) (fetches + count (run_touches s all.events)) fetches'

  -- behind what lines state: it is wanting nowhere else
  abbrev pub LacksStated : State → ℕ → Stated → ℕ → ℕ → Type 0
  LacksStated s harts (States policy last rest) fetches fetches' = LacksBehind policy s (scheduled harts last rest) fetches fetches'
  LacksStated s harts _ fetches fetches' = ⊥

  -- behind a listing
  abbrev pub LacksListed : Listed → ℕ → ℕ → Type 0
  LacksListed (Good listing last rest) fetches fetches' =
      LacksStated (booted listing) listing.sizes.harts (stated (first_policy listing.sizes) last rest) fetches fetches'
  LacksListed _ fetches fetches' = ⊥

-- for all bytes of an input: no slot was read, as where there was no memory for its machine, or the whole input was
abbrev pub LacksFor : Aim → List ℕ → ℕ → ℕ → Type 0
LacksFor aim bytes fetches fetches' =
    (fetches' ≡ fetches) ⊎ LacksListed walked aim (listing_of Header 1 (parts_of bytes)) fetches fetches'

-- Where memory was wanting, and how many slots had been read: the source stands at its listing, and none had; or the whole input
-- was read, and judging the state behind it had read so many.
abbrev pub WantsFor : Aim → Option (List ℕ) → Option (List ℕ) → ℕ → ℕ → Type 0
WantsFor aim held held' fetches fetches' =
    (StandsAtListing held held' × (fetches' ≡ fetches))
    ⊎ (IsAtEnd held' × IfSome held (λ bytes. LacksListed walked aim (listing_of Header 1 (parts_of bytes)) fetches fetches'))

-- those of all bytes of an input, by what is to be found of it; each access is walked afresh
abbrev pub input_slots : Aim → List ℕ → ℕ
input_slots aim bytes = listed_slots walked (judged_slots aim) (listing_of Header 1 (parts_of bytes))
