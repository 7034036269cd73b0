-- Where lines end, by the answer that their end gives.
use Rattle.std.proofs.Common.{◌≡◌, ℕ, refl}
use Rattle.listing_read.specs.declared.fault.ScheduleFault.{ScheduleFault}
use Rattle.schedule_replay.specs.Replay.{answer_at}
use Rattle.schedule_replay.specs.Scheduled.{AtEnd, AtFault, AtLimit, Ending}
use Rattle.schedule_replay.specs.declared.counts.Counts.{Counts}
use Rattle.schedule_replay.specs.declared.replayed.Replayed.TheVariants as answers

-- all lines were read
pub ended-at : (counts all : Counts) (ending : Ending) → answers.Ended counts ≡ answer_at all ending → ending ≡ AtEnd
ended-at counts all AtEnd same = refl
ended-at counts all (AtFault line fault) same = cc
ended-at counts all AtLimit same = cc

-- a line was refused
pub refused-at : (line : ℕ) (fault : ScheduleFault) (all : Counts) (ending : Ending) → answers.Refused line fault ≡ answer_at all ending → ending ≡ AtFault line fault
refused-at line fault all AtEnd same = cc
refused-at line fault all (AtFault l f) same = let one : line ≡ l = cc in let other : fault ≡ f = cc in rw (one, other) refl
refused-at line fault all AtLimit same = cc

-- the input goes on behind the last byte that is read
pub past-at : (all : Counts) (ending : Ending) → answers.TooLong ≡ answer_at all ending → ending ≡ AtLimit
past-at all AtEnd same = cc
past-at all (AtFault line fault) same = cc
past-at all AtLimit same = refl
