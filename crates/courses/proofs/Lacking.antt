-- That no memory was wanting, by how a call was concluded.
use Rattle.std.proofs.Common.{◌≡◌, ◌≢◌, ◌∙◌, ℕ, List, Option, Some, Err, ap}
use Rattle.judged_lines.specs.declared.stop.Stop.{Stop}
use Rattle.schedule_replay.specs.declared.replayed.Replayed.{Replayed}
use Rattle.schedule_replay.specs.declared.replayed.Replayed.TheVariants as answers
use Rattle.courses.specs.Ending.{Concludes, EndsIn, Output}
use Rattle.courses.specs.Stopped.{replay_exit, stop_exit}
use Rattle.courses.specs.declared.exit.Exit.{Exit}
use Rattle.courses.specs.declared.exit.Exit.TheVariants.{OutOfMemory}
use Rattle.courses.proofs.Concluding.{concludes-own}
use Rattle.courses.proofs.Lasts.{ends-own}
use Rattle.courses.proofs.Rests.{stop-given}

-- no exit of a replay tells that memory was wanting
pub replay-memory : (a : Replayed) (given : Exit) → replay_exit a ≡ Err given → given ≢ OutOfMemory
replay-memory (answers.Ended counts) given at same = cc
replay-memory (answers.Refused line fault) given at same = cc
replay-memory answers.TooLong given at same = cc
replay-memory answers.ReadFault given at same = cc
replay-memory answers.WriteFault given at same = cc

-- nor does one of lines that are judged, where no refusal does
pub stop-memory : {F : Type 0} (refused : ℕ → F → Exit) → ((line : ℕ) (fault : F) → refused line fault ≢ OutOfMemory) → (stop : Stop F) (given : Exit)
    → stop_exit refused stop ≡ Some given → given ≢ OutOfMemory
stop-memory refused other stop given is same = stop-given refused other stop (is ∙ ap Some same)

module _ {K : Type 0} (taken : K → Option (List ℕ)) (sink_faults : K → ℕ) (mid out : K) (exit : Exit) where
  -- a call tells no lack of memory that was concluded by an exit which tells none
  pub concludes-memory : (given : Exit) → given ≢ OutOfMemory → Concludes taken sink_faults given mid out exit → exit ≢ OutOfMemory
  concludes-memory given other c same = other (concludes-own taken sink_faults mid out exit given c OutOfMemory (λ cut. cc) same)

  -- nor does one that ended in a text whose exit tells none
  pub ends-memory : (o : Output) → o.exit ≢ OutOfMemory → EndsIn taken sink_faults mid out exit o → exit ≢ OutOfMemory
  ends-memory o other e same = other (ends-own _ _ _ _ exit o e OutOfMemory (λ cut. cc) same)
