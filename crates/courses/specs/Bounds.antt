-- The bounds on the slots that the program fetches, by what the lines come to (this project's own).
use Rattle.std.specs.Prelude.{◌≡◌, ◌≤◌, ◌+◌, ◌*◌, ℕ, true}
use Rattle.fetch_economy.specs.Counts.{accesses, gpt_calls, slot_reads}
use Rattle.fetch_economy.specs.Economy.{at_start, need_fits, uncovered}
use Rattle.courses.specs.Course.{Course}

-- all accesses, with the one that is made behind the events
abbrev pub all_accesses : Course → ℕ
all_accesses course = accesses course.touches + course.last_accesses

-- those that have to be walked: the one behind the events always has
abbrev pub all_uncovered : Course → ℕ
all_uncovered course = uncovered at_start course.touches + course.last_accesses

-- in every run: 33 for each access, 1 for each invocation of a GPT's capability, and all 16 of each GPT that is printed
abbrev pub run_bound : Course → ℕ
run_bound course = 33 * all_accesses course + gpt_calls course.touches + 16 * course.printed

-- where the need fits: the same with 33 for each access that has to be walked, in the place of 33 for each access
abbrev pub economy_bound : Course → ℕ
economy_bound course = 33 * all_uncovered course + gpt_calls course.touches + 16 * course.printed

-- the same two in sharper numbers: 32 for an access, and 1 only where an operation reads a slot
abbrev pub sharp_run_bound : Course → ℕ
sharp_run_bound course = 32 * all_accesses course + slot_reads course.touches + 16 * course.printed

-- the same where the need fits, with 32 slots for each access that has to be walked
abbrev pub sharp_economy_bound : Course → ℕ
sharp_economy_bound course = 32 * all_uncovered course + slot_reads course.touches + 16 * course.printed

-- no more slots than the bounds are fetched: those of every run, and those of a run whose need of frames and records fits
pub record IsBounded (fetches fetches' : ℕ) (course : Course) : Type 0 where
  pub run : fetches' ≤ fetches + run_bound course
  pub economy : need_fits course.touches ≡ true → fetches' ≤ fetches + economy_bound course
  pub sharp_run : fetches' ≤ fetches + sharp_run_bound course
  pub sharp_economy : need_fits course.touches ≡ true → fetches' ≤ fetches + sharp_economy_bound course
