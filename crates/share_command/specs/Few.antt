-- How few frames `share` tells, and how few slots it fetches (this project's own).
use Rattle.std.specs.Prelude.{◌≡◌, ◌≤◌, ◌+◌, ℕ, true}
use Rattle.shared_economy.specs.Need.{frames_needed, need_fits}
use Rattle.courses.specs.Bounds.{economy_bound, run_bound, sharp_economy_bound, sharp_run_bound}
use Rattle.courses.specs.Course.{Course}
use Rattle.share_command.specs.Share.{frames_text}

-- The number of frames that is told: in every run at most the shared need, and at most 256; and where the need fits,
-- it is exactly the need.
pub record TellsFew (course : Course) : Type 0 where
  pub count : ℕ
  pub told : course.last.text ≡ frames_text count
  pub needed : count ≤ frames_needed course.touches
  pub most : count ≤ 256
  pub exact : need_fits course.touches ≡ true → count ≡ frames_needed course.touches

-- No more slots than the bounds are fetched: those of every run, and where the shared need fits, those of what has to
-- be walked.
pub record IsSharedBounded (fetches fetches' : ℕ) (course : Course) : Type 0 where
  pub run : fetches' ≤ fetches + run_bound course
  pub sharp_run : fetches' ≤ fetches + sharp_run_bound course
  pub economy : need_fits course.touches ≡ true → fetches' ≤ fetches + economy_bound course
  pub sharp_economy : need_fits course.touches ≡ true → fetches' ≤ fetches + sharp_economy_bound course
