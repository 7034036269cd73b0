-- Why a call on a source or a sink failed, as its count of faults tells it. All is this project's own.
use Rattle.std.specs.Prelude.{◌≡◌, ℕ, ◌+◌, ◌-◌, ◌^◌, ◌≤◌, min, cond, is_ok, OnOk, OnErr, Result}

-- the number after one more, which stays at 2^64 - 1 once it is there
abbrev pub counted : ℕ → ℕ
counted n = min (n + 1) (2 ^ 64 - 1)

-- a count of faults rose, or stands at its last value
abbrev pub Rose : ℕ → ℕ → Type 0
Rose before now = counted before ≤ now

-- a count of faults never falls, stays where the call succeeds and rises where it fails
pub record HasCause {T E : Type 0} (before now : ℕ) (result : Result T E) : Type 0 where
  pub later : before ≤ now
  pub quiet : OnOk result (now ≡ before)
  pub rose : OnErr result (Rose before now)

-- a count of faults where every error is one fault more, and nothing else is
abbrev pub faults_after : {T E : Type 0} → ℕ → Result T E → ℕ
faults_after before result = cond (is_ok result) before (counted before)
