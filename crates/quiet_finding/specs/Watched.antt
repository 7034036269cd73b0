-- What is watched, as it is listed. (Own.)
use Rattle.std.specs.Prelude.{ℕ, List}
use Rattle.quiet_runs.specs.Runs.{Watch, watch_by}

-- the processes whose registers are watched, and the pages whose bytes are
pub record WatchedValue : Type 0 where
  pub processes : List ℕ
  pub pages : List ℕ

-- these processes and these pages
abbrev pub watched : List ℕ → List ℕ → WatchedValue
watched processes pages = record { processes = processes; pages = pages }

-- who watches them
abbrev pub watch_of : WatchedValue → Watch
watch_of w = watch_by w.processes w.pages
