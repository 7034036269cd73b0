-- The laws of runs: what their touches are, and what they let a mapping cache fetch (this project's own).
use Rattle.std.specs.Prelude.{true, ◌≡◌, ◌+◌, ◌*◌, ◌≤◌, List}
use Rattle.map_cache.specs.Kept.{KeptValue, nothing}
use Rattle.machine_state.specs.declared.event.Event.{Event}
use Rattle.machine_state.specs.State.{State}
use Rattle.kernel_core.specs.Run.{run_state, run_touches}
use Rattle.fetch_economy.specs.Ages.{AgesAreTold}
use Rattle.fetch_economy.specs.Counts.{accesses, gpt_calls, fetched_by}
use Rattle.fetch_economy.specs.Economy.{at_start, need_fits, uncovered}
use Rattle.fetch_economy.specs.Follows.{Follows}

-- along a run each access is over the items of its moment, and each change of an item is told
abbrev pub RunsAreFollowed : Type 0
RunsAreFollowed =
    (s : State) (events : List Event) → Follows s.store.items (run_touches s events) (run_state s events).store.items

-- so each age that changes along a run is told
abbrev pub RunsTellAges : Type 0
RunsTellAges =
    (s : State) (events : List Event) → AgesAreTold s.store.items (run_touches s events) (run_state s events).store.items

-- the bound in every run, whatever is kept before it
abbrev pub RunsAreBound : Type 0
RunsAreBound =
    (kept : KeptValue) (s : State) (events : List Event) →
    fetched_by kept (run_touches s events) ≤ 33 * accesses (run_touches s events) + gpt_calls (run_touches s events)

-- the bound where the need of a run fits
abbrev pub RunsAreEconomic : Type 0
RunsAreEconomic =
    (s : State) (events : List Event) → need_fits (run_touches s events) ≡ true →
    fetched_by nothing (run_touches s events) ≤ 33 * uncovered at_start (run_touches s events) + gpt_calls (run_touches s events)
