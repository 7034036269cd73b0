-- What touches fetch over shared leaf tables, and what these keep behind them (this project's own).
use Rattle.std.specs.Prelude.{ℕ, Bool, false, not, ◌&&◌, ◌||◌, ◌/◌, List, [], ◌∷◌, length}
use Rattle.cap_format.specs.Capability.{Capability}
use Rattle.object_store.specs.Store.{Items}
use Rattle.walk_meaning.specs.declared.kind.Kind.{Kind}
use Rattle.map_cache.specs.Kept.{counted}
use Rattle.shared_leaves.specs.Kept.{SharedKept, added, addition_of, cost_of, fits, is_new, kept_after, kept_without}
use Rattle.machine_state.specs.Outcome.{Touch, spent, kept_at, kept_after as kept_behind}
use Rattle.machine_state.specs.Outcome.Touch.{DataAccess}

-- how many slots touches fetch over shared leaf tables that keep this before them
abbrev pub fetched_by : SharedKept → List Touch → ℕ
fetched_by kept touches = spent cost_of kept_after kept_without kept touches

-- what they keep behind them
abbrev pub kept_by : SharedKept → List Touch → SharedKept
kept_by kept touches = kept_behind cost_of kept_after kept_without kept touches

-- how many frames are in use for what is kept: one for each key
abbrev pub frames : SharedKept → ℕ
frames kept = length kept.keys

-- whether an access adds a page, and there would be too much
abbrev pub overflows : SharedKept → Items → Capability → ℕ → Kind → Bool
overflows kept o c address kind =
    is_new kept o c address kind
    && not (fits (added kept (counted o c) (address / 4096) (addition_of o c address kind)))

-- whether everything is forgotten for want of room at one touch
abbrev pub overflows_at : SharedKept → Touch → Bool
overflows_at kept (DataAccess o space address kind) = overflows kept o space address kind
overflows_at kept _ = false

-- or at some
abbrev pub overflows_in : SharedKept → List Touch → Bool
overflows_in kept [] = false
overflows_in kept (t ∷ ts) =
    overflows_at kept t || overflows_in (kept_at cost_of kept_after kept_without kept t) ts
