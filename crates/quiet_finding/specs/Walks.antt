-- Walks that are kept of a process: what they say of a state. (Own.)
use Rattle.std.specs.Prelude.{◌≡◌, ℕ, ◌/◌, ◌%◌, ◌<◌, true, length, Some, Ok, IfSome}
use Rattle.schedules.specs.Queues.{hart_of}
use Rattle.walk_meaning.specs.declared.kind.Kind.{Kind}
use Rattle.walk_meaning.specs.declared.kind.Kind.TheVariants.{Fetch, Load, Store}
use Rattle.machine_state.specs.State.{State}
use Rattle.machine_state.specs.DataAccess.{data_access}
use Rattle.quiet_runs.specs.Finding.{may_reach}
use Rattle.quiet_finding.specs.declared.walks.QuietPage.{QuietPage}
use Rattle.quiet_finding.specs.declared.walks.KeptWalks.{KeptWalks}

-- an access of this kind to any of the addresses ends at the page, which there is, and may reach it in a quiet step
pub record LeadsQuietly (s : State) (p : ℕ) (kind : Kind) (kept : QuietPage) : Type 0 where
  pub there : kept.page < length s.store.contents.pages
  pub may : (at : ℕ) → at / 4096 ≡ kept.addresses → may_reach s p at kind kept.page ≡ true
  pub leads : (at : ℕ) → at / 4096 ≡ kept.addresses
      → data_access s p at kind ≡ Ok (record { page = kept.page; offset = at % 4096 })

-- all walks that are kept lead there
abbrev pub AreKept : State → ℕ → KeptWalks → Type 0
AreKept s p kept = IfSome kept.fetch (LeadsQuietly s p Fetch)
    × IfSome kept.load (LeadsQuietly s p Load) × IfSome kept.store (LeadsQuietly s p Store)

-- those of the process on a hart do, if there is one
abbrev pub AreKeptOn : State → ℕ → KeptWalks → Type 0
AreKeptOn s hart kept = (p : ℕ) → hart_of s.queues hart ≡ Some p → AreKept s p kept
