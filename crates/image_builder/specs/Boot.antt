-- The state of a machine at its start.
use Rattle.std.specs.Prelude.{◌≡◌, ℕ, ◌≤◌, Bool, false, fold, filter}
use Rattle.std.specs.List.{range_with_len}
use Rattle.cap_format.specs.declared.kind.CapKind.TheVariants.{Process}
use Rattle.object_store.specs.Store.{Store, size_of, process_at}
use Rattle.object_store.specs.Meaning.{state_map}
use Rattle.schedules.specs.Standing.{empty_queues}
use Rattle.schedules.specs.Ready.{places_due}
use Rattle.machine_state.specs.State.{State}
use Rattle.machine_state.specs.Setters.{ready}
use Rattle.listing_read.specs.Statement.{ListingValue}
use Rattle.image_builder.specs.Given.{last_given, run_given, final_counts, final_objects}

-- the objects: each thing in them is as the last statement says that names it, and empty where none does
abbrev pub objects_of : ListingValue → Store
objects_of listing = final_objects (final_counts listing.sizes listing.statements) listing.statements listing.sizes

-- whether process `p` runs: what the last statement on it says
abbrev pub is_running : ListingValue → ℕ → Bool
is_running listing p = last_given (run_given p) false listing.statements

-- a machine with these objects, in which no process stands anywhere
abbrev pub at_rest : Store → State
at_rest s = record { store = state_map s; queues = empty_queues (size_of s.items Process) s.harts; halted = false }

-- the state after those of the first `n` processes that run are made ready, in the order of their numbers
abbrev pub made_ready : (ℕ → Bool) → ℕ → State → State
made_ready runs n s = fold ready s (filter runs (range_with_len 0 n))

-- the state of a machine at its start
abbrev pub booted : ListingValue → State
booted listing = made_ready (is_running listing) listing.sizes.processes (at_rest (objects_of listing))

-- no process from number `p` on runs
abbrev pub StoppedFrom : ℕ → Store → Type 0
StoppedFrom p s = (x : ℕ) → p ≤ x → places_due (process_at s x).state ≡ 0
