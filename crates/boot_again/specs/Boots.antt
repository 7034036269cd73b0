-- What the printed statements of objects make of a machine at its start: the objects again.
use Rattle.std.specs.Prelude.{ℕ, ◌≡◌, ◌<◌, map, Some}
use Rattle.cap_format.specs.declared.kind.CapKind.TheVariants.{Process}
use Rattle.process_objects.specs.Process.{with_state, stopped}
use Rattle.object_store.specs.Store.{Store, sizes_of, size_of, process_at, with_contents}
use Rattle.object_store.specs.Meaning.{state_map}
use Rattle.listing_read.specs.Statement.{ListingValue}
use Rattle.image_builder.specs.Boot.{objects_of, is_running}
use Rattle.read_back.specs.Laws.{runs_of}
use Rattle.read_back.specs.Printed.{statements_of}
use Rattle.read_back.specs.Listable.{IsListable}

-- the listing of the printed statements
abbrev pub printed_listing : Store → ListingValue
printed_listing s = record { sizes = sizes_of s; statements = statements_of s }

-- the objects with each process stopped, and all else the same
abbrev pub all_stopped : Store → Store
all_stopped s =
    with_contents s (record s.contents { processes = map (λ process. with_state process stopped) s.contents.processes })

-- the start of a machine from this listing
pub record BootsAgain (s : Store) : Type 0 where
  -- its objects mean these objects, of which each process is stopped
  pub objects : state_map (objects_of (printed_listing s)) ≡ all_stopped s
  -- and the processes are made ready that run here, and no others
  pub running : (p : ℕ) → p < size_of s.items Process →
      Some (is_running (printed_listing s) p) ≡ runs_of (process_at s p).state

-- the printed statements of objects make the objects again
abbrev pub PrintedObjectsBoot : Type 0
PrintedObjectsBoot = (s : Store) → IsListable s → BootsAgain s
