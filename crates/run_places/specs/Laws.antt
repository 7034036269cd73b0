-- Laws of the places that objects have, as statements (this project's own).
use Rattle.std.specs.Prelude.{List}
use Rattle.kernel_core.specs.Run.{run_state}
use Rattle.kernel_core.specs.State.{State}
use Rattle.machine_state.specs.declared.event.Event.{Event}
use Rattle.listing_read.specs.Statement.{ListingValue}
use Rattle.image_builder.specs.Boot.{booted}
use Rattle.run_places.specs.Places.{HasPlaces}

-- the objects of a machine have their places at its start
abbrev pub BootedHasPlaces : Type 0
BootedHasPlaces = (listing : ListingValue) → HasPlaces (booted listing).store

-- and a run keeps them
abbrev pub RunsKeepPlaces : Type 0
RunsKeepPlaces = (s : State) (events : List Event) → HasPlaces s.store → HasPlaces (run_state s events).store
