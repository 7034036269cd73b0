-- Which objects changes write, and in which item the maps before and after differ.
use Rattle.std.specs.Prelude.{ℕ, List, [], ◌∷◌, ◌++◌, Option, Some, None}
use Rattle.cap_format.specs.declared.kind.CapKind.TheVariants.{Page, CapPage, Gpt, Endpoint, Process}
use Rattle.cap_format.specs.declared.item.Item.{Item}
use Rattle.object_store.specs.Store.{Items}
use Rattle.object_store.specs.Differ.{DifferIn, DifferInNone}
use Rattle.object_store.specs.Object.{ObjectName, object_name}
use Rattle.schedules.specs.Queues.{QueuesValue, sleepers_of}
use Rattle.schedules.specs.Ready.{process_names}
use Rattle.operations.specs.System.{System, Reading}
use Rattle.operations.specs.Change.{Change, PageIs, CapPageIs, SlotIs, HeaderIs, EndpointIs, ProcessIs, Left, Readied, Woken, Destroyed, applied}

-- the objects that a change writes; a process that leaves its place is written nowhere
abbrev pub names_of : QueuesValue → Change → List ObjectName
names_of q (PageIs n page) = object_name Page n ∷ []
names_of q (CapPageIs n page) = object_name CapPage n ∷ []
names_of q (SlotIs g i c) = object_name Gpt g ∷ []
names_of q (HeaderIs g header) = object_name Gpt g ∷ []
names_of q (EndpointIs e endpoint) = object_name Endpoint e ∷ []
names_of q (ProcessIs p process) = object_name Process p ∷ []
names_of q (Left p) = []
names_of q (Readied p) = object_name Process p ∷ []
names_of q (Woken p) = process_names (sleepers_of q p)
names_of q (Destroyed kind n) = object_name kind n ∷ []

-- the objects that changes write, one after the other
abbrev pub names_in : Reading → System → List Change → List ObjectName
names_in reading w [] = []
names_in reading w (change ∷ changes) = names_of w.queues change ++ names_in reading (applied reading w change) changes

-- two maps of items differ in this item alone, or in none where there is none
abbrev pub DifferBy : Option Item → Items → Items → Type 0
DifferBy None o p = DifferInNone o p
DifferBy (Some item) o p = DifferIn item o p
