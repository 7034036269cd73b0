-- What an operation changes, as data, and the one function that applies it.
use Rattle.std.specs.Prelude.{ℕ, List, [], ◌∷◌, Option, Some, None}
use Rattle.cap_format.specs.declared.kind.CapKind.{CapKind}
use Rattle.cap_format.specs.declared.kind.CapKind.TheVariants.{Gpt}
use Rattle.cap_format.specs.declared.item.Item.{Item}
use Rattle.cap_format.specs.declared.item.Item.TheVariants.{Header, Slot}
use Rattle.cap_format.specs.Capability.{Capability}
use Rattle.gpt_objects.specs.Header.{HeaderValue}
use Rattle.process_objects.specs.Process.{ProcessValue}
use Rattle.endpoint_objects.specs.declared.endpoint.Endpoint.{Endpoint as EndpointValue}
use Rattle.object_store.specs.Store.{set_slot, set_header, with_items, with_page, with_cappage, with_process, with_endpoint}
use Rattle.schedules.specs.Queues.{left}
use Rattle.schedules.specs.Ready.{readied, woken, runs_of}
use Rattle.operations.specs.System.{System, Reading, with_store, with_runs, system, schedule_by, destroyed_in}

-- One change: other contents of one object, a slot or the header of a GPT; a process that leaves its place, that is
-- made ready, or whose sleepers are; an object that is destroyed.
pub data Change : Type 0 where
  PageIs : ℕ → List ℕ → Change
  CapPageIs : ℕ → List Capability → Change
  SlotIs : ℕ → ℕ → Capability → Change
  HeaderIs : ℕ → HeaderValue → Change
  EndpointIs : ℕ → EndpointValue → Change
  ProcessIs : ℕ → ProcessValue → Change
  Left : ℕ → Change
  Readied : ℕ → Change
  Woken : ℕ → Change
  Destroyed : CapKind → ℕ → Change

-- the system after a change
abbrev pub applied : Reading → System → Change → System
applied reading w (PageIs n page) = with_store w (with_page w.store n page)
applied reading w (CapPageIs n page) = with_store w (with_cappage w.store n page)
applied reading w (SlotIs g i c) = with_store w (with_items w.store (set_slot w.store.items g i c))
applied reading w (HeaderIs g header) = with_store w (with_items w.store (set_header w.store.items g header))
applied reading w (EndpointIs e endpoint) = with_store w (with_endpoint w.store e endpoint)
applied reading w (ProcessIs p process) = with_store w (with_process w.store p process)
applied reading w (Left p) = system w.store (left w.queues p)
applied reading w (Readied p) = with_runs w (readied (schedule_by reading w.store p) p (runs_of w.store w.queues))
applied reading w (Woken p) = with_runs w (woken (schedule_by reading w.store) p (runs_of w.store w.queues))
applied reading w (Destroyed kind n) = with_store w (destroyed_in reading kind n w.store)

-- the system after these changes, one after the other
abbrev pub applied_all : Reading → System → List Change → System
applied_all reading w [] = w
applied_all reading w (change ∷ changes) = applied_all reading (applied reading w change) changes

-- the item that a change is of, also where it becomes what it was; other changes are of none
abbrev pub item_of : Change → Option Item
item_of (SlotIs g i c) = Some (Slot g i)
item_of (HeaderIs g header) = Some (Header Gpt g)
item_of (Destroyed kind n) = Some (Header kind n)
item_of _ = None

-- the first of two, where there is one
abbrev pub first_item : Option Item → Option Item → Option Item
first_item None other = other
first_item (Some item) other = Some item

-- the item that these changes are of; no operation changes two
abbrev pub item_in : List Change → Option Item
item_in [] = None
item_in (change ∷ changes) = first_item (item_of change) (item_in changes)
