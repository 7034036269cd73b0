-- What changes mean, what they leave, and which objects they write: one law for all of them.
use Rattle.std.proofs.Common.{◌≡◌, ◌<◌, ℕ, List, [], ◌∷◌, ◌++◌, map, Option, Some, None, refl, sym, ap, ◌∙◌, subst}
use Rattle.std.specs.List.{All}
use Rattle.cap_format.specs.declared.kind.CapKind.{CapKind}
use Rattle.cap_format.specs.Capability.{Capability}
use Rattle.object_store.specs.Store.{Store, Items, size_of}
use Rattle.object_store.specs.Meaning.{meaning, map_of, state_map}
use Rattle.object_store.specs.Ahead.{IsBehind, NoneAhead}
use Rattle.object_store.proofs.Behind.{NoneAhead-with_cappage, NoneAhead-with_process}
use Rattle.object_store.proofs.Destroyed.{state_map-emptied, NoneAhead-emptied}
use Rattle.object_store.proofs.DifferLaws.{DifferIn-slot_meaning, DifferIn-header_meaning, DifferIn-emptied}
use Rattle.object_store.proofs.Means.{state_map-with_cappage, state_map-with_process, state_map-with_endpoint}
use Rattle.object_store.specs.Object.{ObjectName, Stays}
use Rattle.object_store.proofs.Stays.{stays_same, stays_both, stays_page, stays_cappage, stays_slot, stays_header, stays_endpoint, stays_process, stays_emptied}
use Rattle.object_store.proofs.Writes.{put_gpt_slot, put_header}
use Rattle.object_store.proofs.WritesBehind.{put_gpt_slot_behind, put_header_behind, put_page_behind, put_endpoint_behind}
use Rattle.schedules.specs.Queues.{QueuesValue, sleepers_of}
use Rattle.schedules.proofs.Meant.{readied-means, readied_queues-mean, woken-means, woken_queues-mean, ready_stays, ready_behind, woken-stays, woken-behind}
use Rattle.operations.specs.System.{System, system, Stored, Meant}
use Rattle.operations.specs.Change.{Change, PageIs, CapPageIs, SlotIs, HeaderIs, EndpointIs, ProcessIs, Left, Readied, Woken, Destroyed, applied, applied_all, item_of}
use Rattle.operations.specs.Changed.{names_of, names_in, DifferBy}
use Rattle.operations.proofs.Mapped.{system_map, change_map}

-- ---- the meaning

-- what has to hold where a change is applied: the object of a destruction is there, and no capability is ahead
abbrev pub CanApply : System → Change → Type 0
CanApply w (Destroyed kind n) = (n < size_of w.store.items kind) × NoneAhead w.store
CanApply w _ = Unit {0}

-- a change means the change of what was meant
pub applied_means : (w : System) (change : Change) → CanApply w change → system_map (applied Stored w change) ≡ applied Meant (system_map w) (change_map (meaning w.store.items) change)
applied_means w (PageIs n page) can = refl
applied_means w (CapPageIs n page) can = ap (λ s. system s w.queues) (state_map-with_cappage w.store n page)
applied_means w (SlotIs g i c) can = ap (λ s. system s w.queues) (put_gpt_slot w.store g i c)
applied_means w (HeaderIs g header) can = ap (λ s. system s w.queues) (put_header w.store g header)
applied_means w (EndpointIs e endpoint) can = ap (λ s. system s w.queues) (state_map-with_endpoint w.store e endpoint)
applied_means w (ProcessIs p process) can = ap (λ s. system s w.queues) (state_map-with_process w.store p process)
applied_means w (Left p) can = refl
applied_means w (Readied p) can = rw (readied-means w.store p w.queues, readied_queues-mean w.store p w.queues) refl
applied_means w (Woken p) can = rw (woken-means w.store p w.queues, woken_queues-mean w.store p w.queues) refl
applied_means w (Destroyed kind n) can = ap (λ s. system s w.queues) (state_map-emptied kind n w.store can.0 can.1)

-- ---- none ahead

-- what a change writes is not ahead
abbrev pub WritesBehind : Items → Change → Type 0
WritesBehind o (CapPageIs n page) = All (IsBehind o) page
WritesBehind o (SlotIs g i c) = IsBehind o c
WritesBehind o (EndpointIs e endpoint) = IsBehind o endpoint.recipient
WritesBehind o (ProcessIs p process) = All (IsBehind o) process.capregs × All (IsBehind o) process.slots
WritesBehind o _ = Unit {0}

-- a change leaves none ahead
pub applied_behind : (w : System) (change : Change) → NoneAhead w.store → WritesBehind w.store.items change → NoneAhead (applied Stored w change).store
applied_behind w (PageIs n page) none writes = put_page_behind w.store none n page
applied_behind w (CapPageIs n page) none writes = NoneAhead-with_cappage w.store none n page writes
applied_behind w (SlotIs g i c) none writes = put_gpt_slot_behind w.store none g i c writes
applied_behind w (HeaderIs g header) none writes = put_header_behind w.store none g header
applied_behind w (EndpointIs e endpoint) none writes = put_endpoint_behind w.store none e endpoint writes
applied_behind w (ProcessIs p process) none writes = NoneAhead-with_process w.store none p process writes.0 writes.1
applied_behind w (Left p) none writes = none
applied_behind w (Readied p) none writes = ready_behind w.store _ p w.queues refl none
applied_behind w (Woken p) none writes = woken-behind w.store p w.queues none
applied_behind w (Destroyed kind n) none writes = NoneAhead-emptied kind n w.store none

-- ---- which objects are written

pub applied_stays : (w : System) (change : Change) → Stays (names_of w.queues change) w.store (applied Stored w change).store
applied_stays w (PageIs n page) = stays_page [] w.store n page
applied_stays w (CapPageIs n page) = stays_cappage [] w.store n page
applied_stays w (SlotIs g i c) = stays_slot [] w.store g i c
applied_stays w (HeaderIs g header) = stays_header [] w.store g header
applied_stays w (EndpointIs e endpoint) = stays_endpoint [] w.store e endpoint
applied_stays w (ProcessIs p process) = stays_process [] w.store p process
applied_stays w (Left p) = stays_same [] w.store
applied_stays w (Readied p) = ready_stays w.store _ p w.queues refl
applied_stays w (Woken p) = woken-stays w.store p w.queues
applied_stays w (Destroyed kind n) = stays_emptied [] w.store kind n

-- all other objects are stored as before, whatever the changes
pub applied_all_stays : (w : System) (changes : List Change) → Stays (names_in Stored w changes) w.store (applied_all Stored w changes).store
applied_all_stays w [] = stays_same [] w.store
applied_all_stays w (change ∷ changes) =
    stays_both (names_of w.queues change) (names_in Stored (applied Stored w change) changes) w.store _ _ (applied_stays w change) (applied_all_stays (applied Stored w change) changes)

-- ---- in which item the maps differ

pub applied_differ : (w : System) (change : Change) → DifferBy (item_of change) (map_of w.store.items) (map_of (applied Stored w change).store.items)
applied_differ w (PageIs n page) = refl
applied_differ w (CapPageIs n page) = refl
applied_differ w (SlotIs g i c) = DifferIn-slot_meaning w.store.items g i c
applied_differ w (HeaderIs g header) = DifferIn-header_meaning w.store.items g header
applied_differ w (EndpointIs e endpoint) = refl
applied_differ w (ProcessIs p process) = refl
applied_differ w (Left p) = refl
applied_differ w (Readied p) = refl
applied_differ w (Woken p) = refl
applied_differ w (Destroyed kind n) = DifferIn-emptied w.store.items kind n
