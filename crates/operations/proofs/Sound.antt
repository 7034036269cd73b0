-- Changes that mean the changes of what was meant, leave no capability ahead, and are of the item that is told.
use Rattle.std.proofs.Common.{◌≡◌, ◌<◌, ℕ, List, [], ◌∷◌, map, length, Option, Some, None, refl, sym, ap, ◌∙◌, subst}
use Rattle.std.proofs.lemmas.List.{length-map}
use Rattle.cap_format.specs.declared.kind.CapKind.{CapKind}
use Rattle.cap_format.specs.declared.kind.CapKind.TheVariants.{Process, Schedule}
use Rattle.cap_format.specs.declared.item.Item.{Item}
use Rattle.cap_format.specs.Capability.{Capability}
use Rattle.process_objects.specs.Process.{ProcessValue, with_state, stopped}
use Rattle.object_store.specs.Store.{Store, Items, size_of, process_at, with_process}
use Rattle.object_store.specs.Meaning.{meaning, map_of}
use Rattle.object_store.specs.Ahead.{IsBehind, NoneAhead}
use Rattle.object_store.proofs.Live.{IsBehind-null}
use Rattle.object_store.proofs.Counted.{size_of-recounted}
use Rattle.object_store.proofs.Each.{capregs-each, process_slots-each}
use Rattle.schedules.specs.Queues.{QueuesValue, left, without, hart_without}
use Rattle.schedules.specs.Ready.{Runs, runs_of, readied, readied_queues, schedule_of}
use Rattle.schedules.proofs.Waking.{sleepers-readied}
use Rattle.schedules.proofs.Meant.{woken-sleepers, woken-harts}
use Rattle.operations.specs.System.{System, system, Stored, Meant}
use Rattle.operations.specs.Change.{Change, PageIs, CapPageIs, SlotIs, HeaderIs, EndpointIs, ProcessIs, Left, Readied, Woken, Destroyed, applied, applied_all, item_of, first_item, item_in}
use Rattle.operations.specs.Changed.{DifferBy}
use Rattle.operations.proofs.Mapped.{system_map, change_map}
use Rattle.operations.proofs.Applied.{CanApply, WritesBehind, applied_means, applied_behind, applied_differ}

-- what the changes of a system come to
pub record IsSound (w : System) (changes : List Change) : Type 0 where
  pub means : system_map (applied_all Stored w changes) ≡ applied_all Meant (system_map w) (map (change_map (meaning w.store.items)) changes)
  pub behind : NoneAhead (applied_all Stored w changes).store
  pub differ : DifferBy (item_in changes) (map_of w.store.items) (map_of (applied_all Stored w changes).store.items)

first_item-none : (item : Option Item) → first_item item None ≡ item
first_item-none None = refl
first_item-none (Some item) = refl

-- no change
pub sound_none : (w : System) → NoneAhead w.store → IsSound w []
sound_none w none = record { means = refl; behind = none; differ = refl }

-- one change
pub sound_one : (w : System) (change : Change) → NoneAhead w.store → CanApply w change → WritesBehind w.store.items change → IsSound w (change ∷ [])
sound_one w change none can writes = record {
  means = applied_means w change can;
  behind = applied_behind w change none writes;
  differ = subst (λ item. DifferBy item (map_of w.store.items) (map_of (applied Stored w change).store.items)) (sym (first_item-none (item_of change))) (applied_differ w change);
}

-- a process with the capabilities that it had writes nothing ahead
pub process_behind : (s : Store) (p : ℕ) (v : ProcessValue) → NoneAhead s → v.capregs ≡ (process_at s p).capregs → v.slots ≡ (process_at s p).slots → WritesBehind s.items (ProcessIs p v)
process_behind s p v none capregs slots =
    (rw capregs (capregs-each (IsBehind s.items) (IsBehind-null s.items) s none p), rw slots (process_slots-each (IsBehind s.items) (IsBehind-null s.items) s none p))

-- a process is stopped: it leaves its place, and gets another state
pub sound_stopping : (s : Store) (q : QueuesValue) (p : ℕ) → NoneAhead s → IsSound (system s q) (Left p ∷ ProcessIs p (with_state (process_at s p) stopped) ∷ [])
sound_stopping s q p none =
    let one = sound_one (system s (left q p)) (ProcessIs p (with_state (process_at s p) stopped)) none tt (process_behind s p (with_state (process_at s p) stopped) none refl refl) in
    record { means = one.means; behind = one.behind; differ = one.differ }

-- a process is stopped, its sleepers are woken, and it is destroyed
pub sound_ending : (s : Store) (q : QueuesValue) (p : ℕ) → NoneAhead s → p < size_of s.items Process → IsSound (system s q) (Left p ∷ ProcessIs p (with_state (process_at s p) stopped) ∷ Woken p ∷ Destroyed Process p ∷ [])
sound_ending s q p none there =
    let put = ProcessIs p (with_state (process_at s p) stopped) in
    let first = system s (left q p) in
    let second = applied Stored first put in
    let third = applied Stored second (Woken p) in
    let none_second = applied_behind first put none (process_behind s p (with_state (process_at s p) stopped) none refl refl) in
    let none_third = applied_behind second (Woken p) none_second tt in
    record {
      means =
          applied_means third (Destroyed Process p) (there, none_third)
          ∙ ap (λ w. applied Meant w (Destroyed Process p)) (applied_means second (Woken p) tt ∙ ap (λ w. applied Meant w (Woken p)) (applied_means first put tt));
      behind = applied_behind third (Destroyed Process p) none_third tt;
      differ = applied_differ third (Destroyed Process p);
    }

-- ---- the sizes

-- no object, list of sleepers or hart comes or goes
pub record SameSizes (w v : System) : Type 0 where
  pub objects : (kind : CapKind) → size_of v.store.items kind ≡ size_of w.store.items kind
  pub object_harts : v.store.harts ≡ w.store.harts
  pub sleepers : length v.queues.sleepers ≡ length w.queues.sleepers
  pub harts : length v.queues.harts ≡ length w.queues.harts

same_sizes : (w : System) → SameSizes w w
same_sizes w = record { objects = λ kind. refl; object_harts = refl; sleepers = refl; harts = refl }

harts_readied : (c : Capability) (p : ℕ) (q : QueuesValue) → (readied_queues c.kind c.object q p).harts ≡ q.harts
harts_readied c p q = by c.kind
  where
    by : (kind : CapKind) → (readied_queues kind c.object q p).harts ≡ q.harts
    by Schedule = refl
    by kind = refl

pub applied_sizes : (w : System) (change : Change) → SameSizes w (applied Stored w change)
applied_sizes w (PageIs n page) = record { objects = λ kind. refl; object_harts = refl; sleepers = refl; harts = refl }
applied_sizes w (CapPageIs n page) = record { objects = λ kind. refl; object_harts = refl; sleepers = refl; harts = refl }
applied_sizes w (SlotIs g i c) = record { objects = λ kind. refl; object_harts = refl; sleepers = refl; harts = refl }
applied_sizes w (HeaderIs g header) = record { objects = λ kind. refl; object_harts = refl; sleepers = refl; harts = refl }
applied_sizes w (EndpointIs e endpoint) = record { objects = λ kind. refl; object_harts = refl; sleepers = refl; harts = refl }
applied_sizes w (ProcessIs p process) = record { objects = λ kind. refl; object_harts = refl; sleepers = refl; harts = refl }
applied_sizes w (Left p) = record { objects = λ kind. refl; object_harts = refl; sleepers = length-map w.queues.sleepers (without p); harts = length-map w.queues.harts (hart_without p) }
applied_sizes w (Readied p) = record {
  objects = λ kind. refl;
  object_harts = refl;
  sleepers = ap length (sleepers-readied (schedule_of w.store p).kind (schedule_of w.store p).object w.queues p);
  harts = ap length (harts_readied (schedule_of w.store p) p w.queues);
}
applied_sizes w (Woken p) = record {
  objects = λ kind. refl;
  object_harts = refl;
  sleepers = woken-sleepers (schedule_of w.store) w.store p w.queues;
  harts = ap length (woken-harts (schedule_of w.store) w.store p w.queues);
}
applied_sizes w (Destroyed kind n) = record { objects = λ k. size_of-recounted w.store.items.counts kind n _ k; object_harts = refl; sleepers = refl; harts = refl }

sizes_then : (u v w : System) → SameSizes u v → SameSizes v w → SameSizes u w
sizes_then u v w first second = record {
  objects = λ kind. second.objects kind ∙ first.objects kind;
  object_harts = second.object_harts ∙ first.object_harts;
  sleepers = second.sleepers ∙ first.sleepers;
  harts = second.harts ∙ first.harts;
}

-- whatever the changes
pub applied_all_sizes : (w : System) (changes : List Change) → SameSizes w (applied_all Stored w changes)
applied_all_sizes w [] = same_sizes w
applied_all_sizes w (change ∷ changes) = sizes_then w (applied Stored w change) (applied_all Stored (applied Stored w change) changes) (applied_sizes w change) (applied_all_sizes (applied Stored w change) changes)
