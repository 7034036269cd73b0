-- What a change of the objects makes of a state.
use Rattle.std.proofs.Common.{◌≡◌, ℕ, ◌<◌, List, [], ◌∷◌, Bool, true, false, if◌then◌else◌, refl, ap, ◌∙◌, subst}
use Rattle.cap_format.specs.declared.kind.CapKind.{CapKind}
use Rattle.cap_format.specs.declared.kind.CapKind.TheVariants.{Page, CapPage, Gpt, Process, Endpoint}
use Rattle.cap_format.specs.Restr.{has}
use Rattle.cap_format.specs.Capability.{Capability}
use Rattle.cap_format.specs.Weakening.{weakened}
use Rattle.page_store.specs.CapPage.{cap_at}
use Rattle.object_store.specs.Store.{Items, Store, size_of, sizes_of, cappage_at}
use Rattle.object_store.specs.Meaning.{meaning, state_map}
use Rattle.object_store.specs.Ahead.{IsBehind, NoneAhead}
use Rattle.object_store.proofs.Made.{meaning_weakened, behind_weakened}
use Rattle.object_store.proofs.Writes.{cap_means}
use Rattle.object_store.proofs.WritesBehind.{cap_behind}
use Rattle.schedules.specs.Queues.{QueuesValue}
use Rattle.operations.specs.Weak.{read_through}
use Rattle.walk_meaning.specs.declared.kind.Kind.{Kind}
use Rattle.walk_meaning.specs.declared.place.Place.{Place}
use Rattle.walk_meaning.specs.Walk.{is_data}
use Rattle.walk_meaning.specs.Laws.{IsReached}
use Rattle.object_store.specs.Object.{ObjectName, Stays}
use Rattle.object_store.proofs.Stays.{stays_then, stays_more, stays_after}
use Rattle.machine_state.specs.State.{State}
use Rattle.machine_state.specs.Machine.{MachineValue}
use Rattle.machine_state.specs.Came.{Leaves}
use Rattle.machine_state.specs.CapAccess.{slot_in}

-- a state by its parts
abbrev pub state_by : Store → QueuesValue → Bool → State
state_by store queues halted = record { store = store; queues = queues; halted = halted }

-- states with equal parts
pub same_state : (a b : Store) (q r : QueuesValue) (halted : Bool) → a ≡ b → q ≡ r → state_by a q halted ≡ state_by b r halted
same_state a b q r halted e f = ap (λ s. state_by s q halted) e ∙ ap (λ n. state_by b n halted) f

-- what is read through WK means what is read of the meaning
read_means : (o : Items) (restr : ℕ) (c : Capability) → meaning o (read_through restr c) ≡ read_through restr (meaning o c)
read_means o restr c = by (has restr 4)
  where
    by : (b : Bool) → meaning o (if b then weakened c else c) ≡ (if b then weakened (meaning o c) else meaning o c)
    by true = meaning_weakened o c
    by false = refl

-- and is not ahead, where the capability is not
read_behind : (o : Items) (restr : ℕ) (c : Capability) → IsBehind o c → IsBehind o (read_through restr c)
read_behind o restr c behind = by (has restr 4)
  where
    by : (b : Bool) → IsBehind o (if b then weakened c else c)
    by true = behind_weakened o c behind
    by false = behind

-- the capability that a loadcap finds, as it means
pub found_means : (s : Store) (place : Place) → meaning s.items (read_through place.restr.0 (cap_at (cappage_at s place.number) (slot_in place))) ≡ read_through place.restr.0 (cap_at (cappage_at (state_map s) place.number) (slot_in place))
found_means s place = read_means s.items place.restr.0 (cap_at (cappage_at s place.number) (slot_in place)) ∙ ap (read_through place.restr.0) (cap_means s place.number (slot_in place))

-- it is not ahead
pub found_behind : (s : Store) (place : Place) → NoneAhead s → IsBehind s.items (read_through place.restr.0 (cap_at (cappage_at s place.number) (slot_in place)))
found_behind s place none = read_behind s.items place.restr.0 (cap_at (cappage_at s place.number) (slot_in place)) (cap_behind s none place.number (slot_in place))

-- an access of a capability that reaches is over at a capability page that is there
pub cap_page : (o : Items) (kind : Kind) (place : Place) → is_data kind ≡ false → IsReached o kind place → place.number < size_of o CapPage
cap_page o kind place capability is =
    let served : place.kind ≡ CapPage = is.kind_is ∙ rw capability refl in
    subst (λ (k : CapKind). place.number < size_of o k) served is.there

-- where a part leaves as many objects of each kind and as many harts, the sizes are as before
pub sizes_left : {T : Type 0} (names : List ObjectName) (m n : MachineValue T) → Leaves names m n → sizes_of n.objects ≡ sizes_of m.objects
sizes_left names m n l = rw (l.harts, l.pages, l.cappages, l.gpts, l.processes, l.endpoints) refl

-- a machine of as many objects of each kind and as many harts leaves them
pub leaves_sizes : {T : Type 0} (names : List ObjectName) (m n : MachineValue T) → ((kind : CapKind) → size_of n.objects.items kind ≡ size_of m.objects.items kind) → n.objects.harts ≡ m.objects.harts → Stays names m.objects n.objects → Leaves names m n
leaves_sizes names m n sizes harts stays = record {
  pages = sizes Page;
  cappages = sizes CapPage;
  gpts = sizes Gpt;
  processes = sizes Process;
  endpoints = sizes Endpoint;
  harts = harts;
  stays = stays;
}

-- so does one with the same items
pub leaves_items : {T : Type 0} (names : List ObjectName) (m n : MachineValue T) → n.objects.items ≡ m.objects.items → n.objects.harts ≡ m.objects.harts → Stays names m.objects n.objects → Leaves names m n
leaves_items names m n items harts stays = leaves_sizes names m n (λ kind. ap (λ (o : Items). size_of o kind) items) harts stays

-- one object changed, another, and the first again
pub stays_around : (first second : ObjectName) (s t u v : Store) → Stays (first ∷ []) s t → Stays (second ∷ []) t u → Stays (first ∷ []) u v → Stays (first ∷ second ∷ []) s v
stays_around first second s t u v one two three =
    let names = first ∷ second ∷ [] in
    stays_then names s t v (stays_after first second [] s t one)
    (stays_then names t u v (stays_more first (second ∷ []) t u two) (stays_after first second [] u v three))
