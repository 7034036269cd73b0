-- What comes of a part of an event: the state afterwards, what is told, what a translator was asked, and which objects
-- change.
use Rattle.std.specs.Prelude.{◌≡◌, ℕ, ◌+◌, Bool, true, false, if◌then◌else◌, List, [], ◌∷◌, Option, Some, None}
use Rattle.std.specs.List.{list_any}
use Rattle.cap_format.specs.Capability.{Capability}
use Rattle.cap_format.specs.declared.item.Item.{Item}
use Rattle.cap_format.specs.declared.kind.CapKind.TheVariants.{Page, CapPage, Process}
use Rattle.object_store.specs.Store.{Items}
use Rattle.object_store.specs.Object.{ObjectName, object_name}
use Rattle.walk_meaning.specs.declared.kind.Kind.{Kind}
use Rattle.walk_meaning.specs.Trail.{slots}
use Rattle.machine_state.specs.declared.record.Record.{Record}
use Rattle.machine_state.specs.State.{State}

-- an access of data or of a capability over these items, of a space, an address and a kind; an invocation of a GPT's
-- capability, and whether it read a slot of the GPT; and a change of an item, which is told to the translator (this
-- project's)
pub data Touch : Type 0 where
  DataAccess : Items → Capability → ℕ → Kind → Touch
  CapAccess : Items → Capability → ℕ → Kind → Touch
  GptCall : Bool → Touch
  Changed : Item → Touch

-- a state, the records in their order, the touches in their order, and the objects that change, besides those that stay
-- as they were though they are named
pub record Outcome : Type 0 where
  pub state : State
  pub records : List Record
  pub touches : List Touch
  pub changed : List ObjectName

-- the names of a process, of a page and of a capability page
abbrev pub process_name : ℕ → ObjectName
process_name p = object_name Process p

-- the name of a page
abbrev pub page_name : ℕ → ObjectName
page_name n = object_name Page n

-- the name of a capability page
abbrev pub cappage_name : ℕ → ObjectName
cappage_name n = object_name CapPage n

-- the name of the process of a hart, where it has one
abbrev pub names_on : Option ℕ → List ObjectName
names_on None = []
names_on (Some p) = process_name p ∷ []

-- nothing more happens
abbrev pub done : State → Outcome
done s = record { state = s; records = []; touches = []; changed = [] }

-- this record comes first
abbrev pub recorded : Record → Outcome → Outcome
recorded r o = record { state = o.state; records = r ∷ o.records; touches = o.touches; changed = o.changed }

-- this touch comes first
abbrev pub touched : Touch → Outcome → Outcome
touched t o = record { state = o.state; records = o.records; touches = t ∷ o.touches; changed = o.changed }

-- this object changes as well
abbrev pub changing : ObjectName → Outcome → Outcome
changing name o = record { state = o.state; records = o.records; touches = o.touches; changed = name ∷ o.changed }

-- what touches cost and leave, by what a translator says of one access and of one change
module _ {K : Type 0} (cost : K → Items → Capability → ℕ → Kind → ℕ) (after : K → Items → Capability → ℕ → Kind → K) (without : K → Item → K) where
  -- how many slots a touch fetches; a capability access walks always
  abbrev pub spent_at : K → Touch → ℕ
  spent_at k (DataAccess o space address kind) = cost k o space address kind
  spent_at k (CapAccess o space address kind) = slots o space address kind
  spent_at k (GptCall reads) = if reads then 1 else 0
  spent_at k (Changed item) = 0

  -- what the translator keeps after a touch
  abbrev pub kept_at : K → Touch → K
  kept_at k (DataAccess o space address kind) = after k o space address kind
  kept_at k (CapAccess o space address kind) = k
  kept_at k (GptCall reads) = k
  kept_at k (Changed item) = without k item

  -- how many slots these touches fetch, one after the other
  abbrev pub spent : K → List Touch → ℕ
  spent k [] = 0
  spent k (t ∷ ts) = spent_at k t + spent (kept_at k t) ts

  -- what the translator keeps after all of these touches
  abbrev pub kept_after : K → List Touch → K
  kept_after k [] = k
  kept_after k (t ∷ ts) = kept_after (kept_at k t) ts

-- an item changed
abbrev pub is_change : Touch → Bool
is_change (DataAccess o space address kind) = false
is_change (CapAccess o space address kind) = false
is_change (GptCall reads) = false
is_change (Changed item) = true

-- none of these touches is a change of an item
abbrev pub ChangesNone : List Touch → Type 0
ChangesNone ts = list_any is_change ts ≡ false

-- what touches make of the cache of a hart that makes none of them, one after the other, by what a translator says of one access
-- and of one change
module _ {K C : Type 0} (after : K → Items → Capability → ℕ → Kind → K) (without : K → Item → K)
    (spared : K → Items → Capability → ℕ → Kind → C → C) (purged : K → Item → C → C) where
  abbrev pub spared_by : K → List Touch → C → C
  spared_by k [] cache = cache
  spared_by k (DataAccess o space address kind ∷ ts) cache = spared_by (after k o space address kind) ts (spared k o space address kind cache)
  spared_by k (CapAccess o space address kind ∷ ts) cache = spared_by k ts cache
  spared_by k (GptCall reads ∷ ts) cache = spared_by k ts cache
  spared_by k (Changed item ∷ ts) cache = spared_by (without k item) ts (purged k item cache)
