-- Steps whose accesses are all kept, and of which nothing is told but accesses and instructions.
use Rattle.std.specs.Prelude.{◌≡◌, ℕ, ◌<◌, ◌/◌, ◌%◌, Bool, true, false, [], Ok}
use Rattle.cap_format.specs.Capability.{Capability}
use Rattle.cap_format.specs.declared.item.Item.{Item}
use Rattle.cap_format.specs.declared.kind.CapKind.TheVariants.{Page}
use Rattle.object_store.specs.Store.{Items, size_of}
use Rattle.walk_meaning.specs.declared.kind.Kind.{Kind}
use Rattle.walk_meaning.specs.declared.kind.Kind.TheVariants.{Fetch}
use Rattle.walk_meaning.specs.Walk.{access}
use Rattle.walk_engine.specs.Answer.{hit_of}
use Rattle.machine_state.specs.Machine.{MachineValue}
use Rattle.machine_state.specs.State.{State, state_of, space_of}
use Rattle.machine_state.specs.Noted.{untraced}
use Rattle.machine_state.specs.Outcome.{Outcome, spent, kept_after}

-- Every fetch from this page of a space ends in page `frame`, fetches no slot, and leaves what is kept as it is.
pub record IsCode {K : Type 0} (cost : K → Items → Capability → ℕ → Kind → ℕ) (after : K → Items → Capability → ℕ → Kind → K)
    (k : K) (o : Items) (c : Capability) (page frame : ℕ) : Type 0 where
  pub there : frame < size_of o Page
  pub reaches : (a : ℕ) → a / 4096 ≡ page → hit_of (access o c a Fetch) ≡ Ok (record { page = frame; offset = a % 4096 })
  pub free : (a : ℕ) → a / 4096 ≡ page → cost k o c a Fetch ≡ 0
  pub stays : (a : ℕ) → a / 4096 ≡ page → after k o c a Fetch ≡ k

-- what such a step of process `p` leaves as it is
pub record IsAlike (p : ℕ) (s n : State) : Type 0 where
  pub items : n.store.items ≡ s.store.items
  pub harts : n.store.harts ≡ s.store.harts
  pub space : space_of n p ≡ space_of s p
  pub queues : n.queues ≡ s.queues
  pub halted : n.halted ≡ s.halted

-- what comes of parts of such steps, which may leave a machine as it was
module _ {T K : Type 0} (kept : T → K) (cost : K → Items → Capability → ℕ → Kind → ℕ) (after : K → Items → Capability → ℕ → Kind → K) (without : K → Item → K) where
  -- The outcome `o` of a part of a step of process `p` came of the machine `m`, which became `n`: nothing was told but
  -- accesses and instructions, no slot was fetched, and what is kept and what walks read is as it was.
  pub record CameKept (p : ℕ) (o : Outcome) (m n : MachineValue T) : Type 0 where
    pub state : state_of n ≡ o.state
    pub records : untraced o.records ≡ []
    pub free : spent cost after without (kept m.translator) o.touches ≡ 0
    pub stays : kept_after cost after without (kept m.translator) o.touches ≡ kept m.translator
    pub keeps : kept n.translator ≡ kept m.translator
    pub alike : IsAlike p (state_of m) (state_of n)

  -- the machine `m` became `n`, of which nothing else can be told
  pub record IsLeft (m n : MachineValue T) : Type 0 where
    pub state : state_of n ≡ state_of m
    pub keeps : kept n.translator ≡ kept m.translator

  -- such an outcome came, or the machine is left as it was
  abbrev pub CameIf : Bool → ℕ → Outcome → MachineValue T → MachineValue T → Type 0
  CameIf true p o m n = CameKept p o m n
  CameIf false p o m n = IsLeft m n
