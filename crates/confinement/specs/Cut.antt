-- Cuts: a side for each object, and when a cut holds. They speak of the model's map, where no capability has a count and
-- one that is not live is Null, so each is read as it stands. (Own.)
use Rattle.std.specs.Prelude.{◌≡◌, ◌≢◌, ℕ, ◌⊎◌, Bool, true, false, if◌then◌else◌, List, [], ◌∷◌, slice_index_or}
use Rattle.cap_format.specs.declared.kind.CapKind.{CapKind}
use Rattle.cap_format.specs.declared.kind.CapKind.TheVariants.{Page, CapPage, Gpt, Endpoint, Entry, Process, Range, KernLog, SysCtl}
use Rattle.cap_format.specs.Kind.{is_counted, object_kind}
use Rattle.cap_format.specs.Capability.{Capability}
use Rattle.cap_format.specs.Weakening.{is_harmless}
use Rattle.page_store.specs.CapPage.{cap_at}
use Rattle.process_objects.specs.Process.{capreg_of, slot_of}
use Rattle.object_store.specs.Store.{Store, slot_at, cappage_at, process_at, endpoint_at}
use Rattle.schedules.specs.Queues.{QueuesValue, sleepers_of, stands_in}
use Rattle.invocation.specs.Answerer.{asked}
use Rattle.invocation.specs.Answerer.Answer.{Open}
use Rattle.operations.specs.System.{System}
use Rattle.confinement.specs.declared.cut_side.CutSide.{CutSide}
use Rattle.confinement.specs.declared.cut_side.CutSide.TheVariants.{Left, Right}

-- the side of each object, by its kind and number
pub record Sides : Type 0 where
  pub pages : List CutSide
  pub cappages : List CutSide
  pub gpts : List CutSide
  pub processes : List CutSide
  pub endpoints : List CutSide

-- the sides of the objects of a kind: none where objects of this kind do not exist
abbrev pub sides_of : Sides → CapKind → List CutSide
sides_of sides Page = sides.pages
sides_of sides CapPage = sides.cappages
sides_of sides Gpt = sides.gpts
sides_of sides Process = sides.processes
sides_of sides Endpoint = sides.endpoints
sides_of sides _ = []

-- the side of object `n` of a kind by such lists: what stands in none is on the right
abbrev pub side_in : Sides → CapKind → ℕ → CutSide
side_in sides kind n = slice_index_or (sides_of sides kind) n Right

-- what a process has that may be told across a cut: the GPTs through which its space may lead, and the pages that may be
-- written there
pub record Realm : Type 0 where
  pub gpts : ℕ → Bool
  pub pages : ℕ → Bool

-- a realm of nothing
abbrev pub no_realm : Realm
no_realm = record { gpts = λ g. false; pages = λ n. false }

-- a cut: the side of each object by its kind and number; and of each side whether it may hold capabilities that are
-- harmless across the cut, whether SysCtl, and whether KernLog; to which endpoints of the other it may hold entries, and
-- which processes of the other it may tell or wait for. Of such a process it has the realm.
pub record Cut : Type 0 where
  pub side : CapKind → ℕ → CutSide
  pub weakly : CutSide → Bool
  pub halts : CutSide → Bool
  pub logs : CutSide → Bool
  pub calls : CutSide → ℕ → Bool
  pub hears : CutSide → ℕ → Bool
  pub realm : ℕ → Realm

-- the cut between these sides over which nobody calls, and both sides may hold what is harmless, SysCtl and KernLog
abbrev pub closed_cut : (CapKind → ℕ → CutSide) → Cut
closed_cut side = record {
  side = side;
  weakly = λ side. true;
  halts = λ side. true;
  logs = λ side. true;
  calls = λ side e. false;
  hears = λ side q. false;
  realm = λ q. no_realm;
}

-- neither side may hold an entry to an endpoint of the other, or wait for a process of it
pub record IsClosed (cut : Cut) : Type 0 where
  pub calls : (side : CutSide) (e : ℕ) → cut.calls side e ≡ false
  pub hears : (side : CutSide) (q : ℕ) → cut.hears side q ≡ false

-- the side of object `n` of a kind
abbrev pub side_of : Cut → CapKind → ℕ → CutSide
side_of cut kind n = cut.side kind n

-- whether two sides are one
abbrev pub same_side : CutSide → CutSide → Bool
same_side Left Left = true
same_side Left Right = false
same_side Right Left = false
same_side Right Right = true

-- what the capability names, if anything, is of this side; an entry names its endpoint, and windows name nothing
abbrev pub NamesOwn : Cut → CutSide → Capability → Type 0
NamesOwn cut side c = is_counted c.kind ≡ true → side_of cut (object_kind c.kind) c.object ≡ side

-- the capability can do nothing across the cut: it is harmless, and this side may hold such
abbrev pub MayCross : Cut → CutSide → Capability → Type 0
MayCross cut side c = (cut.weakly side ≡ true) × (is_harmless c ≡ true)

-- the capability is an entry to an endpoint that this side may call
abbrev pub MayCall : Cut → CutSide → Capability → Type 0
MayCall cut side c = (c.kind ≡ Entry) × (cut.calls side c.object ≡ true)

-- a capability that an object of this side may hold: no Range, SysCtl and KernLog where the side may hold these, and one
-- that names what is of this side, that is harmless, or by which it may call
pub record MayHold (cut : Cut) (side : CutSide) (c : Capability) : Type 0 where
  pub no_range : c.kind ≢ Range
  pub halting : c.kind ≡ SysCtl → cut.halts side ≡ true
  pub logging : c.kind ≡ KernLog → cut.logs side ≡ true
  pub own : NamesOwn cut side c ⊎ (MayCross cut side c ⊎ MayCall cut side c)

-- each capability that stands in an object may be held by the side of that object
pub record EachMayHold (cut : Cut) (s : Store) : Type 0 where
  pub slots : (g i : ℕ) → MayHold cut (side_of cut Gpt g) (slot_at s.items g i)
  pub cappages : (n i : ℕ) → MayHold cut (side_of cut CapPage n) (cap_at (cappage_at s n) i)
  pub capregs : (p i : ℕ) → MayHold cut (side_of cut Process p) (capreg_of (process_at s p) i)
  pub process_slots : (p i : ℕ) → MayHold cut (side_of cut Process p) (slot_of (process_at s p) i)
  pub recipients : (e : ℕ) → MayHold cut (side_of cut Endpoint e) (endpoint_at s e).recipient

-- all of these processes are of this side
abbrev pub AllOn : Cut → CutSide → List ℕ → Type 0
AllOn cut side [] = Unit {0}
AllOn cut side (p ∷ ps) = (side_of cut Process p ≡ side) × AllOn cut side ps

-- whoever sleeps is of the side of the process on which he sleeps
abbrev pub SleepApart : Cut → QueuesValue → Type 0
SleepApart cut q = (p : ℕ) → AllOn cut (side_of cut Process p) (sleepers_of q p)

-- the cut holds: of objects as they mean, and of who stands where; and nobody calls across
pub record Holds (cut : Cut) (w : System) : Type 0 where
  pub each : EachMayHold cut w.store
  pub sleepers : SleepApart cut w.queues
  pub closed : IsClosed cut

-- ---- one side alone

-- each capability that stands in an object of this side may be held by it
pub record EachHeldBy (cut : Cut) (side : CutSide) (s : Store) : Type 0 where
  pub slots : (g i : ℕ) → side_of cut Gpt g ≡ side → MayHold cut side (slot_at s.items g i)
  pub cappages : (n i : ℕ) → side_of cut CapPage n ≡ side → MayHold cut side (cap_at (cappage_at s n) i)
  pub capregs : (p i : ℕ) → side_of cut Process p ≡ side → MayHold cut side (capreg_of (process_at s p) i)
  pub process_slots : (p i : ℕ) → side_of cut Process p ≡ side → MayHold cut side (slot_of (process_at s p) i)
  pub recipients : (e : ℕ) → side_of cut Endpoint e ≡ side → MayHold cut side (endpoint_at s e).recipient

-- process `p` may sleep on another: on one of its side, or on one for which its side may wait
abbrev pub MaySleep : Cut → ℕ → ℕ → Type 0
MaySleep cut p on =
    (side_of cut Process p ≡ side_of cut Process on) ⊎ (cut.hears (side_of cut Process p) on ≡ true)

-- process `q` receives through endpoint `e`, whose recipient it is
abbrev pub TakesFrom : Store → ℕ → ℕ → Type 0
TakesFrom s e q =
    let recipient = (endpoint_at s e).recipient in
    asked s e recipient.kind recipient.object ≡ Open e q

-- the side of an object by a realm: pages that it doesn't write and GPTs that aren't of it are beyond
abbrev pub realm_side : Realm → CapKind → ℕ → CutSide
realm_side realm Page n = if realm.pages n then Left else Right
realm_side realm Gpt g = if realm.gpts g then Left else Right
realm_side realm kind n = Left

-- a capability through which a space may lead, so that it stays in a realm
abbrev pub MayLead : Realm → Capability → Type 0
MayLead realm c = MayHold (closed_cut (realm_side realm)) Left c

-- What is across the cut and is called by this side. The endpoints aren't of this side, and the processes that are their
-- recipients may be told. Those that may be told aren't of this side, nor are the GPTs of their realms, in which their
-- spaces stay.
pub record Beyond (cut : Cut) (side : CutSide) (s : Store) : Type 0 where
  pub away : (e : ℕ) → cut.calls side e ≡ true → side_of cut Endpoint e ≢ side
  pub heard : (e : ℕ) → cut.calls side e ≡ true → (endpoint_at s e).recipient.kind ≡ Process
      → cut.hears side (endpoint_at s e).recipient.object ≡ true
  pub others : (q : ℕ) → cut.hears side q ≡ true → side_of cut Process q ≢ side
  pub spaces : (q : ℕ) → cut.hears side q ≡ true
      → MayLead (cut.realm q) (slot_of (process_at s q) 0)
  pub apart : (q g : ℕ) → cut.hears side q ≡ true → (cut.realm q).gpts g ≡ true
      → side_of cut Gpt g ≢ side
  pub slots : (q g i : ℕ) → cut.hears side q ≡ true → (cut.realm q).gpts g ≡ true
      → MayLead (cut.realm q) (slot_at s.items g i)

-- the cut holds for this side: of what its own objects hold, whatever the others do; of who sleeps where; and of what it
-- calls
pub record HoldsFor (cut : Cut) (side : CutSide) (w : System) : Type 0 where
  pub each : EachHeldBy cut side w.store
  pub sleepers : (on p : ℕ) → stands_in (sleepers_of w.queues on) p ≡ true → MaySleep cut p on
  pub beyond : Beyond cut side w.store
