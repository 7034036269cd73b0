-- What a process of one side may do: the other side's objects stay as they are, but for what it tells them where it
-- calls, and the cut holds for this side afterwards. What the other side holds plays no part but there. (Own.)
use Rattle.std.specs.Prelude.{◌≡◌, ◌≢◌, ℕ, ◌⊎◌, true, false, not, if◌then◌else◌, List, [], ◌∷◌, ◌++◌, length, filter, Option, Some, None}
use Rattle.cap_format.specs.declared.kind.CapKind.{CapKind}
use Rattle.cap_format.specs.declared.kind.CapKind.TheVariants.{Page, CapPage, Gpt, Endpoint, Process}
use Rattle.cap_format.specs.Capability.{Capability}
use Rattle.page_store.specs.CapPage.{cap_at}
use Rattle.process_objects.specs.Process.{ProcessValue, capreg_of, slot_of}
use Rattle.endpoint_objects.specs.declared.endpoint.Endpoint.{Endpoint as EndpointValue}
use Rattle.object_store.specs.Store.{Store, process_at, endpoint_at}
use Rattle.object_store.specs.Object.{SameObject}
use Rattle.schedules.specs.Queues.{QueuesValue, ready_queue, sleepers_of, hart_of, stands_in}
use Rattle.invocation.specs.declared.callee.Callee.{Callee}
use Rattle.invocation.specs.declared.callee.Callee.TheVariants.{Kernel, Open as OpenCallee, Busy as BusyCallee, Dead as DeadCallee}
use Rattle.invocation.specs.Delivery.{accepted}
use Rattle.invocation.specs.Target.{is_receiving}
use Rattle.operations.specs.System.{System, system}
use Rattle.operations.specs.Change.{Change, PageIs, CapPageIs, SlotIs, HeaderIs, EndpointIs, ProcessIs, Left, Readied, Woken, Destroyed}
use Rattle.operations.specs.Row.{Answer as RowAnswer}
use Rattle.machine_state.specs.State.{State}
use Rattle.confinement.specs.declared.cut_side.CutSide.{CutSide}
use Rattle.confinement.specs.Cut.{Cut, side_of, same_side, MayHold, TakesFrom, HoldsFor}

-- each object that is not of this side is the same, its age and state included
abbrev pub Spares : Cut → CutSide → Store → Store → Type 0
Spares cut side s t = (kind : CapKind) (n : ℕ) → side_of cut kind n ≢ side → SameObject kind n s t

-- who sleeps on a process that is not of this side is the same
abbrev pub SparesSleepers : Cut → CutSide → QueuesValue → QueuesValue → Type 0
SparesSleepers cut side q r = (p : ℕ) → side_of cut Process p ≢ side → sleepers_of q p ≡ sleepers_of r p

-- the processes of a list that are not of this side, in their order
abbrev pub others_in : Cut → CutSide → List ℕ → List ℕ
others_in cut side ps = filter (λ p. not (same_side (side_of cut Process p) side)) ps

-- the process on a hart, where it is not of this side
abbrev pub other_on : Cut → CutSide → Option ℕ → Option ℕ
other_on cut side None = None
other_on cut side (Some p) = if same_side (side_of cut Process p) side then None else Some p

-- the processes that are not of this side stand in the same order in each ready queue, and on the same harts, of which
-- there are as many
pub record SparesPlaces (cut : Cut) (side : CutSide) (q r : QueuesValue) : Type 0 where
  pub ready : (priority : ℕ) → others_in cut side (ready_queue q priority) ≡ others_in cut side (ready_queue r priority)
  pub harts : (hart : ℕ) → other_on cut side (hart_of q hart) ≡ other_on cut side (hart_of r hart)
  pub size : length q.harts ≡ length r.harts

-- there are as many objects of each kind, and as many processes on which others may sleep
pub record SameSizes (w v : System) : Type 0 where
  pub pages : length w.store.contents.pages ≡ length v.store.contents.pages
  pub cappages : length w.store.contents.cappages ≡ length v.store.contents.cappages
  pub gpts : length w.store.items.gpts ≡ length v.store.items.gpts
  pub processes : length w.store.contents.processes ≡ length v.store.contents.processes
  pub endpoints : length w.store.contents.endpoints ≡ length v.store.contents.endpoints
  pub sleepers : length w.queues.sleepers ≡ length v.queues.sleepers

-- what a process of this side made of a system in which the cut held for it, where nobody calls across: no object's age
-- changed, so none was destroyed
pub record KeepsApart (cut : Cut) (side : CutSide) (w v : System) : Type 0 where
  pub holds : HoldsFor cut side v
  pub spares : Spares cut side w.store v.store
  pub sleepers : SparesSleepers cut side w.queues v.queues
  pub places : SparesPlaces cut side w.queues v.queues
  pub sizes : SameSizes w v
  pub ages : w.store.items.counts ≡ v.store.items.counts

-- ---- what this side may do across the cut, by where it calls

-- process `q` may be told by this side: it receives through an endpoint that this side may call
pub record Told (cut : Cut) (side : CutSide) (w : System) (q : ℕ) : Type 0 where
  pub through : ℕ
  pub calls : cut.calls side through ≡ true
  pub takes : TakesFrom w.store through q

-- process `q` may be given capabilities by this side: it may be told, and accepts some
pub record Given (cut : Cut) (side : CutSide) (w : System) (q : ℕ) : Type 0 where
  pub told : Told cut side w q
  pub accepts : (accepted (process_at w.store q).state).caps ≢ 0

-- process `q`, which isn't of this side, sleeps on one that is, which wakes it when it receives
pub record Slept (cut : Cut) (side : CutSide) (w : System) (q : ℕ) : Type 0 where
  pub other : side_of cut Process q ≢ side
  pub on : ℕ
  pub own : side_of cut Process on ≡ side
  pub sleeps : stands_in (sleepers_of w.queues on) q ≡ true

-- process `q` may be made ready by this side
abbrev pub Met : Cut → CutSide → System → ℕ → Type 0
Met cut side w q = Told cut side w q ⊎ Slept cut side w q

-- page `n` may be where one who is told takes a string
pub record Filled (cut : Cut) (side : CutSide) (w : System) (n : ℕ) : Type 0 where
  pub taker : ℕ
  pub told : Told cut side w taker
  pub writes : (cut.realm taker).pages n ≡ true

-- somebody may be told through endpoint `e`
pub record Rung (cut : Cut) (side : CutSide) (w : System) (e : ℕ) : Type 0 where
  pub taker : ℕ
  pub calls : cut.calls side e ≡ true
  pub takes : TakesFrom w.store e taker

-- A process that isn't of this side is the same, but for its registers where it may be told, for its capability registers
-- where it may be given capabilities, and for its state where it may be made ready: then it doesn't receive. What it is
-- given this side may hold.
pub record ProcessMoves (cut : Cut) (side : CutSide) (base : System) (p : ℕ) (x y : ProcessValue)
    : Type 0 where
  pub pc : x.pc ≡ y.pc
  pub slots : x.slots ≡ y.slots
  pub capregs : (x.capregs ≡ y.capregs) ⊎ Given cut side base p
  pub given : (i : ℕ) → (capreg_of x i ≡ capreg_of y i) ⊎ MayHold cut side (capreg_of y i)
  pub regs : (x.regs ≡ y.regs) ⊎ Told cut side base p
  pub state : (x.state ≡ y.state) ⊎ ((is_receiving y.state ≡ false) × Met cut side base p)

-- an endpoint that isn't of this side is the same, but for its payload where somebody may be told through it
pub record EndpointMoves (cut : Cut) (side : CutSide) (base : System) (e : ℕ) (x y : EndpointValue)
    : Type 0 where
  pub recipient : x.recipient ≡ y.recipient
  pub id : x.id ≡ y.id
  pub matching : x.matching ≡ y.matching
  pub payload : (x.payload ≡ y.payload) ⊎ Rung cut side base e

-- what may become of an object that isn't of this side, by who may be told in system `base`: GPTs and capability pages are
-- the same, and so is a page that nobody who may be told has for his string
abbrev pub ObjectMoves : Cut → CutSide → System → CapKind → ℕ → Store → Store → Type 0
ObjectMoves cut side base Page n s t = SameObject Page n s t ⊎ Filled cut side base n
ObjectMoves cut side base Process p s t =
    ProcessMoves cut side base p (process_at s p) (process_at t p)
ObjectMoves cut side base Endpoint e s t =
    EndpointMoves cut side base e (endpoint_at s e) (endpoint_at t e)
ObjectMoves cut side base kind n s t = SameObject kind n s t

-- each of these processes may be made ready
abbrev pub AllMet : Cut → CutSide → System → List ℕ → Type 0
AllMet cut side base [] = Unit {0}
AllMet cut side base (p ∷ ps) = Met cut side base p × AllMet cut side base ps

-- a list became this one: some that may be made ready stand behind it
pub record Joins (cut : Cut) (side : CutSide) (base : System) (ps qs : List ℕ) : Type 0 where
  pub joined : List ℕ
  pub order : ps ++ joined ≡ qs
  pub met : AllMet cut side base joined

-- What a process of this side made of system `w`, where system `base` says who may be told and who sleeps on whom. The cut
-- holds for this side. Of all that isn't of it: objects became what they may; who slept on each process sleeps there still,
-- in the same order, and nobody sleeps anywhere who didn't; each ready queue has the same in the same order, with nobody
-- behind but who may be made ready; and on the harts are the same. No object's age changed, so none was destroyed.
pub record Moves (cut : Cut) (side : CutSide) (base w v : System) : Type 0 where
  pub holds : HoldsFor cut side v
  pub objects : (kind : CapKind) (n : ℕ) → side_of cut kind n ≢ side
      → ObjectMoves cut side base kind n w.store v.store
  pub sleepers : (on : ℕ) → side_of cut Process on ≢ side
      → others_in cut side (sleepers_of w.queues on) ≡ others_in cut side (sleepers_of v.queues on)
  pub asleep : (on p : ℕ) → side_of cut Process p ≢ side
      → stands_in (sleepers_of v.queues on) p ≡ true
      → stands_in (sleepers_of w.queues on) p ≡ true
  pub ready : (priority : ℕ)
      → Joins cut side base
      (others_in cut side (ready_queue w.queues priority))
      (others_in cut side (ready_queue v.queues priority))
  pub harts : (hart : ℕ)
      → other_on cut side (hart_of w.queues hart) ≡ other_on cut side (hart_of v.queues hart)
  pub size : length w.queues.harts ≡ length v.queues.harts
  pub sizes : SameSizes w v
  pub ages : w.store.items.counts ≡ v.store.items.counts

-- what it made of a system, where that itself says so
abbrev pub Acts : Cut → CutSide → System → System → Type 0
Acts cut side w v = Moves cut side w w v

-- a process that this side may have: it may hold all of its capabilities
pub record ProcessHeld (cut : Cut) (side : CutSide) (process : ProcessValue) : Type 0 where
  pub capregs : (i : ℕ) → MayHold cut side (capreg_of process i)
  pub slots : (i : ℕ) → MayHold cut side (slot_of process i)

-- a change that a process of this side may make: of an object of this side, and to capabilities that it may hold. It
-- destroys nothing.
abbrev pub Permitted : Cut → CutSide → Change → Type 0
Permitted cut side (PageIs n page) = side_of cut Page n ≡ side
Permitted cut side (CapPageIs n page) = (side_of cut CapPage n ≡ side) × ((i : ℕ) → MayHold cut side (cap_at page i))
Permitted cut side (SlotIs g i c) = (side_of cut Gpt g ≡ side) × MayHold cut side c
Permitted cut side (HeaderIs g header) = side_of cut Gpt g ≡ side
Permitted cut side (EndpointIs e endpoint) = (side_of cut Endpoint e ≡ side) × MayHold cut side endpoint.recipient
Permitted cut side (ProcessIs p process) = (side_of cut Process p ≡ side) × ProcessHeld cut side process
Permitted cut side (Left p) = side_of cut Process p ≡ side
Permitted cut side (Readied p) = side_of cut Process p ≡ side
Permitted cut side (Woken p) = side_of cut Process p ≡ side
Permitted cut side (Destroyed kind n) = ⊥

-- all of these changes are such
abbrev pub AllPermitted : Cut → CutSide → List Change → Type 0
AllPermitted cut side [] = Unit {0}
AllPermitted cut side (change ∷ changes) = Permitted cut side change × AllPermitted cut side changes

-- a capability that is given, if there is one, may be held by this side
abbrev pub MayHoldIf : Cut → CutSide → Option Capability → Type 0
MayHoldIf cut side None = Unit {0}
MayHoldIf cut side (Some c) = MayHold cut side c

-- process `q` takes a message of this side through endpoint `e`: both are of this side, or it may call there and the
-- process receives
abbrev pub Hears : Cut → CutSide → Store → ℕ → ℕ → Type 0
Hears cut side s e q =
    ((side_of cut Endpoint e ≡ side) × (side_of cut Process q ≡ side))
    ⊎ ((cut.calls side e ≡ true) × TakesFrom s e q)

-- a process of this side may wait for process `q`
abbrev pub MayAwait : Cut → CutSide → ℕ → Type 0
MayAwait cut side q = (side_of cut Process q ≡ side) ⊎ (cut.hears side q ≡ true)

-- whom an invocation reaches, if anybody, takes messages of this side, or is one for whom it may wait; the kernel is asked
-- through a capability that this side may hold
abbrev pub CalleeOwn : Cut → CutSide → Store → Callee → Type 0
CalleeOwn cut side s (Kernel c) = MayHold cut side c
CalleeOwn cut side s (OpenCallee e q) = Hears cut side s e q
CalleeOwn cut side s (BusyCallee q) = MayAwait cut side q
CalleeOwn cut side s DeadCallee = Unit {0}

-- what an operation does and tells: its changes are permitted, and the capability that it gives may be held
pub record AnswerPermitted (cut : Cut) (side : CutSide) (answer : RowAnswer) : Type 0 where
  pub changes : AllPermitted cut side answer.changes
  pub cap : MayHoldIf cut side answer.cap

-- the objects of a state with who stands where
abbrev pub system_of : State → System
system_of s = system s.store s.queues
