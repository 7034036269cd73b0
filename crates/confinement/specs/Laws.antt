-- The laws on which the theorem rests, as statements. Each is of one side, whatever the other holds.
use Rattle.std.specs.Prelude.{◌≡◌, ℕ, Some}
use Rattle.cap_format.specs.declared.kind.CapKind.TheVariants.{Process}
use Rattle.cap_format.specs.declared.request.Request.{Request}
use Rattle.cap_format.specs.Capability.{Capability}
use Rattle.object_store.specs.Store.{Store}
use Rattle.walk_meaning.specs.declared.kind.Kind.{Kind}
use Rattle.walk_meaning.specs.Walk.{access}
use Rattle.invocation.specs.Target.{callee}
use Rattle.operations.specs.System.{Reading, System}
use Rattle.operations.specs.Change.{Change, applied}
use Rattle.operations.specs.Memory.{memory_operation}
use Rattle.operations.specs.Control.{control_operation}
use Rattle.machine_state.specs.declared.event.Event.{Event}
use Rattle.machine_state.specs.State.{State}
use Rattle.kernel_core.specs.Event.{performer, event_of}
use Rattle.confinement.specs.declared.cut_side.CutSide.{CutSide}
use Rattle.confinement.specs.Cut.{Cut, side_of, IsClosed, MayHold, EachHeldBy, Beyond, HoldsFor}
use Rattle.confinement.specs.Acts.{KeepsApart, Acts, Permitted, CalleeOwn, AnswerPermitted, system_of}
use Rattle.confinement.specs.Reach.{Ends}

-- An access through a space that a side may hold ends at an object of that side or at one that is read and no more, or
-- in a fault whose handler the side may hold.
abbrev pub AccessLaw : Type 0
AccessLaw = (cut : Cut) (side : CutSide) (s : Store) (space : Capability) (address : ℕ) (kind : Kind)
    → EachHeldBy cut side s
    → MayHold cut side space
    → Ends cut side kind (access s.items space address kind)

-- Who answers what a side may hold is of that side, or one whom it may call.
abbrev pub AnswerLaw : Type 0
AnswerLaw = (cut : Cut) (side : CutSide) (s : Store) (c : Capability)
    → EachHeldBy cut side s
    → Beyond cut side s
    → MayHold cut side c
    → CalleeOwn cut side s (callee s c)

-- A permitted change leaves the other side's objects as they are, but for those who are woken, and the cut holding for this
-- side.
abbrev pub ChangeLaw : Type 0
ChangeLaw = (cut : Cut) (side : CutSide) (reading : Reading) (w : System) (change : Change)
    → Permitted cut side change
    → HoldsFor cut side w
    → Acts cut side w (applied reading w change)

-- What a request does is permitted, and what it gives may be held, where it asks and sends what may be held.
pub record OperationLaw : Type 0 where
  pub memory : (cut : Cut) (side : CutSide) (s : Store) (c : Capability) (r : Request)
      → EachHeldBy cut side s
      → MayHold cut side c
      → MayHold cut side r.sent
      → AnswerPermitted cut side (memory_operation s c r).answer
  pub control : (cut : Cut) (side : CutSide) (reading : Reading) (s : Store) (c : Capability) (r : Request)
      → EachHeldBy cut side s
      → MayHold cut side c
      → MayHold cut side r.sent
      → AnswerPermitted cut side (control_operation reading s c r).answer

-- *A side reaches no further than it calls*: an event that a process of a side performs leaves the cut holding for it, and
-- whatever isn't of that side as it is, but for those who may be told or are woken. What the others hold plays no part.
abbrev pub ReachLaw : Type 0
ReachLaw = (cut : Cut) (side : CutSide) (s : State) (e : Event) (p : ℕ)
    → side_of cut Process p ≡ side
    → performer s e ≡ Some p
    → HoldsFor cut side (system_of s)
    → Acts cut side (system_of s) (system_of (event_of s e).state)

-- Where nobody calls across, whatever isn't of the side is the same.
abbrev pub PlainLaw : Type 0
PlainLaw = (cut : Cut) (side : CutSide) (w v : System)
    → IsClosed cut
    → HoldsFor cut side w
    → Acts cut side w v
    → KeepsApart cut side w v
