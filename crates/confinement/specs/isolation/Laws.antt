-- The laws on which the theorem rests, as statements.
use Rattle.std.specs.Prelude.{◌≡◌, ◌≢◌, ℕ, ◌⊎◌, List, [], ◌∷◌, Some}
use Rattle.cap_format.specs.declared.kind.CapKind.TheVariants.{Process}
use Rattle.cap_format.specs.Capability.{Capability}
use Rattle.walk_meaning.specs.declared.kind.Kind.{Kind}
use Rattle.walk_meaning.specs.Walk.{access}
use Rattle.machine_state.specs.declared.event.Event.{Event}
use Rattle.machine_state.specs.State.{State}
use Rattle.machine_state.specs.Outcome.{Outcome}
use Rattle.kernel_core.specs.Event.{performer, event_of}
use Rattle.kernel_core.specs.Run.{run_records}
use Rattle.confinement.specs.declared.cut_side.CutSide.{CutSide}
use Rattle.confinement.specs.declared.cut_side.CutSide.TheVariants.{Left, Right}
use Rattle.confinement.specs.Cut.{Cut, side_of, MayHold, Holds}
use Rattle.confinement.specs.Acts.{system_of}
use Rattle.confinement.specs.isolation.Agree.{Agree, Apart}
use Rattle.confinement.specs.isolation.Turns.{turn_of, side_records}

-- An access through a space that this side may hold comes to the same in both states, its fault's handler included.
abbrev pub SameAccess : Type 0
SameAccess = (cut : Cut) (side : CutSide) (s t : State) (space : Capability) (address : ℕ) (kind : Kind)
    → Apart cut side s t
    → MayHold cut side space
    → access s.store.items space address kind ≡ access t.store.items space address kind

-- An event that no process of this side performs isn't seen on this side.
abbrev pub Unseen : Type 0
Unseen = (cut : Cut) (side : CutSide) (s : State) (e : Event)
    → Holds cut (system_of s)
    → ((p : ℕ) → performer s e ≡ Some p → side_of cut Process p ≢ side)
    → Agree cut side (system_of s) (system_of (event_of s e).state)

-- two outcomes that tell the same and whose states agree on this side
pub record AlikeOutcomes (cut : Cut) (side : CutSide) (o u : Outcome) : Type 0 where
  pub records : o.records ≡ u.records
  pub agree : Agree cut side (system_of o.state) (system_of u.state)

-- The same turn of a process of this side tells the same in both states, and leaves them alike.
abbrev pub SameTurn : Type 0
SameTurn = (cut : Cut) (side : CutSide) (s t : State) (e f : Event) (p : ℕ)
    → Apart cut side s t
    → side_of cut Process p ≡ side
    → performer s e ≡ Some p
    → performer t f ≡ Some p
    → turn_of e p ≡ turn_of f p
    → AlikeOutcomes cut side (event_of s e) (event_of t f)

-- a list is merged of two others: each of its elements is the first that is left of one of them
abbrev pub IsMerged : {A : Type 0} → List A → List A → List A → Type 0
IsMerged {A = A} [] xs ys = (xs ≡ []) × (ys ≡ [])
IsMerged {A = A} (z ∷ zs) xs ys =
    ((rest : List A) × (xs ≡ z ∷ rest) × IsMerged zs rest ys)
    ⊎ ((rest : List A) × (ys ≡ z ∷ rest) × IsMerged zs xs rest)

-- All that is told in a run is told of one of both sides.
abbrev pub AllTold : Type 0
AllTold = (cut : Cut) (s : State) (es : List Event)
    → IsMerged (run_records s es) (side_records cut Left s es) (side_records cut Right s es)
