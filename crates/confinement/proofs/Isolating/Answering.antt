-- Who answers what this side may hold is the same in two systems that agree on it.
use Rattle.std.proofs.Common.{◌≡◌, ℕ, if◌then◌else◌, Option, Some, None, refl, ◌∙◌, ap, ap₂}
use Rattle.cap_format.specs.declared.kind.CapKind.{CapKind}
use Rattle.cap_format.specs.declared.kind.CapKind.TheVariants.{Endpoint, Entry, Process}
use Rattle.cap_format.specs.Capability.{Capability}
use Rattle.process_objects.specs.declared.state.State.{State}
use Rattle.process_objects.specs.Process.{ProcessValue, slot_of}
use Rattle.endpoint_objects.specs.declared.endpoint.Endpoint.{Endpoint as EndpointValue}
use Rattle.object_store.specs.Store.{Store, endpoint_at}
use Rattle.invocation.specs.Answerer.{Answer, answered_by, asked, refuses, entered, answered, answerer}
use Rattle.invocation.specs.Answerer.Answer.{Dead}
use Rattle.invocation.specs.Target.{called_by, called, callee}
use Rattle.operations.specs.System.{System}
use Rattle.fault_path.specs.Fault.{is_answer, handler_of}
use Rattle.confinement.specs.declared.cut_side.CutSide.{CutSide}
use Rattle.confinement.specs.Cut.{Cut, side_of, MayHold, IsClosed, EachHeldBy}
use Rattle.confinement.specs.Acts.{MayHoldIf}
use Rattle.confinement.proofs.Held.{side-process}
use Rattle.confinement.proofs.Own.{own-entry}
use Rattle.confinement.specs.isolation.Agree.{Agree}
use Rattle.confinement.proofs.Isolating.Agreeing.{same-endpoint, same-process}

module _ (cut : Cut) (side : CutSide) (w v : System) (closed : IsClosed cut) (each : EachHeldBy cut side w.store) (agree : Agree cut side w v) where
  -- ---- who answers

  same-asked : (e : ℕ) (k : CapKind) (c : Capability) → c.kind ≡ k → side_of cut Endpoint e ≡ side → MayHold cut side c
      → asked w.store e k c.object ≡ asked v.store e k c.object
  same-asked e Process c k own may =
      ap₂ (λ (state : State) (id : ℕ). answered_by state id e c.object)
      (ap (λ (q : ProcessValue). q.state) (same-process cut side w v agree c.object (side-process cut side c k may)))
      (ap (λ (x : EndpointValue). x.id) (same-endpoint cut side w v agree e own))
  same-asked e _ c k own may = refl

  -- who answers an entry to this endpoint, as the endpoint is
  abbrev entered_as : Store → ℕ → ℕ → EndpointValue → Answer
  entered_as s e payload x = if refuses x payload then Dead else asked s e x.recipient.kind x.recipient.object

  same-entered : (e payload : ℕ) → side_of cut Endpoint e ≡ side → entered w.store e payload ≡ entered v.store e payload
  same-entered e payload own =
      let x = endpoint_at w.store e in
      let may = each.recipients e own in
      ap (λ (a : Answer). if refuses x payload then Dead else a) (same-asked e x.recipient.kind x.recipient refl own may)
      ∙ ap (entered_as v.store e payload) (same-endpoint cut side w v agree e own)

  same-answered : (k : CapKind) (c : Capability) → c.kind ≡ k → MayHold cut side c → answered w.store k c ≡ answered v.store k c
  same-answered Entry c k may = same-entered c.object c.payload (own-entry cut closed side c k may)
  same-answered _ c k may = refl

  -- who answers a capability that this side may hold
  pub same-answerer : (c : Capability) → MayHold cut side c → answerer w.store c ≡ answerer v.store c
  unfolding answerer
  same-answerer c may = same-answered c.kind c refl may

  same-called : (k : CapKind) (c : Capability) → c.kind ≡ k → MayHold cut side c → called w.store k c ≡ called v.store k c
  same-called Entry c k may = ap called_by (same-entered c.object c.payload (own-entry cut closed side c k may))
  same-called _ c k may = refl

  -- and what an invocation of it reaches
  pub same-callee : (c : Capability) → MayHold cut side c → callee w.store c ≡ callee v.store c
  unfolding callee
  same-callee c may = same-called c.kind c refl may

  -- ---- who hears a fault

  -- the handler that is asked
  pub same-handler_of : (p : ℕ) (handler : Option Capability) → side_of cut Process p ≡ side → MayHoldIf cut side handler
      → handler_of w.store p handler ≡ handler_of v.store p handler
  unfolding handler_of
  same-handler_of p None own may = ap (λ (q : ProcessValue). slot_of q 2) (same-process cut side w v agree p own)
  same-handler_of p (Some c) own may =
      ap₂ (λ (a : Answer) (q : ProcessValue). if is_answer a then c else slot_of q 2) (same-answerer c may) (same-process cut side w v agree p own)
