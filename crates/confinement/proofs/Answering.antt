-- Who answers what a side holds is of that side, or one whom it may call.
use Rattle.std.proofs.Common.{◌≡◌, ℕ, ◌⊎◌, inl, inr, Bool, true, false, if◌then◌else◌, refl, sym, ◌∙◌, ap, subst}
use Rattle.cap_format.specs.declared.kind.CapKind.{CapKind}
use Rattle.cap_format.specs.declared.kind.CapKind.TheVariants.{Endpoint, Entry, Process}
use Rattle.cap_format.specs.Capability.{Capability}
use Rattle.process_objects.specs.declared.state.State.{State}
use Rattle.process_objects.specs.declared.state.State.TheVariants.{Running, Receiving, Faulted}
use Rattle.object_store.specs.Store.{Store, process_at, endpoint_at}
use Rattle.invocation.specs.Answerer.{Answer, takes, answered_by, asked, refuses, entered, answered, answerer}
use Rattle.invocation.specs.Answerer.Answer.{Dead, Open, Busy}
use Rattle.invocation.specs.Target.{called_by, called, callee, is_receiving}
use Rattle.confinement.specs.declared.cut_side.CutSide.{CutSide}
use Rattle.confinement.specs.Cut.{Cut, side_of, MayHold, TakesFrom, EachHeldBy, Beyond}
use Rattle.confinement.specs.Acts.{CalleeOwn}
use Rattle.confinement.proofs.Own.{AnswersOwn}
use Rattle.confinement.proofs.Held.{side-process, side-entry}

-- who takes, or is busy, is the process that is asked, through that endpoint
open_by : (state : State) (id e n f q : ℕ) → answered_by state id e n ≡ Open f q → (e ≡ f) × (n ≡ q)
open_by (Receiving accept) id e n f q is = by (takes accept.wait id) is
  where
    by : (b : Bool) → (if b then Open e n else Busy n) ≡ Open f q → (e ≡ f) × (n ≡ q)
    by true same = (cc (same), cc (same))
    by false same = absurd (cc (same))
open_by Running id e n f q is = absurd (cc (is))
open_by (Faulted code address) id e n f q is = absurd (cc (is))

busy_by : (state : State) (id e n q : ℕ) → answered_by state id e n ≡ Busy q → n ≡ q
busy_by (Receiving accept) id e n q is = by (takes accept.wait id) is
  where
    by : (b : Bool) → (if b then Open e n else Busy n) ≡ Busy q → n ≡ q
    by true same = absurd (cc (same))
    by false same = cc (same)
busy_by Running id e n q is = cc (is)
busy_by (Faulted code address) id e n q is = cc (is)

-- and who takes receives
pub open-receives : (state : State) (id e n f q : ℕ) → answered_by state id e n ≡ Open f q → is_receiving state ≡ true
open-receives (Receiving accept) id e n f q is = refl
open-receives Running id e n f q is = absurd (cc (is))
open-receives (Faulted code address) id e n f q is = absurd (cc (is))

asked-busy : (s : Store) (e : ℕ) (k : CapKind) (n q : ℕ) → asked s e k n ≡ Busy q → (k ≡ Process) × (n ≡ q)
asked-busy s e Process n q is = (refl, busy_by (process_at s n).state (endpoint_at s e).id e n q is)
asked-busy s e _ n q is = absurd (cc (is))

-- the endpoint and the recipient of one who takes, and what it is in
pub asked-takes : (s : Store) (e f : ℕ) (k : CapKind) (n q : ℕ) → asked s e k n ≡ Open f q → (k ≡ Process) × ((n ≡ q) × (e ≡ f))
asked-takes s e f Process n q is = let same = open_by (process_at s n).state (endpoint_at s e).id e n f q is in (refl, (same.1, same.0))
asked-takes s e f _ n q is = absurd (cc (is))

module _ (cut : Cut) (side : CutSide) (s : Store) (each : EachHeldBy cut side s) (beyond : Beyond cut side s) where
  by-own : (state : State) (id e q : ℕ) → side_of cut Endpoint e ≡ side → side_of cut Process q ≡ side → AnswersOwn cut side s (answered_by state id e q)
  by-own (Receiving accept) id e q endpoint process = by (takes accept.wait id)
    where
      by : (b : Bool) → AnswersOwn cut side s (if b then Open e q else Busy q)
      by true = inl (endpoint, process)
      by false = inl process
  by-own Running id e q endpoint process = inl process
  by-own (Faulted code address) id e q endpoint process = inl process

  asked-own : (e : ℕ) (k : CapKind) (c : Capability) → c.kind ≡ k → side_of cut Endpoint e ≡ side → MayHold cut side c → AnswersOwn cut side s (asked s e k c.object)
  asked-own e Process c k own may = by-own (process_at s c.object).state (endpoint_at s e).id e c.object own (side-process cut side c k may)
  asked-own e _ c k own may = tt

  -- whoever is asked where this side calls
  asked-called : (e : ℕ) → cut.calls side e ≡ true → (a : Answer) → asked s e (endpoint_at s e).recipient.kind (endpoint_at s e).recipient.object ≡ a → AnswersOwn cut side s a
  asked-called e calls Dead is = tt
  asked-called e calls (Open f q) is = let at = asked-takes s e f (endpoint_at s e).recipient.kind (endpoint_at s e).recipient.object q is in
      inr (subst (λ (n : ℕ). (cut.calls side n ≡ true) × TakesFrom s n q) at.1.1 (calls, is ∙ ap (λ (n : ℕ). Open n q) (sym at.1.1)))
  asked-called e calls (Busy q) is = let at = asked-busy s e (endpoint_at s e).recipient.kind (endpoint_at s e).recipient.object q is in
      inr (subst (λ (n : ℕ). cut.hears side n ≡ true) at.1 (beyond.heard e calls at.0))

  pub entered-own : (e payload : ℕ) → (side_of cut Endpoint e ≡ side) ⊎ (cut.calls side e ≡ true) → AnswersOwn cut side s (entered s e payload)
  entered-own e payload on = by (refuses (endpoint_at s e) payload) (to on)
    where
      to : (side_of cut Endpoint e ≡ side) ⊎ (cut.calls side e ≡ true) → AnswersOwn cut side s (asked s e (endpoint_at s e).recipient.kind (endpoint_at s e).recipient.object)
      to (inl own) = asked-own e (endpoint_at s e).recipient.kind (endpoint_at s e).recipient refl own (each.recipients e own)
      to (inr calls) = asked-called e calls (asked s e (endpoint_at s e).recipient.kind (endpoint_at s e).recipient.object) refl

      by : (b : Bool) → AnswersOwn cut side s (asked s e (endpoint_at s e).recipient.kind (endpoint_at s e).recipient.object) → AnswersOwn cut side s (if b then Dead else asked s e (endpoint_at s e).recipient.kind (endpoint_at s e).recipient.object)
      by true rest = tt
      by false rest = rest

  answered-own : (k : CapKind) (c : Capability) → c.kind ≡ k → MayHold cut side c → AnswersOwn cut side s (answered s k c)
  answered-own Entry c k may = entered-own c.object c.payload (side-entry cut side c k may)
  answered-own _ c k may = tt

  -- who answers a capability that a side may hold is one that it reaches
  pub answerer-own : (c : Capability) → MayHold cut side c → AnswersOwn cut side s (answerer s c)
  unfolding answerer
  answerer-own c may = answered-own c.kind c refl may

  by-called : (a : Answer) → AnswersOwn cut side s a → CalleeOwn cut side s (called_by a)
  by-called Dead own = tt
  by-called (Open e q) own = own
  by-called (Busy q) own = own

  called-own : (k : CapKind) (c : Capability) → c.kind ≡ k → MayHold cut side c → CalleeOwn cut side s (called s k c)
  called-own Entry c k may = by-called (entered s c.object c.payload) (entered-own c.object c.payload (side-entry cut side c k may))
  called-own _ c k may = may

  -- and so is what an invocation of it reaches
  pub callee-own : (c : Capability) → MayHold cut side c → CalleeOwn cut side s (callee s c)
  unfolding callee
  callee-own c may = called-own c.kind c refl may
