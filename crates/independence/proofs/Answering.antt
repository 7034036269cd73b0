-- Who answers is the same in two systems side by side: all that is read of a process on the left is that it runs, so that it is
-- busy. Who receives is on the right.
use Rattle.std.proofs.Common.{◌≡◌, ℕ, Bool, true, false, if◌then◌else◌, refl, sym, ◌∙◌, ap, Option, Some, None}
use Rattle.cap_format.specs.declared.kind.CapKind.{CapKind}
use Rattle.cap_format.specs.declared.kind.CapKind.TheVariants.{Endpoint, Entry, Process}
use Rattle.cap_format.specs.Capability.{Capability}
use Rattle.process_objects.specs.declared.state.State.{State}
use Rattle.process_objects.specs.declared.state.State.TheVariants.{Running, Receiving, Faulted}
use Rattle.process_objects.specs.Process.{ProcessValue, slot_of}
use Rattle.endpoint_objects.specs.declared.endpoint.Endpoint.{Endpoint as EndpointValue}
use Rattle.object_store.specs.Store.{Store, process_at, endpoint_at}
use Rattle.object_store.specs.Object.{SameObject}
use Rattle.invocation.specs.declared.callee.Callee.{Callee}
use Rattle.invocation.specs.declared.callee.Callee.TheVariants.{Kernel as KernelCallee, Open as OpenCallee, Busy as BusyCallee, Dead as DeadCallee}
use Rattle.invocation.specs.Answerer.{Answer, takes, answered_by, asked, refuses, entered, answered, answerer}
use Rattle.invocation.specs.Answerer.Answer.{Dead, Open, Busy}
use Rattle.invocation.specs.Target.{called_by, called, callee}
use Rattle.operations.specs.System.{System}
use Rattle.fault_path.specs.Fault.{is_answer, handler_of, heard_by}
use Rattle.confinement.specs.declared.cut_side.CutSide.{CutSide}
use Rattle.confinement.specs.declared.cut_side.CutSide.TheVariants.{Left, Right}
use Rattle.confinement.specs.Cut.{Cut, IsClosed, side_of, MayHold}
use Rattle.confinement.specs.Acts.{MayHoldIf}
use Rattle.confinement.proofs.Own.{own-entry}
use Rattle.independence.proofs.Overlay.{Overlay}
use Rattle.independence.proofs.Beside.{Beside, same-process, same-endpoint, held-process}

-- the processes of the left run
abbrev pub Run : Cut → Store → Type 0
Run cut s = (p : ℕ) → side_of cut Process p ≡ Left → (process_at s p).state ≡ Running

module _ (cut : Cut) where
  -- who receives a message, if anybody does, is on the right, and so is the endpoint
  abbrev pub AnswersRight : Answer → Type 0
  AnswersRight Dead = Unit {0}
  AnswersRight (Open e q) = (side_of cut Endpoint e ≡ Right) × (side_of cut Process q ≡ Right)
  AnswersRight (Busy q) = Unit {0}

  -- the same of what an invocation reaches; the kernel is asked through what the right may hold
  abbrev pub CalleeRight : Callee → Type 0
  CalleeRight (KernelCallee c) = MayHold cut Right c
  CalleeRight (OpenCallee e q) = (side_of cut Endpoint e ≡ Right) × (side_of cut Process q ≡ Right)
  CalleeRight (BusyCallee q) = Unit {0}
  CalleeRight DeadCallee = Unit {0}

  -- who receives doesn't run, and so is on the right
  receives-right : (s : Store) → Run cut s → (q : ℕ) (side : CutSide) → side_of cut Process q ≡ side → (state : State) → (process_at s q).state ≡ state → (e id : ℕ)
      → side_of cut Endpoint e ≡ Right → AnswersRight (answered_by state id e q)
  receives-right s run q side is Running e_is e id own = tt
  receives-right s run q side is (Faulted code address) e_is e id own = tt
  receives-right s run q Right is (Receiving accept) e_is e id own = by (takes accept.wait id)
    where
      by : (b : Bool) → AnswersRight (if b then Open e q else Busy q)
      by true = (own, is)
      by false = tt
  receives-right s run q Left is (Receiving accept) e_is e id own = let runs = sym (run q is) ∙ e_is in absurd (cc (runs))

  asked-right : (s : Store) → Run cut s → (e : ℕ) (k : CapKind) (q : ℕ) → side_of cut Endpoint e ≡ Right → AnswersRight (asked s e k q)
  asked-right s run e Process q own = receives-right s run q (side_of cut Process q) refl (process_at s q).state refl e (endpoint_at s e).id own
  asked-right s run e _ q own = tt

  entered-right : (s : Store) → Run cut s → (e payload : ℕ) → side_of cut Endpoint e ≡ Right → AnswersRight (entered s e payload)
  entered-right s run e payload own = by (refuses (endpoint_at s e) payload)
    where
      by : (b : Bool) → AnswersRight (if b then Dead else asked s e (endpoint_at s e).recipient.kind (endpoint_at s e).recipient.object)
      by true = tt
      by false = asked-right s run e (endpoint_at s e).recipient.kind (endpoint_at s e).recipient.object own

  answered-right : IsClosed cut → (s : Store) → Run cut s → (k : CapKind) (c : Capability) → c.kind ≡ k → MayHold cut Right c → AnswersRight (answered s k c)
  answered-right closed s run Entry c k may = entered-right s run c.object c.payload (own-entry cut closed Right c k may)
  answered-right closed s run _ c k may = tt

  -- who answers what the right may hold
  pub answerer-right : IsClosed cut → (s : Store) → Run cut s → (c : Capability) → MayHold cut Right c → AnswersRight (answerer s c)
  unfolding answerer
  answerer-right closed s run c may = answered-right closed s run c.kind c refl may

  called_by-right : (a : Answer) → AnswersRight a → CalleeRight (called_by a)
  called_by-right Dead own = tt
  called_by-right (Open e q) own = own
  called_by-right (Busy q) own = tt

  called-right : IsClosed cut → (s : Store) → Run cut s → (k : CapKind) (c : Capability) → c.kind ≡ k → MayHold cut Right c → CalleeRight (called s k c)
  called-right closed s run Entry c k may = called_by-right (entered s c.object c.payload) (entered-right s run c.object c.payload (own-entry cut closed Right c k may))
  called-right closed s run _ c k may = may

  -- and what an invocation of it reaches
  pub callee-right : IsClosed cut → (s : Store) → Run cut s → (c : Capability) → MayHold cut Right c → CalleeRight (callee s c)
  unfolding callee
  callee-right closed s run c may = called-right closed s run c.kind c refl may

  -- the handler that is asked may be held
  pub may-handler : (s : Store) (p : ℕ) (handler : Option Capability) → MayHold cut Right (slot_of (process_at s p) 2) → MayHoldIf cut Right handler → MayHold cut Right (handler_of s p handler)
  unfolding handler_of
  may-handler s p None own may = own
  may-handler s p (Some c) own may = by (is_answer (answerer s c))
    where
      by : (b : Bool) → MayHold cut Right (if b then c else slot_of (process_at s p) 2)
      by true = may
      by false = own

  module _ (f : Overlay cut) (start w v : System) (b : Beside cut f start w v) (run : Run cut start.store) where
    -- they still run
    pub run-now : Run cut w.store
    run-now p left =
        let same : SameObject Process p start.store w.store = b.spares Process p (λ right. let e : Left ≡ Right = sym left ∙ right in cc (e)) in
        let value : process_at start.store p ≡ process_at w.store p = cc (same) in
        ap (λ (q : ProcessValue). q.state) (sym value) ∙ run p left

    same-state : (q : ℕ) (side : CutSide) → side_of cut Process q ≡ side → (process_at w.store q).state ≡ (process_at v.store q).state
    same-state q Right right = ap (λ (x : ProcessValue). x.state) (same-process cut f start w v b q right)
    same-state q Left left =
        run-now q left ∙ sym (ap (λ (s : Store). (process_at s q).state) b.store ∙ f.running w.store.contents.processes q left (run-now q left))

    same-asked : (e : ℕ) (k : CapKind) (q : ℕ) → asked w.store e k q ≡ asked v.store e k q
    same-asked e Process q =
        ap (λ (state : State). answered_by state (endpoint_at w.store e).id e q) (same-state q (side_of cut Process q) refl)
        ∙ ap (λ (x : EndpointValue). answered_by (process_at v.store q).state x.id e q) (same-endpoint cut f start w v b e)
    same-asked e _ q = refl

    -- who answers an entry to this endpoint, as the endpoint is
    abbrev entered_as : Store → ℕ → ℕ → EndpointValue → Answer
    entered_as s e payload x = if refuses x payload then Dead else asked s e x.recipient.kind x.recipient.object

    same-entered : (e payload : ℕ) → entered w.store e payload ≡ entered v.store e payload
    same-entered e payload =
        let x = endpoint_at w.store e in
        ap (λ (a : Answer). if refuses x payload then Dead else a) (same-asked e x.recipient.kind x.recipient.object)
        ∙ ap (entered_as v.store e payload) (same-endpoint cut f start w v b e)

    same-answered : (k : CapKind) (c : Capability) → answered w.store k c ≡ answered v.store k c
    same-answered Entry c = same-entered c.object c.payload
    same-answered _ c = refl

    -- who answers a capability
    pub same-answerer : (c : Capability) → answerer w.store c ≡ answerer v.store c
    unfolding answerer
    same-answerer c = same-answered c.kind c

    same-called : (k : CapKind) (c : Capability) → called w.store k c ≡ called v.store k c
    same-called Entry c = ap called_by (same-entered c.object c.payload)
    same-called _ c = refl

    -- what an invocation of it reaches
    pub same-callee : (c : Capability) → callee w.store c ≡ callee v.store c
    unfolding callee
    same-callee c = same-called c.kind c

    -- the handler that is asked
    pub same-handler_of : (p : ℕ) (handler : Option Capability) → side_of cut Process p ≡ Right → handler_of w.store p handler ≡ handler_of v.store p handler
    unfolding handler_of
    same-handler_of p None right = ap (λ (q : ProcessValue). slot_of q 2) (same-process cut f start w v b p right)
    same-handler_of p (Some c) right =
        ap (λ (a : Answer). if is_answer a then c else slot_of (process_at w.store p) 2) (same-answerer c)
        ∙ ap (λ (q : ProcessValue). if is_answer (answerer v.store c) then c else slot_of q 2) (same-process cut f start w v b p right)

    -- who hears a fault
    pub same-heard : (p : ℕ) (handler : Option Capability) → side_of cut Process p ≡ Right → heard_by w.store p handler ≡ heard_by v.store p handler
    same-heard p handler right =
        same-answerer (handler_of w.store p handler) ∙ ap (λ (c : Capability). answerer v.store c) (same-handler_of p handler right)

    -- and the handler of a process of the right may be held
    pub handler-right : (p : ℕ) (handler : Option Capability) → side_of cut Process p ≡ Right → MayHoldIf cut Right handler → MayHold cut Right (handler_of w.store p handler)
    handler-right p handler right may = let held = held-process cut f start w v b p right in may-handler w.store p handler (held.slots 2) may
