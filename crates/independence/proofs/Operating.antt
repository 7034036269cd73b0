-- Operations of the kernel for the right: the same request is settled the same in two systems side by side, and what is changed
-- leaves them so.
use Rattle.std.proofs.Common.{◌≡◌, ℕ, true, false, List, [], ◌∷◌, length, refl, sym, ◌∙◌, ap, ap₂, subst}
use Rattle.std.proofs.lemmas.Bool.{cond_both}
use Rattle.cap_format.specs.declared.kind.CapKind.{CapKind}
use Rattle.cap_format.specs.declared.kind.CapKind.TheVariants.{Page, CapPage, Gpt, Endpoint, Process}
use Rattle.cap_format.specs.declared.code.Code.{Code}
use Rattle.cap_format.specs.declared.code.Code.TheVariants.{InvalidCap}
use Rattle.cap_format.specs.declared.request.Request.{Request}
use Rattle.cap_format.specs.Kind.{is_memory}
use Rattle.cap_format.specs.Capability.{Capability, entry}
use Rattle.object_store.specs.Store.{Store, count_of}
use Rattle.object_store.specs.Object.{SameObject, object_at}
use Rattle.object_store.specs.Object.ObjectValue.{OfPage, OfProcess}
use Rattle.schedules.specs.Ready.{schedule_in}
use Rattle.schedules.specs.Queues.{QueuesValue, sleepers_of}
use Rattle.operations.specs.System.{System, Meant}
use Rattle.operations.specs.Change.{Change, PageIs, CapPageIs, SlotIs, HeaderIs, EndpointIs, ProcessIs, Left as LeftPlace, Readied, Woken, Destroyed, applied, applied_all}
use Rattle.operations.specs.Request.{w1, w2}
use Rattle.operations.specs.Row.{Settled, Answer, refused}
use Rattle.operations.specs.Memory.{kind_row, memory_operation}
use Rattle.operations.specs.Control as control
use Rattle.operations.specs.Control.{control_operation, endpoint_of, is_null}
use Rattle.operations.proofs.Settled.{◌▸◌, EachAnswer, by_table}
use Rattle.confinement.specs.declared.cut_side.CutSide.TheVariants.{Right}
use Rattle.confinement.specs.Cut.{Cut, side_of, MayHold}
use Rattle.confinement.specs.Acts.{Permitted, AllPermitted, AnswerPermitted, MayHoldIf}
use Rattle.confinement.proofs.Held.{may-own, side-process, side-endpoint}
use Rattle.confinement.proofs.Operating.{Finds, memory_operation-may, control_operation-may}
use Rattle.confinement.specs.isolation.Agree.{Agree}
use Rattle.confinement.proofs.Isolating.Operating.{same-memory, same-control}
use Rattle.independence.proofs.Overlay.{Overlay}
use Rattle.independence.proofs.Beside.{Beside, same-process, same-page, held-process, beside-process, beside-page, beside-cappage, beside-slot, beside-header, beside-endpoint, beside-left, beside-readied, beside-woken, same-schedule}

module _ (cut : Cut) where
  -- ---- what a change may be of

  -- a change of what is on the right, to what it may hold. An endpoint may get any recipient, and nothing is destroyed
  abbrev pub OfRight : Change → Type 0
  OfRight (EndpointIs e endpoint) = side_of cut Endpoint e ≡ Right
  OfRight change = Permitted cut Right change

  -- all of these changes are such
  abbrev pub AllOfRight : List Change → Type 0
  AllOfRight [] = Unit {0}
  AllOfRight (change ∷ changes) = OfRight change × AllOfRight changes

  -- and what is given may be held
  pub record AnswerOfRight (answer : Answer) : Type 0 where
    pub changes : AllOfRight answer.changes
    pub cap : MayHoldIf cut Right answer.cap

  permitted-right : (change : Change) → Permitted cut Right change → OfRight change
  permitted-right (PageIs n page) may = may
  permitted-right (CapPageIs n page) may = may
  permitted-right (SlotIs g i c) may = may
  permitted-right (HeaderIs g header) may = may
  permitted-right (EndpointIs e endpoint) may = may.0
  permitted-right (ProcessIs p process) may = may
  permitted-right (LeftPlace p) may = may
  permitted-right (Readied p) may = may
  permitted-right (Woken p) may = may
  permitted-right (Destroyed kind n) may = may

  all-right : (changes : List Change) → AllPermitted cut Right changes → AllOfRight changes
  all-right [] all = tt
  all-right (change ∷ changes) all = (permitted-right change all.0, all-right changes all.1)

  answer-right : (answer : Answer) → AnswerPermitted cut Right answer → AnswerOfRight answer
  answer-right answer may = record { changes = all-right answer.changes may.changes; cap = may.cap }

  -- ---- requests to an endpoint

  abbrev SettledRight : Settled → Type 0
  SettledRight settled = AnswerOfRight settled.answer

  refused-right : (code : Code) → SettledRight (refused code)
  refused-right code = record { changes = tt; cap = tt }

  endpoint-right : (s : Store) (c : Capability) (r : Request) → side_of cut Endpoint c.object ≡ Right → EachAnswer SettledRight (control.endpoint_table s c r)
  unfolding control.endpoint_table control.setrecipient_row control.getid_row control.setid_row control.setmatch_row control.makeentry_row control.setpayload_row
  endpoint-right s c r right =
      record { changes = (right, tt); cap = tt }
      ▸ record { changes = tt; cap = tt }
      ▸ record { changes = (right, tt); cap = tt }
      ▸ record { changes = (right, tt); cap = tt }
      ▸ record { changes = tt; cap = may-own cut Right (entry c.object c.count (w2 r)) refl right }
      ▸ record { changes = (right, tt); cap = tt }
      ▸ tt

  -- ---- requests

  module _ (s : Store) (c : Capability) (may : MayHold cut Right c) (r : Request) (sent : MayHold cut Right r.sent) where
    own-right : c.kind ≡ Endpoint → EachAnswer SettledRight (control.own_table Meant s c r c.kind)
    unfolding control.own_table
    own-right k = subst (λ (j : CapKind). EachAnswer SettledRight (control.own_table Meant s c r j)) (sym k) (endpoint-right s c r (side-endpoint cut Right c k may))

    table-right : c.kind ≡ Endpoint → EachAnswer SettledRight (control.control_table Meant s c r c.kind)
    unfolding control.control_table kind_row
    table-right k = record { changes = tt; cap = tt } ▸ own-right k

    endpoint_operation-right : c.kind ≡ Endpoint → SettledRight (control_operation Meant s c r)
    unfolding control_operation
    endpoint_operation-right k =
        cond_both (is_null c.kind) _ _ SettledRight (λ e. refused-right InvalidCap) (λ e. by_table SettledRight refused-right (control.control_table Meant s c r c.kind) (table-right k) (w1 r))

    -- what a request to a capability of no memory kind does
    pub control-right : ((c.kind ≡ Endpoint → ⊥) → Finds cut Right s c) → AnswerOfRight (control_operation Meant s c r).answer
    control-right finds = on c.kind refl
      where
        on : (k : CapKind) → c.kind ≡ k → AnswerOfRight (control_operation Meant s c r).answer
        on Endpoint k = endpoint_operation-right k
        on _ k = answer-right (control_operation Meant s c r).answer (control_operation-may cut Right s c may (finds (λ h. cc (k, h))) r sent Meant)

    -- and one of a memory kind
    pub memory-right : Finds cut Right s c → AnswerOfRight (memory_operation s c r).answer
    memory-right finds = answer-right (memory_operation s c r).answer (memory_operation-may cut Right s c may finds r sent)

module _ (cut : Cut) (f : Overlay cut) (start : System) where
  abbrev Two : System → System → Type 0
  Two w v = Beside cut f start w v

  -- ---- changes

  beside-applied : (w v : System) → Two w v → (change : Change) → OfRight cut change → Two (applied Meant w change) (applied Meant v change)
  beside-applied w v b (PageIs n page) may = beside-page cut f start w v b n page page refl may
  beside-applied w v b (CapPageIs n page) may = beside-cappage cut f start w v b n page page refl may.0 may.1
  beside-applied w v b (SlotIs g i c) may = beside-slot cut f start w v b g i c may.0 may.1
  beside-applied w v b (HeaderIs g header) may = beside-header cut f start w v b g header may
  beside-applied w v b (EndpointIs e endpoint) may = beside-endpoint cut f start w v b e endpoint endpoint refl may
  beside-applied w v b (ProcessIs p process) may = beside-process cut f start w v b p process process refl may.0 may.1
  beside-applied w v b (LeftPlace p) may = beside-left cut f start w v b p may
  beside-applied w v b (Readied p) may =
      beside-readied cut f start w v b (schedule_in w.store p) (schedule_in v.store p) (same-schedule cut f start w v b p may) p may
  beside-applied w v b (Woken p) may = beside-woken cut f start w v b (schedule_in w.store) (schedule_in v.store) (same-schedule cut f start w v b) p
  beside-applied w v b (Destroyed kind n) may = absurd may

  -- changes, one after the other
  pub beside-applied_all : (w v : System) → Two w v → (changes : List Change) → AllOfRight cut changes
      → Two (applied_all Meant w changes) (applied_all Meant v changes)
  beside-applied_all w v b [] all = b
  beside-applied_all w v b (change ∷ changes) all =
      beside-applied_all (applied Meant w change) (applied Meant v change) (beside-applied w v b change all.0) changes all.1

  module _ (w v : System) (b : Two w v) where
    -- ---- both agree on the right

    agree : Agree cut Right w v
    agree = record {
      same = by;
      sleepers = λ p own. ap (λ (q : QueuesValue). sleepers_of q p) (sym b.queues);
      sizes = record {
        pages = sym (ap (λ (s : Store). length s.contents.pages) b.store ∙ f.pages_size w.store.contents.pages);
        cappages = sym (ap (λ (s : Store). length s.contents.cappages) b.store);
        gpts = sym (ap (λ (s : Store). length s.items.gpts) b.store);
        processes = sym (ap (λ (s : Store). length s.contents.processes) b.store ∙ f.processes_size w.store.contents.processes);
        endpoints = sym (ap (λ (s : Store). length s.contents.endpoints) b.store);
        sleepers = ap (λ (q : QueuesValue). length q.sleepers) (sym b.queues);
      };
    }
      where
        by : (kind : CapKind) (n : ℕ) → side_of cut kind n ≡ Right → SameObject kind n w.store v.store
        by Page n own = ap₂ OfPage (ap (λ (s : Store). count_of s.items Page n) (sym b.store)) (same-page cut f start w v b n own)
        by CapPage n own = ap (λ (s : Store). object_at s CapPage n) (sym b.store)
        by Gpt n own = ap (λ (s : Store). object_at s Gpt n) (sym b.store)
        by Process n own = ap₂ OfProcess (ap (λ (s : Store). count_of s.items Process n) (sym b.store)) (same-process cut f start w v b n own)
        by Endpoint n own = ap (λ (s : Store). object_at s Endpoint n) (sym b.store)
        by _ n own = refl

    strictly : cut.weakly Right ≡ false
    strictly = let apart = b.apart in apart.strictly

    -- what stands in what a capability of the right names
    finds-but : (c : Capability) → MayHold cut Right c → (c.kind ≡ Endpoint → MayHold cut Right (endpoint_of w.store c).recipient) → Finds cut Right w.store c
    finds-but c may recipient = let apart = b.apart in record {
      slots = λ i own. apart.slots c.object i own;
      cappages = λ i own. apart.cappages c.object i;
      process = λ k. held-process cut f start w v b c.object (side-process cut Right c k may);
      recipient = recipient;
    }

    -- a request to a capability of a memory kind is settled the same
    pub same-memory_operation : (c : Capability) → MayHold cut Right c → (r : Request) → MayHold cut Right r.sent → memory_operation w.store c r ≡ memory_operation v.store c r
    same-memory_operation c may r sent = same-memory cut Right strictly w v agree c may r sent

    -- and changes what is on the right
    pub memory_operation-right : (c : Capability) → MayHold cut Right c → is_memory c.kind ≡ true → (r : Request) → MayHold cut Right r.sent → AnswerOfRight cut (memory_operation w.store c r).answer
    memory_operation-right c may memory r sent = memory-right cut w.store c may r sent (finds-but c may (λ k. let no = sym memory ∙ ap is_memory k in absurd (cc (no))))

    -- so is one to a capability of another kind
    pub same-control_operation : (c : Capability) → MayHold cut Right c → (r : Request) → MayHold cut Right r.sent → control_operation Meant w.store c r ≡ control_operation Meant v.store c r
    same-control_operation c may r sent = same-control cut Right strictly w v agree c may r sent

    -- and does
    pub control_operation-right : (c : Capability) → MayHold cut Right c → (r : Request) → MayHold cut Right r.sent → AnswerOfRight cut (control_operation Meant w.store c r).answer
    control_operation-right c may r sent = control-right cut w.store c may r sent (λ no. finds-but c may (λ k. absurd (no k)))
