-- Operations of the kernel for this side: the same request is settled the same in two systems that agree on it, and the
-- same permitted change leaves them matching.
use Rattle.std.proofs.Common.{◌≡◌, ℕ, ◌+◌, ◌*◌, false, not, if◌then◌else◌, List, [], ◌∷◌, refl, ap}
use Rattle.cap_format.specs.declared.kind.CapKind.{CapKind}
use Rattle.cap_format.specs.declared.kind.CapKind.TheVariants.{Page, CapPage, Gpt, Endpoint, Process, Range}
use Rattle.cap_format.specs.declared.code.Code.TheVariants.{InvalidCap}
use Rattle.cap_format.specs.declared.request.Request.{Request}
use Rattle.cap_format.specs.Capability.{Capability}
use Rattle.gpt_objects.specs.Gpt.{GptValue}
use Rattle.object_store.specs.Store.{Store, page_at}
use Rattle.schedules.specs.Ready.{schedule_in}
use Rattle.operations.specs.System.{System, Meant}
use Rattle.operations.specs.Change.{Change, PageIs, CapPageIs, SlotIs, HeaderIs, EndpointIs, ProcessIs, Left, Readied, Woken, Destroyed, applied, applied_all}
use Rattle.operations.specs.Request.{w1}
use Rattle.operations.specs.Row.{Row, tells, does, with_access, refused, settled, settled_in}
use Rattle.operations.specs.Memory as memory
use Rattle.operations.specs.Memory.{read_only, opaque, is_page, bit, kind_row}
use Rattle.operations.specs.Control as control
use Rattle.operations.specs.Control.{is_null}
use Rattle.operations.proofs.Settled.{◌▸◌, EachPair, by_pairs}
use Rattle.confinement.specs.declared.cut_side.CutSide.{CutSide}
use Rattle.confinement.specs.Cut.{Cut, MayHold}
use Rattle.confinement.specs.Acts.{Permitted, AllPermitted}
use Rattle.confinement.proofs.Held.{side-endpoint, side-process}
use Rattle.confinement.specs.isolation.Agree.{Agree}
use Rattle.confinement.proofs.Isolating.Agreeing.{same-page, same-cappage, same-gpt, same-endpoint, same-process}
use Rattle.confinement.proofs.Isolating.Walks.{names-kind}
use Rattle.confinement.proofs.Isolating.Matching.{Match, match-process, match-page, match-cappage, match-slot, match-header, match-endpoint, match-left, match-readied, match-woken, same-schedule}

module _ (cut : Cut) (side : CutSide) where
  -- ---- changes

  -- a permitted change
  match-applied : (w v : System) → Match cut side w v → (change : Change) → Permitted cut side change → Match cut side (applied Meant w change) (applied Meant v change)
  match-applied w v m (PageIs n page) may = match-page cut side w v m n page page refl may
  match-applied w v m (CapPageIs n page) may = match-cappage cut side w v m n page page refl may.0 may.1
  match-applied w v m (SlotIs g i c) may = match-slot cut side w v m g i c may.0 may.1
  match-applied w v m (HeaderIs g header) may = match-header cut side w v m g header may
  match-applied w v m (EndpointIs e endpoint) may = match-endpoint cut side w v m e endpoint endpoint refl may.0 may.1
  match-applied w v m (ProcessIs p process) may = match-process cut side w v m p process process refl may.0 may.1
  match-applied w v m (Left p) may = match-left cut side w v m p may
  match-applied w v m (Readied p) may =
      match-readied cut side w v m (schedule_in w.store p) (schedule_in v.store p) (same-schedule cut side w v m p may) p may
  match-applied w v m (Woken p) may = match-woken cut side w v m (schedule_in w.store) (schedule_in v.store) (same-schedule cut side w v m) p may
  match-applied w v m (Destroyed kind n) may = absurd may

  -- and several, one after the other
  pub match-applied_all : (w v : System) → Match cut side w v → (changes : List Change) → AllPermitted cut side changes
      → Match cut side (applied_all Meant w changes) (applied_all Meant v changes)
  match-applied_all w v m [] all = m
  match-applied_all w v m (change ∷ changes) all =
      match-applied_all (applied Meant w change) (applied Meant v change) (match-applied w v m change all.0) changes all.1

  -- ---- rows

  -- two rows come to the same
  abbrev SameRow : Row → Row → Type 0
  SameRow row other = settled row ≡ settled other

  module _ (alone : cut.weakly side ≡ false) (w v : System) (agree : Agree cut side w v) (c : Capability) (may : MayHold cut side c) (r : Request) (sent : MayHold cut side r.sent) where
    -- a copy from another page: where what is sent is no page, that is refused
    abbrev copy_as : Store → CapKind → Row
    copy_as s k = with_access (read_only c) (not (is_page k)) (does (PageIs c.object (page_at s r.sent.object) ∷ []))

    copy-as : (k : CapKind) → r.sent.kind ≡ k → SameRow (copy_as w.store k) (copy_as v.store k)
    copy-as Page k =
        ap (λ (page : List ℕ). settled (with_access (read_only c) false (does (PageIs c.object page ∷ []))))
        (same-page cut side w v agree r.sent.object (names-kind cut side alone r.sent Page k refl refl sent))
    copy-as _ k = refl

    same-copy : SameRow (memory.copy_row w.store c r) (memory.copy_row v.store c r)
    unfolding memory.copy_row
    same-copy = copy-as r.sent.kind refl

    same-get : c.kind ≡ CapPage → SameRow (memory.get_row w.store c r) (memory.get_row v.store c r)
    unfolding memory.get_row
    same-get k = rw (same-cappage cut side w v agree c.object (names-kind cut side alone c CapPage k refl refl may)) refl

    same-set : c.kind ≡ CapPage → SameRow (memory.set_row w.store c r) (memory.set_row v.store c r)
    unfolding memory.set_row
    same-set k = rw (same-cappage cut side w v agree c.object (names-kind cut side alone c CapPage k refl refl may)) refl

    same-getslot : c.kind ≡ Gpt → SameRow (memory.getslot_row w.store c r) (memory.getslot_row v.store c r)
    unfolding memory.getslot_row
    same-getslot k = rw (same-gpt cut side w v agree c.object (names-kind cut side alone c Gpt k refl refl may)) refl

    same-getheader : c.kind ≡ Gpt → SameRow (memory.getheader_row w.store c) (memory.getheader_row v.store c)
    unfolding memory.getheader_row
    same-getheader k =
        ap (λ (x : GptValue). settled (with_access (opaque c) false (tells x.header.l2v (bit x.header.ha + 2 * bit x.header.bg) 0)))
        (same-gpt cut side w v agree c.object (names-kind cut side alone c Gpt k refl refl may))

    same-memory_own : (k : CapKind) → c.kind ≡ k → EachPair SameRow (memory.own_table w.store c r k) (memory.own_table v.store c r k)
    unfolding memory.own_table memory.page_table memory.cappage_table memory.gpt_table
    same-memory_own Page k = (refl, refl) ▸ (refl, same-copy) ▸ tt
    same-memory_own CapPage k = (refl, refl) ▸ (refl, same-get k) ▸ (refl, same-set k) ▸ tt
    same-memory_own Gpt k = (refl, same-getslot k) ▸ (refl, refl) ▸ (refl, same-getheader k) ▸ (refl, refl) ▸ (refl, refl) ▸ tt
    same-memory_own _ k = tt

    same-memory_table : EachPair SameRow (memory.memory_table w.store c r c.kind) (memory.memory_table v.store c r c.kind)
    unfolding memory.memory_table
    same-memory_table = (refl, refl) ▸ (refl, refl) ▸ (refl, refl) ▸ (refl, refl) ▸ (refl, refl) ▸ same-memory_own c.kind refl

    -- a request to a capability of a memory kind
    pub same-memory : memory.memory_operation w.store c r ≡ memory.memory_operation v.store c r
    unfolding memory.memory_operation
    same-memory = by_pairs (λ x y. x ≡ y) refl (memory.memory_table w.store c r c.kind) (memory.memory_table v.store c r c.kind) same-memory_table (w1 r)

    -- ---- the other kinds

    same-endpoint_table : c.kind ≡ Endpoint → control.endpoint_table w.store c r ≡ control.endpoint_table v.store c r
    unfolding control.endpoint_table control.setrecipient_row control.getid_row control.setid_row control.setmatch_row control.makeentry_row control.setpayload_row
    same-endpoint_table k = rw (same-endpoint cut side w v agree c.object (side-endpoint cut side c k may)) refl

    same-process_table : c.kind ≡ Process → control.process_table w.store c r ≡ control.process_table v.store c r
    unfolding control.process_table control.getreg_row control.setreg_row control.getcapreg_row control.setcapreg_row control.getslot_row control.setslot_row control.getstate_row control.resume_row control.stop_row
    same-process_table k = rw (same-process cut side w v agree c.object (side-process cut side c k may)) refl

    same-control_own : (k : CapKind) → c.kind ≡ k → control.own_table Meant w.store c r k ≡ control.own_table Meant v.store c r k
    unfolding control.own_table
    same-control_own Endpoint k = same-endpoint_table k
    same-control_own Process k = same-process_table k
    same-control_own Range k = absurd (may.no_range k)
    same-control_own _ k = refl

    -- a request to a capability of another kind: nobody holds a Range
    pub same-control : control.control_operation Meant w.store c r ≡ control.control_operation Meant v.store c r
    unfolding control.control_operation control.control_table
    same-control =
        ap (λ (rows : List (ℕ × Row)). if is_null c.kind then refused InvalidCap else settled_in ((0, kind_row c) ∷ rows) (w1 r))
        (same-control_own c.kind refl)
