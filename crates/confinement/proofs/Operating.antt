-- Operations: a permitted change stays on its side, and the changes of each row are permitted.
use Rattle.std.proofs.Common.{◌≡◌, ℕ, zero, suc, ◌⊎◌, inl, inr, Bool, true, false, ◌||◌, ◌==◌, if◌then◌else◌, List, [], ◌∷◌, get_or, replicate, refl, sym, ◌∙◌, ap, subst}
use Rattle.std.proofs.lemmas.Bool.{and_parts, cond_both}
use Rattle.cap_format.specs.declared.kind.CapKind.{CapKind}
use Rattle.cap_format.specs.declared.kind.CapKind.TheVariants.{Page, CapPage, Gpt, Window, LocalWindow, Endpoint, Process, Schedule, Range, Discrim}
use Rattle.cap_format.specs.declared.code.Code.{Code}
use Rattle.cap_format.specs.declared.code.Code.TheVariants.{InvalidCap, UnknownRequest, NoAccess, RequestError, CountSpent}
use Rattle.cap_format.specs.declared.request.Request.{Request}
use Rattle.cap_format.specs.Kind.{is_counted, object_kind, number_of}
use Rattle.cap_format.specs.Restr.{has}
use Rattle.cap_format.specs.Guard.{guard_of}
use Rattle.cap_format.specs.Capability.{Capability, null, entry, schedule, window, local_window, with_guard}
use Rattle.cap_format.specs.Weakening.{reduced, harmless_kind}
use Rattle.page_store.specs.CapPage.{cap_at, with_cap, empty_cappage}
use Rattle.page_store.specs.Page.{empty_page}
use Rattle.process_objects.specs.declared.state.State.{State as RunState}
use Rattle.process_objects.specs.declared.state.State.TheVariants.{Running, Receiving, Faulted}
use Rattle.process_objects.specs.Process.{ProcessValue, capreg_of, slot_of, with_pc, with_reg, stopped}
use Rattle.endpoint_objects.specs.declared.endpoint.Endpoint.{Endpoint as EndpointValue}
use Rattle.object_store.specs.Store.{Store, slot_at, page_at, cappage_at}
use Rattle.operations.specs.System.{System, Reading, schedule_by}
use Rattle.operations.specs.Weak.{read_through}
use Rattle.operations.specs.Change.{Change, PageIs, CapPageIs, SlotIs, HeaderIs, EndpointIs, ProcessIs, Left, Readied, Woken, Destroyed, applied, applied_all}
use Rattle.operations.specs.Request.{w1, w2, w3, w4}
use Rattle.operations.specs.Row.{Row, Settled, tells, gives, does, refused, settled, settled_in}
use Rattle.operations.specs.Memory as memory
use Rattle.operations.specs.Memory.{read_only, opaque, window_of, window_is_local, window_local_slot, window_restr, window_l2g}
use Rattle.operations.specs.Control as control
use Rattle.operations.specs.Control.{endpoint_of, process_of, with_number, tells_state, is_null}
use Rattle.operations.proofs.Settled.{◌▸◌, EachRow, by_rows}
use Rattle.confinement.specs.declared.cut_side.CutSide.{CutSide}
use Rattle.confinement.specs.Cut.{Cut, side_of, MayHold, EachHeldBy, HoldsFor}
use Rattle.confinement.specs.Acts.{Acts, ProcessHeld, Permitted, AllPermitted, AnswerPermitted}
use Rattle.confinement.proofs.Held.{is_entry, may-null, may-uncounted, may-own, may-reduced, may-with_guard, may-read, side-page, side-cappage, side-gpt, side-process, side-endpoint}
use Rattle.confinement.proofs.Sleeping.{each_set}
use Rattle.confinement.proofs.Acting.{acts-same, acts-then, acts-process, acts-page, acts-cappage, acts-slot, acts-header, acts-endpoint, acts-left, acts-readied, acts-woken}
use Rattle.confinement.proofs.Delivering.{held-state, held-capreg, held-slot}

module _ (cut : Cut) (side : CutSide) where
  -- ---- changes

  -- a permitted change stays on its side
  pub acts-applied : (reading : Reading) (w : System) (change : Change) → Permitted cut side change → HoldsFor cut side w → Acts cut side w (applied reading w change)
  acts-applied reading w (PageIs n page) may holds = acts-page cut side w n page may holds
  acts-applied reading w (CapPageIs n page) may holds = acts-cappage cut side w n page may.0 may.1 holds
  acts-applied reading w (SlotIs g i c) may holds = acts-slot cut side w g i c may.0 may.1 holds
  acts-applied reading w (HeaderIs g header) may holds = acts-header cut side w g header may holds
  acts-applied reading w (EndpointIs e endpoint) may holds = acts-endpoint cut side w e endpoint may.0 may.1 holds
  acts-applied reading w (ProcessIs p process) may holds = acts-process cut side w p process may.0 may.1 holds
  acts-applied reading w (Left p) may holds = acts-left cut side w p may holds
  acts-applied reading w (Readied p) may holds = acts-readied cut side w (schedule_by reading w.store p) p may holds
  acts-applied reading w (Woken p) may holds = acts-woken cut side w (schedule_by reading w.store) p may holds
  acts-applied reading w (Destroyed kind n) may holds = absurd may

  -- and so do several, one after the other
  pub acts-applied_all : (reading : Reading) (w : System) (changes : List Change) → AllPermitted cut side changes → HoldsFor cut side w → Acts cut side w (applied_all reading w changes)
  acts-applied_all reading w [] all holds = acts-same cut side w holds
  acts-applied_all reading w (change ∷ changes) all holds =
      acts-then cut side w (applied reading w change) (applied_all reading (applied reading w change) changes)
      (acts-applied reading w change all.0 holds)
      (λ h. acts-applied_all reading (applied reading w change) changes all.1 h)

  -- ---- rows

  -- what a row does and tells is permitted, where it wants no access that is not there
  abbrev RowMay : Row → Type 0
  RowMay row = row.no_access ≡ false → AnswerPermitted cut side row.answer

  abbrev SettledMay : Settled → Type 0
  SettledMay settled = AnswerPermitted cut side settled.answer

  refused-may : (code : Code) → SettledMay (refused code)
  refused-may code = record { changes = tt; cap = tt }

  settled-may : (row : Row) → RowMay row → SettledMay (settled row)
  settled-may row may =
      cond_both row.no_access _ _ SettledMay (λ e. refused-may NoAccess) (λ access.
      cond_both row.request_error _ _ SettledMay (λ e. refused-may RequestError) (λ e.
      cond_both row.count_spent _ _ SettledMay (λ e. refused-may CountSpent) (λ e. may access)))

  -- and so is what a table of such rows comes to
  rows-may : (rows : List (ℕ × Row)) → EachRow RowMay rows → (n : ℕ) → SettledMay (settled_in rows n)
  rows-may = by_rows SettledMay RowMay settled-may (refused-may UnknownRequest)

  -- words alone
  tells-may : (a b c : ℕ) → AnswerPermitted cut side (tells a b c)
  tells-may a b c = record { changes = tt; cap = tt }

  -- a capability alone
  gives-may : (c : Capability) → MayHold cut side c → AnswerPermitted cut side (gives c)
  gives-may c may = record { changes = tt; cap = may }

  -- one change alone
  does-may : (change : Change) → Permitted cut side change → AnswerPermitted cut side (does (change ∷ []))
  does-may change may = record { changes = (may, tt); cap = tt }

  or_false : (a b : Bool) → (a || b) ≡ false → b ≡ false
  or_false true b e = absurd (cc (e))
  or_false false b e = e

  -- what stands in the object that a capability of this side names may be held by this side: in a GPT or a capability page where
  -- it is of this side, and in a process or an endpoint
  pub record Finds (s : Store) (c : Capability) : Type 0 where
    pub slots : (i : ℕ) → side_of cut Gpt c.object ≡ side → MayHold cut side (slot_at s.items c.object i)
    pub cappages : (i : ℕ) → side_of cut CapPage c.object ≡ side → MayHold cut side (cap_at (cappage_at s c.object) i)
    pub process : c.kind ≡ Process → ProcessHeld cut side (process_of s c)
    pub recipient : c.kind ≡ Endpoint → MayHold cut side (endpoint_of s c).recipient

  -- where each object of this side holds what it may
  pub finds : (s : Store) → EachHeldBy cut side s → (c : Capability) → MayHold cut side c → Finds s c
  finds s each c may = record {
    slots = λ i own. each.slots c.object i own;
    cappages = λ i own. each.cappages c.object i own;
    process = λ k. let own = side-process cut side c k may in record {
      capregs = λ i. each.capregs c.object i own;
      slots = λ i. each.process_slots c.object i own;
    };
    recipient = λ k. each.recipients c.object (side-endpoint cut side c k may);
  }

  module _ (s : Store) (c : Capability) (may : MayHold cut side c) (held : Finds s c) (r : Request) (sent : MayHold cut side r.sent) where
    kind-may : RowMay (memory.kind_row c)
    unfolding memory.kind_row
    kind-may access = tells-may (number_of c.kind) 0 0

    -- ---- memory kinds

    reduce-may : RowMay (memory.reduce_row c r)
    unfolding memory.reduce_row
    reduce-may access = gives-may (reduced c (w2 r)) (may-reduced cut side c (w2 r) may)

    getguard-may : RowMay (memory.getguard_row c)
    unfolding memory.getguard_row
    getguard-may access = tells-may c.guard.l2g c.guard.matches 0

    setguard-may : RowMay (memory.setguard_row c r)
    unfolding memory.setguard_row
    setguard-may access = gives-may (with_guard c (guard_of (w2 r) (w3 r))) (may-with_guard cut side c (guard_of (w2 r) (w3 r)) may)

    getrestr-may : RowMay (memory.getrestr_row c)
    unfolding memory.getrestr_row
    getrestr-may access = tells-may c.restr 0 0

    clear_page-may : c.kind ≡ Page → RowMay (memory.clear_page_row c)
    unfolding memory.clear_page_row
    clear_page-may k access = does-may (PageIs c.object empty_page) (side-page cut side c k access may)

    copy-may : c.kind ≡ Page → RowMay (memory.copy_row s c r)
    unfolding memory.copy_row
    copy-may k access = does-may (PageIs c.object (page_at s r.sent.object)) (side-page cut side c k access may)

    null_at : (n i : ℕ) → get_or (replicate n null) i null ≡ null
    null_at zero i = refl
    null_at (suc n) zero = refl
    null_at (suc n) (suc i) = null_at n i

    empty-held : (i : ℕ) → MayHold cut side (cap_at empty_cappage i)
    unfolding empty_cappage
    empty-held i = subst (λ (c : Capability). MayHold cut side c) (sym (null_at 256 i)) (may-null cut side)

    clear_cappage-may : c.kind ≡ CapPage → RowMay (memory.clear_cappage_row c)
    unfolding memory.clear_cappage_row
    clear_cappage-may k access = does-may (CapPageIs c.object empty_cappage) (side-cappage cut side c k access may, empty-held)

    -- the object is of this side, or what is read of it is weak
    reads-weak : (k : CapKind) → c.kind ≡ k → is_entry k ≡ false → is_counted k ≡ true → (harmless_kind k c.restr ≡ true → has c.restr 4 ≡ true)
        → (side_of cut (object_kind k) c.object ≡ side) ⊎ ((cut.weakly side ≡ true) × (has c.restr 4 ≡ true))
    reads-weak k e other counted weak = elim may.own [
      | inl own ↦ inl (subst (λ (j : CapKind). side_of cut (object_kind j) c.object ≡ side) e (own (ap (λ (j : CapKind). is_counted j) e ∙ counted)))
      | inr (inr call) ↦ let entry = sym (ap is_entry e) ∙ ap is_entry call.0 in absurd (cc (entry, other))
      | inr (inl cross) ↦ inr (cross.0, weak (sym (ap (λ (j : CapKind). harmless_kind j c.restr) e) ∙ cross.1))
    ]

    get-may : c.kind ≡ CapPage → RowMay (memory.get_row s c r)
    unfolding memory.get_row
    get-may k access =
        let found = cap_at (cappage_at s c.object) (w2 r) in
        gives-may (read_through c.restr found)
        (may-read cut side (side_of cut CapPage c.object) c.restr found (held.cappages (w2 r)) (reads-weak CapPage k refl refl (λ h. let p = and_parts _ _ h in p.1)))

    set-may : c.kind ≡ CapPage → RowMay (memory.set_row s c r)
    unfolding memory.set_row
    set-may k access =
        let own = side-cappage cut side c k access may in
        does-may (CapPageIs c.object (with_cap (cappage_at s c.object) (w2 r) r.sent))
        (own, each_set (λ j (c : Capability). MayHold cut side c) (cappage_at s c.object) (w2 r) r.sent null sent (λ j. held.cappages j own))

    getslot-may : c.kind ≡ Gpt → RowMay (memory.getslot_row s c r)
    unfolding memory.getslot_row
    getslot-may k access =
        let found = slot_at s.items c.object (w2 r) in
        gives-may (read_through c.restr found)
        (may-read cut side (side_of cut Gpt c.object) c.restr found (held.slots (w2 r)) (reads-weak Gpt k refl refl (λ h. let p = and_parts _ _ h in let q = and_parts _ _ p.0 in q.1)))

    setslot-may : c.kind ≡ Gpt → RowMay (memory.setslot_row c r)
    unfolding memory.setslot_row
    setslot-may k access = does-may (SlotIs c.object (w2 r) r.sent) (side-gpt cut side c k (or_false (opaque c) (read_only c) access) may, sent)

    getheader-may : RowMay (memory.getheader_row s c)
    unfolding memory.getheader_row
    getheader-may access = record { changes = tt; cap = tt }

    setheader-may : c.kind ≡ Gpt → RowMay (memory.setheader_row c r)
    unfolding memory.setheader_row
    setheader-may k access = record { changes = (side-gpt cut side c k (or_false (opaque c) (read_only c) access) may, tt); cap = tt }

    window-held : MayHold cut side (window_of r)
    unfolding window_of
    window-held = by (window_is_local r)
      where
        by : (b : Bool) → MayHold cut side (if b then local_window (window_local_slot r) (window_restr r) (guard_of (window_l2g r) (w3 r)) (w4 r) else window (window_restr r) (guard_of (window_l2g r) (w3 r)) (w4 r))
        by true = may-uncounted cut side _ LocalWindow refl refl refl
        by false = may-uncounted cut side _ Window refl refl refl

    setwindow-may : c.kind ≡ Gpt → RowMay (memory.setwindow_row c r)
    unfolding memory.setwindow_row
    setwindow-may k access = does-may (SlotIs c.object (memory.window_slot r) (window_of r)) (side-gpt cut side c k (or_false (opaque c) (read_only c) access) may, window-held)

    memory_own-may : (k : CapKind) → c.kind ≡ k → EachRow RowMay (memory.own_table s c r k)
    unfolding memory.own_table memory.page_table memory.cappage_table memory.gpt_table
    memory_own-may Page k = clear_page-may k ▸ copy-may k ▸ tt
    memory_own-may CapPage k = clear_cappage-may k ▸ get-may k ▸ set-may k ▸ tt
    memory_own-may Gpt k = getslot-may k ▸ setslot-may k ▸ getheader-may ▸ setheader-may k ▸ setwindow-may k ▸ tt
    memory_own-may _ k = tt

    memory_table-may : EachRow RowMay (memory.memory_table s c r c.kind)
    unfolding memory.memory_table
    memory_table-may = kind-may ▸ reduce-may ▸ getguard-may ▸ setguard-may ▸ getrestr-may ▸ memory_own-may c.kind refl

    -- what a request to a capability of a memory kind does and tells is permitted
    pub memory_operation-may : AnswerPermitted cut side (memory.memory_operation s c r).answer
    unfolding memory.memory_operation
    memory_operation-may = rows-may (memory.memory_table s c r c.kind) memory_table-may (w1 r)

    -- ---- endpoints

    endpoint-may : (v : EndpointValue) → c.kind ≡ Endpoint → MayHold cut side v.recipient → AnswerPermitted cut side (does (EndpointIs c.object v ∷ []))
    endpoint-may v k held = does-may (EndpointIs c.object v) (side-endpoint cut side c k may, held)

    setrecipient-may : c.kind ≡ Endpoint → RowMay (control.setrecipient_row s c r)
    unfolding control.setrecipient_row
    setrecipient-may k access = endpoint-may _ k sent

    getid-may : RowMay (control.getid_row s c)
    unfolding control.getid_row
    getid-may access = record { changes = tt; cap = tt }

    setid-may : c.kind ≡ Endpoint → RowMay (control.setid_row s c r)
    unfolding control.setid_row
    setid-may k access = endpoint-may _ k (held.recipient k)

    setmatch-may : c.kind ≡ Endpoint → RowMay (control.setmatch_row s c r)
    unfolding control.setmatch_row
    setmatch-may k access = endpoint-may _ k (held.recipient k)

    makeentry-may : c.kind ≡ Endpoint → RowMay (control.makeentry_row c r)
    unfolding control.makeentry_row
    makeentry-may k access = gives-may (entry c.object c.count (w2 r)) (may-own cut side (entry c.object c.count (w2 r)) refl (side-endpoint cut side c k may))

    setpayload-may : c.kind ≡ Endpoint → RowMay (control.setpayload_row s c r)
    unfolding control.setpayload_row
    setpayload-may k access = endpoint-may _ k (held.recipient k)

    -- ---- processes

    process-may : (v : ProcessValue) → c.kind ≡ Process → ProcessHeld cut side v → AnswerPermitted cut side (does (ProcessIs c.object v ∷ []))
    process-may v k held = does-may (ProcessIs c.object v) (side-process cut side c k may, held)

    getreg-may : RowMay (control.getreg_row s c r)
    unfolding control.getreg_row
    getreg-may access = record { changes = tt; cap = tt }

    number-held : (v : ProcessValue) (i n : ℕ) → ProcessHeld cut side v → ProcessHeld cut side (with_number v i n)
    unfolding with_number
    number-held v i n held = by (i == 0)
      where
        by : (b : Bool) → ProcessHeld cut side (if b then with_pc v n else with_reg v i n)
        by true = record { capregs = held.capregs; slots = held.slots }
        by false = record { capregs = held.capregs; slots = held.slots }

    setreg-may : c.kind ≡ Process → RowMay (control.setreg_row s c r)
    unfolding control.setreg_row
    setreg-may k access = process-may _ k (number-held (process_of s c) (w2 r) (w3 r) (held.process k))

    getcapreg-may : c.kind ≡ Process → RowMay (control.getcapreg_row s c r)
    unfolding control.getcapreg_row
    getcapreg-may k access = let own = held.process k in gives-may (capreg_of (process_of s c) (w2 r)) (own.capregs (w2 r))

    setcapreg-may : c.kind ≡ Process → RowMay (control.setcapreg_row s c r)
    unfolding control.setcapreg_row
    setcapreg-may k access = process-may _ k (held-capreg cut side (process_of s c) (w2 r) r.sent sent (held.process k))

    process_getslot-may : c.kind ≡ Process → RowMay (control.getslot_row s c r)
    unfolding control.getslot_row
    process_getslot-may k access = let own = held.process k in gives-may (slot_of (process_of s c) (w2 r)) (own.slots (w2 r))

    process_setslot-may : c.kind ≡ Process → RowMay (control.setslot_row s c r)
    unfolding control.setslot_row
    process_setslot-may k access = process-may _ k (held-slot cut side (process_of s c) (w2 r) r.sent sent (held.process k))

    tells_state-may : (state : RunState) → AnswerPermitted cut side (tells_state state)
    tells_state-may Running = record { changes = tt; cap = tt }
    tells_state-may (Receiving accept) = record { changes = tt; cap = tt }
    tells_state-may (Faulted code address) = record { changes = tt; cap = tt }

    getstate-may : RowMay (control.getstate_row s c)
    unfolding control.getstate_row
    getstate-may access = tells_state-may (process_of s c).state

    resume-may : c.kind ≡ Process → RowMay (control.resume_row s c)
    unfolding control.resume_row
    resume-may k access = does-may (Readied c.object) (side-process cut side c k may)

    stop-may : c.kind ≡ Process → RowMay (control.stop_row s c)
    unfolding control.stop_row
    stop-may k access = let own = side-process cut side c k may in
        record { changes = (own, ((own, held-state cut side (process_of s c) stopped (held.process k)), tt)); cap = tt }

    -- ---- the rest

    priority-may : RowMay (control.priority_row c)
    unfolding control.priority_row
    priority-may access = record { changes = tt; cap = tt }

    lower-may : RowMay (control.lower_row c r)
    unfolding control.lower_row
    lower-may access = gives-may (schedule (w2 r)) (may-uncounted cut side (schedule (w2 r)) Schedule refl refl refl)

    classify-may : (d : Capability) → RowMay (control.classify_row d)
    unfolding control.classify_row
    classify-may d access = record { changes = tt; cap = tt }

    control_own-may : (reading : Reading) (k : CapKind) → c.kind ≡ k → EachRow RowMay (control.own_table reading s c r k)
    unfolding control.own_table control.endpoint_table control.process_table control.schedule_table control.discrim_table
    control_own-may reading Endpoint k = setrecipient-may k ▸ getid-may ▸ setid-may k ▸ setmatch-may k ▸ makeentry-may k ▸ setpayload-may k ▸ tt
    control_own-may reading Process k =
        getreg-may
        ▸ setreg-may k
        ▸ getcapreg-may k
        ▸ setcapreg-may k
        ▸ process_getslot-may k
        ▸ process_setslot-may k
        ▸ getstate-may
        ▸ resume-may k
        ▸ stop-may k
        ▸ tt
    control_own-may reading Schedule k = priority-may ▸ lower-may ▸ tt
    control_own-may reading Range k = absurd (may.no_range k)
    control_own-may reading Discrim k = classify-may r.sent ▸ tt
    control_own-may reading _ k = tt

    control_table-may : (reading : Reading) → EachRow RowMay (control.control_table reading s c r c.kind)
    unfolding control.control_table
    control_table-may reading = kind-may ▸ control_own-may reading c.kind refl

    -- what a request to a capability of another kind does and tells is permitted: nobody holds a Range
    pub control_operation-may : (reading : Reading) → AnswerPermitted cut side (control.control_operation reading s c r).answer
    unfolding control.control_operation
    control_operation-may reading =
        cond_both (is_null c.kind) _ _ SettledMay (λ e. refused-may InvalidCap) (λ e. rows-may (control.control_table reading s c r c.kind) (control_table-may reading) (w1 r))
