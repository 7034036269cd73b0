-- Operations of the kernel and a ready process, row by row: nobody comes before it, or it is stopped.
use Rattle.std.proofs.Common.{◌≡◌, ◌≢◌, ℕ, ◌≤◌, ◌⊎◌, inl, inr, List, [], ◌∷◌, map, set, get_or, length, Option, Some, None, refl, sym, ap, ◌∙◌, subst}
use Rattle.std.proofs.lemmas.Bool.{cond_both, cases_eq, cases_lt}
use Rattle.std.proofs.lemmas.List.{get_or-set_same, get_or_past, get_or-map, length-set, length-map}
use Rattle.cap_format.specs.declared.kind.CapKind.{CapKind}
use Rattle.cap_format.specs.declared.kind.CapKind.TheVariants.{Page, CapPage, Gpt, Endpoint, Process, Schedule, Range, Discrim}
use Rattle.cap_format.specs.declared.request.Request.{Request}
use Rattle.cap_format.specs.Kind.{kind_with}
use Rattle.cap_format.specs.Capability.{Capability}
use Rattle.process_objects.specs.declared.state.State.{State as RunState}
use Rattle.process_objects.specs.declared.state.State.TheVariants.{Running, Receiving, Faulted}
use Rattle.process_objects.specs.Process.{ProcessValue, with_state, stopped, empty_process}
use Rattle.object_store.specs.Store.{process_at}
use Rattle.object_store.specs.Meaning.{process_map}
use Rattle.object_store.specs.Destruction.{forget}
use Rattle.schedules.specs.Queues.{hart_without}
use Rattle.schedules.specs.Ready.{runs_of}
use Rattle.operations.specs.System.{System, Meant, schedule_by}
use Rattle.operations.specs.Change.{Change, PageIs, CapPageIs, SlotIs, HeaderIs, EndpointIs, ProcessIs, Left, Readied, Woken, Destroyed, applied, applied_all}
use Rattle.operations.specs.Row.{Settled, granted, settled}
use Rattle.operations.specs.Request.{w1, w2, w3}
use Rattle.operations.specs.Memory.{kind_row, reduce_row, getguard_row, setguard_row, getrestr_row, clear_page_row, copy_row, page_table, clear_cappage_row, get_row, set_row, cappage_table, getslot_row, setslot_row as setslot_of_gpt, getheader_row, setheader_row, setwindow_row, gpt_table, own_table as memory_own_table, memory_table, memory_operation}
use Rattle.operations.specs.Control.{setrecipient_row, getid_row, setid_row, setmatch_row, makeentry_row, setpayload_row, endpoint_table, process_of, tells_state, getreg_row, setreg_row, getcapreg_row, setcapreg_row, getslot_row as getslot_of_process, setslot_row as setslot_of_process, getstate_row, resume_row, stop_row, process_table, priority_row, lower_row, schedule_table, obtained, getcap_row, destruction_of, destroy_row, range_table, classify_row, discrim_table, own_table, control_table, is_null, control_operation}
use Rattle.operations.proofs.Settled.{◌▸◌, EachAnswer, by_table}
use Rattle.ready_service.proofs.Positions.{KeepsPlace, keeps-alike, keeps-then, keeps-left, keeps-readied, keeps-woken, harts-readied_queues, harts-readied_all, SameHarts}

-- the state of process `p` of these is that of a process that was stopped
abbrev pub IsStopped : ℕ → List ProcessValue → Type 0
IsStopped p processes = (get_or processes p empty_process).state ≡ stopped

-- a write of one that was stopped; where there is no such process it counts as stopped
stopped-set : (p : ℕ) (processes : List ProcessValue) (value : ProcessValue) → value.state ≡ stopped → IsStopped p (set processes p value)
stopped-set p processes value is = elim (cases_lt p (length processes)) [
  | inl there ↦ ap (λ (v : ProcessValue). v.state) (get_or-set_same processes p value empty_process there) ∙ is
  | inr past ↦ ap (λ (v : ProcessValue). v.state) (get_or_past (set processes p value) p empty_process (subst (λ (n : ℕ). n ≤ p) (sym (length-set processes p value)) past))
]

-- other capabilities of processes
stopped-map : (p : ℕ) (f : Capability → Capability) (processes : List ProcessValue) → IsStopped p processes → IsStopped p (map (process_map f) processes)
stopped-map p f processes is = elim (cases_lt p (length processes)) [
  | inl there ↦ ap (λ (v : ProcessValue). v.state) (get_or-map (process_map f) processes p empty_process empty_process there) ∙ is
  | inr past ↦ ap (λ (v : ProcessValue). v.state) (get_or_past (map (process_map f) processes) p empty_process (subst (λ (n : ℕ). n ≤ p) (sym (length-map processes (process_map f))) past))
]

module _ (p priority : ℕ) where
  -- ---- changes

  -- another leaves its place
  abbrev pub OthersLeave : List Change → Type 0
  OthersLeave [] = Unit {0}
  OthersLeave (Left q ∷ changes) = (q ≢ p) × OthersLeave changes
  OthersLeave (change ∷ changes) = OthersLeave changes

  harts-change : (w : System) (change : Change) → SameHarts w.queues (applied Meant w change).queues
  harts-change w (Left q) = length-map w.queues.harts (hart_without q)
  harts-change w (Readied q) = let c = schedule_by Meant w.store q in ap length (harts-readied_queues c.kind c.object q w.queues)
  harts-change w (Woken q) = ap length (harts-readied_all (schedule_by Meant w.store) _ _)
  harts-change w change = refl

  pub harts-applied : (w : System) (changes : List Change) → SameHarts w.queues (applied_all Meant w changes).queues
  harts-applied w [] = refl
  harts-applied w (change ∷ changes) = harts-applied (applied Meant w change) changes ∙ harts-change w change

  pub keeps-applied : (w : System) (changes : List Change) → OthersLeave changes → KeepsPlace p priority w.queues (applied_all Meant w changes).queues
  keeps-applied w [] leave = keeps-alike p priority w.queues w.queues refl
  keeps-applied w (Left q ∷ changes) leave =
      let v = applied Meant w (Left q) in
      keeps-then p priority w.queues v.queues (applied_all Meant v changes).queues (keeps-left p priority w.queues q leave.0) (keeps-applied v changes leave.1)
  keeps-applied w (Readied q ∷ changes) leave =
      let v = applied Meant w (Readied q) in
      keeps-then p priority w.queues v.queues (applied_all Meant v changes).queues (keeps-readied p priority (schedule_by Meant w.store q) q (runs_of w.store w.queues)) (keeps-applied v changes leave)
  keeps-applied w (Woken q ∷ changes) leave =
      let v = applied Meant w (Woken q) in
      keeps-then p priority w.queues v.queues (applied_all Meant v changes).queues (keeps-woken p priority (schedule_by Meant w.store) q (runs_of w.store w.queues)) (keeps-applied v changes leave)
  keeps-applied w (Destroyed kind n ∷ changes) leave = keeps-applied (applied Meant w (Destroyed kind n)) changes leave
  keeps-applied w (ProcessIs q process ∷ changes) leave = keeps-applied (applied Meant w (ProcessIs q process)) changes leave
  keeps-applied w (PageIs n page ∷ changes) leave = keeps-applied (applied Meant w (PageIs n page)) changes leave
  keeps-applied w (CapPageIs n page ∷ changes) leave = keeps-applied (applied Meant w (CapPageIs n page)) changes leave
  keeps-applied w (SlotIs g i c ∷ changes) leave = keeps-applied (applied Meant w (SlotIs g i c)) changes leave
  keeps-applied w (HeaderIs g header ∷ changes) leave = keeps-applied (applied Meant w (HeaderIs g header)) changes leave
  keeps-applied w (EndpointIs e endpoint ∷ changes) leave = keeps-applied (applied Meant w (EndpointIs e endpoint)) changes leave

  -- ---- rows

  -- it doesn't leave its place by these changes, or is stopped behind them
  abbrev pub Spares : System → List Change → Type 0
  Spares w changes = OthersLeave changes ⊎ IsStopped p (applied_all Meant w changes).store.contents.processes

  -- of a row
  abbrev SparesBy : System → Settled → Type 0
  SparesBy w settled = Spares w settled.answer.changes

  abbrev LeavesBy : Settled → Type 0
  LeavesBy settled = OthersLeave settled.answer.changes

  module _ (w : System) (c : Capability) (r : Request) where
    -- ---- pages, capability pages, GPTs and windows

    memory_own-leaves : (kind : CapKind) → EachAnswer LeavesBy (memory_own_table w.store c r kind)
    unfolding memory_own_table page_table clear_page_row copy_row cappage_table clear_cappage_row get_row set_row gpt_table getslot_row setslot_of_gpt getheader_row setheader_row setwindow_row
    memory_own-leaves Page = tt ▸ tt ▸ tt
    memory_own-leaves CapPage = tt ▸ tt ▸ tt ▸ tt
    memory_own-leaves Gpt = tt ▸ tt ▸ tt ▸ tt ▸ tt ▸ tt
    memory_own-leaves kind = tt

    memory_table-leaves : EachAnswer LeavesBy (memory_table w.store c r c.kind)
    unfolding memory_table kind_row reduce_row getguard_row setguard_row getrestr_row
    memory_table-leaves = tt ▸ tt ▸ tt ▸ tt ▸ tt ▸ memory_own-leaves c.kind

    -- of every operation of these kinds
    pub memory-leaves : OthersLeave (memory_operation w.store c r).answer.changes
    unfolding memory_operation
    memory-leaves = by_table LeavesBy (λ code. tt) (memory_table w.store c r c.kind) memory_table-leaves (w1 r)

    -- ---- Null, endpoints, processes, schedules, Range and Discrim

    state-spares : (state : RunState) → SparesBy w (granted (tells_state state))
    state-spares Running = inl tt
    state-spares (Receiving accept) = inl tt
    state-spares (Faulted code address) = inl tt

    -- who is stopped leaves its place
    stop-spares : (q : ℕ) → Spares w (Left q ∷ ProcessIs q (with_state (process_at w.store q) stopped) ∷ [])
    stop-spares q = elim (cases_eq q p) [
      | inl same ↦ inr (rw same (stopped-set p w.store.contents.processes (with_state (process_at w.store p) stopped) refl))
      | inr other ↦ inl (other, tt)
    ]

    process-spares : EachAnswer (SparesBy w) (process_table w.store c r)
    unfolding process_table getreg_row setreg_row getcapreg_row setcapreg_row getslot_of_process setslot_of_process getstate_row resume_row stop_row
    process-spares =
        inl tt
        ▸ inl tt
        ▸ inl tt
        ▸ inl tt
        ▸ inl tt
        ▸ inl tt
        ▸ state-spares (process_of w.store c).state
        ▸ inl tt
        ▸ stop-spares c.object
        ▸ tt

    obtained-spares : (kind : Option CapKind) → SparesBy w (granted (obtained Meant w.store kind (w3 r)).answer)
    unfolding obtained
    obtained-spares None = inl tt
    obtained-spares (Some kind) = inl tt

    -- a process that is destroyed leaves its place, and is stopped in the end
    ends : (n : ℕ) → Spares w (Left n ∷ ProcessIs n (with_state (process_at w.store n) stopped) ∷ Woken n ∷ Destroyed Process n ∷ [])
    ends n = elim (cases_eq n p) [
      | inl same ↦ inr (rw same (stopped-map p (forget Process p) _ (stopped-set p _ empty_process refl)))
      | inr other ↦ inl (other, tt)
    ]

    destroyed-spares : (kind : CapKind) (n : ℕ) → Spares w (destruction_of w.store kind n)
    unfolding destruction_of
    destroyed-spares Process n = ends n
    destroyed-spares kind n = inl tt

    range-spares : EachAnswer (SparesBy w) (range_table Meant w.store r)
    unfolding range_table getcap_row destroy_row
    range-spares = obtained-spares (kind_with (w2 r)) ▸ destroyed-spares r.sent.kind r.sent.object ▸ tt

    own-spares : (kind : CapKind) → EachAnswer (SparesBy w) (own_table Meant w.store c r kind)
    unfolding own_table endpoint_table setrecipient_row getid_row setid_row setmatch_row makeentry_row setpayload_row schedule_table priority_row lower_row discrim_table classify_row
    own-spares Endpoint = inl tt ▸ inl tt ▸ inl tt ▸ inl tt ▸ inl tt ▸ inl tt ▸ tt
    own-spares Process = process-spares
    own-spares Schedule = inl tt ▸ inl tt ▸ tt
    own-spares Range = range-spares
    own-spares Discrim = inl tt ▸ tt
    own-spares kind = tt

    table-spares : EachAnswer (SparesBy w) (control_table Meant w.store c r c.kind)
    unfolding control_table kind_row
    table-spares = inl tt ▸ own-spares c.kind

    -- of every operation of these kinds
    pub control-spares : Spares w (control_operation Meant w.store c r).answer.changes
    unfolding control_operation
    control-spares =
        cond_both (is_null c.kind) _ _ (SparesBy w) (λ e. inl tt)
        (λ e. by_table (SparesBy w) (λ code. inl tt) (control_table Meant w.store c r c.kind) table-spares (w1 r))
