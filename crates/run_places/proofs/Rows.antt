-- Operations of the kernel keep the places of objects, row by row.
use Rattle.std.proofs.Common.{◌∙◌, ℕ, ◌==◌, List, [], ◌∷◌, Option, Some, None}
use Rattle.std.proofs.lemmas.Bool.{cond_both}
use Rattle.std.proofs.lemmas.List.{length-set}
use Rattle.cap_format.specs.declared.kind.CapKind.{CapKind}
use Rattle.cap_format.specs.declared.kind.CapKind.TheVariants.{Page, CapPage, Gpt, Endpoint, Process, Schedule, Range, Discrim}
use Rattle.cap_format.specs.declared.code.Code.{Code}
use Rattle.cap_format.specs.declared.request.Request.{Request}
use Rattle.cap_format.specs.Kind.{kind_with}
use Rattle.cap_format.specs.Capability.{Capability}
use Rattle.gpt_objects.specs.Gpt.{with_slot as with_gpt_slot, with_header}
use Rattle.process_objects.specs.declared.state.State.{State as RunState}
use Rattle.process_objects.specs.declared.state.State.TheVariants.{Running, Receiving, Faulted}
use Rattle.object_store.specs.Store.{Store, gpt_at, cappage_at}
use Rattle.operations.specs.System.{System, Meant, schedule_by}
use Rattle.operations.specs.Change.{Change, PageIs, CapPageIs, SlotIs, HeaderIs, EndpointIs, ProcessIs, Left, Readied, Woken, Destroyed, applied, applied_all}
use Rattle.operations.specs.Row.{Settled, refused, granted, settled}
use Rattle.operations.specs.Request.{w1, w2, w3}
use Rattle.operations.specs.Memory.{kind_row, reduce_row, getguard_row, setguard_row, getrestr_row, clear_page_row, copy_row, page_table, clear_cappage_row, get_row, set_row, cappage_table, getslot_row, setslot_row as setslot_of_gpt, getheader_row, setheader_row, setwindow_row, gpt_table, own_table as memory_own_table, memory_table, memory_operation}
use Rattle.operations.specs.Control.{setrecipient_row, getid_row, setid_row, setmatch_row, makeentry_row, setpayload_row, endpoint_table, with_number, getreg_row, setreg_row, getcapreg_row, setcapreg_row, getslot_row as getslot_of_process, setslot_row as setslot_of_process, tells_state, process_of, getstate_row, resume_row, stop_row, process_table, priority_row, lower_row, schedule_table, obtained, getcap_row, is_process, destruction_of, destroy_row, range_table, classify_row, discrim_table, own_table, control_table, is_null, control_operation}
use Rattle.operations.proofs.Settled.{◌▸◌, EachAnswer, by_table}
use Rattle.run_places.specs.Places.{HasPlaces}
use Rattle.run_places.proofs.Objects.{IsWhole, HasAll, empty_cappage-has, with_capreg-has, with_slot-has, gpt-has, cappage-has, process-has, with_process-has, with_page-has, with_cappage-has, with_endpoint-has, set_gpt-has, readied-has, woken-has, destruction-has}

-- ---- changes

-- what a change writes has all of its places
abbrev WritesWhole : Change → Type 0
WritesWhole (CapPageIs n page) = IsWhole page
WritesWhole (ProcessIs p process) = HasAll process
WritesWhole _ = Unit {0}

abbrev AllWhole : List Change → Type 0
AllWhole [] = Unit {0}
AllWhole (change ∷ changes) = WritesWhole change × AllWhole changes

applied-has : (w : System) (change : Change) → WritesWhole change → HasPlaces w.store → HasPlaces (applied Meant w change).store
applied-has w (PageIs n page) is has = with_page-has w.store has n page
applied-has w (CapPageIs n page) is has = with_cappage-has w.store has n page is
applied-has w (SlotIs g i c) is has = set_gpt-has w.store has g (with_gpt_slot (gpt_at w.store.items g) i c) (length-set (gpt_at w.store.items g).slots i c ∙ gpt-has w.store has g)
applied-has w (HeaderIs g header) is has = set_gpt-has w.store has g (with_header (gpt_at w.store.items g) header) (gpt-has w.store has g)
applied-has w (EndpointIs e endpoint) is has = with_endpoint-has w.store has e endpoint
applied-has w (ProcessIs p process) is has = with_process-has w.store has p process is
applied-has w (Left p) is has = has
applied-has w (Readied p) is has = readied-has w.store has w.queues (schedule_by Meant w.store p) p
applied-has w (Woken p) is has = woken-has w.store has w.queues (schedule_by Meant w.store) p
applied-has w (Destroyed kind n) is has = destruction-has w.store has kind n

pub applied_all-has : (w : System) (changes : List Change) → AllWhole changes → HasPlaces w.store → HasPlaces (applied_all Meant w changes).store
applied_all-has w [] are has = has
applied_all-has w (change ∷ changes) are has = applied_all-has (applied Meant w change) changes are.1 (applied-has w change are.0 has)

-- ---- rows

-- what is written has all of its places
abbrev Keeps : Settled → Type 0
Keeps settled = AllWhole settled.answer.changes

refusal-keeps : (code : Code) → Keeps (refused code)
refusal-keeps code = tt

state-keeps : (state : RunState) → Keeps (granted (tells_state state))
state-keeps Running = tt
state-keeps (Receiving accept) = tt
state-keeps (Faulted code address) = tt

module _ (s : Store) (has : HasPlaces s) (c : Capability) (r : Request) where
  -- ---- pages, capability pages, GPTs and windows

  memory_own-keeps : (kind : CapKind) → EachAnswer Keeps (memory_own_table s c r kind)
  unfolding memory_own_table page_table clear_page_row copy_row cappage_table clear_cappage_row get_row set_row gpt_table getslot_row setslot_of_gpt getheader_row setheader_row setwindow_row
  memory_own-keeps Page = (tt, tt) ▸ (tt, tt) ▸ tt
  memory_own-keeps CapPage = (empty_cappage-has, tt) ▸ tt ▸ (length-set (cappage_at s c.object) (w2 r) r.sent ∙ cappage-has s has c.object, tt) ▸ tt
  memory_own-keeps Gpt = tt ▸ (tt, tt) ▸ tt ▸ (tt, tt) ▸ (tt, tt) ▸ tt
  memory_own-keeps kind = tt

  memory_table-keeps : EachAnswer Keeps (memory_table s c r c.kind)
  unfolding memory_table kind_row reduce_row getguard_row setguard_row getrestr_row
  memory_table-keeps = tt ▸ tt ▸ tt ▸ tt ▸ tt ▸ memory_own-keeps c.kind

  -- of every operation of these kinds
  pub memory-keeps : AllWhole (memory_operation s c r).answer.changes
  unfolding memory_operation
  memory-keeps = by_table Keeps refusal-keeps (memory_table s c r c.kind) memory_table-keeps (w1 r)

  -- ---- Null, endpoints, processes, schedules, Range and Discrim

  old-has : HasAll (process_of s c)
  old-has = process-has s has c.object

  with_number-has : (i value : ℕ) → HasAll (with_number (process_of s c) i value)
  unfolding with_number
  with_number-has i value = cond_both (i == 0) _ _ HasAll (λ e. old-has) (λ e. old-has)

  process-keeps : EachAnswer Keeps (process_table s c r)
  unfolding process_table getreg_row setreg_row getcapreg_row setcapreg_row getslot_of_process setslot_of_process getstate_row resume_row stop_row
  process-keeps =
      tt
      ▸ (with_number-has (w2 r) (w3 r), tt)
      ▸ tt
      ▸ (with_capreg-has (process_of s c) old-has (w2 r) r.sent, tt)
      ▸ tt
      ▸ (with_slot-has (process_of s c) old-has (w2 r) r.sent, tt)
      ▸ state-keeps (process_of s c).state
      ▸ (tt, tt)
      ▸ (tt, (old-has, tt))
      ▸ tt

  obtained-keeps : (kind : Option CapKind) → Keeps (granted (obtained Meant s kind (w3 r)).answer)
  unfolding obtained
  obtained-keeps None = tt
  obtained-keeps (Some kind) = tt

  destroyed-keeps : (kind : CapKind) (n : ℕ) → AllWhole (destruction_of s kind n)
  unfolding destruction_of
  destroyed-keeps kind n = cond_both (is_process kind) _ _ AllWhole (λ e. (tt, (process-has s has n, (tt, (tt, tt))))) (λ e. (tt, tt))

  range-keeps : EachAnswer Keeps (range_table Meant s r)
  unfolding range_table getcap_row destroy_row
  range-keeps = obtained-keeps (kind_with (w2 r)) ▸ destroyed-keeps r.sent.kind r.sent.object ▸ tt

  own-keeps : (kind : CapKind) → EachAnswer Keeps (own_table Meant s c r kind)
  unfolding own_table endpoint_table setrecipient_row getid_row setid_row setmatch_row makeentry_row setpayload_row schedule_table priority_row lower_row discrim_table classify_row
  own-keeps Endpoint = (tt, tt) ▸ tt ▸ (tt, tt) ▸ (tt, tt) ▸ tt ▸ (tt, tt) ▸ tt
  own-keeps Process = process-keeps
  own-keeps Schedule = tt ▸ tt ▸ tt
  own-keeps Range = range-keeps
  own-keeps Discrim = tt ▸ tt
  own-keeps kind = tt

  table-keeps : EachAnswer Keeps (control_table Meant s c r c.kind)
  unfolding control_table kind_row
  table-keeps = tt ▸ own-keeps c.kind

  -- of every operation of these kinds
  pub control-keeps : AllWhole (control_operation Meant s c r).answer.changes
  unfolding control_operation
  control-keeps = cond_both (is_null c.kind) _ _ Keeps (λ e. tt) (λ e. by_table Keeps refusal-keeps (control_table Meant s c r c.kind) table-keeps (w1 r))
