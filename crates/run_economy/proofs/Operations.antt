-- Operations change one item at most, row by row.
use Rattle.std.proofs.Common.{◌≡◌, ℕ, true, Option, Some, None, refl}
use Rattle.std.proofs.lemmas.Bool.{cond_both}
use Rattle.cap_format.specs.declared.kind.CapKind.{CapKind}
use Rattle.cap_format.specs.declared.kind.CapKind.TheVariants.{Page, CapPage, Gpt, Endpoint, Process, Schedule, Range, Discrim}
use Rattle.cap_format.specs.declared.code.Code.{Code}
use Rattle.cap_format.specs.declared.request.Request.{Request}
use Rattle.cap_format.specs.Kind.{kind_with}
use Rattle.cap_format.specs.Capability.{Capability}
use Rattle.process_objects.specs.declared.state.State.{State as RunState}
use Rattle.process_objects.specs.declared.state.State.TheVariants.{Running, Receiving, Faulted}
use Rattle.object_store.specs.Store.{Store}
use Rattle.operations.specs.System.{Meant}
use Rattle.operations.specs.Row.{Settled, refused, granted, settled}
use Rattle.operations.specs.Request.{w1, w2, w3}
use Rattle.operations.specs.Memory.{kind_row, reduce_row, getguard_row, setguard_row, getrestr_row, clear_page_row, copy_row, page_table, clear_cappage_row, get_row, set_row, cappage_table, getslot_row, setslot_row as setslot_of_gpt, getheader_row, setheader_row, setwindow_row, gpt_table, own_table as memory_own_table, memory_table, memory_operation}
use Rattle.operations.specs.Control.{setrecipient_row, getid_row, setid_row, setmatch_row, makeentry_row, setpayload_row, endpoint_table, getreg_row, setreg_row, getcapreg_row, setcapreg_row, getslot_row as getslot_of_process, setslot_row as setslot_of_process, tells_state, process_of, getstate_row, resume_row, stop_row, process_table, priority_row, lower_row, schedule_table, obtained, getcap_row, is_process, destruction_of, destroy_row, range_table, classify_row, discrim_table, own_table, control_table, is_null, control_operation}
use Rattle.operations.proofs.Settled.{◌▸◌, EachAnswer, by_table}
use Rattle.run_economy.proofs.Changes.{is_of_one}

-- it changes one item at most
abbrev OfOne : Settled → Type 0
OfOne settled = is_of_one settled.answer.changes ≡ true

refusal-one : (code : Code) → OfOne (refused code)
refusal-one code = refl

state-one : (state : RunState) → OfOne (granted (tells_state state))
state-one Running = refl
state-one (Receiving accept) = refl
state-one (Faulted code address) = refl

-- a destruction changes the header of its object
destruction-one : (s : Store) (kind : CapKind) (n : ℕ) → is_of_one (destruction_of s kind n) ≡ true
unfolding destruction_of
destruction-one s kind n = cond_both (is_process kind) _ _ (λ changes. is_of_one changes ≡ true) (λ e. refl) (λ e. refl)

module _ (s : Store) (c : Capability) (r : Request) where
  -- ---- pages, capability pages, GPTs and windows

  memory_own-one : (kind : CapKind) → EachAnswer OfOne (memory_own_table s c r kind)
  unfolding memory_own_table page_table clear_page_row copy_row cappage_table clear_cappage_row get_row set_row gpt_table getslot_row setslot_of_gpt getheader_row setheader_row setwindow_row
  memory_own-one Page = refl ▸ refl ▸ tt
  memory_own-one CapPage = refl ▸ refl ▸ refl ▸ tt
  memory_own-one Gpt = refl ▸ refl ▸ refl ▸ refl ▸ refl ▸ tt
  memory_own-one kind = tt

  memory_table-one : EachAnswer OfOne (memory_table s c r c.kind)
  unfolding memory_table kind_row reduce_row getguard_row setguard_row getrestr_row
  memory_table-one = refl ▸ refl ▸ refl ▸ refl ▸ refl ▸ memory_own-one c.kind

  -- of every operation of these kinds
  pub memory-one : is_of_one (memory_operation s c r).answer.changes ≡ true
  unfolding memory_operation
  memory-one = by_table OfOne refusal-one (memory_table s c r c.kind) memory_table-one (w1 r)

  -- ---- Null, endpoints, processes, schedules, Range and Discrim

  process-one : EachAnswer OfOne (process_table s c r)
  unfolding process_table getreg_row setreg_row getcapreg_row setcapreg_row getslot_of_process setslot_of_process getstate_row resume_row stop_row
  process-one = refl ▸ refl ▸ refl ▸ refl ▸ refl ▸ refl ▸ state-one (process_of s c).state ▸ refl ▸ refl ▸ tt

  obtained-one : (kind : Option CapKind) → OfOne (granted (obtained Meant s kind (w3 r)).answer)
  unfolding obtained
  obtained-one None = refl
  obtained-one (Some kind) = refl

  range-one : EachAnswer OfOne (range_table Meant s r)
  unfolding range_table getcap_row destroy_row
  range-one = obtained-one (kind_with (w2 r)) ▸ destruction-one s r.sent.kind r.sent.object ▸ tt

  own-one : (kind : CapKind) → EachAnswer OfOne (own_table Meant s c r kind)
  unfolding own_table endpoint_table setrecipient_row getid_row setid_row setmatch_row makeentry_row setpayload_row schedule_table priority_row lower_row discrim_table classify_row
  own-one Endpoint = refl ▸ refl ▸ refl ▸ refl ▸ refl ▸ refl ▸ tt
  own-one Process = process-one
  own-one Schedule = refl ▸ refl ▸ tt
  own-one Range = range-one
  own-one Discrim = refl ▸ tt
  own-one kind = tt

  table-one : EachAnswer OfOne (control_table Meant s c r c.kind)
  unfolding control_table kind_row
  table-one = refl ▸ own-one c.kind

  -- of every operation of these kinds
  pub control-one : is_of_one (control_operation Meant s c r).answer.changes ≡ true
  unfolding control_operation
  control-one = cond_both (is_null c.kind) _ _ OfOne (λ e. refl) (λ e. by_table OfOne refusal-one (control_table Meant s c r c.kind) table-one (w1 r))
