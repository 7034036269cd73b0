-- Which object the operations of control kinds destroy: that whose header is the item that changes.
use Rattle.std.proofs.Common.{◌≡◌, ℕ, Bool, true, false, if◌then◌else◌, [], ◌∷◌, Option, Some, None, refl, sym, ap, ◌∙◌}
use Rattle.std.proofs.lemmas.Bool.{cond_both}
use Rattle.cap_format.specs.declared.kind.CapKind.{CapKind}
use Rattle.cap_format.specs.declared.kind.CapKind.TheVariants.{Endpoint, Process, Schedule, Range, Discrim}
use Rattle.cap_format.specs.declared.code.Code.{Code}
use Rattle.cap_format.specs.declared.item.Item.{Item}
use Rattle.cap_format.specs.declared.request.Request.{Request}
use Rattle.cap_format.specs.Kind.{kind_with}
use Rattle.cap_format.specs.Capability.{Capability}
use Rattle.process_objects.specs.declared.state.State.{State as RunState}
use Rattle.process_objects.specs.declared.state.State.TheVariants.{Running, Receiving, Faulted}
use Rattle.process_objects.specs.Process.{with_state, stopped}
use Rattle.object_store.specs.Store.{Store, process_at}
use Rattle.operations.specs.System.{Reading, Meant}
use Rattle.operations.specs.Change.{Left, ProcessIs, Woken, Destroyed, item_in}
use Rattle.operations.specs.Row.{Settled, refused, granted, settled}
use Rattle.operations.specs.Request.{w1, w2, w3}
use Rattle.operations.specs.Memory.{kind_row}
use Rattle.operations.specs.Control.{setrecipient_row, getid_row, setid_row, setmatch_row, makeentry_row, setpayload_row, endpoint_table, getreg_row, setreg_row, getcapreg_row, setcapreg_row, getslot_row, setslot_row, tells_state, process_of, getstate_row, resume_row, stop_row, process_table, priority_row, lower_row, schedule_table, obtained, getcap_row, is_process, destruction_of, destroy_row, range_table, classify_row, discrim_table, own_table, control_table, is_null, control_operation}
use Rattle.operations.proofs.Settled.{◌▸◌, EachAnswer, by_table}
use Rattle.kernel_core.specs.KernelOperation.{destroyed_by, header_name}

-- what is destroyed is the object whose header changes
abbrev Tells : Settled → Type 0
Tells settled = destroyed_by settled.answer.changes ≡ header_name (item_in settled.answer.changes)

of_refusal : (code : Code) → Tells (refused code)
of_refusal code = refl

state-tells : (state : RunState) → Tells (granted (tells_state state))
state-tells Running = refl
state-tells (Receiving accept) = refl
state-tells (Faulted code address) = refl

process-tells : (s : Store) (c : Capability) (r : Request) → EachAnswer Tells (process_table s c r)
unfolding process_table getreg_row setreg_row getcapreg_row setcapreg_row getslot_row setslot_row getstate_row resume_row stop_row
process-tells s c r = refl ▸ refl ▸ refl ▸ refl ▸ refl ▸ refl ▸ state-tells (process_of s c).state ▸ refl ▸ refl ▸ tt

obtained-tells : (reading : Reading) (s : Store) (kind : Option CapKind) (n : ℕ) → Tells (granted (obtained reading s kind n).answer)
unfolding obtained
obtained-tells reading s None n = refl
obtained-tells reading s (Some kind) n = refl

destruction-tells : (s : Store) (kind : CapKind) (n : ℕ) → destroyed_by (destruction_of s kind n) ≡ header_name (item_in (destruction_of s kind n))
unfolding destruction_of
destruction-tells s kind n = by (is_process kind)
  where
    by : (b : Bool) → destroyed_by (if b then Left n ∷ ProcessIs n (with_state (process_at s n) stopped) ∷ Woken n ∷ Destroyed kind n ∷ [] else Destroyed kind n ∷ []) ≡ header_name (item_in (if b then Left n ∷ ProcessIs n (with_state (process_at s n) stopped) ∷ Woken n ∷ Destroyed kind n ∷ [] else Destroyed kind n ∷ []))
    by true = refl
    by false = refl

range-tells : (reading : Reading) (s : Store) (r : Request) → EachAnswer Tells (range_table reading s r)
unfolding range_table getcap_row destroy_row
range-tells reading s r = obtained-tells reading s (kind_with (w2 r)) (w3 r) ▸ destruction-tells s r.sent.kind r.sent.object ▸ tt

own-tells : (reading : Reading) (s : Store) (c : Capability) (r : Request) (kind : CapKind) → EachAnswer Tells (own_table reading s c r kind)
unfolding own_table endpoint_table setrecipient_row getid_row setid_row setmatch_row makeentry_row setpayload_row schedule_table priority_row lower_row discrim_table classify_row
own-tells reading s c r Endpoint = refl ▸ refl ▸ refl ▸ refl ▸ refl ▸ refl ▸ tt
own-tells reading s c r Process = process-tells s c r
own-tells reading s c r Schedule = refl ▸ refl ▸ tt
own-tells reading s c r Range = range-tells reading s r
own-tells reading s c r Discrim = refl ▸ tt
own-tells reading s c r kind = tt

table-tells : (reading : Reading) (s : Store) (c : Capability) (r : Request) → EachAnswer Tells (control_table reading s c r c.kind)
unfolding control_table kind_row
table-tells reading s c r = refl ▸ own-tells reading s c r c.kind

-- of every operation of these kinds
pub control_tells : (reading : Reading) (s : Store) (c : Capability) (r : Request) → destroyed_by (control_operation reading s c r).answer.changes ≡ header_name (item_in (control_operation reading s c r).answer.changes)
unfolding control_operation
control_tells reading s c r = cond_both (is_null c.kind) _ _ Tells (λ e. refl) (λ e. by_table Tells of_refusal (control_table reading s c r c.kind) (table-tells reading s c r) (w1 r))

-- of an item that such an operation changed: it tells what was destroyed
pub header_tells : (s : Store) (c : Capability) (r : Request) (changed : Option Item) → changed ≡ item_in (control_operation Meant s c r).answer.changes → header_name changed ≡ destroyed_by (control_operation Meant s c r).answer.changes
header_tells s c r changed is = ap header_name is ∙ sym (control_tells Meant s c r)
