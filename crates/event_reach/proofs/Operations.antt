-- Which objects an operation on a capability that is of no memory kind changes: processes, and the one that it names, or
-- what is sent to a range.
use Rattle.std.proofs.Common.{◌≡◌, ◌≢◌, ◌⊎◌, inl, inr, ℕ, slice_get, ap, subst, Bool, true, false, if◌then◌else◌, List, [], ◌∷◌, Option, Some, None, refl}
use Rattle.std.proofs.lemmas.Bool.{cond_both}
use Rattle.cap_format.specs.declared.kind.CapKind.{CapKind}
use Rattle.cap_format.specs.declared.kind.CapKind.TheVariants.{Endpoint, Process, Schedule, Range, Discrim}
use Rattle.cap_format.specs.declared.code.Code.{Code}
use Rattle.cap_format.specs.declared.code.Code.TheVariants.{InvalidCap}
use Rattle.cap_format.specs.declared.request.Request.{Request}
use Rattle.cap_format.specs.Kind.{kind_with}
use Rattle.cap_format.specs.Capability.{Capability}
use Rattle.process_objects.specs.declared.state.State.{State as RunState}
use Rattle.process_objects.specs.declared.state.State.TheVariants.{Running, Receiving, Faulted}
use Rattle.process_objects.specs.Process.{ProcessValue, capreg_of, with_pc, with_state, stopped, empty_process}
use Rattle.rv32_user.specs.Word.{next_of}
use Rattle.object_store.specs.Store.{Store, process_at}
use Rattle.object_store.specs.Object.{ObjectName, object_name}
use Rattle.object_store.proofs.Lists.{get_or-set}
use Rattle.invocation.specs.Invocation.{InvocationValue}
use Rattle.operations.specs.System.{System, Meant}
use Rattle.operations.specs.Change.{Left, ProcessIs, Woken, Destroyed}
use Rattle.operations.specs.Changed.{names_in}
use Rattle.operations.specs.Row.{Settled, refused, granted, settled}
use Rattle.operations.specs.Request.{w1, w2, w3}
use Rattle.operations.specs.Memory.{kind_row}
use Rattle.operations.specs.Control.{setrecipient_row, getid_row, setid_row, setmatch_row, makeentry_row, setpayload_row, endpoint_table, getreg_row, setreg_row, getcapreg_row, setcapreg_row, getslot_row, setslot_row, tells_state, process_of, getstate_row, resume_row, stop_row, process_table, priority_row, lower_row, schedule_table, obtained, getcap_row, is_process, destruction_of, destroy_row, range_table, classify_row, discrim_table, own_table, control_table, is_null, control_operation}
use Rattle.operations.proofs.Settled.{◌▸◌, EachAnswer, by_table}
use Rattle.machine_state.specs.State.{State, process, pc_of}
use Rattle.machine_state.specs.Setters.{advance}
use Rattle.machine_state.specs.Operation.{first_sent, request_of}
use Rattle.event_reach.specs.Reach.{Covers}
use Rattle.event_reach.proofs.Covering.{covers_none, covers_same, covers_process, covers_both, covers_processes}

-- the object that such an operation may change, besides processes, by the kind of the capability
abbrev pub asked_name : CapKind → Capability → Capability → ObjectName
asked_name Range c sent = object_name sent.kind sent.object
asked_name kind c sent = object_name kind c.object

-- of every kind but a range's it is what the capability names
pub asked_itself : (kind : CapKind) (c sent : Capability) → kind ≢ Range → asked_name kind c sent ≡ object_name kind c.object
asked_itself Range c sent not = absurd (not refl)
asked_itself kind c sent not = refl

-- what a request comes to names processes and what is found alone
abbrev Within : List ObjectName → Settled → Type 0
Within found settled = (w : System) → Covers found (names_in Meant w settled.answer.changes)

-- a refusal, and an answer that changes nothing
nothing_within : (found : List ObjectName) → (w : System) → Covers found []
nothing_within found w = covers_none found

of_refusal : (found : List ObjectName) (code : Code) → Within found (refused code)
of_refusal found code w = covers_none found

-- a process is changed
process_within : (found : List ObjectName) (p : ℕ) → (w : System) → Covers found (object_name Process p ∷ [])
process_within found p w = covers_process found [] p (covers_none found)

state-within : (found : List ObjectName) (state : RunState) → Within found (granted (tells_state state))
state-within found Running w = covers_none found
state-within found (Receiving accept) w = covers_none found
state-within found (Faulted code address) w = covers_none found

process-within : (found : List ObjectName) (s : Store) (c : Capability) (r : Request) → EachAnswer (Within found) (process_table s c r)
unfolding process_table getreg_row setreg_row getcapreg_row setcapreg_row getslot_row setslot_row getstate_row resume_row stop_row
process-within found s c r =
    let none = nothing_within found in
    let one = process_within found c.object in
    none ▸ one ▸ none ▸ one ▸ none ▸ one ▸ state-within found (process_of s c).state ▸ one ▸ one ▸ tt

obtained-within : (found : List ObjectName) (s : Store) (kind : Option CapKind) (n : ℕ) → Within found (granted (obtained Meant s kind n).answer)
unfolding obtained
obtained-within found s None n = nothing_within found
obtained-within found s (Some kind) n = nothing_within found

-- a destruction names what is destroyed, and those that it wakes
destruction-within : (s : Store) (kind : CapKind) (n : ℕ) (w : System) → Covers (object_name kind n ∷ []) (names_in Meant w (destruction_of s kind n))
unfolding destruction_of
destruction-within s kind n w = by (is_process kind)
  where
    by : (b : Bool) → Covers (object_name kind n ∷ []) (names_in Meant w (if b then Left n ∷ ProcessIs n (with_state (process_at s n) stopped) ∷ Woken n ∷ Destroyed kind n ∷ [] else Destroyed kind n ∷ []))
    by true = covers_process _ _ n (covers_both _ _ (object_name kind n ∷ []) (covers_processes _ _) (covers_same (object_name kind n ∷ [])))
    by false = covers_same (object_name kind n ∷ [])

range-within : (s : Store) (r : Request) → EachAnswer (Within (object_name r.sent.kind r.sent.object ∷ [])) (range_table Meant s r)
unfolding range_table getcap_row destroy_row
range-within s r = obtained-within _ s (kind_with (w2 r)) (w3 r) ▸ destruction-within s r.sent.kind r.sent.object ▸ tt

own-within : (s : Store) (c : Capability) (r : Request) (kind : CapKind) → EachAnswer (Within (asked_name kind c r.sent ∷ [])) (own_table Meant s c r kind)
unfolding own_table endpoint_table setrecipient_row getid_row setid_row setmatch_row makeentry_row setpayload_row schedule_table priority_row lower_row discrim_table classify_row
own-within s c r Endpoint =
    let none = nothing_within (object_name Endpoint c.object ∷ []) in
    let same : (w : System) → Covers (object_name Endpoint c.object ∷ []) (object_name Endpoint c.object ∷ []) = λ w. covers_same (object_name Endpoint c.object ∷ []) in
    same ▸ none ▸ same ▸ same ▸ none ▸ same ▸ tt
own-within s c r Process = process-within (object_name Process c.object ∷ []) s c r
own-within s c r Schedule = nothing_within (object_name Schedule c.object ∷ []) ▸ nothing_within (object_name Schedule c.object ∷ []) ▸ tt
own-within s c r Range = range-within s r
own-within s c r Discrim = nothing_within (object_name Discrim c.object ∷ []) ▸ tt
own-within s c r kind = tt

table-within : (s : Store) (c : Capability) (r : Request) → EachAnswer (Within (asked_name c.kind c r.sent ∷ [])) (control_table Meant s c r c.kind)
unfolding control_table kind_row
table-within s c r = nothing_within (asked_name c.kind c r.sent ∷ []) ▸ own-within s c r c.kind

-- of every operation of these kinds
pub control_covers : (s : Store) (c : Capability) (r : Request) (w : System) → Covers (asked_name c.kind c r.sent ∷ []) (names_in Meant w (control_operation Meant s c r).answer.changes)
unfolding control_operation
control_covers s c r =
    let found : List ObjectName = asked_name c.kind c r.sent ∷ [] in
    cond_both (is_null c.kind) _ _ (Within found) (λ e. of_refusal found InvalidCap)
    (λ e. by_table (Within found) (of_refusal found) (control_table Meant s c r c.kind) (table-within s c r) (w1 r))

-- where it is a range's, it is what is sent
pub range_covers : (s : Store) (c : Capability) (r : Request) (w : System) (kind : CapKind) (n : ℕ) → c.kind ≡ Range → r.sent.kind ≡ kind → r.sent.object ≡ n → Covers (object_name kind n ∷ []) (names_in Meant w (control_operation Meant s c r).answer.changes)
range_covers s c r w kind n range sent object =
    let Named : CapKind → Type 0 = λ k. Covers (asked_name k c r.sent ∷ []) (names_in Meant w (control_operation Meant s c r).answer.changes) in
    let Called : CapKind → ℕ → Type 0 = λ k m. Covers (object_name k m ∷ []) (names_in Meant w (control_operation Meant s c r).answer.changes) in
    subst (Called kind) object (subst (λ (k : CapKind). Called k r.sent.object) sent (subst Named range (control_covers s c r w)))

-- and otherwise what the capability names
pub itself_covers : (s : Store) (c : Capability) (r : Request) (w : System) (kind : CapKind) (n : ℕ) → c.kind ≢ Range → c.kind ≡ kind → c.object ≡ n → Covers (object_name kind n ∷ []) (names_in Meant w (control_operation Meant s c r).answer.changes)
itself_covers s c r w kind n other named object =
    let Found : ObjectName → Type 0 = λ name. Covers (name ∷ []) (names_in Meant w (control_operation Meant s c r).answer.changes) in
    let Called : CapKind → ℕ → Type 0 = λ k m. Covers (object_name k m ∷ []) (names_in Meant w (control_operation Meant s c r).answer.changes) in
    subst (Called kind) object (subst (λ (k : CapKind). Called k c.object) named (subst Found (asked_itself c.kind c r.sent other) (control_covers s c r w)))

-- a process that goes on behind its instruction sends what it sent before
pub sent_advanced : (s : State) (p : ℕ) (inv : InvocationValue) → (request_of (process (advance s p) p) inv).sent ≡ (request_of (process s p) inv).sent
sent_advanced s p inv = by (slice_get inv.sent 0)
  where
    there : (i : ℕ) → ((p ≡ p) × (process (advance s p) p ≡ with_pc (process s p) (next_of (pc_of s p)))) ⊎ (process (advance s p) p ≡ process s p) → capreg_of (process (advance s p) p) i ≡ capreg_of (process s p) i
    there i (inl here) = ap (λ (q : ProcessValue). capreg_of q i) here.1
    there i (inr same) = ap (λ (q : ProcessValue). capreg_of q i) same

    by : (first : Option ℕ) → first_sent (process (advance s p) p) first ≡ first_sent (process s p) first
    by None = refl
    by (Some i) = there i (get_or-set s.store.contents.processes p p (with_pc (process s p) (next_of (pc_of s p))) empty_process)
