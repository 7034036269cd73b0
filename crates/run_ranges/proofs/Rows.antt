-- Operations of the kernel, row by row: what changes and what is told is in its ranges.
use Rattle.std.proofs.Common.{◌≡◌, ℕ, ◌+◌, ◌-◌, ◌*◌, ◌%◌, ◌<◌, ◌≤◌, ◌^◌, ◌==◌, nat_lt, nat_le, not, ◌&&◌, ◌||◌, Bool, true, false, true≢false, List, [], ◌∷◌, All, slice_index, Option, Some, None, IfSome, refl, sym, ap, ◌∙◌, subst, arith}
use Rattle.std.proofs.lemmas.Bool.{cond_both, and_parts, or_parts, ltb-true, ltb-false, leb-true, eqb-true}
use Rattle.std.proofs.lemmas.List.Elements.{All-cons, All-nil, All-set}
use Rattle.cap_format.specs.declared.kind.CapKind.{CapKind}
use Rattle.cap_format.specs.declared.kind.CapKind.TheVariants.{Null, Page, CapPage, Gpt, Window, LocalWindow, Endpoint, Process, Schedule, Range, Discrim}
use Rattle.cap_format.specs.declared.code.Code.{Code}
use Rattle.cap_format.specs.declared.code.Code.TheVariants.{UnknownRequest, InvalidCap, NoAccess, RequestError, CountSpent}
use Rattle.cap_format.specs.declared.request.Request.{Request}
use Rattle.cap_format.specs.Kind.{kind_with, is_memory, is_window, object_limit}
use Rattle.cap_format.specs.Guard.{IsGuard, guard_of}
use Rattle.cap_format.specs.Restr.{has}
use Rattle.cap_format.specs.Capability.{Capability, entry, schedule, with_guard, to_object}
use Rattle.cap_format.specs.Weakening.{reduced, weakened, weakened_kind, is_harmless}
use Rattle.cap_format.proofs.KindNumbers.{number_small}
use Rattle.cap_format.proofs.Ranges.{IsCapability-reduced, IsGuard-none, limits, matches_small}
use Rattle.gpt_objects.specs.Header.{IsHeader}
use Rattle.page_store.specs.Page.{empty_page}
use Rattle.page_store.specs.CapPage.{cap_at, with_cap, empty_cappage}
use Rattle.process_objects.specs.Process.{stopped}
use Rattle.process_objects.specs.declared.state.State.{State as RunState}
use Rattle.process_objects.specs.declared.state.State.TheVariants.{Running, Receiving, Faulted}
use Rattle.object_store.specs.Store.{Store, size_of, count_of, header_at, slot_at, page_at, cappage_at, process_at, endpoint_at}
use Rattle.object_store.proofs.Ranged.{IsHeader-header_at}
use Rattle.schedules.specs.Queues.{QueuesValue}
use Rattle.operations.specs.System.{System, Meant, system, schedule_by}
use Rattle.operations.specs.Change.{Change, PageIs, CapPageIs, SlotIs, HeaderIs, EndpointIs, ProcessIs, Left, Readied, Woken, Destroyed, applied, applied_all}
use Rattle.operations.specs.Row.{Answer, Row, Settled, tells, gives, does, refused, granted, settled, settled_in}
use Rattle.operations.specs.Request.{w1, w2, w3, w4}
use Rattle.operations.specs.Weak.{read_through}
use Rattle.operations.specs.Memory.{is_guard, is_multiple, may_have, bit, window_is_local, window_l2g, window_error, window_of, kind_row, reduce_row, getguard_row, setguard_row, getrestr_row, clear_page_row, copy_row, page_table, clear_cappage_row, get_row, set_row, cappage_table, getslot_row, setslot_row as setslot_of_gpt, getheader_row, setheader_row, setwindow_row, gpt_table, own_table as memory_own_table, memory_table, memory_operation}
use Rattle.operations.specs.Control.{setrecipient_row, getid_row, setid_row, setmatch_row, makeentry_row, setpayload_row, endpoint_table, number_in, with_number, getreg_row, setreg_row, getcapreg_row, setcapreg_row, getslot_row as getslot_of_process, setslot_row as setslot_of_process, tells_state, getstate_row, resume_row, stop_row, process_table, priority_row, lower_row, schedule_table, obtained, getcap_row, is_process, destruction_of, destroy_row, range_table, classify_row, discrim_table, own_table, control_table, is_null, control_operation}
use Rattle.operations.proofs.Settled.{◌▸◌, EachRow, by_rows}
use Rattle.run_ranges.specs.Ranges.{IsModelCap, IsWord, IsByte, IsRangedState, IsRangedProcess, IsRangedEndpoint, AreInRanges}
use Rattle.run_ranges.proofs.Words.{word_at}
use Rattle.run_ranges.proofs.Objects.{null-in, empty_page-in, empty_cappage-in, process-in, page-in, cappage-in, endpoint-in, slot-in, cap-in, reg-in, capreg-in, process_slot-in, with_pc-in, with_reg-in, with_capreg-in, with_slot-in, with_state-in, with_process-in, with_page-in, with_cappage-in, with_endpoint-in, set_slot-in, set_header-in, destruction-in}
use Rattle.run_ranges.proofs.Messages.{code-small, readied_at-in, woken-in, object-in}

-- ---- changes

-- what a change writes is in its ranges, and what it destroys may still be counted
abbrev pub IsRangedChange : Store → Change → Type 0
IsRangedChange s (PageIs n page) = All IsByte page
IsRangedChange s (CapPageIs n page) = All IsModelCap page
IsRangedChange s (SlotIs g i c) = IsModelCap c
IsRangedChange s (HeaderIs g header) = IsHeader header
IsRangedChange s (EndpointIs e endpoint) = IsRangedEndpoint endpoint
IsRangedChange s (ProcessIs p process) = IsRangedProcess process
IsRangedChange s (Left p) = Unit {0}
IsRangedChange s (Readied p) = Unit {0}
IsRangedChange s (Woken p) = Unit {0}
IsRangedChange s (Destroyed kind n) = (count_of s.items kind n == 1048575) ≡ false

-- each of them where it is applied
abbrev pub AreRangedChanges : System → List Change → Type 0
AreRangedChanges w [] = Unit {0}
AreRangedChanges w (change ∷ changes) = IsRangedChange w.store change × AreRangedChanges (applied Meant w change) changes

applied-in : (w : System) (change : Change) → IsRangedChange w.store change → AreInRanges w.store → AreInRanges (applied Meant w change).store
applied-in w (PageIs n page) is r = with_page-in w.store r n page is
applied-in w (CapPageIs n page) is r = with_cappage-in w.store r n page is
applied-in w (SlotIs g i c) is r = set_slot-in w.store r g i c is
applied-in w (HeaderIs g header) is r = set_header-in w.store r g header is
applied-in w (EndpointIs e endpoint) is r = with_endpoint-in w.store r e endpoint is
applied-in w (ProcessIs p process) is r = with_process-in w.store r p process is
applied-in w (Left p) is r = r
applied-in w (Readied p) is r = readied_at-in w.store r (schedule_by Meant w.store p) p w.queues
applied-in w (Woken p) is r = woken-in w.store r (schedule_by Meant w.store) p w.queues
applied-in w (Destroyed kind n) is r = destruction-in w.store kind n is r

pub applied_all-in : (w : System) (changes : List Change) → AreRangedChanges w changes → AreInRanges w.store → AreInRanges (applied_all Meant w changes).store
applied_all-in w [] are r = r
applied_all-in w (change ∷ changes) are r = applied_all-in (applied Meant w change) changes are.1 (applied-in w change are.0 r)

-- ---- answers

-- an answer whose changes are in their ranges, that tells words and gives a capability of the model
pub record IsRangedAnswer (w : System) (answer : Answer) : Type 0 where
  pub changes : AreRangedChanges w answer.changes
  pub words : All IsWord answer.words
  pub cap : IfSome answer.cap IsModelCap

pub three-in : (a b c : ℕ) → IsWord a → IsWord b → IsWord c → All IsWord (a ∷ b ∷ c ∷ [])
three-in a b c x y z = All-cons IsWord a (b ∷ c ∷ []) x (All-cons IsWord b (c ∷ []) y (All-cons IsWord c [] z (All-nil IsWord)))

pub zeros-in : All IsWord (0 ∷ 0 ∷ 0 ∷ [])
zeros-in = three-in 0 0 0 (omega arith) (omega arith) (omega arith)

weakened-in : (c : Capability) → IsModelCap c → IsModelCap (weakened c)
weakened-in c is = by c.kind refl
  where
    more : is_memory c.kind ≡ true → IsModelCap (reduced c 21)
    more e = (IsCapability-reduced c 21 e (omega arith) is.0, is.1)

    by : (kind : CapKind) → c.kind ≡ kind → IsModelCap (weakened_kind kind c)
    by Null e = is
    by Discrim e = is
    by Page e = more (ap is_memory e)
    by CapPage e = more (ap is_memory e)
    by Gpt e = more (ap is_memory e)
    by Window e = more (ap is_memory e)
    by LocalWindow e = more (ap is_memory e)
    by kind e = null-in

pub read_through-in : (restr : ℕ) (c : Capability) → IsModelCap c → IsModelCap (read_through restr c)
read_through-in restr c is = cond_both (has restr 4) _ _ IsModelCap (λ e. weakened-in c is) (λ e. is)

-- what the tests of a guard say
guard-in : (l2g matches : ℕ) → is_guard l2g matches ≡ true → IsGuard (guard_of l2g matches)
unfolding is_guard
guard-in l2g matches e =
    let parts = and_parts (nat_le 12 l2g && nat_le l2g 32) (nat_lt matches (2 ^ (32 - l2g))) e in
    let sizes = and_parts (nat_le 12 l2g) (nat_le l2g 32) parts.0 in
    record { low = leb-true _ _ sizes.0; high = leb-true _ _ sizes.1; fits = ltb-true _ _ parts.1 }

multiple-in : (l2g offset : ℕ) → is_multiple l2g offset ≡ true → offset % 2 ^ l2g ≡ 0
unfolding is_multiple
multiple-in l2g offset e = eqb-true _ _ e

not_false : (b : Bool) → not b ≡ false → b ≡ true
not_false true e = refl
not_false false e = sym e

state-words : (state : RunState) → IsRangedState state → All IsWord (tells_state state).words
state-words Running is = zeros-in
state-words (Receiving accept) is = three-in 1 0 0 (omega arith) (omega arith) (omega arith)
state-words (Faulted code address) is = three-in 2 _ _ (omega arith) (code-small code) is

state-changes : (w : System) (state : RunState) → IsRangedState state → IsRangedAnswer w (tells_state state)
state-changes w Running is = record { changes = tt; words = zeros-in; cap = tt }
state-changes w (Receiving accept) is = record { changes = tt; words = state-words (Receiving accept) is; cap = tt }
state-changes w (Faulted code address) is = record { changes = tt; words = state-words (Faulted code address) is; cap = tt }

bit-small : (b : Bool) → bit b ≤ 1
bit-small true = omega arith
bit-small false = omega arith

-- what holds of every refusal, and of the answer where nothing refuses, holds of the row
row-in : (P : Settled → Type 0) → ((code : Code) → P (refused code)) → (row : Row)
    → (row.request_error ≡ false → row.count_spent ≡ false → P (granted row.answer)) → P (settled row)
row-in P refusal row answer =
    cond_both row.no_access _ _ P (λ a. refusal NoAccess) (λ a.
    cond_both row.request_error _ _ P (λ b. refusal RequestError) (λ b.
    cond_both row.count_spent _ _ P (λ d. refusal CountSpent) (λ d. answer b d)))

module _ (s : Store) (q : QueuesValue) (x : AreInRanges s) (c : Capability) (is : IsModelCap c) (r : Request) (words : All IsWord r.words) (sent : IsModelCap r.sent) where
  abbrev w : System
  w = system s q

  -- what it comes to is in its ranges
  abbrev IsRangedRow : Settled → Type 0
  IsRangedRow settled = IsRangedAnswer w settled.answer

  refusal-in : (code : Code) → IsRangedRow (refused code)
  refusal-in code = record { changes = tt; words = zeros-in; cap = tt }

  tells-in : (a b d : ℕ) → IsWord a → IsWord b → IsWord d → IsRangedAnswer w (tells a b d)
  tells-in a b d x y z = record { changes = tt; words = three-in a b d x y z; cap = tt }

  gives-in : (cap : Capability) → IsModelCap cap → IsRangedAnswer w (gives cap)
  gives-in cap model = record { changes = tt; words = zeros-in; cap = model }

  does-in : (change : Change) → IsRangedChange s change → IsRangedAnswer w (does (change ∷ []))
  does-in change ranged = record { changes = (ranged, tt); words = zeros-in; cap = tt }

  word : (i : ℕ) → IsWord (slice_index r.words i)
  word i = word_at r.words i words

  -- where nothing refuses a row, what it comes to is in its ranges
  abbrev RowIn : Row → Type 0
  RowIn row = row.request_error ≡ false → row.count_spent ≡ false → IsRangedRow (granted row.answer)

  rows-in : (rows : List (ℕ × Row)) → EachRow RowIn rows → (n : ℕ) → IsRangedRow (settled_in rows n)
  rows-in = by_rows IsRangedRow RowIn (row-in IsRangedRow refusal-in) (refusal-in UnknownRequest)

  kind-in : IsRangedRow (granted (kind_row c).answer)
  unfolding kind_row
  kind-in = tells-in _ 0 0 (let small = number_small c.kind in omega (arith, small)) (omega arith) (omega arith)

  -- ---- pages, capability pages, GPTs and windows

  page_rows : EachRow RowIn (page_table s c r)
  unfolding page_table clear_page_row copy_row
  page_rows =
      (λ e f. does-in (PageIs c.object empty_page) empty_page-in)
      ▸ (λ e f. does-in (PageIs c.object (page_at s r.sent.object)) (page-in s x r.sent.object))
      ▸ tt

  cappage_rows : EachRow RowIn (cappage_table s c r)
  unfolding cappage_table clear_cappage_row get_row set_row
  cappage_rows =
      (λ e f. does-in (CapPageIs c.object empty_cappage) empty_cappage-in)
      ▸ (λ e f. gives-in _ (read_through-in c.restr (cap_at (cappage_at s c.object) (w2 r)) (cap-in s x c.object (w2 r))))
      ▸ (λ e f. does-in (CapPageIs c.object (with_cap (cappage_at s c.object) (w2 r) r.sent)) (All-set IsModelCap (cappage_at s c.object) (w2 r) r.sent sent (cappage-in s x c.object)))
      ▸ tt

  header-in : (nat_lt (w2 r) 12 || nat_lt 31 (w2 r) || nat_lt 3 (w3 r)) ≡ false → (ha bg : Bool) → IsHeader (record { l2v = w2 r; ha = ha; bg = bg })
  header-in none ha bg =
      let parts = or_parts _ (nat_lt 3 (w3 r)) none in
      let sizes = or_parts (nat_lt (w2 r) 12) (nat_lt 31 (w2 r)) parts.0 in
      record { low = ltb-false _ _ sizes.0; high = ltb-false _ _ sizes.1 }

  window-in : window_error r ≡ false → IsModelCap (window_of r)
  unfolding window_error window_of
  window-in none =
      let last = or_parts _ (not (is_multiple (window_l2g r) (w4 r))) none in
      let third = or_parts _ (not (is_guard (window_l2g r) (w3 r))) last.0 in
      let guard = guard-in (window_l2g r) (w3 r) (not_false _ third.1) in
      let multiple = multiple-in (window_l2g r) (w4 r) (not_false _ last.1) in
      cond_both (window_is_local r) _ _ IsModelCap
      (λ e. (record { restr = omega arith; count = omega arith; guard = guard; unguarded = λ e. absurd (cc (e)); object = word 3; aligned = λ e. multiple; payload = omega arith; slot = omega arith }, refl))
      (λ e. (record { restr = omega arith; count = omega arith; guard = guard; unguarded = λ e. absurd (cc (e)); object = word 3; aligned = λ e. multiple; payload = omega arith; slot = omega arith }, refl))

  header_told-in : IsRangedRow (granted (getheader_row s c).answer)
  unfolding getheader_row
  header_told-in =
      let header = header_at s.items c.object in
      let high = (IsHeader-header_at s.items x.items c.object).high in
      let ha = bit-small header.ha in
      let bg = bit-small header.bg in
      tells-in header.l2v (bit header.ha + 2 * bit header.bg) 0 (omega (arith, high)) (omega (arith, ha, bg)) (omega arith)

  gpt_rows : EachRow RowIn (gpt_table s c r)
  unfolding gpt_table getslot_row setslot_of_gpt setheader_row setwindow_row
  gpt_rows =
      (λ e f. gives-in _ (read_through-in c.restr (slot_at s.items c.object (w2 r)) (slot-in s x c.object (w2 r))))
      ▸ (λ e f. does-in (SlotIs c.object (w2 r) r.sent) sent)
      ▸ (λ e f. header_told-in)
      ▸ (λ e f. does-in (HeaderIs c.object _) (header-in e _ _))
      ▸ (λ e f. does-in (SlotIs c.object _ (window_of r)) (window-in e))
      ▸ tt

  memory_own_rows : (kind : CapKind) → EachRow RowIn (memory_own_table s c r kind)
  unfolding memory_own_table
  memory_own_rows Page = page_rows
  memory_own_rows CapPage = cappage_rows
  memory_own_rows Gpt = gpt_rows
  memory_own_rows kind = tt

  guarded-in : is_memory c.kind ≡ true → may_have c (w2 r) (w3 r) ≡ true → IsModelCap (with_guard c (guard_of (w2 r) (w3 r)))
  unfolding may_have
  guarded-in memory may =
      let parts = and_parts (is_guard (w2 r) (w3 r)) (not (is_window c.kind) || is_multiple (w2 r) c.object) may in (
        record {
          restr = is.0.restr;
          count = is.0.count;
          guard = guard-in (w2 r) (w3 r) parts.0;
          unguarded = λ e. absurd (true≢false (sym memory ∙ e));
          object = is.0.object;
          aligned = λ window. multiple-in (w2 r) c.object (rw window at parts.1);
          payload = is.0.payload;
          slot = is.0.slot;
        },
        is.1,
      )

  memory_rows : is_memory c.kind ≡ true → EachRow RowIn (memory_table s c r c.kind)
  unfolding memory_table reduce_row getguard_row setguard_row getrestr_row
  memory_rows memory =
      (λ e f. kind-in)
      ▸ (λ e f. gives-in (reduced c (w2 r)) (IsCapability-reduced c (w2 r) memory (let few : w2 r ≤ 31 = ltb-false _ _ e in omega (arith, few)) is.0, is.1))
      ▸ (λ e f. tells-in c.guard.l2g c.guard.matches 0 (let high = is.0.guard.high in omega (arith, high)) (let small = matches_small c.guard is.0.guard in omega (arith, small)) (omega arith))
      ▸ (λ e f. gives-in _ (guarded-in memory (not_false _ e)))
      ▸ (λ e f. tells-in c.restr 0 0 (let below = is.0.restr in let most = (limits c.kind).restr in omega (arith, below, most)) (omega arith) (omega arith))
      ▸ memory_own_rows c.kind

  -- of every operation of these kinds
  pub memory-in : is_memory c.kind ≡ true → IsRangedAnswer w (memory_operation s c r).answer
  unfolding memory_operation
  memory-in memory = rows-in (memory_table s c r c.kind) (memory_rows memory) (w1 r)

  -- ---- Null, endpoints, processes, schedules, Range and Discrim

  entry-in : c.kind ≡ Endpoint → IsModelCap (entry c.object c.count (w2 r))
  entry-in e =
      let none = is.1 in (
        record {
          restr = omega arith;
          count = omega (arith, none);
          guard = IsGuard-none;
          unguarded = λ f. refl;
          object = subst (λ (k : CapKind). c.object < object_limit k) e is.0.object;
          aligned = λ f. absurd (cc (f));
          payload = word 1;
          slot = omega arith;
        },
        is.1,
      )

  endpoint_rows : c.kind ≡ Endpoint → EachRow RowIn (endpoint_table s c r)
  unfolding endpoint_table setrecipient_row getid_row setid_row setmatch_row makeentry_row setpayload_row
  endpoint_rows k =
      let old = endpoint-in s x c.object in
      (λ e f. does-in (EndpointIs c.object _) (record { id = old.id; payload = old.payload; recipient = sent }))
      ▸ (λ e f. tells-in _ _ _ old.id (let small = bit-small (endpoint_at s c.object).matching in omega (arith, small)) old.payload)
      ▸ (λ e f. does-in (EndpointIs c.object _) (record { id = word 1; payload = old.payload; recipient = old.recipient }))
      ▸ (λ e f. does-in (EndpointIs c.object _) (record { id = old.id; payload = old.payload; recipient = old.recipient }))
      ▸ (λ e f. gives-in _ (entry-in k))
      ▸ (λ e f. does-in (EndpointIs c.object _) (record { id = old.id; payload = word 1; recipient = old.recipient }))
      ▸ tt

  number_in-in : (i : ℕ) → IsWord (number_in (process_at s c.object) i)
  unfolding number_in
  number_in-in i = cond_both (i == 0) _ _ IsWord (λ e. (process-in s x c.object).pc) (λ e. reg-in s x c.object i)

  with_number-in : (i value : ℕ) → IsWord value → IsRangedProcess (with_number (process_at s c.object) i value)
  unfolding with_number
  with_number-in i value small = cond_both (i == 0) _ _ IsRangedProcess (λ e. with_pc-in (process_at s c.object) (process-in s x c.object) value small) (λ e. with_reg-in (process_at s c.object) (process-in s x c.object) i value small)

  process_rows : EachRow RowIn (process_table s c r)
  unfolding process_table getreg_row setreg_row getcapreg_row setcapreg_row getslot_of_process setslot_of_process getstate_row resume_row stop_row
  process_rows =
      let p = process_at s c.object in
      let old = process-in s x c.object in
      (λ e f. tells-in _ 0 0 (number_in-in (w2 r)) (omega arith) (omega arith))
      ▸ (λ e f. does-in (ProcessIs c.object _) (with_number-in (w2 r) (w3 r) (word 2)))
      ▸ (λ e f. gives-in _ (capreg-in s x c.object (w2 r)))
      ▸ (λ e f. does-in (ProcessIs c.object _) (with_capreg-in p old (w2 r) r.sent sent))
      ▸ (λ e f. gives-in _ (process_slot-in s x c.object (w2 r)))
      ▸ (λ e f. does-in (ProcessIs c.object _) (with_slot-in p old (w2 r) r.sent sent))
      ▸ (λ e f. state-changes w p.state old.state)
      ▸ (λ e f. does-in (Readied c.object) tt)
      ▸ (λ e f. record { changes = (tt, (with_state-in p old stopped (omega arith), tt)); words = zeros-in; cap = tt })
      ▸ tt

  lowered-in : c.kind ≡ Schedule → nat_lt c.object (w2 r) ≡ false → IsModelCap (schedule (w2 r))
  lowered-in e low =
      let below : c.object < 8 = subst (λ (k : CapKind). c.object < object_limit k) e is.0.object in
      let most : w2 r ≤ c.object = ltb-false _ _ low in
      (record { restr = omega arith; count = omega arith; guard = IsGuard-none; unguarded = λ f. refl; object = omega (arith, below, most); aligned = λ f. absurd (cc (f)); payload = omega arith; slot = omega arith }, refl)

  schedule_rows : c.kind ≡ Schedule → EachRow RowIn (schedule_table c r)
  unfolding schedule_table priority_row lower_row
  schedule_rows k =
      (λ e f. tells-in c.object 0 0 (let below = is.0.object in let most = (limits c.kind).object in omega (arith, below, most)) (omega arith) (omega arith))
      ▸ (λ e f. gives-in _ (lowered-in k e))
      ▸ tt

  sized-in : (kind : CapKind) (n : ℕ) → n < size_of s.items kind → IsModelCap (to_object kind n 0)
  sized-in Page n there = object-in Page refl n (let most = x.items.counts.pages.size in omega (arith, there, most))
  sized-in CapPage n there = object-in CapPage refl n (let most = x.items.counts.cappages.size in omega (arith, there, most))
  sized-in Gpt n there = object-in Gpt refl n (let most = x.items.counts.gpts.size in omega (arith, there, most))
  sized-in Endpoint n there = object-in Endpoint refl n (let most = x.items.counts.endpoints.size in omega (arith, there, most))
  sized-in Process n there = object-in Process refl n (let most = x.items.counts.processes.size in omega (arith, there, most))
  sized-in kind n there = absurd (omega (arith, there))

  obtained-in : (kind : Option CapKind) → RowIn (obtained Meant s kind (w3 r))
  unfolding obtained
  obtained-in None e f = absurd (true≢false e)
  obtained-in (Some kind) e f = gives-in _ (sized-in kind (w3 r) (ltb-true _ _ (not_false _ e)))

  destroyed-in : (kind : CapKind) (n : ℕ) → (count_of s.items kind n == 1048575) ≡ false → AreRangedChanges w (destruction_of s kind n)
  unfolding destruction_of
  destroyed-in kind n unspent =
      cond_both (is_process kind) _ _ (AreRangedChanges w) (λ e. (tt, (with_state-in (process_at s n) (process-in s x n) stopped (omega arith), (tt, (unspent, tt))))) (λ e. (unspent, tt))

  range_rows : EachRow RowIn (range_table Meant s r)
  unfolding range_table getcap_row destroy_row
  range_rows =
      obtained-in (kind_with (w2 r))
      ▸ (λ e f. record { changes = destroyed-in r.sent.kind r.sent.object f; words = zeros-in; cap = tt })
      ▸ tt

  discrim_rows : EachRow RowIn (discrim_table r)
  unfolding discrim_table classify_row
  discrim_rows =
      (λ e f. tells-in _ _ 0 (let small = number_small r.sent.kind in omega (arith, small)) (let small = bit-small (is_harmless r.sent) in omega (arith, small)) (omega arith))
      ▸ tt

  own_rows : (kind : CapKind) → c.kind ≡ kind → EachRow RowIn (own_table Meant s c r kind)
  unfolding own_table
  own_rows Endpoint k = endpoint_rows k
  own_rows Process k = process_rows
  own_rows Schedule k = schedule_rows k
  own_rows Range k = range_rows
  own_rows Discrim k = discrim_rows
  own_rows kind k = tt

  table_rows : EachRow RowIn (control_table Meant s c r c.kind)
  unfolding control_table
  table_rows = (λ e f. kind-in) ▸ own_rows c.kind refl

  -- of every operation of these kinds
  pub control-in : IsRangedAnswer w (control_operation Meant s c r).answer
  unfolding control_operation
  control-in = cond_both (is_null c.kind) _ _ IsRangedRow (λ e. refusal-in InvalidCap) (λ e. rows-in (control_table Meant s c r c.kind) table_rows (w1 r))
