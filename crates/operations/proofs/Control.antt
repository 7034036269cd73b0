-- Requests to the other kinds: what they mean, and what their changes come to.
use Rattle.std.proofs.Common.{◌≡◌, ◌≢◌, ◌==◌, ℕ, ◌<◌, ◌≤◌, nat_lt, true≢false, Bool, true, false, not, if◌then◌else◌, [], ◌∷◌, map, Option, Some, None, refl, sym, ap, ◌∙◌, subst, arith}
use Rattle.std.specs.Option.{IfSome}
use Rattle.std.proofs.lemmas.Bool.{cond_both, ltb-true}
use Rattle.std.proofs.lemmas.List.Elements.{All-set}
use Rattle.cap_format.specs.declared.kind.CapKind.{CapKind}
use Rattle.cap_format.specs.declared.kind.CapKind.TheVariants.{Page, CapPage, Gpt, Endpoint, Entry, Process, Schedule, Range, Discrim}
use Rattle.cap_format.specs.declared.code.Code.{Code}
use Rattle.cap_format.specs.declared.code.Code.TheVariants.{Ok as OkCode, InvalidCap, UnknownRequest, RequestError, CountSpent}
use Rattle.cap_format.specs.declared.request.Request.{Request}
use Rattle.cap_format.specs.Kind.{is_counted, is_object, object_kind, kind_with}
use Rattle.cap_format.specs.Capability.{Capability, bare, entry, schedule, to_object}
use Rattle.process_objects.specs.declared.state.State.{State as RunState}
use Rattle.process_objects.specs.declared.state.State.TheVariants.{Running, Receiving, Faulted}
use Rattle.process_objects.specs.Process.{ProcessValue, with_pc, with_reg, with_capreg, with_slot, with_state, stopped}
use Rattle.endpoint_objects.specs.declared.endpoint.Endpoint.{Endpoint as EndpointValue}
use Rattle.object_store.specs.Store.{Store, size_of, count_of, process_at, endpoint_at}
use Rattle.object_store.specs.Meaning.{is_live, meaning, process_map, endpoint_map, state_map}
use Rattle.object_store.specs.Ahead.{IsBehind, NoneAhead}
use Rattle.object_store.proofs.Live.{meaning_live, live_names, live_endpoint, IsBehind-is_live, IsBehind-zero}
use Rattle.object_store.proofs.Means.{process_at-state_map, endpoint_at-state_map, process_map-with_capreg, process_map-with_slot}
use Rattle.object_store.proofs.Each.{capregs-each, process_slots-each, capreg_set-each}
use Rattle.object_store.proofs.Made.{meaning_entry, meaning_object}
use Rattle.object_store.proofs.Writes.{slot_means, capreg_means, state_means}
use Rattle.object_store.proofs.WritesBehind.{null_behind, capreg_behind, slot_behind, recipient_behind}
use Rattle.schedules.specs.Queues.{QueuesValue}
use Rattle.operations.specs.System.{system, Stored, Meant}
use Rattle.operations.specs.Change.{EndpointIs, ProcessIs, Left, Readied, Woken, Destroyed}
use Rattle.operations.specs.Row.{Row, Answer, Settled, nothing, refused, granted, tells, gives, does, unless_error, settled, settled_in}
use Rattle.operations.specs.Request.{w1, w2, w3, request_map}
use Rattle.operations.specs.Memory.{kind_row, bit}
use Rattle.operations.specs.Control.{setrecipient_row, getid_row, setid_row, setmatch_row, makeentry_row, setpayload_row, endpoint_table, getreg_row, setreg_row, getcapreg_row, setcapreg_row, getslot_row, setslot_row, getstate_row, resume_row, stop_row, process_table, priority_row, lower_row, schedule_table, obtained, getcap_row, destroy_row, destruction_of, range_table, classify_row, discrim_table, own_table, control_table, control_operation, number_in, with_number, tells_state, is_faulted, is_process, is_null}
use Rattle.operations.proofs.Mapped.{change_map, answer_map, settled_map}
use Rattle.operations.proofs.Settled.{by_row, settled-map, ◌▸◌, EachRow, by_rows, EachAnswer, by_table, EachPair, by_pairs, refused_in}
use Rattle.operations.proofs.Sound.{IsSound, sound_none, sound_one, sound_stopping, sound_ending, process_behind}

-- ---- what each row means

module _ (s : Store) (c : Capability) (r : Request) (live : is_live s.items c ≡ true) (sent : is_live s.items r.sent ≡ true) where
  abbrev f : Capability → Capability
  f = meaning s.items

  abbrev r' : Request
  r' = request_map bare r

  abbrev s' : Store
  s' = state_map s

  -- an endpoint of the map
  endpoint' : endpoint_at s' c.object ≡ endpoint_map f (endpoint_at s c.object)
  endpoint' = endpoint_at-state_map s c.object

  -- a process of the map
  process' : process_at s' c.object ≡ process_map f (process_at s c.object)
  process' = process_at-state_map s c.object

  -- what two rows come to means alike
  abbrev Means : Row → Row → Type 0
  Means row other = settled_map f (settled row) ≡ settled other

  kind_means : settled_map f (settled (kind_row c)) ≡ settled (kind_row (bare c))
  unfolding kind_row
  kind_means = settled-map f (kind_row c) (kind_row (bare c)).answer refl

  setrecipient_means : settled_map f (settled (setrecipient_row s c r)) ≡ settled (setrecipient_row s' (bare c) r')
  unfolding setrecipient_row
  setrecipient_means = settled-map f (setrecipient_row s c r) (setrecipient_row s' (bare c) r').answer (rw (endpoint', meaning_live s.items r.sent sent) refl)

  getid_means : settled_map f (settled (getid_row s c)) ≡ settled (getid_row s' (bare c))
  unfolding getid_row
  getid_means = settled-map f (getid_row s c) (getid_row s' (bare c)).answer (ap (λ (e : EndpointValue). tells e.id (bit e.matching) e.payload) (sym endpoint'))

  setid_means : settled_map f (settled (setid_row s c r)) ≡ settled (setid_row s' (bare c) r')
  unfolding setid_row
  setid_means = settled-map f (setid_row s c r) (setid_row s' (bare c) r').answer (rw endpoint' refl)

  setmatch_means : settled_map f (settled (setmatch_row s c r)) ≡ settled (setmatch_row s' (bare c) r')
  unfolding setmatch_row
  setmatch_means = settled-map f (setmatch_row s c r) (setmatch_row s' (bare c) r').answer (rw endpoint' refl)

  makeentry_means : c.kind ≡ Endpoint → settled_map f (settled (makeentry_row c r)) ≡ settled (makeentry_row (bare c) r')
  unfolding makeentry_row
  makeentry_means is = settled-map f (makeentry_row c r) (makeentry_row (bare c) r').answer (ap gives made)
    where
      counted : is_counted c.kind ≡ true
      counted = ap is_counted is

      current : c.count ≡ count_of s.items Endpoint c.object
      current = sym (live_names s.items c counted live).count ∙ ap (λ k. count_of s.items (object_kind k) c.object) is

      made : f (entry c.object c.count (w2 r)) ≡ entry c.object 0 (w2 r)
      made = ap (λ n. f (entry c.object n (w2 r))) current ∙ meaning_entry s.items c.object (w2 r) (live_endpoint s.items c is live)

  setpayload_means : settled_map f (settled (setpayload_row s c r)) ≡ settled (setpayload_row s' (bare c) r')
  unfolding setpayload_row
  setpayload_means = settled-map f (setpayload_row s c r) (setpayload_row s' (bare c) r').answer (rw endpoint' refl)

  endpoint_means : c.kind ≡ Endpoint → EachPair Means (endpoint_table s c r) (endpoint_table s' (bare c) r')
  unfolding endpoint_table
  endpoint_means is =
      (refl, setrecipient_means)
      ▸ (refl, getid_means)
      ▸ (refl, setid_means)
      ▸ (refl, setmatch_means)
      ▸ (refl, makeentry_means is)
      ▸ (refl, setpayload_means)
      ▸ tt

  getreg_means : settled_map f (settled (getreg_row s c r)) ≡ settled (getreg_row s' (bare c) r')
  unfolding getreg_row number_in
  getreg_means = settled-map f (getreg_row s c r) (getreg_row s' (bare c) r').answer (ap (λ (p : ProcessValue). tells (number_in p (w2 r)) 0 0) (sym process'))

  with_number_means : (p : ProcessValue) (i value : ℕ) → process_map f (with_number p i value) ≡ with_number (process_map f p) i value
  unfolding with_number
  with_number_means p i value = by (i == 0)
    where
      by : (b : Bool) → process_map f (if b then with_pc p value else with_reg p i value) ≡ (if b then with_pc (process_map f p) value else with_reg (process_map f p) i value)
      by true = refl
      by false = refl

  setreg_means : settled_map f (settled (setreg_row s c r)) ≡ settled (setreg_row s' (bare c) r')
  unfolding setreg_row
  setreg_means = settled-map f (setreg_row s c r) (setreg_row s' (bare c) r').answer (ap (λ v. does (ProcessIs c.object v ∷ [])) (with_number_means (process_at s c.object) (w2 r) (w3 r) ∙ ap (λ v. with_number v (w2 r) (w3 r)) (sym process')))

  getcapreg_means : settled_map f (settled (getcapreg_row s c r)) ≡ settled (getcapreg_row s' (bare c) r')
  unfolding getcapreg_row
  getcapreg_means = settled-map f (getcapreg_row s c r) (getcapreg_row s' (bare c) r').answer (ap gives (capreg_means s c.object (w2 r)))

  setcapreg_means : settled_map f (settled (setcapreg_row s c r)) ≡ settled (setcapreg_row s' (bare c) r')
  unfolding setcapreg_row
  setcapreg_means = settled-map f (setcapreg_row s c r) (setcapreg_row s' (bare c) r').answer (ap (λ v. does (ProcessIs c.object v ∷ [])) (process_map-with_capreg f refl (process_at s c.object) (w2 r) r.sent ∙ written))
    where
      written : with_capreg (process_map f (process_at s c.object)) (w2 r) (f r.sent) ≡ with_capreg (process_at s' c.object) (w2 r) (bare r.sent)
      written = rw (process', meaning_live s.items r.sent sent) refl

  getslot_means : settled_map f (settled (getslot_row s c r)) ≡ settled (getslot_row s' (bare c) r')
  unfolding getslot_row
  getslot_means = settled-map f (getslot_row s c r) (getslot_row s' (bare c) r').answer (ap gives (slot_means s c.object (w2 r)))

  setslot_means : settled_map f (settled (setslot_row s c r)) ≡ settled (setslot_row s' (bare c) r')
  unfolding setslot_row
  setslot_means = settled-map f (setslot_row s c r) (setslot_row s' (bare c) r').answer (ap (λ v. does (ProcessIs c.object v ∷ [])) (process_map-with_slot f refl (process_at s c.object) (w2 r) r.sent ∙ written))
    where
      written : with_slot (process_map f (process_at s c.object)) (w2 r) (f r.sent) ≡ with_slot (process_at s' c.object) (w2 r) (bare r.sent)
      written = rw (process', meaning_live s.items r.sent sent) refl

  tells_state_means : (state : RunState) → answer_map f (tells_state state) ≡ tells_state state
  tells_state_means Running = refl
  tells_state_means (Receiving accept) = refl
  tells_state_means (Faulted code address) = refl

  getstate_means : settled_map f (settled (getstate_row s c)) ≡ settled (getstate_row s' (bare c))
  unfolding getstate_row
  getstate_means = settled-map f (getstate_row s c) (getstate_row s' (bare c)).answer (tells_state_means (process_at s c.object).state ∙ ap tells_state (state_means s c.object))

  resume_means : settled_map f (settled (resume_row s c)) ≡ settled (resume_row s' (bare c))
  unfolding resume_row
  resume_means =
      settled-map f (resume_row s c) (does (Readied c.object ∷ [])) refl
      ∙ ap (λ (z : RunState). settled (unless_error (not (is_faulted z)) (does (Readied c.object ∷ [])))) (state_means s c.object)

  stop_means : settled_map f (settled (stop_row s c)) ≡ settled (stop_row s' (bare c))
  unfolding stop_row
  stop_means =
      settled-map f (stop_row s c) (does (Left c.object ∷ ProcessIs c.object (with_state (process_map f (process_at s c.object)) stopped) ∷ [])) refl
      ∙ ap (λ (p : ProcessValue). settled (unless_error (is_faulted p.state) (does (Left c.object ∷ ProcessIs c.object (with_state p stopped) ∷ [])))) (sym process')

  process_means : EachPair Means (process_table s c r) (process_table s' (bare c) r')
  unfolding process_table
  process_means =
      (refl, getreg_means)
      ▸ (refl, setreg_means)
      ▸ (refl, getcapreg_means)
      ▸ (refl, setcapreg_means)
      ▸ (refl, getslot_means)
      ▸ (refl, setslot_means)
      ▸ (refl, getstate_means)
      ▸ (refl, resume_means)
      ▸ (refl, stop_means)
      ▸ tt

  priority_means : settled_map f (settled (priority_row c)) ≡ settled (priority_row (bare c))
  unfolding priority_row
  priority_means = settled-map f (priority_row c) (priority_row (bare c)).answer refl

  lower_means : settled_map f (settled (lower_row c r)) ≡ settled (lower_row (bare c) r')
  unfolding lower_row
  lower_means = settled-map f (lower_row c r) (lower_row (bare c) r').answer refl

  schedule_means : EachPair Means (schedule_table c r) (schedule_table (bare c) r')
  unfolding schedule_table
  schedule_means = (refl, priority_means) ▸ (refl, lower_means) ▸ tt

  -- a capability to an object that is there
  object_means : (kind : CapKind) (n : ℕ) → n < size_of s.items kind → f (to_object kind n (count_of s.items kind n)) ≡ to_object kind n 0
  object_means Page n there = meaning_object s.items Page n refl there
  object_means CapPage n there = meaning_object s.items CapPage n refl there
  object_means Gpt n there = meaning_object s.items Gpt n refl there
  object_means Endpoint n there = meaning_object s.items Endpoint n refl there
  object_means Process n there = meaning_object s.items Process n refl there
  object_means kind n there = absurd (omega (arith, there))

  obtained_means : (kind : Option CapKind) (n : ℕ) → settled_map f (settled (obtained Stored s kind n)) ≡ settled (obtained Meant s' kind n)
  unfolding obtained
  obtained_means None n = refl
  obtained_means (Some kind) n = by (nat_lt n (size_of s.items kind)) (λ e. object_means kind n (ltb-true _ _ e))
    where
      by : (b : Bool) → (b ≡ true → f (to_object kind n (count_of s.items kind n)) ≡ to_object kind n 0)
          → settled_map f (settled (unless_error (not b) (gives (to_object kind n (count_of s.items kind n))))) ≡ settled (unless_error (not b) (gives (to_object kind n 0)))
      by true e = ap (λ x. granted (gives x)) (e refl)
      by false e = refl

  destruction_means : (kind : CapKind) (n : ℕ) → map (change_map f) (destruction_of s kind n) ≡ destruction_of s' kind n
  unfolding destruction_of
  destruction_means kind n = by (is_process kind)
    where
      by : (b : Bool) → map (change_map f) (if b then Left n ∷ ProcessIs n (with_state (process_at s n) stopped) ∷ Woken n ∷ Destroyed kind n ∷ [] else Destroyed kind n ∷ [])
          ≡ (if b then Left n ∷ ProcessIs n (with_state (process_at s' n) stopped) ∷ Woken n ∷ Destroyed kind n ∷ [] else Destroyed kind n ∷ [])
      by true = ap (λ (p : ProcessValue). Left n ∷ ProcessIs n (with_state p stopped) ∷ Woken n ∷ Destroyed kind n ∷ []) (sym (process_at-state_map s n))
      by false = refl

  destroy_means : settled_map f (settled (destroy_row s r.sent)) ≡ settled (destroy_row s' (bare r.sent))
  unfolding destroy_row
  destroy_means = settled-map f (destroy_row s r.sent) (destroy_row s' (bare r.sent)).answer (ap does (destruction_means r.sent.kind r.sent.object))

  range_means : EachPair Means (range_table Stored s r) (range_table Meant s' r')
  unfolding range_table getcap_row
  range_means = (refl, obtained_means (kind_with (w2 r)) (w3 r)) ▸ (refl, destroy_means) ▸ tt

  classify_means : settled_map f (settled (classify_row r.sent)) ≡ settled (classify_row (bare r.sent))
  unfolding classify_row
  classify_means = settled-map f (classify_row r.sent) (classify_row (bare r.sent)).answer refl

  discrim_means : EachPair Means (discrim_table r) (discrim_table r')
  unfolding discrim_table
  discrim_means = (refl, classify_means) ▸ tt

  own_means : (kind : CapKind) → c.kind ≡ kind → EachPair Means (own_table Stored s c r kind) (own_table Meant s' (bare c) r' kind)
  unfolding own_table
  own_means Endpoint is = endpoint_means is
  own_means Process is = process_means
  own_means Schedule is = schedule_means
  own_means Range is = range_means
  own_means Discrim is = discrim_means
  own_means kind is = tt

  table_means : EachPair Means (control_table Stored s c r c.kind) (control_table Meant s' (bare c) r' c.kind)
  unfolding control_table
  table_means = (refl, kind_means) ▸ own_means c.kind refl

  either_means : (b : Bool) (x y : Settled) → settled_map f x ≡ y → settled_map f (if b then refused InvalidCap else x) ≡ (if b then refused InvalidCap else y)
  either_means true x y e = refl
  either_means false x y e = e

  -- a request to a capability of these kinds means the request to what the capability means
  pub control_means : settled_map f (control_operation Stored s c r) ≡ control_operation Meant s' (bare c) r'
  unfolding control_operation
  control_means =
      either_means (is_null c.kind) _ _
      (by_pairs (λ x y. settled_map f x ≡ y) refl (control_table Stored s c r c.kind) (control_table Meant s' (bare c) r' c.kind) table_means (w1 r))

-- a request that is refused does nothing and tells nothing
pub control_refused : (s : Store) (c : Capability) (r : Request) → (control_operation Stored s c r).code ≢ OkCode → (control_operation Stored s c r).answer ≡ nothing
unfolding control_operation
control_refused s c r = cond_both (is_null c.kind) _ _ (λ (z : Settled). z.code ≢ OkCode → z.answer ≡ nothing) (λ e not. refl) (λ e. refused_in (control_table Stored s c r c.kind) (w1 r))

-- ---- what the changes of each row come to

-- a sound answer, which gives no capability that is ahead, and none where something changes
pub record IsSoundAnswer (s : Store) (q : QueuesValue) (answer : Answer) : Type 0 where
  pub sound : IsSound (system s q) answer.changes
  pub gives_behind : IfSome answer.cap (IsBehind s.items)
  pub quiet : IfSome answer.cap (λ cap. answer.changes ≡ [])

module _ (s : Store) (q : QueuesValue) (c : Capability) (r : Request) (live : is_live s.items c ≡ true) (sent : is_live s.items r.sent ≡ true) (none : NoneAhead s) where
  abbrev Is : Settled → Type 0
  Is settled = IsSoundAnswer s q settled.answer

  is_refused : (code : Code) → Is (refused code)
  is_refused code = record { sound = sound_none (system s q) none; gives_behind = tt; quiet = tt }

  is_words : (a b d : ℕ) → IsSoundAnswer s q (tells a b d)
  is_words a b d = record { sound = sound_none (system s q) none; gives_behind = tt; quiet = tt }

  is_cap : (cap : Capability) → IsBehind s.items cap → IsSoundAnswer s q (gives cap)
  is_cap cap behind = record { sound = sound_none (system s q) none; gives_behind = behind; quiet = refl }

  is_endpoint : (v : EndpointValue) → IsBehind s.items v.recipient → IsSoundAnswer s q (does (EndpointIs c.object v ∷ []))
  is_endpoint v behind = record { sound = sound_one (system s q) (EndpointIs c.object v) none tt behind; gives_behind = tt; quiet = tt }

  is_sent : IsBehind s.items r.sent
  is_sent = IsBehind-is_live s.items r.sent sent

  entry_behind : c.kind ≡ Endpoint → IsBehind s.items (entry c.object c.count (w2 r))
  entry_behind is = λ there. at (live_names s.items c (ap is_counted is) live).count
    where
      at : count_of s.items (object_kind c.kind) c.object ≡ c.count → c.count ≤ count_of s.items Endpoint c.object
      at e = let same : count_of s.items Endpoint c.object ≡ c.count = ap (λ k. count_of s.items (object_kind k) c.object) (sym is) ∙ e in omega (arith, same)

  endpoint_sound : c.kind ≡ Endpoint → EachAnswer Is (endpoint_table s c r)
  unfolding endpoint_table setrecipient_row getid_row setid_row setmatch_row makeentry_row setpayload_row
  endpoint_sound is =
      is_endpoint _ is_sent
      ▸ is_words _ _ _
      ▸ is_endpoint _ (recipient_behind s none c.object)
      ▸ is_endpoint _ (recipient_behind s none c.object)
      ▸ is_cap _ (entry_behind is)
      ▸ is_endpoint _ (recipient_behind s none c.object)
      ▸ tt

  -- a process that keeps its capabilities
  is_number : (i value : ℕ) → IsSoundAnswer s q (does (ProcessIs c.object (with_number (process_at s c.object) i value) ∷ []))
  unfolding with_number
  is_number i value = by (i == 0)
    where
      by : (b : Bool) → IsSoundAnswer s q (does (ProcessIs c.object (if b then with_pc (process_at s c.object) value else with_reg (process_at s c.object) i value) ∷ []))
      by true = record { sound = sound_one (system s q) (ProcessIs c.object (with_pc (process_at s c.object) value)) none tt (process_behind s c.object (with_pc (process_at s c.object) value) none refl refl); gives_behind = tt; quiet = tt }
      by false = record { sound = sound_one (system s q) (ProcessIs c.object (with_reg (process_at s c.object) i value)) none tt (process_behind s c.object (with_reg (process_at s c.object) i value) none refl refl); gives_behind = tt; quiet = tt }

  is_capreg : (i : ℕ) → IsSoundAnswer s q (does (ProcessIs c.object (with_capreg (process_at s c.object) i r.sent) ∷ []))
  is_capreg i = record {
    sound = sound_one (system s q) (ProcessIs c.object (with_capreg (process_at s c.object) i r.sent)) none tt (
      capreg_set-each (IsBehind s.items) (null_behind s) (process_at s c.object).capregs i r.sent is_sent (capregs-each (IsBehind s.items) (null_behind s) s none c.object),
      process_slots-each (IsBehind s.items) (null_behind s) s none c.object,
    );
    gives_behind = tt;
    quiet = tt;
  }

  is_slot : (i : ℕ) → IsSoundAnswer s q (does (ProcessIs c.object (with_slot (process_at s c.object) i r.sent) ∷ []))
  is_slot i = record {
    sound = sound_one (system s q) (ProcessIs c.object (with_slot (process_at s c.object) i r.sent)) none tt (
      capregs-each (IsBehind s.items) (null_behind s) s none c.object,
      All-set (IsBehind s.items) (process_at s c.object).slots i r.sent is_sent (process_slots-each (IsBehind s.items) (null_behind s) s none c.object),
    );
    gives_behind = tt;
    quiet = tt;
  }

  is_state : (state : RunState) → IsSoundAnswer s q (tells_state state)
  is_state Running = is_words 0 0 0
  is_state (Receiving accept) = is_words 1 0 0
  is_state (Faulted code address) = is_words 2 _ address

  process_sound : EachAnswer Is (process_table s c r)
  unfolding process_table getreg_row setreg_row getcapreg_row setcapreg_row getslot_row setslot_row getstate_row resume_row stop_row
  process_sound =
      is_words _ _ _
      ▸ is_number (w2 r) (w3 r)
      ▸ is_cap _ (capreg_behind s none c.object (w2 r))
      ▸ is_capreg (w2 r)
      ▸ is_cap _ (slot_behind s none c.object (w2 r))
      ▸ is_slot (w2 r)
      ▸ is_state (process_at s c.object).state
      ▸ record { sound = sound_one (system s q) (Readied c.object) none tt tt; gives_behind = tt; quiet = tt }
      ▸ record { sound = sound_stopping s q c.object none; gives_behind = tt; quiet = tt }
      ▸ tt

  schedule_sound : EachAnswer Is (schedule_table c r)
  unfolding schedule_table priority_row lower_row
  schedule_sound = is_words _ _ _ ▸ is_cap (schedule (w2 r)) (IsBehind-zero s.items (schedule (w2 r)) refl) ▸ tt

  object_behind : (kind : CapKind) (n : ℕ) → IsBehind s.items (to_object kind n (count_of s.items kind n))
  object_behind Entry n = λ there. omega arith
  object_behind kind n = λ there. omega arith

  obtained_sound : (kind : Option CapKind) (n : ℕ) → Is (settled (obtained Stored s kind n))
  unfolding obtained
  obtained_sound None n = is_refused RequestError
  obtained_sound (Some kind) n = by_row Is is_refused (unless_error (not (nat_lt n (size_of s.items kind))) (gives (to_object kind n (count_of s.items kind n)))) (is_cap _ (object_behind kind n))

  destruction_sound : (kind : CapKind) (n : ℕ) → n < size_of s.items kind → IsSoundAnswer s q (does (destruction_of s kind n))
  unfolding destruction_of
  destruction_sound Process n there = record { sound = sound_ending s q n none there; gives_behind = tt; quiet = tt }
  destruction_sound kind n there = record { sound = sound_one (system s q) (Destroyed kind n) none (there, none) tt; gives_behind = tt; quiet = tt }

  -- an object kind is a counted kind, and names its own objects
  objects_counted : (kind : CapKind) → is_object kind ≡ true → (is_counted kind ≡ true) × (object_kind kind ≡ kind)
  objects_counted Page e = (refl, refl)
  objects_counted CapPage e = (refl, refl)
  objects_counted Gpt e = (refl, refl)
  objects_counted Endpoint e = (refl, refl)
  objects_counted Process e = (refl, refl)
  objects_counted kind e = absurd (true≢false (sym e))

  destroy_sound : Is (settled (destroy_row s r.sent))
  unfolding destroy_row
  destroy_sound =
      cond_both (not (is_object r.sent.kind)) _ _ Is (λ e. is_refused RequestError) (λ e.
      cond_both (count_of s.items r.sent.kind r.sent.object == 1048575) _ _ Is (λ h. is_refused CountSpent) (λ h. at (is_object r.sent.kind) refl e))
    where
      at : (b : Bool) → is_object r.sent.kind ≡ b → not b ≡ false → IsSoundAnswer s q (does (destruction_of s r.sent.kind r.sent.object))
      at true is e =
          let counted = objects_counted r.sent.kind is in
          destruction_sound r.sent.kind r.sent.object (subst (λ k. r.sent.object < size_of s.items k) counted.1 (live_names s.items r.sent counted.0 sent).there)
      at false is e = absurd (true≢false e)

  range_sound : EachRow (λ row. Is (settled row)) (range_table Stored s r)
  unfolding range_table getcap_row
  range_sound = obtained_sound (kind_with (w2 r)) (w3 r) ▸ destroy_sound ▸ tt

  discrim_sound : EachAnswer Is (discrim_table r)
  unfolding discrim_table classify_row
  discrim_sound = is_words _ _ _ ▸ tt

  own_sound : (kind : CapKind) → c.kind ≡ kind → (n : ℕ) → Is (settled_in (own_table Stored s c r kind) n)
  unfolding own_table
  own_sound Endpoint is = by_table Is is_refused (endpoint_table s c r) (endpoint_sound is)
  own_sound Process is = by_table Is is_refused (process_table s c r) process_sound
  own_sound Schedule is = by_table Is is_refused (schedule_table c r) schedule_sound
  own_sound Range is = by_rows Is (λ row. Is (settled row)) (λ row sound. sound) (is_refused UnknownRequest) (range_table Stored s r) range_sound
  own_sound Discrim is = by_table Is is_refused (discrim_table r) discrim_sound
  own_sound kind is = λ n. is_refused UnknownRequest

  -- a request to a capability of these kinds has a sound answer
  pub control_sound : IsSoundAnswer s q (control_operation Stored s c r).answer
  unfolding control_operation control_table kind_row
  control_sound =
      cond_both (is_null c.kind) _ _ Is (λ e. is_refused InvalidCap) (λ e.
      cond_both (w1 r == 0) _ _ Is (λ e. by_row Is is_refused (kind_row c) (is_words _ _ _)) (λ e. own_sound c.kind refl (w1 r)))
