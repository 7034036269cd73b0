-- From a later store back: an event that is remembered is undone, and so are those before it.
use Rattle.std.proofs.Common.{◌≡◌, ℕ, zero, suc, ◌+◌, ◌-◌, ◌*◌, ◌<◌, ◌≤◌, ◌⊎◌, inl, inr, List, [], ◌∷◌, ◌++◌, map, take, length, refl, sym, ap, ◌∙◌, subst, arith}
use Rattle.std.specs.List.{All}
use Rattle.std.proofs.lemmas.Bool.{cases_lt}
use Rattle.std.proofs.lemmas.List.{get_or_past, length-map, length_push}
use Rattle.std.proofs.lemmas.List.Sums.{sum_by-cons}
use Rattle.std.proofs.lemmas.List.Elements.{All-take, All-cons, All-tail, All-push}
use Rattle.cap_format.specs.declared.kind.CapKind.{CapKind}
use Rattle.cap_format.specs.declared.kind.CapKind.TheVariants.{Page, CapPage, Gpt, Endpoint, Process}
use Rattle.object_store.specs.Store.{Store, size_of, sizes_of}
use Rattle.object_store.specs.Object.{ObjectName, SameObject, IsAmong, Stays, IsEven}
use Rattle.object_store.specs.Saved.{Saved, restored, AreThere, slots_copied}
use Rattle.object_store.proofs.Restored.{size_of_same, there_same, restored_same, sizes_restored}
use Rattle.gpt_objects.specs.Gpt.{empty_gpt}
use Rattle.page_store.specs.Page.{empty_page}
use Rattle.page_store.specs.CapPage.{empty_cappage}
use Rattle.process_objects.specs.Process.{empty_process}
use Rattle.endpoint_objects.specs.Endpoint.{empty_endpoint}
use Rattle.machine_state.specs.declared.places.Place.{Place}
use Rattle.machine_state.specs.Machine.{MachineValue, IsMachine}
use Rattle.machine_state.specs.declared.event.Event.{Event}
use Rattle.machine_state.specs.State.{State, state_of}
use Rattle.kernel_core.specs.Event.{event_of}
use Rattle.machine_state.specs.Past.{PastValue, names_in, saved_in, used, same_kind, slots_back, IsFor}
use Rattle.machine_state.proofs.Saved.{saved_holds}
use Rattle.reverse_run.specs.Remembered.{MementoValue, AtMostOneGpt, LeadsBack, Remembers, queues_before, halted_before}
use Rattle.reverse_run.specs.Moments.{Moment, moment_of, state_at, moment_before, unwound, CanUnwind, AreKept, ReversibleValue, moments_of}
use Rattle.reverse_run.specs.History.{history_of, after_event, remembered}
use Rattle.reverse_run.specs.Reads.{a_copy, an_undo}

-- ---- one event

-- an object that is not there is stored alike
absent : (s t : Store) → IsEven s → IsEven t → sizes_of s ≡ sizes_of t → (kind : CapKind) (n : ℕ) → size_of s.items kind ≤ n → SameObject kind n s t
absent s t even even_too sizes kind n past = by kind past (subst (λ (k : ℕ). k ≤ n) (size_of_same s t sizes kind) past)
  where
    by : (kind : CapKind) → size_of s.items kind ≤ n → size_of t.items kind ≤ n → SameObject kind n s t
    by Page past past_too =
        rw (
          get_or_past s.items.counts.pages n 0 past,
          get_or_past t.items.counts.pages n 0 past_too,
          get_or_past s.contents.pages n empty_page (subst (λ (k : ℕ). k ≤ n) (sym even.pages) past),
          get_or_past t.contents.pages n empty_page (subst (λ (k : ℕ). k ≤ n) (sym even_too.pages) past_too),
        ) refl
    by CapPage past past_too =
        rw (
          get_or_past s.items.counts.cappages n 0 past,
          get_or_past t.items.counts.cappages n 0 past_too,
          get_or_past s.contents.cappages n empty_cappage (subst (λ (k : ℕ). k ≤ n) (sym even.cappages) past),
          get_or_past t.contents.cappages n empty_cappage (subst (λ (k : ℕ). k ≤ n) (sym even_too.cappages) past_too),
        ) refl
    by Gpt past past_too =
        rw (
          get_or_past s.items.counts.gpts n 0 past,
          get_or_past t.items.counts.gpts n 0 past_too,
          get_or_past s.items.gpts n empty_gpt (subst (λ (k : ℕ). k ≤ n) (sym even.gpts) past),
          get_or_past t.items.gpts n empty_gpt (subst (λ (k : ℕ). k ≤ n) (sym even_too.gpts) past_too),
        ) refl
    by Process past past_too =
        rw (
          get_or_past s.items.counts.processes n 0 past,
          get_or_past t.items.counts.processes n 0 past_too,
          get_or_past s.contents.processes n empty_process (subst (λ (k : ℕ). k ≤ n) (sym even.processes) past),
          get_or_past t.contents.processes n empty_process (subst (λ (k : ℕ). k ≤ n) (sym even_too.processes) past_too),
        ) refl
    by Endpoint past past_too =
        rw (
          get_or_past s.items.counts.endpoints n 0 past,
          get_or_past t.items.counts.endpoints n 0 past_too,
          get_or_past s.contents.endpoints n empty_endpoint (subst (λ (k : ℕ). k ≤ n) (sym even.endpoints) past),
          get_or_past t.contents.endpoints n empty_endpoint (subst (λ (k : ℕ). k ≤ n) (sym even_too.endpoints) past_too),
        ) refl
    by kind past past_too = refl

-- what a part changes that leaves all but these objects is among what is remembered, where these are
stays_remembered : (past : PastValue) (s t : Store) (changed : List ObjectName) → IsEven s → IsEven t → sizes_of s ≡ sizes_of t → Remembers past s changed → Stays changed s t → Stays (names_in past) s t
stays_remembered past s t changed even even_too sizes remembers stays = record { same = λ kind n. by kind n (cases_lt n (size_of s.items kind)) (stays.same kind n) }
  where
    by : (kind : CapKind) (n : ℕ) → (n < size_of s.items kind) ⊎ (size_of s.items kind ≤ n) → IsAmong kind n changed ⊎ SameObject kind n s t → IsAmong kind n (names_in past) ⊎ SameObject kind n s t
    by kind n there (inr same) = inr same
    by kind n (inl there) (inl among) = inl (remembers.each kind n there among)
    by kind n (inr past) (inl among) = inr (absent s t even even_too sizes kind n past)

-- Of a machine that stands as it was remembered but for objects that are remembered, the store is as it was once these are
-- back.
pub restored_event : {T : Type 0} (kept : MementoValue) (m : MachineValue T) (after : State) (t : Store) (changed : List ObjectName) → IsEven m.objects → IsEven t → sizes_of t ≡ sizes_of m.objects
    → LeadsBack kept m after → Remembers kept.past m.objects changed → Stays changed m.objects t → restored (saved_in kept.past) t ≡ m.objects
restored_event kept m after t changed even even_too sizes leads remembers stays =
    ap (λ (saved : List Saved). restored saved t) (saved_holds kept.past m.objects leads.holds)
    ∙ restored_same m.objects t (names_in kept.past) even even_too sizes (there_same t m.objects (names_in kept.past) sizes leads.there) (stays_remembered kept.past m.objects t changed even even_too (sym sizes) remembers stays)

-- so from the machine behind the event it leads back to the moment before it
pub moment_event : {T : Type 0} (kept : MementoValue) (m n : MachineValue T) (after : State) → LeadsBack kept m after → state_of n ≡ after → restored (saved_in kept.past) n.objects ≡ m.objects → moment_before (moment_of n) kept ≡ moment_of m
moment_event kept m n after leads is back =
    let queues : queues_before kept n.queues ≡ m.queues = ap (λ (s : State). queues_before kept s.queues) is ∙ leads.queues in
    let halted : halted_before kept n.halted ≡ m.halted = ap (λ (s : State). halted_before kept s.halted) is ∙ leads.halted in
    rw (back, queues, halted) refl

-- ---- the events before it

-- what leads back, leads back by fewer
pub can_unwind_take : (m : Moment) (k : ℕ) (pasts : List MementoValue) → CanUnwind m pasts → CanUnwind m (take k pasts)
can_unwind_take m zero pasts can = tt
can_unwind_take m (suc k) [] can = tt
can_unwind_take m (suc k) (kept ∷ pasts) can = (can.0, can.1, can_unwind_take (moment_before m kept) k pasts can.2)

-- the first moments are those of the first pasts
pub unwound_take : (m : Moment) (k : ℕ) (pasts : List MementoValue) → unwound m (take k pasts) ≡ take k (unwound m pasts)
unwound_take m zero pasts = refl
unwound_take m (suc k) [] = refl
unwound_take m (suc k) (kept ∷ pasts) = ap (λ (rest : List Moment). moment_before m kept ∷ rest) (unwound_take (moment_before m kept) k pasts)

-- there are as many moments as pasts
pub length_unwound : (m : Moment) (pasts : List MementoValue) → length (unwound m pasts) ≡ length pasts
length_unwound m [] = refl
length_unwound m (kept ∷ pasts) = ap suc (length_unwound (moment_before m kept) pasts)

-- from behind the event it leads back to before it, and from there on
pub can_unwind_event : (kept : MementoValue) (m t : Moment) (pasts : List MementoValue) → AreThere t.objects (names_in kept.past) → moment_before t kept ≡ m → IsMachine m.objects m.queues → CanUnwind m pasts → CanUnwind t (kept ∷ pasts)
can_unwind_event kept m t pasts there back machine can =
    (there, subst (λ (b : Moment). IsMachine b.objects b.queues) (sym back) machine, subst (λ (b : Moment). CanUnwind b pasts) (sym back) can)

-- the moments from behind the event are that before it, and those before that
pub unwound_event : (kept : MementoValue) (m t : Moment) (pasts : List MementoValue) → moment_before t kept ≡ m → unwound t (kept ∷ pasts) ≡ m ∷ unwound m pasts
unwound_event kept m t pasts back = ap (λ (b : Moment). b ∷ unwound b pasts) back

-- ---- what a machine with its history keeps

-- the first of a list behind another
take_front : {X : Type 0} (depth : ℕ) (x : X) (xs : List X) → 1 ≤ depth → take depth (x ∷ xs) ≡ x ∷ take (depth - 1) xs
take_front zero x xs least = absurd (omega (arith, least))
take_front (suc depth) x xs least = let is : suc depth - 1 ≡ depth = omega arith in rw is refl

-- after an event: the past of this event in front of all but the oldest, or with one spare past less
pub kept_event : (m t : Moment) (kept : MementoValue) (pasts spare pasts1 spare1 : List MementoValue) (room spare_room : ℕ) → AreKept m pasts spare room spare_room → sizes_of t.objects ≡ sizes_of m.objects
    → IsFor kept.past (sizes_of m.objects) → AtMostOneGpt kept.past → pasts1 ≡ take (length pasts + length spare - 1) pasts → spare1 ≡ take (length spare - 1) spare → length pasts1 + length spare1 + 1 ≡ length pasts + length spare
    → CanUnwind t (kept ∷ pasts1) → AreKept t (kept ∷ pasts1) spare1 room spare_room
kept_event m t kept pasts spare pasts1 spare1 room spare_room are sizes is one first fewer number unwinds =
    let Made : List MementoValue → Type 0 = λ ps. All (λ (k : MementoValue). IsFor k.past (sizes_of m.objects)) ps in
    let in_use : Made pasts1 = subst Made (sym first) (All-take (λ (k : MementoValue). IsFor k.past (sizes_of m.objects)) (length pasts + length spare - 1) pasts are.in_use) in
    let Few : List MementoValue → Type 0 = λ ps. All (λ (k : MementoValue). AtMostOneGpt k.past) ps in
    let few : Few pasts1 = subst Few (sym first) (All-take (λ (k : MementoValue). AtMostOneGpt k.past) (length pasts + length spare - 1) pasts are.few) in
    let not_in_use : Made spare1 = subst Made (sym fewer) (All-take (λ (k : MementoValue). IsFor k.past (sizes_of m.objects)) (length spare - 1) spare are.not_in_use) in
    let a = are.fit in
    let b = are.spare_fit in
    let d = are.least in
    let e = are.most in
    record {
      in_use = rw sizes (All-cons (λ (k : MementoValue). IsFor k.past (sizes_of m.objects)) kept pasts1 is in_use);
      not_in_use = rw sizes not_in_use;
      fit = omega (arith, number, a);
      spare_fit = omega (arith, number, b);
      least = omega (arith, number, d);
      most = omega (arith, number, e);
      few = All-cons (λ (k : MementoValue). AtMostOneGpt k.past) kept pasts1 one few;
      unwinds = unwinds;
    }

-- after an undo: the past of that event is spare
pub kept_undo : (m : Moment) (kept : MementoValue) (pasts spare : List MementoValue) (room spare_room : ℕ) → AreKept m (kept ∷ pasts) spare room spare_room → AreKept (moment_before m kept) pasts (spare ++ kept ∷ []) room spare_room
kept_undo m kept pasts spare room spare_room are =
    let one = length_push spare kept in
    let a = are.fit in
    let b = are.spare_fit in
    let d = are.least in
    let e = are.most in
    let sizes = sizes_restored (saved_in kept.past) m.objects in
    record {
      in_use = rw sizes (All-tail (λ (k : MementoValue). IsFor k.past (sizes_of m.objects)) kept pasts are.in_use);
      not_in_use = rw sizes (All-push (λ (k : MementoValue). IsFor k.past (sizes_of m.objects)) spare kept are.not_in_use (are.in_use 0 kept (omega arith)));
      fit = omega (arith, one, a);
      spare_fit = omega (arith, one, b);
      least = omega (arith, one, d);
      most = omega (arith, one, e);
      few = All-tail (λ (k : MementoValue). AtMostOneGpt k.past) kept pasts are.few;
      unwinds = are.unwinds.2;
    }

-- the moments after an event are that before it, and of those before that the latest
pub moments_event : (kept : MementoValue) (m t : Moment) (pasts : List MementoValue) (depth : ℕ) → 1 ≤ depth → moment_before t kept ≡ m
    → unwound t (kept ∷ take (depth - 1) pasts) ≡ take depth (m ∷ unwound m pasts)
moments_event kept m t pasts depth least back =
    unwound_event kept m t (take (depth - 1) pasts) back
    ∙ (ap (λ (rest : List Moment). m ∷ rest) (unwound_take m (depth - 1) pasts) ∙ sym (take_front depth m (unwound m pasts) least))

-- the states of moments are those of all of them, as far as they go
states_taken : (depth : ℕ) (ms : List Moment) → map state_at (take depth ms) ≡ take depth (map state_at ms)
states_taken zero ms = refl
states_taken (suc depth) [] = refl
states_taken (suc depth) (m ∷ ms) = ap (λ (rest : List State). state_at m ∷ rest) (states_taken depth ms)

-- so the history after an event is that which the event makes of the history before it
pub history_event : {T : Type 0} (r n : ReversibleValue T) (e : Event) → state_of n.machine ≡ (event_of (state_of r.machine) e).state → moments_of n ≡ take r.depth (moment_of r.machine ∷ moments_of r) → history_of n ≡ after_event r.depth (history_of r) e
history_event r n e state moments =
    let before : map state_at (moments_of n) ≡ take r.depth (map state_at (moment_of r.machine ∷ moments_of r)) = ap (λ (ms : List Moment). map state_at ms) moments ∙ states_taken r.depth (moment_of r.machine ∷ moments_of r) in
    rw (state, before) refl

-- and it has as many events as there are pasts
pub remembered_pasts : {T : Type 0} (r : ReversibleValue T) → remembered (history_of r) ≡ length r.pasts
remembered_pasts r = length-map (moments_of r) state_at ∙ length_unwound (moment_of r.machine) r.pasts

-- ---- what is read to put copies back

-- the copies of GPTs are read, and no others
slots_of_gpts : (places : List Place) → slots_back places ≡ a_copy * used Gpt places
slots_of_gpts [] = refl
slots_of_gpts (p ∷ ps) = let first = sum_by-cons (λ (x : Place). slots_copied x.kind) p ps in let one = by p.kind in let rest = slots_of_gpts ps in omega (arith, first, one, rest)
  where
    by : (kind : CapKind) → slots_copied kind ≡ a_copy * same_kind kind Gpt
    by Gpt = refl
    by kind = refl

-- of the last event that is remembered there is one at most
pub undo_reads : (m : Moment) (kept : MementoValue) (pasts spare : List MementoValue) (room spare_room : ℕ) → AreKept m (kept ∷ pasts) spare room spare_room → slots_back kept.past.places ≤ an_undo
undo_reads m kept pasts spare room spare_room are =
    let one : AtMostOneGpt kept.past = are.few 0 kept (omega arith) in
    let all = slots_of_gpts kept.past.places in
    omega (arith, one, all)
