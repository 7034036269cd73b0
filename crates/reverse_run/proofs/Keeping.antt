-- What is kept of a machine, one object after the other.
use Rattle.std.proofs.Common.{◌≡◌, ◌≢◌, ℕ, ◌<◌, true, false, ◌⊎◌, inl, inr, List, [], ◌∷◌, ◌++◌, Option, Some, None, refl, sym, ap, ◌∙◌, subst, arith}
use Rattle.std.specs.Prelude.{IfSome}
use Rattle.std.proofs.lemmas.List.Elements.{All-cons, All-push}
use Rattle.cap_format.specs.declared.kind.CapKind.{CapKind}
use Rattle.cap_format.specs.declared.kind.CapKind.TheVariants.{Page, Process}
use Rattle.object_store.specs.Store.{Store, size_of, sizes_of}
use Rattle.object_store.specs.Object.{ObjectName, object_name, IsAmong}
use Rattle.object_store.specs.Saved.{AreThere}
use Rattle.object_store.proofs.Stays.{among_front, among_back}
use Rattle.machine_state.specs.Machine.{MachineValue}
use Rattle.machine_state.specs.declared.event.Event.{Event}
use Rattle.machine_state.specs.State.{State, state_of}
use Rattle.machine_state.specs.Outcome.{process_name, page_name}
use Rattle.machine_state.specs.Past.{PastValue, names_in, same_kind, IsFor, Holds}
use Rattle.kernel_core.specs.Event.{event_of}
use Rattle.event_reach.specs.Reach.{Covers}
use Rattle.event_reach.specs.Looked.{Looked}
use Rattle.event_reach.specs.declared.plain.PlainInsn.{PlainInsn}
use Rattle.event_reach.specs.Plain.{stored_names, plain_names, IsThere}
use Rattle.reverse_run.specs.Remembered.{MementoValue, StandsFor, LeadsBack, Remembers, queues_before, halted_before}

-- ---- places

-- a process takes no place of another kind
pub other_kind : (k : CapKind) → k ≢ Process → same_kind Process k ≡ 0
other_kind Process other = absurd (other refl)
other_kind k other = refl

-- nor does a page
pub no_page : (k : CapKind) → k ≢ Page → same_kind Page k ≡ 0
no_page Page other = absurd (other refl)
no_page k other = refl

-- ---- one more

-- it still stands for the machine
pub stands_more : {T : Type 0} (past more : PastValue) (m : MachineValue T) (kind : CapKind) (number : ℕ) → number < size_of m.objects.items kind → StandsFor past m
    → IsFor more (sizes_of m.objects) → Holds more m.objects → names_in more ≡ names_in past ++ object_name kind number ∷ [] → more.queues ≡ past.queues → more.halted ≡ past.halted → StandsFor more m
stands_more past more m kind number there stands sizes holds names queues halted = record {
  sizes = sizes;
  holds = holds;
  there = rw names (All-push (λ (x : ObjectName). x.number < size_of m.objects.items x.kind) (names_in past) (object_name kind number) stands.there there);
  queues = queues ∙ stands.queues;
  halted = halted ∙ stands.halted;
}

-- what was among the names still is
pub among_more : (past more : PastValue) (name : ObjectName) (kind : CapKind) (n : ℕ) → names_in more ≡ names_in past ++ name ∷ [] → IsAmong kind n (names_in past) → IsAmong kind n (names_in more)
among_more past more name kind n names among = rw names (among_front kind n (names_in past) (name ∷ []) among)

-- and what was kept is
pub among_kept : (past more : PastValue) (kind : CapKind) (n : ℕ) → names_in more ≡ names_in past ++ object_name kind n ∷ [] → IsAmong kind n (names_in more)
among_kept past more kind n names = rw names (among_back kind n (names_in past) (object_name kind n ∷ []) (inl (refl, refl)))

-- ---- which objects are remembered

-- the one that was kept
pub remembers_one : (past more : PastValue) (s : Store) (kind : CapKind) (number : ℕ) → names_in more ≡ names_in past ++ object_name kind number ∷ [] → Remembers more s (object_name kind number ∷ [])
remembers_one past more s kind number names = record { each = by }
  where
    by : (k : CapKind) (n : ℕ) → n < size_of s.items k → IsAmong k n (object_name kind number ∷ []) → IsAmong k n (names_in more)
    by k n there (inl here) = rw (here.0, here.1) (among_kept past more kind number names)
    by k n there (inr later) = elim later [ ]

-- what was remembered still is
pub remembers_later : (past more : PastValue) (s : Store) (names : List ObjectName) → ((kind : CapKind) (n : ℕ) → IsAmong kind n (names_in past) → IsAmong kind n (names_in more)) → Remembers past s names → Remembers more s names
remembers_later past more s names later remembers = record { each = λ kind n there among. later kind n (remembers.each kind n there among) }

-- these and those behind them
pub remembers_both : (past : PastValue) (s : Store) (names others : List ObjectName) → Remembers past s names → Remembers past s others → Remembers past s (names ++ others)
remembers_both past s [] others first second = second
remembers_both past s (name ∷ names) others first second = by (remembers_both past s names others (record { each = λ kind n there among. first.each kind n there (inr among) }) second)
  where
    by : Remembers past s (names ++ others) → Remembers past s (name ∷ names ++ others)
    by rest = record { each = each }
      where
        each : (kind : CapKind) (n : ℕ) → n < size_of s.items kind → IsAmong kind n (name ∷ names ++ others) → IsAmong kind n (names_in past)
        each kind n there (inl here) = first.each kind n there (inl here)
        each kind n there (inr later) = rest.each kind n there later

-- what is covered by all processes and by objects that are remembered
pub remembers_covered : (past : PastValue) (s : Store) (found changed : List ObjectName) → ((n : ℕ) → n < size_of s.items Process → IsAmong Process n (names_in past)) → Remembers past s found → Covers found changed → Remembers past s changed
remembers_covered past s found changed all remembers covers = record { each = λ kind n there among. by kind n there (covers.each kind n among) }
  where
    by : (kind : CapKind) (n : ℕ) → n < size_of s.items kind → (kind ≡ Process) ⊎ IsAmong kind n found → IsAmong kind n (names_in past)
    by kind n there (inl process) =
        let Here : CapKind → Type 0 = λ k. IsAmong k n (names_in past) in
        subst Here (sym process) (all n (subst (λ (k : CapKind). n < size_of s.items k) process there))
    by kind n there (inr among) = remembers.each kind n there among

-- ---- plain instructions

-- what is named of a plain instruction is there
there_plain : (s : Store) (i : PlainInsn) → IsThere s i → AreThere s (plain_names i)
there_plain s i is = All-cons (λ (x : ObjectName). x.number < size_of s.items x.kind) (process_name i.process) (stored_names i.page) is.process (by i.page is.page)
  where
    by : (page : Option ℕ) → IfSome page (λ n. n < size_of s.items Page) → AreThere s (stored_names page)
    by None there = λ i d within. absurd (omega (arith, within))
    by (Some n) there = All-cons (λ (x : ObjectName). x.number < size_of s.items x.kind) (page_name n) [] there (λ i d within. absurd (omega (arith, within)))

-- a past of these objects alone leads back, where the queues and the flag have stayed
pub leads_plain : {T : Type 0} (past : PastValue) (m : MachineValue T) (after : State) (i : PlainInsn) → IsThere m.objects i → IsFor past (sizes_of m.objects) → Holds past m.objects → names_in past ≡ plain_names i
    → after.queues ≡ m.queues → after.halted ≡ m.halted → LeadsBack (record { past = past; whole = false }) m after
leads_plain past m after i is sizes holds names queues halted = record {
  sizes = sizes;
  holds = holds;
  there = rw names (there_plain m.objects i is);
  queues = queues;
  halted = halted;
}

-- a past that stands for the machine leads back, whatever becomes of the queues
pub leads_whole : {T : Type 0} (past : PastValue) (m : MachineValue T) (after : State) → StandsFor past m → LeadsBack (record { past = past; whole = true }) m after
leads_whole past m after stands = record {
  sizes = stands.sizes;
  holds = stands.holds;
  there = stands.there;
  queues = stands.queues;
  halted = stands.halted;
}

-- and remembers them
pub remembers_names : (past : PastValue) (s : Store) (names : List ObjectName) → names_in past ≡ names → Remembers past s names
remembers_names past s names is = record { each = λ kind n there among. rw is among }

-- ---- a look at the machine

-- what leads back to the machine behind a look leads back to the one before it
pub leads_looked : {T K C : Type 0} (kept : T → K) (cache : T → ℕ → C) (hart : ℕ) (m n : MachineValue T) (past : MementoValue) (e : Event) → Looked kept cache hart m n
    → LeadsBack past n (event_of (state_of n) e).state → LeadsBack past m (event_of (state_of m) e).state
leads_looked kept cache hart m n past e looked leads =
    let Queues : State → Type 0 = λ s. queues_before past (event_of s e).state.queues ≡ m.queues in
    let Halted : State → Type 0 = λ s. halted_before past (event_of s e).state.halted ≡ m.halted in
    record {
      sizes = subst (λ (o : Store). IsFor past.past (sizes_of o)) looked.objects leads.sizes;
      holds = subst (λ (o : Store). Holds past.past o) looked.objects leads.holds;
      there = subst (λ (o : Store). AreThere o (names_in past.past)) looked.objects leads.there;
      queues = subst Queues looked.state (leads.queues ∙ looked.queues);
      halted = subst Halted looked.state (leads.halted ∙ ap (λ (s : State). s.halted) looked.state);
    }
