-- An operation on a memory kind: what it touches, and that a machine is still one.
use Rattle.std.proofs.Common.{◌≡◌, ◌⊎◌, inl, inr, ℕ, ◌==◌, ◌&&◌, Bool, if◌then◌else◌, ◌≤◌, true≢false, true, false, List, [], ◌∷◌, ◌++◌, length, slice_get, refl, sym, ap, ◌∙◌, arith, Option, Some, None}
use Rattle.std.specs.List.{All}
use Rattle.cap_format.specs.declared.item.Item.{Item}
use Rattle.cap_format.specs.declared.kind.CapKind.{CapKind}
use Rattle.cap_format.specs.declared.kind.CapKind.TheVariants.{Process}
use Rattle.cap_format.specs.Kind.{is_memory}
use Rattle.cap_format.specs.Capability.{Capability}
use Rattle.process_objects.specs.Process.{ProcessValue, empty_process}
use Rattle.object_store.specs.Store.{CountsValue, Items, Store, process_at, counts_of}
use Rattle.object_store.specs.Ahead.{NoneAhead}
use Rattle.object_store.specs.Object.{ObjectName, ObjectValue, IsAmong, SameObject, Stays, object_name}
use Rattle.object_store.specs.Object.ObjectValue.{OfProcess}
use Rattle.schedules.specs.Queues.{QueuesValue}
use Rattle.schedules.specs.Ready.{places_due}
use Rattle.operations.specs.System.{System, Stored}
use Rattle.operations.specs.Change.{Change, PageIs, CapPageIs, SlotIs, HeaderIs, EndpointIs, ProcessIs, Left, Readied, Woken, Destroyed, applied, applied_all}
use Rattle.walk_meaning.specs.declared.kind.Kind.{Kind}
use Rattle.machine_state.specs.Machine.{MachineValue, IsMachine}
use Rattle.machine_state.specs.Came.{Leaves}
use Rattle.machine_state.specs.Outcome.{spent, kept_after, spared_by}
use Rattle.machine_state.specs.Outcome.Touch.{GptCall}
use Rattle.machine_state.specs.Operation.{gpt_touches, change_touches}
use Rattle.operations.specs.Memory.{is_gpt, is_granted, reads}
use Rattle.cap_format.specs.declared.code.Code.{Code}
use Rattle.machine_state.proofs.Changed.{leaves_sizes}

-- what a translator says of one access and of one change
module _ {K : Type 0} (cost : K → Items → Capability → ℕ → Kind → ℕ) (after : K → Items → Capability → ℕ → Kind → K) (without : K → Item → K) where
  -- an invocation of a GPT fetches the slot that it reads, and a change nothing
  pub spent_reads : (k : K) (kind : CapKind) (number : ℕ) (code : Code) (item : Option Item) → spent cost after without k (gpt_touches kind number code ++ change_touches item) ≡ reads kind number code
  spent_reads k kind number code item = by (is_gpt kind) (number == 8) (is_granted code) item
    where
      by : (gpt getslot granted : Bool) (item : Option Item) → spent cost after without k ((if gpt then GptCall (getslot && granted) ∷ [] else []) ++ change_touches item) ≡ (if gpt && getslot && granted then 1 else 0)
      by true true true None = refl
      by true true true (Some item) = refl
      by true true false None = refl
      by true true false (Some item) = refl
      by true false granted None = refl
      by true false granted (Some item) = refl
      by false getslot granted None = refl
      by false getslot granted (Some item) = refl

  -- a change alone
  pub spent_changed : (k : K) (item : Option Item) → spent cost after without k (change_touches item) ≡ 0
  spent_changed k None = refl
  spent_changed k (Some item) = refl

  -- an invocation leaves what is kept
  pub kept_reads : (k : K) (kind : CapKind) (number : ℕ) (code : Code) (item : Option Item) → kept_after cost after without k (gpt_touches kind number code ++ change_touches item) ≡ kept_after cost after without k (change_touches item)
  kept_reads k kind number code item = by (is_gpt kind)
    where
      by : (gpt : Bool) → kept_after cost after without k ((if gpt then GptCall (number == 8 && is_granted code) ∷ [] else []) ++ change_touches item) ≡ kept_after cost after without k (change_touches item)
      by true = refl
      by false = refl

-- what a translator says of one access and of one change
module _ {K C : Type 0} (after : K → Items → Capability → ℕ → Kind → K) (without : K → Item → K)
    (spared : K → Items → Capability → ℕ → Kind → C → C) (purged : K → Item → C → C) where
  -- an invocation of a GPT leaves the caches
  pub spared_reads : (k : K) (kind : CapKind) (number : ℕ) (code : Code) (item : Option Item) (cache : C)
      → spared_by after without spared purged k (gpt_touches kind number code ++ change_touches item) cache ≡ spared_by after without spared purged k (change_touches item) cache
  spared_reads k kind number code item cache = by (is_gpt kind)
    where
      by : (gpt : Bool) → spared_by after without spared purged k ((if gpt then GptCall (number == 8 && is_granted code) ∷ [] else []) ++ change_touches item) cache
          ≡ spared_by after without spared purged k (change_touches item) cache
      by true = refl
      by false = refl

-- no change is of the harts
applied-harts : (w : System) (change : Change) → (applied Stored w change).store.harts ≡ w.store.harts
applied-harts w (PageIs n page) = refl
applied-harts w (CapPageIs n page) = refl
applied-harts w (SlotIs g i c) = refl
applied-harts w (HeaderIs g header) = refl
applied-harts w (EndpointIs e endpoint) = refl
applied-harts w (ProcessIs p process) = refl
applied-harts w (Left p) = refl
applied-harts w (Readied p) = refl
applied-harts w (Woken p) = refl
applied-harts w (Destroyed kind n) = refl

pub applied_harts : (w : System) (changes : List Change) → (applied_all Stored w changes).store.harts ≡ w.store.harts
applied_harts w [] = refl
applied_harts w (change ∷ changes) = applied_harts (applied Stored w change) changes ∙ applied-harts w change

-- the process in what is stored of one
abbrev process_in : ObjectValue → ProcessValue
process_in (OfProcess count process) = process
process_in _ = empty_process

-- where only an object of a memory kind changes, each process is as before
same-process : (kind : CapKind) (n : ℕ) (o p : Store) → is_memory kind ≡ true → Stays (object_name kind n ∷ []) o p → (x : ℕ) → process_at p x ≡ process_at o x
same-process kind n o p memory stays x = on (stays.same Process x)
  where
    on : IsAmong Process x (object_name kind n ∷ []) ⊎ SameObject Process x o p → process_at p x ≡ process_at o x
    on (inl (inl named)) = absurd (true≢false (sym memory ∙ ap is_memory (sym named.0)))
    on (inl (inr none)) = absurd none
    on (inr same) = sym (ap process_in same)

-- a machine is still one
pub kept_memory : (o p : Store) (q : QueuesValue) (kind : CapKind) (n : ℕ) → is_memory kind ≡ true → Stays (object_name kind n ∷ []) o p → p.items.counts ≡ o.items.counts → p.harts ≡ o.harts
    → length p.contents.processes ≡ length p.items.counts.processes → length o.contents.processes ≡ length o.items.counts.processes → NoneAhead p → IsMachine o q → IsMachine p q
kept_memory o p q kind n memory stays counts harts there before behind is =
    let long : length p.contents.processes ≡ length o.contents.processes = there ∙ (ap (λ (c : CountsValue). length c.processes) counts ∙ sym before) in
    record {
      fits = record { processes = is.fits.processes ∙ ap (λ (c : CountsValue). length c.processes) (sym counts); harts = is.fits.harts ∙ sym harts };
      agrees = record {
        sizes = long ∙ is.agrees.sizes;
        each = λ x h. is.agrees.each x (rw long at h) ∙ ap (λ (z : ProcessValue). places_due z.state) (sym (same-process kind n o p memory stays x));
      };
      behind = behind;
    }

-- the first of registers, where there is one
pub first_register : (xs : List ℕ) (register : ℕ) → All (λ r. r ≤ 31) xs → slice_get xs 0 ≡ Some register → register ≤ 31
first_register [] register all e = cc
first_register (x ∷ xs) register all e = let here : x ≤ 31 = all 0 0 (omega arith) in let same : x ≡ register = cc (e) in omega (arith, here, same)

-- a machine whose counts and harts are as before leaves as many objects and harts
pub leaves_counts : {T : Type 0} (names : List ObjectName) (m n : MachineValue T) → n.objects.items.counts ≡ m.objects.items.counts → n.objects.harts ≡ m.objects.harts → Stays names m.objects n.objects → Leaves names m n
leaves_counts names m n counts harts stays = leaves_sizes names m n (λ kind. ap (λ (c : CountsValue). length (counts_of c kind)) counts) harts stays
