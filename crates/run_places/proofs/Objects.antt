-- What keeps the places of objects.
use Rattle.std.proofs.Common.{◌≡◌, ℕ, ◌==◌, List, [], ◌∷◌, length, map, slice_set, refl, sym, ◌∙◌}
use Rattle.std.specs.List.{All}
use Rattle.std.proofs.lemmas.Bool.{cond_both}
use Rattle.std.proofs.lemmas.List.{length-map, length-replicate, length-set}
use Rattle.std.proofs.lemmas.List.Elements.{All-map, All-set}
use Rattle.cap_format.specs.declared.kind.CapKind.{CapKind}
use Rattle.cap_format.specs.declared.kind.CapKind.TheVariants.{CapPage, Gpt, Endpoint, Process}
use Rattle.cap_format.specs.Capability.{Capability, null}
use Rattle.gpt_objects.specs.Gpt.{GptValue, empty_gpt, empty_slots as empty_gpt_slots}
use Rattle.page_store.specs.CapPage.{empty_cappage}
use Rattle.process_objects.specs.Process.{ProcessValue, empty_process, empty_capregs, empty_slots, with_capreg, with_slot}
use Rattle.endpoint_objects.specs.declared.endpoint.Endpoint.{Endpoint as EndpointValue}
use Rattle.object_store.specs.Store.{Store, gpt_at, cappage_at, process_at, set_gpt, with_items, with_page, with_cappage, with_process, with_endpoint, emptied}
use Rattle.object_store.specs.Meaning.{gpt_map, process_map, store_map}
use Rattle.object_store.specs.Destruction.{forget, destruction}
use Rattle.object_store.proofs.Lists.{All-at}
use Rattle.schedules.specs.Queues.{QueuesValue, sleepers_of}
use Rattle.schedules.specs.Ready.{Runs, process_in, runs_of, readied_process, readied, readied_all, unslept, woken, with_processes}
use Rattle.run_places.specs.Places.{HasPlaces}

-- ---- one object

abbrev pub HasSlots : GptValue → Type 0
HasSlots gpt = length gpt.slots ≡ 16

abbrev pub IsWhole : List Capability → Type 0
IsWhole page = length page ≡ 256

abbrev pub HasAll : ProcessValue → Type 0
HasAll process = (length process.capregs ≡ 32) × (length process.slots ≡ 3)

empty_gpt-has : HasSlots empty_gpt
unfolding empty_gpt_slots
empty_gpt-has = length-replicate 16 null

pub empty_cappage-has : IsWhole empty_cappage
unfolding empty_cappage
empty_cappage-has = length-replicate 256 null

pub empty_process-has : HasAll empty_process
unfolding empty_capregs empty_slots
empty_process-has = (length-replicate 32 null, length-replicate 3 null)

pub with_capreg-has : (q : ProcessValue) → HasAll q → (i : ℕ) (cap : Capability) → HasAll (with_capreg q i cap)
with_capreg-has q has i cap =
    (cond_both (i == 0) _ _ (λ (xs : List Capability). length xs ≡ 32) (λ e. has.0) (λ e. length-set q.capregs i cap ∙ has.0), has.1)

pub with_slot-has : (q : ProcessValue) → HasAll q → (i : ℕ) (cap : Capability) → HasAll (with_slot q i cap)
with_slot-has q has i cap = (has.0, length-set q.slots i cap ∙ has.1)

-- ---- all objects

-- so many processes that have all of their places
abbrev pub AreAll : ℕ → List ProcessValue → Type 0
AreAll n ps = All HasAll ps × (length ps ≡ n)

module _ (s : Store) (has : HasPlaces s) where
  -- what is read, also of an object that is not there
  pub gpt-has : (g : ℕ) → HasSlots (gpt_at s.items g)
  gpt-has = All-at HasSlots s.items.gpts empty_gpt empty_gpt-has has.gpts

  pub cappage-has : (n : ℕ) → IsWhole (cappage_at s n)
  cappage-has = All-at IsWhole s.contents.cappages empty_cappage empty_cappage-has has.cappages

  pub process-has : (p : ℕ) → HasAll (process_at s p)
  process-has = All-at HasAll s.contents.processes empty_process empty_process-has has.processes

  -- and written
  pub with_processes-has : (processes : List ProcessValue) → AreAll (length s.contents.processes) processes → HasPlaces (with_processes s processes)
  with_processes-has processes all = record {
    gpts = has.gpts;
    cappages = has.cappages;
    processes = all.0;
    each_gpt = has.each_gpt;
    each_cappage = has.each_cappage;
    each_process = all.1 ∙ has.each_process;
    each_endpoint = has.each_endpoint;
  }

  pub with_process-has : (p : ℕ) (q : ProcessValue) → HasAll q → HasPlaces (with_process s p q)
  with_process-has p q is =
      with_processes-has (slice_set s.contents.processes p q) (All-set HasAll s.contents.processes p q is has.processes, length-set s.contents.processes p q)

  pub with_page-has : (n : ℕ) (page : List ℕ) → HasPlaces (with_page s n page)
  with_page-has n page = record {
    gpts = has.gpts;
    cappages = has.cappages;
    processes = has.processes;
    each_gpt = has.each_gpt;
    each_cappage = has.each_cappage;
    each_process = has.each_process;
    each_endpoint = has.each_endpoint;
  }

  pub with_cappage-has : (n : ℕ) (page : List Capability) → IsWhole page → HasPlaces (with_cappage s n page)
  with_cappage-has n page is = record {
    gpts = has.gpts;
    cappages = All-set IsWhole s.contents.cappages n page is has.cappages;
    processes = has.processes;
    each_gpt = has.each_gpt;
    each_cappage = length-set s.contents.cappages n page ∙ has.each_cappage;
    each_process = has.each_process;
    each_endpoint = has.each_endpoint;
  }

  pub with_endpoint-has : (e : ℕ) (endpoint : EndpointValue) → HasPlaces (with_endpoint s e endpoint)
  with_endpoint-has e endpoint = record {
    gpts = has.gpts;
    cappages = has.cappages;
    processes = has.processes;
    each_gpt = has.each_gpt;
    each_cappage = has.each_cappage;
    each_process = has.each_process;
    each_endpoint = length-set s.contents.endpoints e endpoint ∙ has.each_endpoint;
  }

  pub set_gpt-has : (g : ℕ) (gpt : GptValue) → HasSlots gpt → HasPlaces (with_items s (set_gpt s.items g gpt))
  set_gpt-has g gpt is = record {
    gpts = All-set HasSlots s.items.gpts g gpt is has.gpts;
    cappages = has.cappages;
    processes = has.processes;
    each_gpt = length-set s.items.gpts g gpt ∙ has.each_gpt;
    each_cappage = has.each_cappage;
    each_process = has.each_process;
    each_endpoint = has.each_endpoint;
  }

-- ---- processes that are made ready

readied-all : (n : ℕ) (schedule : Capability) (p : ℕ) (r : Runs) → AreAll n r.processes → AreAll n (readied schedule p r).processes
readied-all n schedule p r all = (
  All-set HasAll r.processes p (readied_process schedule.kind (process_in r p)) (All-at HasAll r.processes empty_process empty_process-has all.0 p) all.0,
  length-set r.processes p _ ∙ all.1,
)

readied_all-all : (n : ℕ) (schedule : ℕ → Capability) (ps : List ℕ) (r : Runs) → AreAll n r.processes → AreAll n (readied_all schedule ps r).processes
unfolding readied_all
readied_all-all n schedule [] r all = all
readied_all-all n schedule (p ∷ ps) r all = readied_all-all n schedule ps (readied (schedule p) p r) (readied-all n (schedule p) p r all)

module _ (s : Store) (has : HasPlaces s) (q : QueuesValue) where
  pub readied-has : (schedule : Capability) (p : ℕ) → HasPlaces (with_processes s (readied schedule p (runs_of s q)).processes)
  readied-has schedule p =
      with_processes-has s has (readied schedule p (runs_of s q)).processes (readied-all (length s.contents.processes) schedule p (runs_of s q) (has.processes, refl))

  pub woken-has : (schedule : ℕ → Capability) (on : ℕ) → HasPlaces (with_processes s (woken schedule on (runs_of s q)).processes)
  woken-has schedule on =
      with_processes-has s has (woken schedule on (runs_of s q)).processes
      (readied_all-all (length s.contents.processes) schedule (sleepers_of q on) (record { processes = s.contents.processes; queues = unslept q on }) (has.processes, refl))

-- ---- a destruction

-- objects of which each capability is replaced
store_map-has : (f : Capability → Capability) (s : Store) → HasPlaces s → HasPlaces (store_map f s)
store_map-has f s has = record {
  gpts = All-map HasSlots (gpt_map f) s.items.gpts (λ g d there. length-map _ f ∙ has.gpts g d there);
  cappages = All-map IsWhole (map f) s.contents.cappages (λ n d there. length-map _ f ∙ has.cappages n d there);
  processes = All-map HasAll (process_map f) s.contents.processes (λ p d there. (length-map _ f ∙ (has.processes p d there).0, length-map _ f ∙ (has.processes p d there).1));
  each_gpt = length-map s.items.gpts _ ∙ has.each_gpt;
  each_cappage = length-map s.contents.cappages _ ∙ has.each_cappage;
  each_process = length-map s.contents.processes _ ∙ has.each_process;
  each_endpoint = length-map s.contents.endpoints _ ∙ has.each_endpoint;
}

emptied-has : (s : Store) (kind : CapKind) (n : ℕ) → HasPlaces s → HasPlaces (emptied kind n s)
emptied-has s CapPage n has = record {
  gpts = has.gpts;
  cappages = All-set IsWhole s.contents.cappages n empty_cappage empty_cappage-has has.cappages;
  processes = has.processes;
  each_gpt = has.each_gpt;
  each_cappage = length-set s.contents.cappages n _ ∙ has.each_cappage ∙ sym (length-set s.items.counts.cappages n _);
  each_process = has.each_process;
  each_endpoint = has.each_endpoint;
}
emptied-has s Gpt n has = record {
  gpts = All-set HasSlots s.items.gpts n empty_gpt empty_gpt-has has.gpts;
  cappages = has.cappages;
  processes = has.processes;
  each_gpt = length-set s.items.gpts n _ ∙ has.each_gpt ∙ sym (length-set s.items.counts.gpts n _);
  each_cappage = has.each_cappage;
  each_process = has.each_process;
  each_endpoint = has.each_endpoint;
}
emptied-has s Process n has = record {
  gpts = has.gpts;
  cappages = has.cappages;
  processes = All-set HasAll s.contents.processes n empty_process empty_process-has has.processes;
  each_gpt = has.each_gpt;
  each_cappage = has.each_cappage;
  each_process = length-set s.contents.processes n _ ∙ has.each_process ∙ sym (length-set s.items.counts.processes n _);
  each_endpoint = has.each_endpoint;
}
emptied-has s Endpoint n has = record {
  gpts = has.gpts;
  cappages = has.cappages;
  processes = has.processes;
  each_gpt = has.each_gpt;
  each_cappage = has.each_cappage;
  each_process = has.each_process;
  each_endpoint = length-set s.contents.endpoints n _ ∙ has.each_endpoint ∙ sym (length-set s.items.counts.endpoints n _);
}
emptied-has s kind n has = record {
  gpts = has.gpts;
  cappages = has.cappages;
  processes = has.processes;
  each_gpt = has.each_gpt;
  each_cappage = has.each_cappage;
  each_process = has.each_process;
  each_endpoint = has.each_endpoint;
}

pub destruction-has : (s : Store) → HasPlaces s → (kind : CapKind) (n : ℕ) → HasPlaces (destruction kind n s)
destruction-has s has kind n = store_map-has (forget kind n) (emptied kind n s) (emptied-has s kind n has)
