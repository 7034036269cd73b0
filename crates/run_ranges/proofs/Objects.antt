-- Objects in their ranges, and what keeps them there.
use Rattle.std.proofs.Common.{◌≡◌, ℕ, ◌+◌, ◌<◌, ◌≤◌, ◌^◌, ◌==◌, false, List, [], ◌∷◌, All, length, map, slice_index, slice_set, refl, sym, ◌∙◌, arith}
use Rattle.std.proofs.lemmas.Bool.{cond_both}
use Rattle.std.proofs.lemmas.Bool.{eqb-false}
use Rattle.std.proofs.lemmas.List.{length-set, length-map}
use Rattle.std.proofs.lemmas.List.Elements.{All-set, All-map, All-replicate}
use Rattle.cap_format.specs.declared.kind.CapKind.{CapKind}
use Rattle.cap_format.specs.declared.kind.CapKind.TheVariants.{Page, CapPage, Gpt, Endpoint, Process, Schedule}
use Rattle.cap_format.specs.Capability.{Capability, IsCapability, null}
use Rattle.cap_format.proofs.Ranges.{IsCapability-null}
use Rattle.gpt_objects.specs.Gpt.{GptValue, IsGpt, empty_gpt, empty_slots as empty_gpt_slots, with_slot as with_gpt_slot}
use Rattle.gpt_objects.specs.Header.{HeaderValue, IsHeader}
use Rattle.gpt_objects.proofs.Ranges.{IsGpt-empty_gpt, IsGpt-with_slot}
use Rattle.page_store.specs.Page.{empty_page}
use Rattle.page_store.specs.CapPage.{empty_cappage, cap_at}
use Rattle.process_objects.specs.Process.{ProcessValue, empty_process, empty_regs, empty_capregs, empty_slots, reg_of, capreg_of, slot_of, with_pc, with_reg, with_regs, with_capreg, with_slot, with_state}
use Rattle.process_objects.specs.declared.state.State.{State as RunState}
use Rattle.endpoint_objects.specs.declared.endpoint.Endpoint.{Endpoint as EndpointValue}
use Rattle.endpoint_objects.specs.Endpoint.{empty_endpoint}
use Rattle.object_store.specs.Store.{Items, Store, gpt_at, slot_at, count_of, page_at, cappage_at, process_at, endpoint_at, set_slot, set_header, with_items, with_page, with_cappage, with_process, with_endpoint, emptied}
use Rattle.object_store.specs.Ranges.{IsTable, IsRanged}
use Rattle.object_store.specs.Meaning.{gpt_map, process_map, endpoint_map, store_map}
use Rattle.object_store.specs.Destruction.{names, forget, destruction}
use Rattle.object_store.proofs.Lists.{All-at}
use Rattle.object_store.proofs.Ranged.{IsRanged-set_gpt, IsGpt-gpt_at}
use Rattle.schedules.specs.Ready.{Runs, process_in, readied_state, readied_process, readied, readied_all, with_processes}
use Rattle.run_ranges.specs.Ranges.{IsModelCap, IsWord, IsByte, IsRangedState, IsRangedProcess, IsRangedEndpoint, AreInRanges}
use Rattle.run_ranges.proofs.Words.{word_at}

-- ---- what is empty

pub null-in : IsModelCap null
null-in = (IsCapability-null, refl)

pub empty_page-in : All IsByte empty_page
unfolding empty_page
empty_page-in = All-replicate IsByte 4096 0 (omega arith)

pub empty_cappage-in : All IsModelCap empty_cappage
unfolding empty_cappage
empty_cappage-in = All-replicate IsModelCap 256 null null-in

empty_gpt-in : All IsModelCap empty_gpt.slots
unfolding empty_gpt_slots
empty_gpt-in = All-replicate IsModelCap 16 null null-in

empty_process-in : IsRangedProcess empty_process
unfolding empty_regs empty_capregs empty_slots
empty_process-in = record {
  pc = omega arith;
  regs = All-replicate IsWord 32 0 (omega arith);
  capregs = All-replicate IsModelCap 32 null null-in;
  slots = All-replicate IsModelCap 3 null null-in;
  state = omega arith;
}

empty_endpoint-in : IsRangedEndpoint empty_endpoint
empty_endpoint-in = record { id = omega arith; payload = omega arith; recipient = null-in }

-- ---- what is read, also of an object that is not there

module _ (s : Store) (r : AreInRanges s) where
  pub process-in : (p : ℕ) → IsRangedProcess (process_at s p)
  process-in = All-at IsRangedProcess s.contents.processes empty_process empty_process-in r.processes

  pub page-in : (n : ℕ) → All IsByte (page_at s n)
  page-in = All-at (All IsByte) s.contents.pages empty_page empty_page-in r.pages

  pub cappage-in : (n : ℕ) → All IsModelCap (cappage_at s n)
  cappage-in = All-at (All IsModelCap) s.contents.cappages empty_cappage empty_cappage-in r.cappages

  pub endpoint-in : (n : ℕ) → IsRangedEndpoint (endpoint_at s n)
  endpoint-in = All-at IsRangedEndpoint s.contents.endpoints empty_endpoint empty_endpoint-in r.endpoints

  gpt-in : (g : ℕ) → All IsModelCap (gpt_at s.items g).slots
  gpt-in = All-at (λ (gpt : GptValue). All IsModelCap gpt.slots) s.items.gpts empty_gpt empty_gpt-in r.gpts

  pub slot-in : (g i : ℕ) → IsModelCap (slot_at s.items g i)
  slot-in g = All-at IsModelCap (gpt_at s.items g).slots null null-in (gpt-in g)

  pub cap-in : (n i : ℕ) → IsModelCap (cap_at (cappage_at s n) i)
  cap-in n = All-at IsModelCap (cappage_at s n) null null-in (cappage-in n)

  pub reg-in : (p i : ℕ) → IsWord (reg_of (process_at s p) i)
  reg-in p i = word_at (process_at s p).regs i (process-in p).regs

  pub capreg-in : (p i : ℕ) → IsModelCap (capreg_of (process_at s p) i)
  capreg-in p = All-at IsModelCap (process_at s p).capregs null null-in (process-in p).capregs

  pub process_slot-in : (p i : ℕ) → IsModelCap (slot_of (process_at s p) i)
  process_slot-in p = All-at IsModelCap (process_at s p).slots null null-in (process-in p).slots

-- ---- a process that is written

module _ (q : ProcessValue) (r : IsRangedProcess q) where
  pub with_pc-in : (pc : ℕ) → IsWord pc → IsRangedProcess (with_pc q pc)
  with_pc-in pc word = record { pc = word; regs = r.regs; capregs = r.capregs; slots = r.slots; state = r.state }

  pub with_reg-in : (i value : ℕ) → IsWord value → IsRangedProcess (with_reg q i value)
  with_reg-in i value word = record {
    pc = r.pc;
    regs = cond_both (i == 0) _ _ (All IsWord) (λ e. r.regs) (λ e. All-set IsWord q.regs i value word r.regs);
    capregs = r.capregs;
    slots = r.slots;
    state = r.state;
  }

  pub with_regs-in : (regs : List ℕ) → All IsWord regs → IsRangedProcess (with_regs q regs)
  with_regs-in regs words = record { pc = r.pc; regs = All-set IsWord regs 0 0 (omega arith) words; capregs = r.capregs; slots = r.slots; state = r.state }

  pub with_capreg-in : (i : ℕ) (cap : Capability) → IsModelCap cap → IsRangedProcess (with_capreg q i cap)
  with_capreg-in i cap is = record {
    pc = r.pc;
    regs = r.regs;
    capregs = cond_both (i == 0) _ _ (All IsModelCap) (λ e. r.capregs) (λ e. All-set IsModelCap q.capregs i cap is r.capregs);
    slots = r.slots;
    state = r.state;
  }

  pub with_slot-in : (i : ℕ) (cap : Capability) → IsModelCap cap → IsRangedProcess (with_slot q i cap)
  with_slot-in i cap is = record { pc = r.pc; regs = r.regs; capregs = r.capregs; slots = All-set IsModelCap q.slots i cap is r.slots; state = r.state }

  pub with_state-in : (state : RunState) → IsRangedState state → IsRangedProcess (with_state q state)
  with_state-in state is = record { pc = r.pc; regs = r.regs; capregs = r.capregs; slots = r.slots; state = is }

  readied_process-in : (kind : CapKind) → IsRangedProcess (readied_process kind q)
  readied_process-in kind = record { pc = r.pc; regs = r.regs; capregs = r.capregs; slots = r.slots; state = by kind }
    where
      by : (kind : CapKind) → IsRangedState (readied_state kind q.pc)
      by Schedule = tt
      by kind = r.pc

-- ---- an object that is written

module _ (s : Store) (r : AreInRanges s) where
  pub with_processes-in : (processes : List ProcessValue) → All IsRangedProcess processes → length processes ≤ 256 → AreInRanges (with_processes s processes)
  with_processes-in processes all few = record { items = r.items; gpts = r.gpts; pages = r.pages; cappages = r.cappages; processes = all; few = few; endpoints = r.endpoints }

  pub with_process-in : (p : ℕ) (q : ProcessValue) → IsRangedProcess q → AreInRanges (with_process s p q)
  with_process-in p q is =
      with_processes-in (slice_set s.contents.processes p q) (All-set IsRangedProcess s.contents.processes p q is r.processes)
      (let same = length-set s.contents.processes p q in let few = r.few in omega (arith, same, few))

  pub with_page-in : (n : ℕ) (page : List ℕ) → All IsByte page → AreInRanges (with_page s n page)
  with_page-in n page is = record { items = r.items; gpts = r.gpts; pages = All-set (All IsByte) s.contents.pages n page is r.pages; cappages = r.cappages; processes = r.processes; few = r.few; endpoints = r.endpoints }

  pub with_cappage-in : (n : ℕ) (page : List Capability) → All IsModelCap page → AreInRanges (with_cappage s n page)
  with_cappage-in n page is = record { items = r.items; gpts = r.gpts; pages = r.pages; cappages = All-set (All IsModelCap) s.contents.cappages n page is r.cappages; processes = r.processes; few = r.few; endpoints = r.endpoints }

  pub with_endpoint-in : (n : ℕ) (endpoint : EndpointValue) → IsRangedEndpoint endpoint → AreInRanges (with_endpoint s n endpoint)
  with_endpoint-in n endpoint is = record { items = r.items; gpts = r.gpts; pages = r.pages; cappages = r.cappages; processes = r.processes; few = r.few; endpoints = All-set IsRangedEndpoint s.contents.endpoints n endpoint is r.endpoints }

  with_items-in : (items : Items) → IsRanged items → All (λ (gpt : GptValue). All IsModelCap gpt.slots) items.gpts → AreInRanges (with_items s items)
  with_items-in items is gpts = record { items = is; gpts = gpts; pages = r.pages; cappages = r.cappages; processes = r.processes; few = r.few; endpoints = r.endpoints }

  pub set_slot-in : (g i : ℕ) (cap : Capability) → IsModelCap cap → AreInRanges (with_items s (set_slot s.items g i cap))
  set_slot-in g i cap is =
      with_items-in (set_slot s.items g i cap)
      (IsRanged-set_gpt s.items g (with_gpt_slot (gpt_at s.items g) i cap) (IsGpt-with_slot (gpt_at s.items g) i cap is.0 (IsGpt-gpt_at s.items r.items g)) r.items)
      (All-set (λ (gpt : GptValue). All IsModelCap gpt.slots) s.items.gpts g (with_gpt_slot (gpt_at s.items g) i cap) (All-set IsModelCap (gpt_at s.items g).slots i cap is (gpt-in s r g)) r.gpts)

  pub set_header-in : (g : ℕ) (header : HeaderValue) → IsHeader header → AreInRanges (with_items s (set_header s.items g header))
  set_header-in g header is =
      let gpt = gpt_at s.items g in
      let ranged = IsGpt-gpt_at s.items r.items g in
      with_items-in (set_header s.items g header)
      (IsRanged-set_gpt s.items g (record gpt { header = header }) (record { header = is; sixteen = ranged.sixteen; slots = ranged.slots }) r.items)
      (All-set (λ (gpt : GptValue). All IsModelCap gpt.slots) s.items.gpts g (record gpt { header = header }) (gpt-in s r g) r.gpts)

-- ---- processes that are made ready

pub readied-in : (schedule : Capability) (p : ℕ) (r : Runs) → All IsRangedProcess r.processes → All IsRangedProcess (readied schedule p r).processes
readied-in schedule p r all =
    All-set IsRangedProcess r.processes p (readied_process schedule.kind (process_in r p))
    (readied_process-in (process_in r p) (All-at IsRangedProcess r.processes empty_process empty_process-in all p) schedule.kind) all

pub readied_all-in : (schedule : ℕ → Capability) (ps : List ℕ) (r : Runs) → All IsRangedProcess r.processes → All IsRangedProcess (readied_all schedule ps r).processes
unfolding readied_all
readied_all-in schedule [] r all = all
readied_all-in schedule (p ∷ ps) r all = readied_all-in schedule ps (readied (schedule p) p r) (readied-in (schedule p) p r all)

pub length-readied_all : (schedule : ℕ → Capability) (ps : List ℕ) (r : Runs) → length (readied_all schedule ps r).processes ≡ length r.processes
unfolding readied_all
length-readied_all schedule [] r = refl
length-readied_all schedule (p ∷ ps) r = length-readied_all schedule ps (readied (schedule p) p r) ∙ length-set r.processes p _

-- ---- a destruction

-- objects of which each capability is replaced
store_map-in : (f : Capability → Capability) → ((c : Capability) → IsModelCap c → IsModelCap (f c)) → (s : Store) → AreInRanges s → AreInRanges (store_map f s)
store_map-in f keeps s r = record {
  items = record {
    counts = r.items.counts;
    gpts = All-map IsGpt (gpt_map f) s.items.gpts (λ k d there. record {
      header = (r.items.gpts k d there).header;
      sixteen = length-map _ f ∙ (r.items.gpts k d there).sixteen;
      slots = All-map IsCapability f _ (λ i e in_it. (keeps _ (r.gpts k d there i e in_it)).0);
    });
    each = length-map s.items.gpts (gpt_map f) ∙ r.items.each;
  };
  gpts = All-map (λ (gpt : GptValue). All IsModelCap gpt.slots) (gpt_map f) s.items.gpts (λ k d there. caps _ (r.gpts k d there));
  pages = r.pages;
  cappages = All-map (All IsModelCap) (map f) s.contents.cappages (λ k d there. caps _ (r.cappages k d there));
  processes = All-map IsRangedProcess (process_map f) s.contents.processes (λ k d there. record {
    pc = (r.processes k d there).pc;
    regs = (r.processes k d there).regs;
    capregs = caps _ (r.processes k d there).capregs;
    slots = caps _ (r.processes k d there).slots;
    state = (r.processes k d there).state;
  });
  few = let same = length-map s.contents.processes (process_map f) in let few = r.few in omega (arith, same, few);
  endpoints = All-map IsRangedEndpoint (endpoint_map f) s.contents.endpoints (λ k d there. record {
    id = (r.endpoints k d there).id;
    payload = (r.endpoints k d there).payload;
    recipient = keeps _ (r.endpoints k d there).recipient;
  });
}
  where
    caps : (xs : List Capability) → All IsModelCap xs → All IsModelCap (map f xs)
    caps xs all = All-map IsModelCap f xs (λ i e in_it. keeps _ (all i e in_it))

-- a table with one count more
table-in : (limit : ℕ) (counts : List ℕ) (n : ℕ) → (slice_index counts n == 1048575) ≡ false → IsTable limit counts → IsTable limit (slice_set counts n (slice_index counts n + 1))
table-in limit counts n unspent is = record {
  size = let same = length-set counts n (slice_index counts n + 1) in let size = is.size in omega (arith, same, size);
  below = All-set (λ count. count < 2 ^ 20) counts n (slice_index counts n + 1) more is.below;
}
  where
    more : slice_index counts n + 1 < 2 ^ 20
    more = let below = All-at (λ count. count < 2 ^ 20) counts 0 (omega arith) is.below n in
        let other = eqb-false (slice_index counts n) 1048575 unspent in
        omega (arith, below, other)

emptied-in : (s : Store) (kind : CapKind) (n : ℕ) → (count_of s.items kind n == 1048575) ≡ false → AreInRanges s → AreInRanges (emptied kind n s)
emptied-in s Page n unspent r = record {
  items = record { counts = record { pages = table-in 4096 s.items.counts.pages n unspent r.items.counts.pages; cappages = r.items.counts.cappages; gpts = r.items.counts.gpts; processes = r.items.counts.processes; endpoints = r.items.counts.endpoints }; gpts = r.items.gpts; each = r.items.each };
  gpts = r.gpts;
  pages = All-set (All IsByte) s.contents.pages n empty_page empty_page-in r.pages;
  cappages = r.cappages;
  processes = r.processes;
  few = r.few;
  endpoints = r.endpoints;
}
emptied-in s CapPage n unspent r = record {
  items = record { counts = record { pages = r.items.counts.pages; cappages = table-in 256 s.items.counts.cappages n unspent r.items.counts.cappages; gpts = r.items.counts.gpts; processes = r.items.counts.processes; endpoints = r.items.counts.endpoints }; gpts = r.items.gpts; each = r.items.each };
  gpts = r.gpts;
  pages = r.pages;
  cappages = All-set (All IsModelCap) s.contents.cappages n empty_cappage empty_cappage-in r.cappages;
  processes = r.processes;
  few = r.few;
  endpoints = r.endpoints;
}
emptied-in s Gpt n unspent r = record {
  items = record {
    counts = record { pages = r.items.counts.pages; cappages = r.items.counts.cappages; gpts = table-in 1024 s.items.counts.gpts n unspent r.items.counts.gpts; processes = r.items.counts.processes; endpoints = r.items.counts.endpoints };
    gpts = All-set IsGpt s.items.gpts n empty_gpt IsGpt-empty_gpt r.items.gpts;
    each = length-set s.items.gpts n empty_gpt ∙ r.items.each ∙ sym (length-set s.items.counts.gpts n _);
  };
  gpts = All-set (λ (gpt : GptValue). All IsModelCap gpt.slots) s.items.gpts n empty_gpt empty_gpt-in r.gpts;
  pages = r.pages;
  cappages = r.cappages;
  processes = r.processes;
  few = r.few;
  endpoints = r.endpoints;
}
emptied-in s Process n unspent r = record {
  items = record { counts = record { pages = r.items.counts.pages; cappages = r.items.counts.cappages; gpts = r.items.counts.gpts; processes = table-in 256 s.items.counts.processes n unspent r.items.counts.processes; endpoints = r.items.counts.endpoints }; gpts = r.items.gpts; each = r.items.each };
  gpts = r.gpts;
  pages = r.pages;
  cappages = r.cappages;
  processes = All-set IsRangedProcess s.contents.processes n empty_process empty_process-in r.processes;
  few = let same = length-set s.contents.processes n empty_process in let few = r.few in omega (arith, same, few);
  endpoints = r.endpoints;
}
emptied-in s Endpoint n unspent r = record {
  items = record { counts = record { pages = r.items.counts.pages; cappages = r.items.counts.cappages; gpts = r.items.counts.gpts; processes = r.items.counts.processes; endpoints = table-in 1024 s.items.counts.endpoints n unspent r.items.counts.endpoints }; gpts = r.items.gpts; each = r.items.each };
  gpts = r.gpts;
  pages = r.pages;
  cappages = r.cappages;
  processes = r.processes;
  few = r.few;
  endpoints = All-set IsRangedEndpoint s.contents.endpoints n empty_endpoint empty_endpoint-in r.endpoints;
}
emptied-in s kind n unspent r = record { items = r.items; gpts = r.gpts; pages = r.pages; cappages = r.cappages; processes = r.processes; few = r.few; endpoints = r.endpoints }

-- where its object's count is not the last
pub destruction-in : (s : Store) (kind : CapKind) (n : ℕ) → (count_of s.items kind n == 1048575) ≡ false → AreInRanges s → AreInRanges (destruction kind n s)
destruction-in s kind n unspent r =
    store_map-in (forget kind n) (λ c is. cond_both (names kind n c) _ _ IsModelCap (λ e. null-in) (λ e. is)) (emptied kind n s) (emptied-in s kind n unspent r)
