-- Objects of which no capability is dead: they mean what those mean of which they were made, and are known by what they mean.
use Rattle.std.proofs.Common.{◌≡◌, ℕ, ◌<◌, ◌^◌, Bool, true, false, if◌then◌else◌, List, map, slice_index, refl, sym, ap, ◌∙◌, arith}
use Rattle.std.proofs.lemmas.List.{map-id}
use Rattle.cap_format.specs.declared.kind.CapKind.{CapKind}
use Rattle.cap_format.specs.Kind.{is_counted, object_kind, count_limit}
use Rattle.cap_format.specs.Capability.{Capability, IsCapability, bare, null, with_count}
use Rattle.gpt_objects.specs.Gpt.{GptValue}
use Rattle.process_objects.specs.Process.{ProcessValue}
use Rattle.endpoint_objects.specs.declared.endpoint.Endpoint.{Endpoint as EndpointValue}
use Rattle.object_store.specs.Store.{CountsValue, Items, Store, counts_of, count_of}
use Rattle.object_store.specs.Meaning.{is_live, live, meaning, gpt_map, process_map, endpoint_map, store_map, state_map}
use Rattle.object_store.specs.Ahead.{EachCapability, IsBehind, NoneAhead}
use Rattle.object_store.proofs.Lists.{map-same}
use Rattle.object_store.proofs.Live.{live_names, meaning_live, bare-live, is_live-live, IsBehind-live}
use Rattle.object_store.proofs.Each.{EachCapability-map, EachCapability-all, EachCapability-store_map, store_map-same, store_map-store_map}
use Rattle.object_parts.specs.Live.{live_store, AllLive}

-- ---- the function that changes nothing

gpt_id : (g : GptValue) → gpt_map (λ c. c) g ≡ g
gpt_id g = whole
  where
    by : List Capability → GptValue
    by slots = record { header = g.header; slots = slots }

    whole : by (map (λ (c : Capability). c) g.slots) ≡ by g.slots
    whole = ap by (map-id g.slots)

process_id : (p : ProcessValue) → process_map (λ c. c) p ≡ p
process_id p = whole
  where
    by : List Capability → List Capability → ProcessValue
    by capregs slots = record { pc = p.pc; regs = p.regs; capregs = capregs; slots = slots; state = p.state }

    whole : by (map (λ (c : Capability). c) p.capregs) (map (λ (c : Capability). c) p.slots) ≡ by p.capregs p.slots
    whole = rw (map-id p.capregs, map-id p.slots) refl

-- it makes the store itself
pub store_map_id : (s : Store) → store_map (λ c. c) s ≡ s
store_map_id s =
    joined
    (map-same (gpt_map (λ c. c)) (λ g. g) s.items.gpts (λ k d there. gpt_id _) ∙ map-id s.items.gpts)
    (map-same (map (λ c. c)) (λ page. page) s.contents.cappages (λ k d there. map-id _) ∙ map-id s.contents.cappages)
    (map-same (process_map (λ c. c)) (λ p. p) s.contents.processes (λ k d there. process_id _) ∙ map-id s.contents.processes)
    (map-same (endpoint_map (λ c. c)) (λ e. e) s.contents.endpoints (λ k d there. refl) ∙ map-id s.contents.endpoints)
  where
    by : List GptValue → List (List Capability) → List ProcessValue → List EndpointValue → Store
    by gpts cappages processes endpoints = record {
      harts = s.harts;
      items = record { counts = s.items.counts; gpts = gpts };
      contents = record { pages = s.contents.pages; cappages = cappages; processes = processes; endpoints = endpoints };
    }

    joined : {a : List GptValue} {b : List (List Capability)} {c : List ProcessValue} {d : List EndpointValue} → a ≡ s.items.gpts → b ≡ s.contents.cappages → c ≡ s.contents.processes → d ≡ s.contents.endpoints → by a b c d ≡ by s.items.gpts s.contents.cappages s.contents.processes s.contents.endpoints
    joined h1 h2 h3 h4 = rw (h1, h2, h3, h4) refl

-- ---- objects without their dead capabilities

-- each capability is live
pub live_all : (s : Store) → AllLive (live_store s)
live_all s = EachCapability-store_map (λ c. is_live (live_store s).items c ≡ true) (live s.items) s (EachCapability-all (λ c. is_live (live_store s).items (live s.items c) ≡ true) (λ c. is_live-live s.items c) s)

-- no capability is ahead
pub live_behind : (s : Store) → NoneAhead (live_store s)
live_behind s = EachCapability-store_map (IsBehind (live_store s).items) (live s.items) s (EachCapability-all (λ c. IsBehind (live_store s).items (live s.items c)) (λ c. IsBehind-live s.items c) s)

-- they mean the same
pub live_means : (s : Store) → state_map (live_store s) ≡ state_map s
live_means s =
    store_map-store_map (meaning (live_store s).items) (live s.items) s
    ∙ store_map-same (λ c. meaning (live_store s).items (live s.items c)) (meaning s.items) s (EachCapability-all (λ c. meaning (live_store s).items (live s.items c) ≡ meaning s.items c) each s)
  where
    each : (c : Capability) → meaning s.items (live s.items c) ≡ meaning s.items c
    each c = meaning_live s.items (live s.items c) (is_live-live s.items c) ∙ bare-live s.items c

-- where each capability is live they are the same
pub live_itself : (s : Store) → AllLive s → live_store s ≡ s
live_itself s all =
    store_map-same (live s.items) (λ c. c) s (EachCapability-map (λ c. is_live s.items c ≡ true) (λ c. live s.items c ≡ c) (λ c is. ap (λ b. if b then c else null) is) s all)
    ∙ store_map_id s

-- ---- what they mean tells them apart

-- a capability by what it means and the counts of objects
revive : CountsValue → Capability → Capability
revive counts c = if is_counted c.kind then with_count c (slice_index (counts_of counts (object_kind c.kind)) c.object) else c

-- a capability that names no object has count 0
uncounted : (kind : CapKind) → is_counted kind ≡ false → count_limit kind ≡ 1
uncounted kind e = ap (λ (b : Bool). if b then 2 ^ 20 else 1) e

-- a live capability in its ranges comes back of its meaning
revived : (o : Items) (c : Capability) → is_live o c ≡ true → IsCapability c → revive o.counts (meaning o c) ≡ c
unfolding revive
revived o c is range = rw (meaning_live o c is) (by (is_counted c.kind) refl)
  where
    by : (b : Bool) → is_counted c.kind ≡ b → (if is_counted c.kind then with_count (bare c) (count_of o (object_kind c.kind) c.object) else bare c) ≡ c
    by true e = rw e (ap (λ (n : ℕ). record c { count = n }) (live_names o c e is).count)
    by false e =
        let few : c.count < count_limit c.kind = range.count in
        let one : count_limit c.kind ≡ 1 = uncounted c.kind e in
        let none : 0 ≡ c.count = omega (arith, few, one) in
        rw e (ap (λ (n : ℕ). record c { count = n }) none)

-- a store of live capabilities comes back of its meaning
back : (s : Store) → AllLive s → EachCapability IsCapability s → store_map (revive s.items.counts) (state_map s) ≡ s
back s all ranges =
    store_map-store_map (revive s.items.counts) (meaning s.items) s
    ∙ store_map-same (λ c. revive s.items.counts (meaning s.items c)) (λ c. c) s (both s all ranges)
    ∙ store_map_id s
  where
    both : (s : Store) → AllLive s → EachCapability IsCapability s → EachCapability (λ c. revive s.items.counts (meaning s.items c) ≡ c) s
    both s all ranges = record {
      slots = λ g d there. λ i e within. revived s.items _ (all.slots g d there i e within) (ranges.slots g d there i e within);
      cappages = λ g d there. λ i e within. revived s.items _ (all.cappages g d there i e within) (ranges.cappages g d there i e within);
      capregs = λ g d there. λ i e within. revived s.items _ (all.capregs g d there i e within) (ranges.capregs g d there i e within);
      process_slots = λ g d there. λ i e within. revived s.items _ (all.process_slots g d there i e within) (ranges.process_slots g d there i e within);
      recipients = λ g d there. revived s.items _ (all.recipients g d there) (ranges.recipients g d there);
    }

-- two stores of live capabilities that mean the same are one
pub same_meaning : (s t : Store) → AllLive s → AllLive t → EachCapability IsCapability s → EachCapability IsCapability t → state_map s ≡ state_map t → s ≡ t
same_meaning s t all all_too ranges ranges_too same =
    let counts : s.items.counts ≡ t.items.counts = ap (λ (x : Store). x.items.counts) same in
    sym (back s all ranges) ∙ ap (λ (x : Store). store_map (revive s.items.counts) x) same ∙ ap (λ (c : CountsValue). store_map (revive c) (state_map t)) counts ∙ back t all_too ranges_too
