-- What is kept of a machine's objects: they are those of a machine, and stand for its state.
use Rattle.std.proofs.Common.{◌≡◌, ℕ, ◌<◌, inl, inr, List, [], ◌∷◌, map, length, refl, sym, ap, ◌∙◌, subst}
use Rattle.std.specs.List.{All}
use Rattle.std.proofs.lemmas.List.{length-map, get_or_default}
use Rattle.std.proofs.lemmas.List.Elements.{All-head, All-tail}
use Rattle.cap_format.specs.declared.kind.CapKind.{CapKind}
use Rattle.cap_format.specs.declared.kind.CapKind.TheVariants.{CapPage, Gpt, Endpoint, Process}
use Rattle.cap_format.specs.Capability.{IsCapability}
use Rattle.gpt_objects.specs.Gpt.{GptValue, empty_gpt}
use Rattle.page_store.specs.CapPage.{empty_cappage}
use Rattle.process_objects.specs.Process.{ProcessValue, empty_process}
use Rattle.endpoint_objects.specs.declared.endpoint.Endpoint.{Endpoint as EndpointValue}
use Rattle.endpoint_objects.specs.Endpoint.{empty_endpoint}
use Rattle.object_store.specs.Store.{Store, size_of, sizes_of, process_at}
use Rattle.object_store.specs.Meaning.{live, process_map}
use Rattle.object_store.specs.Ahead.{EachCapability}
use Rattle.object_store.specs.Object.{ObjectName, object_at, IsAmong, IsEven}
use Rattle.object_store.proofs.Means.{process_at-store_map}
use Rattle.object_store.proofs.Same.{size_in_store}
use Rattle.schedules.specs.Queues.{QueuesValue}
use Rattle.schedules.specs.Ready.{places_due}
use Rattle.schedules.specs.Standing.{standing}
use Rattle.machine_state.specs.Machine.{IsMachine}
use Rattle.object_parts.specs.Live.{live_store, IsInRanges}
use Rattle.object_parts.proofs.Revived.{live_all, live_behind}
use Rattle.state_parts.specs.Keys.{AreAll, named_in, objects_of}
use Rattle.state_parts.specs.Looking.{AreRanged}
use Rattle.state_parts.specs.Space.{IsKept}
use Rattle.state_parts.specs.Standing.{StandingValue}

-- there are as many objects as counts
pub live_even : (s : Store) → IsEven s → IsEven (live_store s)
live_even s even = record {
  pages = even.pages;
  cappages = length-map s.contents.cappages (map (live s.items)) ∙ even.cappages;
  gpts = length-map s.items.gpts _ ∙ even.gpts;
  processes = length-map s.contents.processes (process_map (live s.items)) ∙ even.processes;
  endpoints = length-map s.contents.endpoints _ ∙ even.endpoints;
}

-- they are those of a machine
pub live_machine : (s : Store) (q : QueuesValue) → IsMachine s q → IsMachine (live_store s) q
live_machine s q is = record {
  fits = record { processes = is.fits.processes; harts = is.fits.harts };
  agrees = record { sizes = length-map s.contents.processes (process_map (live s.items)) ∙ is.agrees.sizes; each = each };
  behind = live_behind s;
}
  where
    each : (p : ℕ) → p < length (map (process_map (live s.items)) s.contents.processes) → standing q p ≡ places_due (process_at (live_store s) p).state
    each p there =
        let Within : ℕ → Type 0 = λ n. p < n in
        is.agrees.each p (subst Within (length-map s.contents.processes (process_map (live s.items))) there)
        ∙ ap (λ (x : ProcessValue). places_due x.state) (sym (process_at-store_map (live s.items) refl s p))

-- an object of a list that is in its ranges
pub among_ranged : (s : Store) (names : List ObjectName) (kind : CapKind) (n : ℕ) → All IsInRanges (objects_of names s) → IsAmong kind n names → IsInRanges (object_at s kind n)
among_ranged s [] kind n all among = elim among [ ]
among_ranged s (name ∷ names) kind n all (inl here) = rw (here.0, here.1) (All-head IsInRanges (named_in s name) (objects_of names s) all)
among_ranged s (name ∷ names) kind n all (inr later) = among_ranged s names kind n (All-tail IsInRanges (named_in s name) (objects_of names s) all) later

-- where all objects are in their ranges, each capability is
pub ranges_of : (s : Store) (names : List ObjectName) → IsEven s → AreAll (sizes_of s) names → AreRanged (objects_of names s) → EachCapability IsCapability s
ranges_of s names even all ranged = record {
  slots = λ g d there. let Good : GptValue → Type 0 = λ x. All IsCapability x.slots in subst Good (get_or_default s.items.gpts g empty_gpt d there) (object Gpt g (rw (sym even.gpts) there)).each;
  cappages = λ n d there. subst (All IsCapability) (get_or_default s.contents.cappages n empty_cappage d there) (object CapPage n (rw (sym even.cappages) there)).each;
  capregs = λ n d there. let Good : ProcessValue → Type 0 = λ x. All IsCapability x.capregs in subst Good (get_or_default s.contents.processes n empty_process d there) (object Process n (rw (sym even.processes) there)).each.0;
  process_slots = λ n d there. let Good : ProcessValue → Type 0 = λ x. All IsCapability x.slots in subst Good (get_or_default s.contents.processes n empty_process d there) (object Process n (rw (sym even.processes) there)).each.1;
  recipients = λ n d there. let Good : EndpointValue → Type 0 = λ x. IsCapability x.recipient in subst Good (get_or_default s.contents.endpoints n empty_endpoint d there) (object Endpoint n (rw (sym even.endpoints) there)).each;
}
  where
    object : (kind : CapKind) (n : ℕ) → n < size_of s.items kind → IsInRanges (object_at s kind n)
    object kind n there = among_ranged s names kind n ranged.each (all.all kind n (subst (λ (k : ℕ). n < k) (sym (size_in_store s kind)) there))

-- what is kept of a machine
pub kept_live : (s : Store) (names : List ObjectName) (standing : StandingValue) → IsEven s → IsMachine s standing.queues → AreAll (sizes_of s) names → AreRanged (objects_of names (live_store s)) → IsKept (sizes_of s) (live_store s) standing
kept_live s names standing even machine all ranged = record {
  even = live_even s even;
  sizes = refl;
  machine = live_machine s standing.queues machine;
  live = live_all s;
  ranges = ranges_of (live_store s) names (live_even s even) all ranged;
}
