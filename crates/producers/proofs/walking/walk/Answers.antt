use Rattle.std.proofs.Common.{◌≡◌, ◌+◌, ◌-◌, ◌++◌, [], ◌∷◌, zero, suc, List, Option, inl, inr, Result, Err, refl, ◌∙◌, sym, ap, arith, ℕ, ◌<◌, ◌≤◌}
use Rattle.std.specs.Option.{option_or}
use Rattle.std.proofs.lemmas.Bool.{cases_lt}
use Rattle.cap_format.specs.Capability.{Capability, bare}
use Rattle.cap_format.specs.declared.fault.FaultCode.{FaultCode}
use Rattle.cap_format.specs.declared.item.Item.TheVariants.{Slot}
use Rattle.object_store.specs.Store.{Items, slot_at}
use Rattle.object_store.specs.Meaning.{meaning, map_of}
use Rattle.object_store.proofs.Live.{IsCapability-meaning}
use Rattle.object_store.proofs.Ranged.{IsRanged-map_of}
use Rattle.walk_meaning.specs.declared.at.At.{At}
use Rattle.walk_meaning.specs.declared.kind.Kind.{Kind}
use Rattle.walk_meaning.specs.declared.noted.Noted.{Noted}
use Rattle.walk_meaning.specs.declared.place.Place.{Place}
use Rattle.walk_meaning.specs.declared.place.WalkFault.{WalkFault}
use Rattle.walk_meaning.specs.declared.step.Step.TheVariants.{Reach, Fault, Go}
use Rattle.walk_meaning.specs.Walk.{step}
use Rattle.walk_meaning.specs.Trail.{noted, header_noted, read_cost, slots}
use Rattle.walk_meaning.proofs.Ways.{step-map_of}
use Rattle.walk_meaning.proofs.PageLaw.{page_law}
use Rattle.walk_meaning.proofs.PlaceLaw.{place_law}
use Rattle.walk_meaning.proofs.SlotsLaw.{slots_law}
use Rattle.walk_engine.specs.OnWay.{WalkEndsAt, WalkEndsIn, IsOnWay}
use Rattle.walk_engine.proofs.Onward.{on_way-go, on_way-reach, on_way-fault, on_way-end, on_way-unread}
use Rattle.producers.specs.declared.producer.Produced.{Produced}
use Rattle.producers.specs.Producer.{Point, here, join_of, last_join, produced_by}
use Rattle.producers.proofs.Points.{join-ends, join-goes, join-unread, or-produced}
use Rattle.producers.proofs.walking.walk.Goals as goal

-- a walk that reaches ends at its place
ends : (o : Items) (space c : Capability) (address : ℕ) (kind : Kind) (n : ℕ) (w : At) (reads : List Noted) (start count : ℕ) (place : Place) → 0 < n → Reach place ≡ step o kind c w
    → IsOnWay (map_of o) (meaning o space) address kind n (bare c) w reads start count → WalkEndsAt (map_of o) (meaning o space) address kind place (reads ++ header_noted (bare c) address w.l2) start count
ends o space c address kind n w reads start count place some e way =
    on_way-reach (map_of o) (meaning o space) address kind (bare c) w reads start count n (n - 1) place (omega arith) (step-map_of o kind c w ∙ sym e) way

-- one that faults ends in its fault
ends_in : (o : Items) (space c : Capability) (address : ℕ) (kind : Kind) (n : ℕ) (w : At) (reads : List Noted) (start count : ℕ) (code : FaultCode) (handler : Option ℕ) → 0 < n → Fault code handler ≡ step o kind c w
    → IsOnWay (map_of o) (meaning o space) address kind n (bare c) w reads start count → WalkEndsIn (map_of o) (meaning o space) address kind code handler start count
ends_in o space c address kind n w reads start count code handler some e way =
    on_way-fault (map_of o) (meaning o space) address kind (bare c) w reads start count n (n - 1) code handler (omega arith) (step-map_of o kind c w ∙ sym e) way

-- what an access reads is at most 32 slots
at_most : (o : Items) (space : Capability) (address : ℕ) (kind : Kind) (start count : ℕ) → count ≡ start + slots (map_of o) (meaning o space) address kind → count ≤ start + 32
at_most o space address kind start count counted = omega (arith, counted, slots_law (map_of o) (meaning o space) address kind)

pub returns-in-Reach-clause-value : goal.returns-in-Reach-clause-value
returns-in-Reach-clause-value g c = sym (ends c.args.objects.now.items c.args.space c.way.cap c.args.address c.args.kind c.way.left c.way.at c.way.trail.items c.args.fetches.now c.way.fetches c.in-Reach.place (omega arith) c.in-Reach.ensures.value c.way.invariant.way).reached

pub returns-in-Reach-clause-place : goal.returns-in-Reach-clause-place
returns-in-Reach-clause-place g c = place_law c.args.objects.now.items c.args.space c.args.address c.args.kind c.in-Reach.place (ends c.args.objects.now.items c.args.space c.way.cap c.args.address c.args.kind c.way.left c.way.at c.way.trail.items c.args.fetches.now c.way.fetches c.in-Reach.place (omega arith) c.in-Reach.ensures.value c.way.invariant.way).reached

pub returns-in-Reach-clause-offset : goal.returns-in-Reach-clause-offset
returns-in-Reach-clause-offset g c =
    let o = c.args.objects.now.items in
    let is = IsCapability-meaning o c.args.space c.kind-range.ensures.range in
    let page = page_law (map_of o) (meaning o c.args.space) c.args.address c.args.address c.args.kind c.in-Reach.place (IsRanged-map_of o c.in_ranges.ensures.ranged) is refl (ends c.args.objects.now.items c.args.space c.way.cap c.args.address c.args.kind c.way.left c.way.at c.way.trail.items c.args.fetches.now c.way.fetches c.in-Reach.place (omega arith) c.in-Reach.ensures.value c.way.invariant.way).reached in
    page.offset

pub returns-in-Reach-clause-produced : goal.returns-in-Reach-clause-produced
returns-in-Reach-clause-produced g c =
    let o = c.args.objects.now.items in
    let none = join-ends (map_of o) c.args.kind c.args.address c.way.left (c.way.left - 1) (bare c.way.cap) c.way.at c.way.trail.items c.in-Reach.place (omega arith) (step-map_of o c.args.kind c.way.cap c.way.at ∙ sym c.in-Reach.ensures.value) in
    sym (ap (λ (p : Option Produced). option_or p c.way.produced) (ap (produced_by (map_of o)) none)) ∙ c.way.invariant.joins

pub returns-in-Reach-clause-noted : goal.returns-in-Reach-clause-noted
returns-in-Reach-clause-noted g c = c.note_header.ensures.value ∙ (ends c.args.objects.now.items c.args.space c.way.cap c.args.address c.args.kind c.way.left c.way.at c.way.trail.items c.args.fetches.now c.way.fetches c.in-Reach.place (omega arith) c.in-Reach.ensures.value c.way.invariant.way).noted

pub returns-in-Reach-clause-bound : goal.returns-in-Reach-clause-bound
returns-in-Reach-clause-bound g c = at_most c.args.objects.now.items c.args.space c.args.address c.args.kind _ _ (ends c.args.objects.now.items c.args.space c.way.cap c.args.address c.args.kind c.way.left c.way.at c.way.trail.items c.args.fetches.now c.way.fetches c.in-Reach.place (omega arith) c.in-Reach.ensures.value c.way.invariant.way).counted

pub returns-in-Fault-clause-value : goal.returns-in-Fault-clause-value
returns-in-Fault-clause-value g c =
    let err : WalkFault → Result Place WalkFault = λ f. Err f in
    ap err c.told.ensures.value ∙ sym (ends_in c.args.objects.now.items c.args.space c.way.cap c.args.address c.args.kind c.way.left c.way.at c.way.trail.items c.args.fetches.now c.way.fetches c.in-Fault.code c.in-Fault.handler (omega arith) c.in-Fault.ensures.value c.way.invariant.way).faulted

pub returns-in-Fault-clause-counted : goal.returns-in-Fault-clause-counted
returns-in-Fault-clause-counted g c =
    c.told.ensures.counted ∙ (ends_in c.args.objects.now.items c.args.space c.way.cap c.args.address c.args.kind c.way.left c.way.at c.way.trail.items c.args.fetches.now c.way.fetches c.in-Fault.code c.in-Fault.handler (omega arith) c.in-Fault.ensures.value c.way.invariant.way).counted

pub returns-in-Fault-clause-bound : goal.returns-in-Fault-clause-bound
returns-in-Fault-clause-bound g c =
    at_most c.args.objects.now.items c.args.space c.args.address c.args.kind _ _ (c.told.ensures.counted ∙ (ends_in c.args.objects.now.items c.args.space c.way.cap c.args.address c.args.kind c.way.left c.way.at c.way.trail.items c.args.fetches.now c.way.fetches c.in-Fault.code c.in-Fault.handler (omega arith) c.in-Fault.ensures.value c.way.invariant.way).counted)

pub returns : goal.returns
returns g c =
    let o = c.args.objects.now.items in
    let none : c.way.left ≡ zero = omega arith in
    let ends = on_way-end (map_of o) (meaning o c.args.space) c.args.address c.args.kind (bare c.way.cap) c.way.at c.way.trail.items c.args.fetches.now c.way.fetches
    c.way.left none c.way.invariant.way in
    let err : WalkFault → Result Place WalkFault = λ f. Err f in
    record { value = ap err c.told-2.ensures.value ∙ sym ends.faulted; place = tt; offset = tt; produced = tt; handler = c.told-2.ensures.handler; noted = tt; emptied = c.clear-2.ensures; counted = c.told-2.ensures.counted ∙ ends.counted; bound = at_most o c.args.space c.args.address c.args.kind _ _ (c.told-2.ensures.counted ∙ ends.counted) }

pub way-preserved : goal.way-preserved
way-preserved g c =
    let o = c.args.objects.now.items in
    let left = c.way.left - 1 in
    let fewer : c.way.left ≡ suc left = omega arith in
    let e : step (map_of o) c.args.kind (bare c.way.cap) c.way.at ≡ Go c.in-Go.next c.in-Go.gpt c.in-Go.slot = step-map_of o c.args.kind c.way.cap c.way.at ∙ sym {b = step o c.args.kind c.way.cap c.way.at} c.in-Go.ensures.value in
    let next : Capability = slot_at (map_of o) c.in-Go.gpt c.in-Go.slot in
    let reads : List Noted = (c.way.trail.items ++ header_noted (bare c.way.cap) c.args.address c.way.at.l2) ++ noted (Slot c.in-Go.gpt c.in-Go.slot) c.args.address c.in-Go.next.l2 ∷ [] in
    let way = on_way-go (map_of o) (meaning o c.args.space) c.args.address c.args.kind (bare c.way.cap) c.way.at c.way.trail.items c.args.fetches.now c.way.fetches
    c.way.left left c.in-Go.next c.in-Go.gpt c.in-Go.slot fewer e c.way.invariant.way in
    let read : IsOnWay (map_of o) (meaning o c.args.space) c.args.address c.args.kind left (bare c.read_next-cap.result) c.in-Go.next reads c.args.fetches.now (c.way.fetches + read_cost left) =
    elim (cases_lt 0 left) [
      | inl some ↦ rw (c.read_next-cap.ensures.value some) way
      | inr none ↦ on_way-unread (map_of o) (meaning o c.args.space) c.args.address c.args.kind left next (bare c.read_next-cap.result) c.in-Go.next reads c.args.fetches.now (c.way.fetches + read_cost left) (omega arith) way
    ] in
    let same : last_join (map_of o) c.args.kind c.args.address left (bare c.read_next-cap.result) c.in-Go.next reads ≡ last_join (map_of o) c.args.kind c.args.address left next c.in-Go.next reads =
    elim (cases_lt 0 left) [
      | inl some ↦ ap (λ (d : Capability). last_join (map_of o) c.args.kind c.args.address left d c.in-Go.next reads) (c.read_next-cap.ensures.value some)
      | inr none ↦ join-unread (map_of o) c.args.kind c.args.address left (bare c.read_next-cap.result) next c.in-Go.next reads (omega arith)
    ] in
    let goes = join-goes (map_of o) c.args.kind c.args.address c.way.left left (bare c.way.cap) c.way.at c.way.trail.items c.in-Go.next c.in-Go.gpt c.in-Go.slot fewer e in
    let now : c.here-joined.result ≡ produced_by (map_of o) (here left (bare c.way.cap) c.way.at c.way.trail.items) = c.here-joined.ensures in
    let joins = or-produced (map_of o) (last_join (map_of o) c.args.kind c.args.address left next c.in-Go.next reads) (here left (bare c.way.cap) c.way.at c.way.trail.items) c.way.produced in
    record {
      way = rw (c.note_slot.ensures.value, c.note_header.ensures.value, c.read_next-cap.ensures.counted) read;
      joins =
          let rest : Option Produced = produced_by (map_of o) (last_join (map_of o) c.args.kind c.args.address left next c.in-Go.next reads) in
          let whole : option_or rest (option_or c.here-joined.result c.way.produced)
          ≡ produced_by (map_of o) (join_of (map_of o) (meaning o c.args.space) c.args.address c.args.kind) =
          ap (λ (x : Option Produced). option_or rest (option_or x c.way.produced)) now
          ∙ (sym joins ∙ (sym (ap (λ (x : Option Point). option_or (produced_by (map_of o) x) c.way.produced) goes) ∙ c.way.invariant.joins)) in
          let there = ap (λ (x : Option Point). option_or (produced_by (map_of o) x) (option_or c.here-joined.result c.way.produced)) same in
          rw (c.note_slot.ensures.value, c.note_header.ensures.value, c.or-produced.ensures) (there ∙ whole);
      live = c.read_next-cap.ensures.is_live;
      at = c.in-Go.ensures.below.0;
      room = omega (arith, c.note_slot.ensures.room, c.note_header.ensures.room, c.way.invariant.room);
    }
