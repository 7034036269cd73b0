-- The objects of a listing at the start.
use Rattle.std.proofs.Common.{◌≡◌, Bool, true, false, [], ap, length, refl, if◌then◌else◌, arith}
use Rattle.cap_format.specs.declared.kind.CapKind.{CapKind}
use Rattle.cap_format.specs.declared.kind.CapKind.TheVariants.{Page as PageKind, CapPage as CapPageKind, Gpt as GptKind, Endpoint as EndpointKind, Entry as EntryKind, Process as ProcessKind}
use Rattle.cap_format.specs.Kind.{is_counted, object_kind}
use Rattle.cap_format.specs.Capability.{Capability, with_count}
use Rattle.gpt_objects.specs.Gpt.{GptValue}
use Rattle.process_objects.specs.Process.{ProcessValue, empty_process}
use Rattle.endpoint_objects.specs.declared.endpoint.Endpoint.{Endpoint as EndpointValue}
use Rattle.object_store.specs.Store.{CountsValue, Items, Store, size_of, count_of, counts_of, sizes_of}
use Rattle.object_store.specs.Ahead.{IsBehind, NoneAhead}
use Rattle.object_store.proofs.Lists.{All-at}
use Rattle.std.specs.List.{All}
use Rattle.schedules.specs.Ready.{places_due}
use Rattle.listing_read.specs.Statement.{ListingValue}
use Rattle.image_builder.specs.Given.{with_object_count}
use Rattle.image_builder.specs.Boot.{objects_of, StoppedFrom}
use Rattle.image_builder.proofs.Listed.{All-listed}
use Rattle.image_builder.proofs.Finals.{sizes-final_objects}

-- there are no objects of a kind whose capabilities have no count
no_objects : (counts : CountsValue) (kind : CapKind) → is_counted kind ≡ false → counts_of counts (object_kind kind) ≡ []
no_objects counts PageKind e = cc
no_objects counts CapPageKind e = cc
no_objects counts GptKind e = cc
no_objects counts EndpointKind e = cc
no_objects counts EntryKind e = cc
no_objects counts ProcessKind e = cc
no_objects counts _ e = refl

-- a capability names no object, or has its object's count
with_object_count-behind : (o : Items) (c : Capability) → IsBehind o (with_object_count o.counts c)
with_object_count-behind o c = on (is_counted c.kind) refl
  where
    on : (b : Bool) → is_counted c.kind ≡ b → IsBehind o (if b then with_count c (count_of o (object_kind c.kind) c.object) else c)
    on true e there = omega arith
    on false e there =
        let none : size_of o (object_kind c.kind) ≡ 0 = ap length (no_objects o.counts c.kind e) in
        absurd (omega (arith, none, there))

module _ (listing : ListingValue) where
  abbrev s : Store
  s = objects_of listing

  -- none is ahead of its object
  pub behind-objects_of : NoneAhead s
  behind-objects_of = record {
    slots = All-listed (λ (gpt : GptValue). All (IsBehind s.items) gpt.slots) _ _ (λ g. All-listed (IsBehind s.items) 16 _ (λ i. with_object_count-behind s.items _));
    cappages = All-listed (All (IsBehind s.items)) _ _ (λ n. All-listed (IsBehind s.items) 256 _ (λ i. with_object_count-behind s.items _));
    capregs = All-listed (λ (p : ProcessValue). All (IsBehind s.items) p.capregs) _ _ (λ p. All-listed (IsBehind s.items) 32 _ (λ i. with_object_count-behind s.items _));
    process_slots = All-listed (λ (p : ProcessValue). All (IsBehind s.items) p.slots) _ _ (λ p. All-listed (IsBehind s.items) 3 _ (λ i. with_object_count-behind s.items _));
    recipients = All-listed (λ (e : EndpointValue). IsBehind s.items e.recipient) _ _ (λ n. with_object_count-behind s.items _);
  }

  -- no process runs
  pub stopped-objects_of : StoppedFrom 0 s
  stopped-objects_of p from =
      let P : ProcessValue → Type 0 = λ q. places_due q.state ≡ 0 in
      All-at P s.contents.processes empty_process refl (All-listed P _ _ (λ k. refl)) p

  -- they have the listing's sizes
  pub sizes-objects_of : sizes_of s ≡ listing.sizes
  sizes-objects_of = sizes-final_objects listing.sizes listing.statements listing.statements
