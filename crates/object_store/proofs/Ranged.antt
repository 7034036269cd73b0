-- What is in its ranges: new objects, and objects after a write.
use Rattle.std.proofs.Common.{◌≡◌, ℕ, ◌<◌, ◌≤◌, ◌^◌, length, length-set, replicate, lit<, ◌∙◌, sym, arith}
use Rattle.std.proofs.lemmas.List.{length-replicate, length-map}
use Rattle.std.proofs.lemmas.List.Elements.{All-set, All-map, All-replicate}
use Rattle.cap_format.specs.Capability.{IsCapability, null}
use Rattle.cap_format.proofs.Ranges.{IsCapability-null}
use Rattle.gpt_objects.specs.Header.{IsHeader}
use Rattle.gpt_objects.specs.Gpt.{GptValue, IsGpt, empty_gpt}
use Rattle.gpt_objects.proofs.Ranges.{IsGpt-empty_gpt}
use Rattle.object_store.specs.declared.sizes.Sizes.{Sizes}
use Rattle.object_store.specs.Store.{Items, gpt_at, header_at, slot_at, set_gpt, empty_store}
use Rattle.object_store.specs.Meaning.{meaning, gpt_map, map_of}
use Rattle.object_store.specs.Ranges.{IsTable, IsRanged, IsStore, IsWithinLimits}
use Rattle.object_store.proofs.Lists.{All-at}
use Rattle.object_store.proofs.Live.{IsCapability-meaning}

-- a table of zeros is one of counts
IsTable-zeros : (limit size : ℕ) → size ≤ limit → IsTable limit (replicate size 0)
IsTable-zeros limit size within = record {
  size = omega (arith, length-replicate {A = ℕ} size 0);
  below = All-replicate (λ count. count < 2 ^ 20) size 0 (lit< tt);
}

-- tables that were made with one size are of one length
same_size : {A B : Type 0} (size : ℕ) (x : A) (y : B) → length (replicate size x) ≡ length (replicate size y)
same_size size x y = length-replicate size x ∙ sym (length-replicate size y)

-- new objects are in all ranges
pub IsStore-empty_store : (sizes : Sizes) → IsWithinLimits sizes → IsStore (empty_store sizes)
IsStore-empty_store sizes within = record {
  ranged = record {
    counts = record {
      pages = IsTable-zeros _ _ within.pages;
      cappages = IsTable-zeros _ _ within.cappages;
      gpts = IsTable-zeros _ _ within.gpts;
      processes = IsTable-zeros _ _ within.processes;
      endpoints = IsTable-zeros _ _ within.endpoints;
    };
    gpts = All-replicate IsGpt sizes.gpts empty_gpt IsGpt-empty_gpt;
    each = same_size {B = ℕ} sizes.gpts empty_gpt 0;
  };
  sized = record {
    some_hart = within.some_hart;
    most_harts = within.harts;
    pages = same_size {B = ℕ} sizes.pages _ 0;
    cappages = same_size {B = ℕ} sizes.cappages _ 0;
    processes = same_size {B = ℕ} sizes.processes _ 0;
    endpoints = same_size {B = ℕ} sizes.endpoints _ 0;
  };
}

-- a GPT in its ranges that is written keeps the items in theirs
pub IsRanged-set_gpt : (o : Items) (g : ℕ) (gpt : GptValue) → IsGpt gpt → IsRanged o → IsRanged (set_gpt o g gpt)
IsRanged-set_gpt o g gpt new ranged = record {
  counts = ranged.counts;
  gpts = All-set IsGpt o.gpts g gpt new ranged.gpts;
  each = length-set o.gpts g gpt ∙ ranged.each;
}

-- ---- the map of the model

-- a GPT of the map is in its ranges
IsGpt-gpt_map : (o : Items) (gpt : GptValue) → IsGpt gpt → IsGpt (gpt_map (meaning o) gpt)
IsGpt-gpt_map o gpt is = record {
  header = is.header;
  sixteen = length-map gpt.slots (meaning o) ∙ is.sixteen;
  slots = All-map IsCapability (meaning o) gpt.slots (λ k d there. IsCapability-meaning o _ (is.slots k d there));
}

-- the map of items in their ranges is in them too
pub IsRanged-map_of : (o : Items) → IsRanged o → IsRanged (map_of o)
IsRanged-map_of o ranged = record {
  counts = ranged.counts;
  gpts = All-map IsGpt (gpt_map (meaning o)) o.gpts (λ k d there. IsGpt-gpt_map o _ (ranged.gpts k d there));
  each = length-map o.gpts (gpt_map (meaning o)) ∙ ranged.each;
}

-- ---- what is read, also of a GPT or a slot that is not there

-- each GPT that is read is in its ranges
pub IsGpt-gpt_at : (o : Items) → IsRanged o → (g : ℕ) → IsGpt (gpt_at o g)
IsGpt-gpt_at o ranged = All-at IsGpt o.gpts empty_gpt IsGpt-empty_gpt ranged.gpts

-- each header that is read is in its range
pub IsHeader-header_at : (o : Items) → IsRanged o → (g : ℕ) → IsHeader (header_at o g)
IsHeader-header_at o ranged g = (IsGpt-gpt_at o ranged g).header

-- each slot that is read has a capability in its ranges
pub IsCapability-slot_at : (o : Items) → IsRanged o → (g i : ℕ) → IsCapability (slot_at o g i)
IsCapability-slot_at o ranged g = All-at IsCapability (gpt_at o g).slots null IsCapability-null (IsGpt-gpt_at o ranged g).slots
