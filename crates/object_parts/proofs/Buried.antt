-- Objects of which no capability is dead, one by one.
use Rattle.std.proofs.Common.{◌≡◌, ℕ, ◌<◌, IsTrue, length, refl, sym, ap, ◌∙◌}
use Rattle.cap_format.specs.declared.kind.CapKind.{CapKind}
use Rattle.cap_format.specs.declared.kind.CapKind.TheVariants.{Page, CapPage, Gpt, Endpoint, Process}
use Rattle.cap_format.specs.Capability.{Capability}
use Rattle.std.proofs.lemmas.List.{get_or-set_same, set-set}
use Rattle.gpt_objects.specs.Gpt.{GptValue, with_slot, empty_gpt}
use Rattle.process_objects.specs.Process.{ProcessValue}
use Rattle.object_store.specs.Store.{Store, count_of, process_at, set_gpt, set_slot, with_items}
use Rattle.object_store.specs.Meaning.{live, process_map}
use Rattle.object_store.specs.Object.{ObjectValue, object_at}
use Rattle.object_store.specs.Object.ObjectValue.{OfCapPage, OfGpt, OfProcess, OfEndpoint}
use Rattle.object_store.proofs.Means.{gpt_at-items_map, cappage_at-store_map, process_at-store_map, endpoint_at-store_map}
use Rattle.object_parts.specs.Live.{live_store, live_object}
use Rattle.object_parts.specs.Same.{same_object}
use Rattle.object_parts.specs.SameLaws.{object_decides}

-- each object is the one before without its dead capabilities
pub object_live : (s : Store) (kind : CapKind) (n : ℕ) → object_at (live_store s) kind n ≡ live_object s.items (object_at s kind n)
object_live s Page n = refl
object_live s CapPage n = ap (OfCapPage (count_of s.items CapPage n)) (cappage_at-store_map (live s.items) refl s n)
object_live s Gpt n = ap (OfGpt (count_of s.items Gpt n)) (gpt_at-items_map (live s.items) refl s.items n)
object_live s Process n = ap (OfProcess (count_of s.items Process n)) (process_at-store_map (live s.items) refl s n)
object_live s Endpoint n = ap (OfEndpoint (count_of s.items Endpoint n)) (endpoint_at-store_map (live s.items) refl s n)
object_live s kind n = refl

-- a slot of a GPT that was put there before
pub slot_put : (s : Store) (n i : ℕ) (gpt : GptValue) (cap : Capability) → n < length s.items.gpts → with_items (with_items s (set_gpt s.items n gpt)) (set_slot (set_gpt s.items n gpt) n i cap) ≡ with_items s (set_gpt s.items n (with_slot gpt i cap))
slot_put s n i gpt cap there = rw (get_or-set_same s.items.gpts n gpt empty_gpt there, set-set s.items.gpts n gpt (with_slot gpt i cap)) refl

-- a process where it stands is the same as its copy without dead capabilities
pub process_there : (s : Store) (n count : ℕ) (process : ProcessValue) (x : ObjectValue) → count ≡ count_of s.items Process n → process ≡ process_at s n → IsTrue (same_object (OfProcess count (process_map (live s.items) process)) x) → x ≡ object_at (live_store s) Process n
process_there s n count process x counted is same = sym ((object_decides (OfProcess count (process_map (live s.items) process)) x).0 same) ∙ by counted is
  where
    by : count ≡ count_of s.items Process n → process ≡ process_at s n → OfProcess count (process_map (live s.items) process) ≡ object_at (live_store s) Process n
    by counted is = rw (counted, is) (sym (object_live s Process n))
