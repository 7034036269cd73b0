-- What is printed of the objects is what is read of the model's map.
use Rattle.std.proofs.Common.{ℕ, ◌≡◌, ◌+◌, ◌<◌, List, length, take, map, get_or, true, false, refl, sym, ap, subst, ◌∙◌}
use Rattle.std.specs.List.{list_all}
use Rattle.std.proofs.Math.Seq.{take-length}
use Rattle.std.proofs.lemmas.List.{length-map}
use Rattle.std.proofs.lemmas.List.Folds.{list_all_at, list_all_more}
use Rattle.cap_format.specs.Capability.{Capability, null, bare}
use Rattle.gpt_objects.specs.Gpt.{slot_of}
use Rattle.page_store.specs.CapPage.{cap_at}
use Rattle.process_objects.specs.Process.{capreg_of}
use Rattle.object_store.specs.Store.{Items, Store, gpt_at, slot_at, cappage_at, process_at, endpoint_at}
use Rattle.object_store.specs.Meaning.{meaning, process_map, endpoint_map, map_of, state_map}
use Rattle.object_store.proofs.Means.{slot_at-map_of, header_at-map_of, cappage_at-state_map, process_at-state_map, endpoint_at-state_map, cap_at-map, capreg_of-process_map}
use Rattle.run_text.specs.Objects.{is_null}

-- slots of capability pages and GPTs, and headers
pub cap_means : (s : Store) (n i : ℕ) → cap_at (cappage_at (state_map s) n) i ≡ meaning s.items (cap_at (cappage_at s n) i)
cap_means s n i = ap (λ page. cap_at page i) (cappage_at-state_map s n) ∙ cap_at-map (meaning s.items) refl (cappage_at s n) i

pub slot_means : (o : Items) (n i : ℕ) → slot_of (gpt_at (map_of o) n) i ≡ meaning o (slot_at o n i)
slot_means o n i = slot_at-map_of o n i

pub header_means : (o : Items) (n : ℕ) → (gpt_at (map_of o) n).header ≡ (gpt_at o n).header
header_means o n = header_at-map_of o n

-- processes, their slots and capability registers, and endpoints
pub process_means : (s : Store) (n : ℕ) → process_at (state_map s) n ≡ process_map (meaning s.items) (process_at s n)
process_means s n = process_at-state_map s n

pub register_means : (s : Store) (n i : ℕ) → capreg_of (process_at (state_map s) n) i ≡ meaning s.items (capreg_of (process_at s n) i)
register_means s n i = ap (λ p. capreg_of p i) (process_at-state_map s n) ∙ capreg_of-process_map (meaning s.items) refl (process_at s n) i

pub endpoint_means : (s : Store) (n : ℕ) → endpoint_at (state_map s) n ≡ endpoint_map (meaning s.items) (endpoint_at s n)
endpoint_means s n = endpoint_at-state_map s n

-- ---- whether all of some capabilities mean Null

module _ (o : Items) (xs : List Capability) (i : ℕ) (c : Capability) (inside : i < length xs) (is : bare c ≡ meaning o (get_or xs i null)) where
  there : i < length (map (meaning o) xs)
  there = rw length-map inside

  read : is_null (get_or (map (meaning o) xs) i null) ≡ is_null c
  read = ap is_null (cap_at-map (meaning o) refl xs i ∙ sym is)

  -- one more does
  pub null_more : list_all is_null (take i (map (meaning o) xs)) ≡ true → is_null c ≡ true → list_all is_null (take (i + 1) (map (meaning o) xs)) ≡ true
  null_more before this = list_all_more is_null (map (meaning o) xs) i null there ∙ rw (before, read, this) refl

  -- one doesn't
  pub null_fails : is_null c ≡ false → list_all is_null (map (meaning o) xs) ≡ false
  null_fails this = list_all_at is_null (map (meaning o) xs) i null there (read ∙ this)

-- all do
pub null_all : (o : Items) (xs : List Capability) (n : ℕ) → length xs ≡ n → list_all is_null (take n (map (meaning o) xs)) ≡ true → list_all is_null (map (meaning o) xs) ≡ true
null_all o xs n size before =
    let whole : take n (map (meaning o) xs) ≡ map (meaning o) xs = ap (λ k. take k (map (meaning o) xs)) (sym size ∙ sym (length-map xs (meaning o))) ∙ take-length (map (meaning o) xs) in
    subst (λ ys. list_all is_null ys ≡ true) whole before
