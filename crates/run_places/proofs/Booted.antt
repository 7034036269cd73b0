-- The objects of a machine at its start have their places.
use Rattle.std.proofs.Common.{◌≡◌, ℕ, ◌<◌, List, [], ◌∷◌, length, get_or, map, fold, filter, sym, ◌∙◌, subst, arith}
use Rattle.std.specs.List.{All, range_with_len}
use Rattle.std.proofs.lemmas.List.{length-map}
use Rattle.std.proofs.lemmas.List.Elements.{All-map}
use Rattle.std.proofs.lemmas.List.FromFn.{length-map-range_with_len, get_or-map-range_with_len}
use Rattle.object_store.specs.Store.{Store}
use Rattle.object_store.specs.Meaning.{gpt_map, meaning, process_map}
use Rattle.machine_state.specs.State.{State, schedule_slot}
use Rattle.machine_state.specs.Setters.{ready}
use Rattle.listing_read.specs.Statement.{ListingValue}
use Rattle.image_builder.specs.Given.{listed, final_cappage, final_gpt, final_process}
use Rattle.image_builder.specs.Boot.{at_rest, is_running, objects_of}
use Rattle.run_places.specs.Places.{HasPlaces}
use Rattle.run_places.specs.Laws.{BootedHasPlaces}
use Rattle.run_places.proofs.Objects.{HasSlots, IsWhole, HasAll, readied-has}

-- ---- lists by number

length-listed : {A : Type 0} (n : ℕ) (f : ℕ → A) → length (listed n f) ≡ n
unfolding listed
length-listed n f = length-map-range_with_len f 0 n

get_or-listed : {A : Type 0} (n : ℕ) (f : ℕ → A) (i : ℕ) (d : A) → i < n → get_or (listed n f) i d ≡ f i
unfolding listed
get_or-listed n f i d h = get_or-map-range_with_len f 0 n i i d h (omega arith)

All-listed : {A : Type 0} (P : A → Type 0) (n : ℕ) (f : ℕ → A) → ((k : ℕ) → P (f k)) → All P (listed n f)
All-listed P n f each k d there =
    let long = length-listed n f in
    subst P (sym (get_or-listed n f k d (omega arith))) (each k)

-- a list of so many, each mapped
length-mapped : {A B : Type 0} (g : A → B) (n : ℕ) (f : ℕ → A) → length (map g (listed n f)) ≡ n
length-mapped g n f = length-map (listed n f) g ∙ length-listed n f

-- ---- the start

-- processes that are made ready keep their places
ready-has : (ps : List ℕ) (s : State) → HasPlaces s.store → HasPlaces (fold ready s ps).store
ready-has [] s has = has
ready-has (p ∷ ps) s has = ready-has ps (ready s p) (readied-has s.store has s.queues (schedule_slot s p) p)

module _ (listing : ListingValue) where
  abbrev o : Store
  o = objects_of listing

  rest-has : HasPlaces (at_rest o).store
  rest-has = record {
    gpts = All-map HasSlots (gpt_map (meaning o.items)) o.items.gpts
        (All-listed (λ gpt. HasSlots (gpt_map (meaning o.items) gpt)) listing.sizes.gpts (final_gpt o.items.counts listing.statements)
        (λ g. length-mapped (meaning o.items) 16 _));
    cappages = All-map IsWhole (map (meaning o.items)) o.contents.cappages
        (All-listed (λ page. IsWhole (map (meaning o.items) page)) listing.sizes.cappages (final_cappage o.items.counts listing.statements)
        (λ n. length-mapped (meaning o.items) 256 _));
    processes = All-map HasAll (process_map (meaning o.items)) o.contents.processes
        (All-listed (λ process. HasAll (process_map (meaning o.items) process)) listing.sizes.processes (final_process o.items.counts listing.statements)
        (λ p. (length-mapped (meaning o.items) 32 _, length-mapped (meaning o.items) 3 _)));
    each_gpt = length-mapped _ listing.sizes.gpts _ ∙ sym (length-listed listing.sizes.gpts _);
    each_cappage = length-mapped _ listing.sizes.cappages _ ∙ sym (length-listed listing.sizes.cappages _);
    each_process = length-mapped _ listing.sizes.processes _ ∙ sym (length-listed listing.sizes.processes _);
    each_endpoint = length-mapped _ listing.sizes.endpoints _ ∙ sym (length-listed listing.sizes.endpoints _);
  }

pub booted-has : BootedHasPlaces
booted-has listing = ready-has (filter (is_running listing) (range_with_len 0 listing.sizes.processes)) (at_rest (objects_of listing)) (rest-has listing)
