-- Keys that stand for states.
use Rattle.std.proofs.Common.{◌≡◌, List, slice_get, Some, refl, sym, ap, ◌∙◌, subst}
use Rattle.std.proofs.lemmas.Option.{slice_get_within, get_or_from_slice_get}
use Rattle.object_store.specs.declared.sizes.Sizes.{Sizes}
use Rattle.object_store.specs.Store.{Store, sizes_of}
use Rattle.object_store.specs.Meaning.{state_map}
use Rattle.object_store.specs.Object.{ObjectValue, IsEven}
use Rattle.machine_state.specs.Machine.{IsMachine}
use Rattle.machine_state.specs.State.{State}
use Rattle.object_parts.specs.Live.{live_store}
use Rattle.object_parts.proofs.Revived.{live_means}
use Rattle.state_parts.specs.declared.key.Key.{Key}
use Rattle.state_parts.specs.Keys.{AreAll, objects_of, Reads, store_by}
use Rattle.state_parts.specs.Looking.{AreRanged}
use Rattle.state_parts.specs.Standing.{StandingValue, nowhere}
use Rattle.state_parts.specs.Space.{TablesValue, AreTables, IsKept, Held, store_of, standing_of, state_in}
use Rattle.state_parts.proofs.Whole.{values_read, store_by_objects}
use Rattle.state_parts.proofs.Kept.{live_even, kept_live}

-- the objects of a key that reads those of a machine
store_live : (t : TablesValue) (key : Key) (s : Store) → AreTables t → IsEven s → sizes_of s ≡ t.sizes → Reads t.objects key.parts.items (objects_of t.names (live_store s)) → store_of t key ≡ live_store s
store_live t key s tables even sizes reads =
    let All_of : Sizes → Type 0 = λ z. AreAll z t.names in
    let all : AreAll (sizes_of s) t.names = subst All_of (sym sizes) tables.names in
    ap (λ (xs : List ObjectValue). store_by t.sizes t.names xs) (values_read t.objects key.parts.items (objects_of t.names (live_store s)) reads.each)
    ∙ ap (λ (z : Sizes). store_by z t.names (objects_of t.names (live_store s))) (sym sizes)
    ∙ store_by_objects (live_store s) t.names (live_even s even) all

-- a key that reads the objects of a machine, and its standing, stands for its state
pub held_live : (t : TablesValue) (key : Key) (s : Store) (standing : StandingValue) → AreTables t → IsEven s → sizes_of s ≡ t.sizes → IsMachine s standing.queues → Reads t.objects key.parts.items (objects_of t.names (live_store s))
    → AreRanged (objects_of t.names (live_store s)) → slice_get t.standings key.standing ≡ Some standing → Held t key
held_live t key s standing tables even sizes machine reads ranged at =
    let store : store_of t key ≡ live_store s = store_live t key s tables even sizes reads in
    let here : standing_of t key ≡ standing = get_or_from_slice_get t.standings key.standing standing nowhere at in
    let All_of : Sizes → Type 0 = λ z. AreAll z t.names in
    let all : AreAll (sizes_of s) t.names = subst All_of (sym sizes) tables.names in
    let kept : IsKept (sizes_of s) (live_store s) standing = kept_live s t.names standing even machine all ranged in
    let ReadsOf : Store → Type 0 = λ x. Reads t.objects key.parts.items (objects_of t.names x) in
    let KeptOf : Store → Type 0 = λ x. IsKept t.sizes x (standing_of t key) in
    let KeptIn : Sizes → Type 0 = λ z. IsKept z (live_store s) standing in
    let KeptAs : StandingValue → Type 0 = λ x. IsKept t.sizes (live_store s) x in
    record {
      tables = tables;
      reads = subst ReadsOf (sym store) reads;
      standing = slice_get_within t.standings key.standing standing at;
      kept = subst KeptOf (sym store) (subst KeptAs (sym here) (subst KeptIn sizes kept));
    }

-- and that is what it means
pub means_live : (t : TablesValue) (key : Key) (s : Store) (standing : StandingValue) → AreTables t → IsEven s → sizes_of s ≡ t.sizes → Reads t.objects key.parts.items (objects_of t.names (live_store s)) → slice_get t.standings key.standing ≡ Some standing
    → state_in t key ≡ record { store = state_map s; queues = standing.queues; halted = standing.halted }
means_live t key s standing tables even sizes reads at = joined (ap state_map (store_live t key s tables even sizes reads) ∙ live_means s) (get_or_from_slice_get t.standings key.standing standing nowhere at)
  where
    by : Store → StandingValue → State
    by store x = record { store = store; queues = x.queues; halted = x.halted }

    joined : state_map (store_of t key) ≡ state_map s → standing_of t key ≡ standing → by (state_map (store_of t key)) (standing_of t key) ≡ by (state_map s) standing
    joined h e = rw (h, e) refl
