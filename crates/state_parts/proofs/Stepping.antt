-- Tables that grow, with the desk and the standing that are known by them, and the way to a key.
use Rattle.std.proofs.Common.{◌≡◌, ℕ, Bool, List, Option, None, Some, slice_get, refl, sym, ap, ◌∙◌, subst}
use Rattle.std.proofs.lemmas.Option.{get_or_from_slice_get}
use Rattle.object_store.specs.declared.sizes.Sizes.{Sizes}
use Rattle.object_store.specs.Store.{Store, sizes_of}
use Rattle.object_store.specs.Meaning.{state_map}
use Rattle.object_store.specs.Object.{ObjectName, ObjectValue, IsEven}
use Rattle.schedules.specs.Queues.{QueuesValue}
use Rattle.map_cache.specs.Cache.{CacheValue}
use Rattle.machine_state.specs.Machine.{MachineValue, IsMachine}
use Rattle.machine_state.specs.State.{State, state_of}
use Rattle.object_parts.specs.Live.{live_store}
use Rattle.object_parts.specs.Table.{AreApart, Grows}
use Rattle.object_parts.proofs.Revived.{live_itself}
use Rattle.object_parts.proofs.Tables.{grown_get}
use Rattle.state_parts.specs.declared.key.Key.{Key}
use Rattle.state_parts.specs.Keys.{objects_of, values_of, Reads, store_by}
use Rattle.state_parts.specs.Looking.{IsTarget}
use Rattle.state_parts.specs.Standing.{StandingValue, standing_at, nowhere}
use Rattle.state_parts.specs.Space.{TablesValue, AreTables, Held, store_of, standing_of, state_in}
use Rattle.state_parts.specs.States.{tables_of, IsDesk, IsStanding}
use Rattle.state_parts.proofs.Brought.{reads_grown}
use Rattle.state_parts.proofs.Holding.{means_live}

module _ (z : Sizes) (names : List ObjectName) (T T' : List ObjectValue) (S S' : List StandingValue) (grows : Grows T T') (grows_too : Grows S S') (apart : AreApart T') (apart_too : AreApart S') where
  -- they are tables still
  pub tables_grown : AreTables (tables_of z names T S) → AreTables (tables_of z names T' S')
  tables_grown tables = record { names = tables.names; objects = apart; standings = apart_too }

  -- the desk has the same numbers
  pub desk_grown : (desk : Store) (at : List ℕ) → IsDesk (tables_of z names T S) desk at → IsDesk (tables_of z names T' S') desk at
  desk_grown desk at is = record { same = is.same; reads = reads_grown T T' at (objects_of names desk) grows is.reads; live = is.live; ranges = is.ranges }

  -- and so has who stands where
  pub standing_grown : (known : Option ℕ) (m : MachineValue CacheValue) → IsStanding (tables_of z names T S) known m → IsStanding (tables_of z names T' S') known m
  standing_grown known m is = record { each = λ n e. grown_get S S' n (standing_at m) grows_too (is.each n e) }

-- a standing that is known
pub standing_some : (t : TablesValue) (n : ℕ) (m : MachineValue CacheValue) → slice_get t.standings n ≡ Some (standing_at m) → IsStanding t (Some n) m
standing_some t n m at = record { each = λ k e. by k e }
  where
    by : (k : ℕ) → Some n ≡ Some k → slice_get t.standings k ≡ Some (standing_at m)
    by k e = let same : n ≡ k = cc in rw (← same) at

-- none is known
pub standing_none : (t : TablesValue) (m : MachineValue CacheValue) → IsStanding t None m
standing_none t m = record { each = λ k e. cc }

-- ---- going to a key

module _ (t : TablesValue) (key : Key) (held : Held t key) where
  -- the store to which its numbers lead
  pub target_of : (z : Sizes) → z ≡ t.sizes → IsTarget t.objects t.names key.parts.items z (store_by z t.names (values_of t.objects key.parts.items))
  target_of z same =
      let Target : Sizes → Type 0 = λ x. IsTarget t.objects t.names key.parts.items x (store_by x t.names (values_of t.objects key.parts.items)) in
      subst Target (sym same) (record { reads = held.reads; even = held.kept.even; sizes = held.kept.sizes })

  -- its standing
  pub standing_there : (standing : StandingValue) → slice_get t.standings key.standing ≡ Some standing → standing_of t key ≡ standing
  standing_there standing at = get_or_from_slice_get t.standings key.standing standing nowhere at

  -- it is that of a machine
  pub machine_of : (z : Sizes) (standing : StandingValue) → z ≡ t.sizes → slice_get t.standings key.standing ≡ Some standing → IsMachine (store_by z t.names (values_of t.objects key.parts.items)) standing.queues
  machine_of z standing same at =
      let Of : Sizes → Type 0 = λ x. IsMachine (store_by x t.names (values_of t.objects key.parts.items)) standing.queues in
      let By : StandingValue → Type 0 = λ x. IsMachine (store_of t key) x.queues in
      subst Of (sym same) (subst By (standing_there standing at) held.kept.machine)

  -- as a desk
  pub desk_of : IsDesk t (store_of t key) key.parts.items
  desk_of = record { same = held.kept.sizes; reads = held.reads; live = live_itself (store_of t key) held.kept.live; ranges = held.kept.ranges }

  -- a machine with it is in the state of the key
  pub state_there : (m : MachineValue CacheValue) (standing : StandingValue) → m.objects ≡ store_of t key → slice_get t.standings key.standing ≡ Some standing → m.queues ≡ standing.queues → m.halted ≡ standing.halted → state_of m ≡ state_in t key
  state_there m standing objects at queues halted = joined objects (queues ∙ ap (λ (x : StandingValue). x.queues) (sym (standing_there standing at))) (halted ∙ ap (λ (x : StandingValue). x.halted) (sym (standing_there standing at)))
    where
      by : Store → QueuesValue → Bool → State
      by store queues halted = record { store = state_map store; queues = queues; halted = halted }

      joined : m.objects ≡ store_of t key → m.queues ≡ (standing_of t key).queues → m.halted ≡ (standing_of t key).halted → by m.objects m.queues m.halted ≡ by (store_of t key) (standing_of t key).queues (standing_of t key).halted
      joined h1 h2 h3 = rw (h1, h2, h3) refl

-- a machine with a standing has it
pub standing_same : (m : MachineValue CacheValue) (standing : StandingValue) → m.queues ≡ standing.queues → m.halted ≡ standing.halted → standing_at m ≡ standing
standing_same m standing queues halted = joined queues halted
  where
    by : QueuesValue → Bool → StandingValue
    by queues halted = record { queues = queues; halted = halted }

    joined : m.queues ≡ standing.queues → m.halted ≡ standing.halted → by m.queues m.halted ≡ by standing.queues standing.halted
    joined h1 h2 = rw (h1, h2) refl

-- the same sizes, names and numbers give the same store
pub store_by_same : {z y : Sizes} {xs ys : List ObjectName} {ns ks : List ℕ} (T : List ObjectValue) → z ≡ y → xs ≡ ys → ns ≡ ks → store_by z xs (values_of T ns) ≡ store_by y ys (values_of T ks)
store_by_same T h1 h2 h3 = rw (h1, h2, h3) refl

-- a machine with the objects and the standing of a key is in its state
pub still_means : (t : TablesValue) (key : Key) (desk : Store) (at : List ℕ) (known : Option ℕ) (m : MachineValue CacheValue) → AreTables t → IsDesk t desk at → IsStanding t known m → IsEven m.objects → m.objects ≡ desk
    → at ≡ key.parts.items → known ≡ Some key.standing → state_of m ≡ state_in t key
still_means t key desk at known m tables is stands even objects same standing =
    let At : List ℕ → Type 0 = λ ns. Reads t.objects ns (objects_of t.names desk) in
    let On : Store → Type 0 = λ s. Reads t.objects key.parts.items (objects_of t.names s) in
    let live : live_store m.objects ≡ desk = ap (λ (s : Store). live_store s) objects ∙ is.live in
    sym (means_live t key m.objects (standing_at m) tables even (ap sizes_of objects ∙ is.same) (subst On (sym live) (subst At same is.reads)) (stands.each key.standing standing))
