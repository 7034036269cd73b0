-- Keys are equal exactly where they stand for the same state, and tables that grow leave each key its state.
use Rattle.std.proofs.Common.{◌≡◌, ℕ, Bool, List, [], ◌∷◌, map, get_or, slice_get, Some, refl, sym, ap, ◌∙◌, subst}
use Rattle.std.specs.Bool.{Decides, one_answer}
use Rattle.std.proofs.lemmas.Option.{slice_get-get_or, slice_get_within, get_or_from_slice_get}
use Rattle.object_store.specs.declared.sizes.Sizes.{Sizes}
use Rattle.object_store.specs.Store.{Store}
use Rattle.object_store.specs.Meaning.{state_map}
use Rattle.object_store.specs.Object.{ObjectName, ObjectValue}
use Rattle.schedules.specs.Queues.{QueuesValue}
use Rattle.machine_state.specs.State.{State}
use Rattle.object_parts.specs.Table.{AreApart}
use Rattle.object_parts.proofs.Tables.{grown_get}
use Rattle.object_parts.proofs.Revived.{same_meaning}
use Rattle.state_parts.specs.declared.key.Key.{Key}
use Rattle.state_parts.specs.Key.{KeyValue, same_key}
use Rattle.state_parts.specs.KeyLaws.{key_in, key_decides}
use Rattle.state_parts.specs.Keys.{objects_of, values_of, Reads, store_by}
use Rattle.state_parts.specs.Same.{same_state}
use Rattle.state_parts.specs.SameLaws.{state_decides}
use Rattle.state_parts.specs.Standing.{StandingValue, nowhere}
use Rattle.state_parts.specs.Space.{TablesValue, IsKept, Held, store_of, standing_of, state_in}
use Rattle.state_parts.specs.States.{GrowTables}
use Rattle.state_parts.proofs.Whole.{values_read}
use Rattle.state_parts.proofs.Brought.{reads_grown}

-- ---- keys of one state

-- numbers of the same values are the same, where no value has two
numbers_apart : (table : List ObjectValue) (is js : List ℕ) (xs : List ObjectValue) → AreApart table → map (slice_get table) is ≡ map Some xs → map (slice_get table) js ≡ map Some xs → is ≡ js
numbers_apart table [] [] xs apart first second = refl
numbers_apart table [] (j ∷ js) [] apart first second = cc
numbers_apart table [] (j ∷ js) (x ∷ xs) apart first second = cc
numbers_apart table (i ∷ is) [] [] apart first second = cc
numbers_apart table (i ∷ is) [] (x ∷ xs) apart first second = cc
numbers_apart table (i ∷ is) (j ∷ js) [] apart first second = cc
numbers_apart table (i ∷ is) (j ∷ js) (x ∷ xs) apart first second = joined (apart.each i j x here there) (numbers_apart table is js xs apart rest rest_too)
  where
    here : slice_get table i ≡ Some x
    here = cc

    there : slice_get table j ≡ Some x
    there = cc

    rest : map (slice_get table) is ≡ map Some xs
    rest = cc

    rest_too : map (slice_get table) js ≡ map Some xs
    rest_too = cc

    joined : i ≡ j → is ≡ js → i ∷ is ≡ j ∷ js
    joined h t = rw (h, t) refl

-- keys of the same numbers stand for the same state
same_in : (t : TablesValue) (a b : Key) → key_in a ≡ key_in b → state_in t a ≡ state_in t b
same_in t a b same = ap by same
  where
    by : KeyValue → State
    by k = record {
      store = state_map (store_by t.sizes t.names (values_of t.objects k.parts));
      queues = (get_or t.standings k.standing nowhere).queues;
      halted = (get_or t.standings k.standing nowhere).halted;
    }

-- keys that stand for the same state have the same numbers
same_numbered : (t : TablesValue) (a b : Key) → Held t a → Held t b → state_in t a ≡ state_in t b → key_in a ≡ key_in b
same_numbered t a b held held_too same = joined parts stands
  where
    store : store_of t a ≡ store_of t b
    store = same_meaning (store_of t a) (store_of t b) held.kept.live held_too.kept.live held.kept.ranges held_too.kept.ranges (ap (λ (s : State). s.store) same)

    parts : a.parts.items ≡ b.parts.items
    parts =
        let ReadsOf : Store → Type 0 = λ s. Reads t.objects b.parts.items (objects_of t.names s) in
        let other : Reads t.objects b.parts.items (objects_of t.names (store_of t a)) = subst ReadsOf (sym store) held_too.reads in
        numbers_apart t.objects a.parts.items b.parts.items (objects_of t.names (store_of t a)) held.tables.objects held.reads.each other.each

    whole : (x y : StandingValue) → x.queues ≡ y.queues → x.halted ≡ y.halted → x ≡ y
    whole x y h e = by h e
      where
        stood_by : QueuesValue → Bool → StandingValue
        stood_by queues halted = record { queues = queues; halted = halted }

        by : x.queues ≡ y.queues → x.halted ≡ y.halted → stood_by x.queues x.halted ≡ stood_by y.queues y.halted
        by h e = rw (h, e) refl

    stood : standing_of t a ≡ standing_of t b
    stood = whole (standing_of t a) (standing_of t b) (ap (λ (s : State). s.queues) same) (ap (λ (s : State). s.halted) same)

    stands : a.standing ≡ b.standing
    stands =
        held.tables.standings.each a.standing b.standing (standing_of t a)
        (slice_get-get_or t.standings a.standing nowhere held.standing)
        (slice_get-get_or t.standings b.standing nowhere held_too.standing ∙ ap Some (sym stood))

    joined : a.parts.items ≡ b.parts.items → a.standing ≡ b.standing → key_in a ≡ key_in b
    joined h e = rw (h, e) refl

-- equality of keys that stand for states is that of the states
pub keys_alike : (t : TablesValue) (a b : Key) → Held t a → Held t b → same_key (key_in a) (key_in b) ≡ same_state (state_in t a) (state_in t b)
keys_alike t a b held held_too = one_answer (same_key (key_in a) (key_in b)) (same_state (state_in t a) (state_in t b)) keys (state_decides (state_in t a) (state_in t b))
  where
    keys : Decides (same_key (key_in a) (key_in b)) (state_in t a ≡ state_in t b)
    keys = (λ e. same_in t a b ((key_decides (key_in a) (key_in b)).0 e), λ e. (key_decides (key_in a) (key_in b)).1 (same_numbered t a b held held_too e))

-- ---- tables that grow

module _ (old new : TablesValue) (key : Key) (grows : GrowTables old new) (held : Held old key) where
  reads_new : Reads new.objects key.parts.items (objects_of old.names (store_of old key))
  reads_new = reads_grown old.objects new.objects key.parts.items (objects_of old.names (store_of old key)) grows.objects held.reads

  same_values : values_of new.objects key.parts.items ≡ values_of old.objects key.parts.items
  same_values =
      values_read new.objects key.parts.items (objects_of old.names (store_of old key)) reads_new.each
      ∙ sym (values_read old.objects key.parts.items (objects_of old.names (store_of old key)) held.reads.each)

  same_store_of : store_of new key ≡ store_of old key
  same_store_of = joined grows.sizes grows.names same_values
    where
      joined : {z : Sizes} {names : List ObjectName} {xs : List ObjectValue} → z ≡ old.sizes → names ≡ old.names → xs ≡ values_of old.objects key.parts.items → store_by z names xs ≡ store_by old.sizes old.names (values_of old.objects key.parts.items)
      joined h1 h2 h3 = rw (h1, h2, h3) refl

  there_new : slice_get new.standings key.standing ≡ Some (standing_of old key)
  there_new = grown_get old.standings new.standings key.standing (standing_of old key) grows.standings (slice_get-get_or old.standings key.standing nowhere held.standing)

  same_standing_of : standing_of new key ≡ standing_of old key
  same_standing_of = get_or_from_slice_get new.standings key.standing (standing_of old key) nowhere there_new

  -- a key that stood for a state still does
  pub held_grown : Held new key
  held_grown =
      let ReadsOf : Store → Type 0 = λ s. Reads new.objects key.parts.items (objects_of old.names s) in
      let ReadsBy : List ObjectName → Type 0 = λ names. Reads new.objects key.parts.items (objects_of names (store_of new key)) in
      let KeptIn : Sizes → Type 0 = λ z. IsKept z (store_of old key) (standing_of old key) in
      let KeptOf : Store → Type 0 = λ s. IsKept new.sizes s (standing_of old key) in
      let KeptAs : StandingValue → Type 0 = λ x. IsKept new.sizes (store_of new key) x in
      record {
        tables = grows.tables;
        reads = subst ReadsBy (sym grows.names) (subst ReadsOf (sym same_store_of) reads_new);
        standing = slice_get_within new.standings key.standing (standing_of old key) there_new;
        kept = subst KeptAs (sym same_standing_of) (subst KeptOf (sym same_store_of) (subst KeptIn (sym grows.sizes) held.kept));
      }

  -- and it is the same one
  pub state_grown : state_in new key ≡ state_in old key
  state_grown = joined same_store_of same_standing_of
    where
      by : Store → StandingValue → State
      by store x = record { store = state_map store; queues = x.queues; halted = x.halted }

      joined : store_of new key ≡ store_of old key → standing_of new key ≡ standing_of old key → by (store_of new key) (standing_of new key) ≡ by (store_of old key) (standing_of old key)
      joined h e = rw (h, e) refl
