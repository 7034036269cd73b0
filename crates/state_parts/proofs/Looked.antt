-- Numbers that are found for objects, one after the other.
use Rattle.std.proofs.Common.{◌≡◌, ◌≢◌, ◌<◌, ◌⊎◌, inl, inr, ◌++◌, ◌∷◌, [], ℕ, suc, ◌+◌, List, map, take, length, get_or, slice_get, Some, refl, ap, ◌∙◌, arith}
use Rattle.std.proofs.lemmas.List.{get_or-map, length-map, take_more}
use Rattle.std.proofs.lemmas.List.Elements.{All-cons}
use Rattle.std.proofs.lemmas.Bool.{cases_eq}
use Rattle.cap_format.specs.declared.kind.CapKind.TheVariants.{Null}
use Rattle.cap_format.specs.Kind.{number_of}
use Rattle.cap_format.proofs.KindNumbers.{kind_of_number}
use Rattle.object_store.specs.Store.{Store}
use Rattle.object_store.specs.Object.{ObjectName, ObjectValue, object_name, IsAmong}
use Rattle.machine_state.specs.declared.taking.Name.{Name}
use Rattle.machine_state.specs.Taking.{name_of, names_of}
use Rattle.machine_state.proofs.Taken.{name_by}
use Rattle.object_parts.specs.Table.{Grows}
use Rattle.object_parts.specs.Live.{IsInRanges}
use Rattle.object_parts.proofs.Tables.{grown_twice, grown_get}
use Rattle.state_parts.specs.Keys.{named_in, objects_of, Reads}
use Rattle.state_parts.specs.Looking.{no_name, AreKnown, AreRanged, IsPut, ReadsLive}
use Rattle.state_parts.proofs.Brought.{reads_grown, reads_push, ranged_push}

-- the numbers of the first objects are found
pub record AreFound (old table : List ObjectValue) (found : List ℕ) (names : List Name) (s : Store) (i : ℕ) : Type 0 where
  pub grows : Grows old table
  pub reads : Reads table found (objects_of (take i (names_of names)) s)
  pub ranged : AreRanged (objects_of (take i (names_of names)) s)

-- the number of one more
pub found_more : (old table grown : List ObjectValue) (found : List ℕ) (names : List Name) (s : Store) (i number : ℕ) → i < length names → AreFound old table found names s i → Grows table grown
    → ReadsLive grown s (name_of (get_or names i (name_by Null 0))) number → AreFound old grown (found ++ number ∷ []) names s (i + 1)
found_more old table grown found names s i number within before grows one =
    let name = name_of (get_or names i (name_by Null 0)) in
    let at : get_or (names_of names) i no_name ≡ name = get_or-map name_of names i (name_by Null 0) no_name within in
    let there : i < length (names_of names) = rw (length-map names name_of) within in
    let front : take (i + 1) (names_of names) ≡ take i (names_of names) ++ name ∷ [] = take_more (names_of names) i no_name there ∙ ap (λ (x : ObjectName). take i (names_of names) ++ x ∷ []) at in
    record {
      grows = grown_twice old table grown before.grows grows;
      reads = rw front (reads_push grown found (take i (names_of names)) s number name (reads_grown table grown found (objects_of (take i (names_of names)) s) grows before.reads) one.value);
      ranged = rw front (ranged_push (take i (names_of names)) s name before.ranged one.ranges);
    }

-- ---- numbers that are written in place of others

-- a name is another, or it isn't
same_name : (a b : ObjectName) → (a ≡ b) ⊎ (a ≢ b)
same_name a b = by (cases_eq (number_of a.kind) (number_of b.kind)) (cases_eq a.number b.number)
  where
    whole : a.kind ≡ b.kind → a.number ≡ b.number → object_name a.kind a.number ≡ object_name b.kind b.number
    whole k n = rw (k, n) refl

    by : (number_of a.kind ≡ number_of b.kind) ⊎ (number_of a.kind ≢ number_of b.kind) → (a.number ≡ b.number) ⊎ (a.number ≢ b.number) → (a ≡ b) ⊎ (a ≢ b)
    by (inr k) n = inr (λ e. k (ap (λ (x : ObjectName). number_of x.kind) e))
    by (inl k) (inr n) = inr (λ e. n (ap (λ (x : ObjectName). x.number) e))
    by (inl k) (inl n) = inl (whole (kind_of_number a.kind b.kind k) n)

-- numbers of which those are known whose objects aren't among these that are to come
pub record AreGiven (old table : List ObjectValue) (s : Store) (changed names : List ObjectName) (found : List ℕ) : Type 0 where
  pub grows : Grows old table
  pub many : length found ≡ length names
  pub known : AreKnown table s changed names found

-- what a number stands for stays where the table grows
reads_more : (table grown : List ObjectValue) (s : Store) (name : ObjectName) (number : ℕ) → Grows table grown → ReadsLive table s name number → ReadsLive grown s name number
reads_more table grown s name number grows one = record { value = grown_get table grown number (named_in s name) grows one.value; ranges = one.ranges }

-- the number of one of them was found, and written wherever it has to
pub given_more : (old table grown : List ObjectValue) (s : Store) (name : ObjectName) (rest names : List ObjectName) (found put : List ℕ) (number : ℕ)
    → AreGiven old table s (name ∷ rest) names found → Grows table grown → ReadsLive grown s name number → IsPut names name number found put → AreGiven old grown s rest names put
given_more old table grown s name rest names found put number given grows one is = record {
  grows = grown_twice old table grown given.grows grows;
  many = is.many ∙ given.many;
  known = record { each = λ k within. record { known = by k within (same_name (get_or names k no_name) name) (given.known.each k within).known } };
}
  where
    Here : ℕ → Type 0
    Here k = IsAmong (get_or names k no_name).kind (get_or names k no_name).number rest ⊎ ReadsLive grown s (get_or names k no_name) (get_or put k 0)

    found_here : (k : ℕ) → k < length names → get_or names k no_name ≡ name → ReadsLive grown s (get_or names k no_name) (get_or put k 0)
    found_here k within same = rw (same, is.here k within same) one

    other : (k : ℕ) → k < length names → (get_or names k no_name ≡ name → ⊥) → IsAmong (get_or names k no_name).kind (get_or names k no_name).number (name ∷ rest) ⊎ ReadsLive table s (get_or names k no_name) (get_or found k 0) → Here k
    other k within apart (inl (inl at)) = absurd (apart (named at.0 at.1))
      where
        named : (get_or names k no_name).kind ≡ name.kind → (get_or names k no_name).number ≡ name.number → object_name (get_or names k no_name).kind (get_or names k no_name).number ≡ object_name name.kind name.number
        named a b = rw (a, b) refl
    other k within apart (inl (inr later)) = inl later
    other k within apart (inr reads) = inr (rw (is.others k (λ below same. apart same)) (reads_more table grown s (get_or names k no_name) (get_or found k 0) grows reads))

    by : (k : ℕ) → k < length names → (get_or names k no_name ≡ name) ⊎ (get_or names k no_name ≡ name → ⊥) → IsAmong (get_or names k no_name).kind (get_or names k no_name).number (name ∷ rest) ⊎ ReadsLive table s (get_or names k no_name) (get_or found k 0) → Here k
    by k within (inl same) before = inr (found_here k within same)
    by k within (inr apart) before = other k within apart before

-- at last each is known
pub given_all : (table : List ObjectValue) (s : Store) (names : List ObjectName) (found : List ℕ) → length found ≡ length names → AreKnown table s [] names found → Reads table found (objects_of names s) × AreRanged (objects_of names s)
given_all table s [] [] many known = (record { each = refl }, record { each = λ i d within. absurd (omega (arith, within)) })
given_all table s [] (i ∷ is) many known = absurd (omega (arith, many))
given_all table s (name ∷ names) [] many known = absurd (omega (arith, many))
given_all table s (name ∷ names) (i ∷ is) many known = joined (first (known.each 0 (omega arith)).known) (given_all table s names is (omega (arith, many)) rest)
  where
    rest : AreKnown table s [] names is
    rest = record { each = λ k within. known.each (suc k) (omega (arith, within)) }

    first : IsAmong name.kind name.number [] ⊎ ReadsLive table s name i → ReadsLive table s name i
    first (inl none) = elim none [ ]
    first (inr reads) = reads

    value : slice_get table i ≡ Some (named_in s name) → map (slice_get table) is ≡ map Some (objects_of names s) → slice_get table i ∷ map (slice_get table) is ≡ Some (named_in s name) ∷ map Some (objects_of names s)
    value h t = rw (h, t) refl

    joined : ReadsLive table s name i → Reads table is (objects_of names s) × AreRanged (objects_of names s) → Reads table (i ∷ is) (named_in s name ∷ objects_of names s) × AreRanged (named_in s name ∷ objects_of names s)
    joined one all = (record { each = value one.value all.0.each }, record { each = All-cons IsInRanges (named_in s name) (objects_of names s) one.ranges all.1.each })
