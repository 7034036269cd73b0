-- Objects that are brought to a target, one after the other.
use Rattle.std.proofs.Common.{◌≡◌, ◌≢◌, ℕ, zero, suc, ◌<◌, ◌≤◌, ◌⊎◌, inl, inr, List, [], ◌∷◌, ◌++◌, map, get_or, length, slice_get, Some, refl, sym, ap, ◌∙◌, subst, arith}
use Rattle.cap_format.specs.declared.kind.CapKind.{CapKind}
use Rattle.cap_format.specs.declared.kind.CapKind.TheVariants.{Page, CapPage, Gpt, Endpoint, Process}
use Rattle.object_store.specs.Store.{Store, size_of, sizes_of}
use Rattle.object_store.specs.Object.{ObjectName, ObjectValue, object_name, object_at, with_object, SameObject, IsAmong, Stays, IsEven}
use Rattle.std.proofs.lemmas.Bool.{cases_eq}
use Rattle.object_store.proofs.Same.{object_at_with_object, object_at_with_object_here, even_with_object, sizes_with_object, size_in_store}
use Rattle.object_store.proofs.Restored.{size_of_same}
use Rattle.machine_state.proofs.Taken.{stays_taken, stays_none}
use Rattle.object_parts.specs.declared.part.Part.{Part}
use Rattle.object_parts.specs.declared.part.Part.TheVariants.{Page as PagePart, CapPage as CapPagePart, Gpt as GptPart, Process as ProcessPart, Endpoint as EndpointPart}
use Rattle.object_parts.specs.Objects.{object_in, kind_in}
use Rattle.state_parts.specs.Keys.{AreAll, named_in, objects_of, Reads}
use Rattle.std.proofs.lemmas.List.{map-append}
use Rattle.std.proofs.lemmas.List.Elements.{All-push}
use Rattle.object_parts.specs.Live.{IsInRanges}
use Rattle.object_parts.specs.Table.{Grows}
use Rattle.object_parts.proofs.Tables.{grown_get}
use Rattle.state_parts.specs.Looking.{kind_of, no_name, AreRanged}
use Rattle.state_parts.proofs.Whole.{named_or_past, past_same}

-- each object is as in one of two stores
pub record IsMixed (target before s : Store) : Type 0 where
  pub each : (kind : CapKind) (n : ℕ) → SameObject kind n target s ⊎ SameObject kind n before s

-- a part is of the kind of its object
pub kind_of_part : (p : Part) → kind_of (object_in p) ≡ kind_in p
kind_of_part (PagePart count page) = refl
kind_of_part (CapPagePart count page) = refl
kind_of_part (GptPart count gpt) = refl
kind_of_part (ProcessPart count process) = refl
kind_of_part (EndpointPart count endpoint) = refl

-- an object that is there is of its kind
pub kind_of_object : (s : Store) (kind : CapKind) (n : ℕ) → n < size_of s.items kind → kind_of (object_at s kind n) ≡ kind
kind_of_object s Page n there = refl
kind_of_object s CapPage n there = refl
kind_of_object s Gpt n there = refl
kind_of_object s Process n there = refl
kind_of_object s Endpoint n there = refl
kind_of_object s kind n there = absurd (omega (arith, there))

-- at first any object may differ
pub stays_all : (s t : Store) (names : List ObjectName) → IsEven s → IsEven t → sizes_of s ≡ sizes_of t → AreAll (sizes_of s) names → Stays names s t
stays_all s t names even even_too sizes all = record { same = λ kind n. by kind n (named_or_past s names kind n all) }
  where
    by : (kind : CapKind) (n : ℕ) → IsAmong kind n names ⊎ (size_of s.items kind ≤ n) → IsAmong kind n names ⊎ SameObject kind n s t
    by kind n (inl among) = inl among
    by kind n (inr past) = inr (past_same s t kind n even even_too sizes past)

-- an object that is as in the target is no longer among those that may differ
pub stays_same_one : (s t : Store) (kind : CapKind) (number : ℕ) (names : List ObjectName) → SameObject kind number s t → Stays (object_name kind number ∷ names) s t → Stays names s t
stays_same_one s t kind number names same stays = record { same = λ k n. by k n (stays.same k n) }
  where
    by : (k : CapKind) (n : ℕ) → IsAmong k n (object_name kind number ∷ names) ⊎ SameObject k n s t → IsAmong k n names ⊎ SameObject k n s t
    by k n (inl (inl here)) = inr (rw (here.0, here.1) same)
    by k n (inl (inr later)) = inl later
    by k n (inr same) = inr same

-- of two equal values both stores have it
pub same_mixed : (target before s : Store) (kind : CapKind) (n : ℕ) → IsMixed target before s → object_at before kind n ≡ object_at target kind n → SameObject kind n target s
same_mixed target before s kind n mixed same = by (mixed.each kind n)
  where
    by : SameObject kind n target s ⊎ SameObject kind n before s → SameObject kind n target s
    by (inl here) = here
    by (inr there) = sym same ∙ there

-- an object of the target in place of its own
pub mixed_put : (target before s : Store) (kind : CapKind) (number : ℕ) → IsEven s → number < size_of s.items kind → IsMixed target before s → IsMixed target before (with_object s number (object_at target kind number))
mixed_put target before s kind number even there mixed = record { each = λ k n. by k n (object_at_with_object s target kind number number k n) (mixed.each k n) }
  where
    by : (k : CapKind) (n : ℕ) → ((k ≡ kind) × (n ≡ number)) ⊎ SameObject k n (with_object s number (object_at target kind number)) s → SameObject k n target s ⊎ SameObject k n before s → SameObject k n target (with_object s number (object_at target kind number)) ⊎ SameObject k n before (with_object s number (object_at target kind number))
    by k n (inl here) old = inl (rw (here.0, here.1) (sym (object_at_with_object_here s target kind number number even there)))
    by k n (inr other) (inl same) = inl (same ∙ sym other)
    by k n (inr other) (inr same) = inr (same ∙ sym other)

-- what a number reads
pub reads_at : (table : List ObjectValue) (numbers : List ℕ) (names : List ObjectName) (s : Store) (k : ℕ) → k < length names → Reads table numbers (objects_of names s) → slice_get table (get_or numbers k 0) ≡ Some (named_in s (get_or names k no_name))
reads_at table numbers names s k within reads = by numbers names k within reads.each
  where
    by : (numbers : List ℕ) (names : List ObjectName) (k : ℕ) → k < length names → map (slice_get table) numbers ≡ map Some (objects_of names s) → slice_get table (get_or numbers k 0) ≡ Some (named_in s (get_or names k no_name))
    by numbers [] k within e = absurd (omega (arith, within))
    by [] (name ∷ names) k within e = cc
    by (i ∷ is) (name ∷ names) zero within e = cc
    by (i ∷ is) (name ∷ names) (suc k) within e = by is names k (omega (arith, within)) rest
      where
        rest : map (slice_get table) is ≡ map Some (objects_of names s)
        rest = cc

-- each object is that of the target, or as before and one of those to come
pub record IsBringing (names : List ObjectName) (target before s : Store) : Type 0 where
  pub left : Stays names target s
  pub mixed : IsMixed target before s
  pub even : IsEven s
  pub sizes : sizes_of s ≡ sizes_of before

-- one object more
pub bring_step : (T : List ObjectValue) (target before s t : Store) (kind : CapKind) (number : ℕ) (rest : List ObjectName) (i j : ℕ) → number < size_of s.items kind
    → slice_get T i ≡ Some (object_at before kind number) → slice_get T j ≡ Some (object_at target kind number)
    → (i ≡ j → t ≡ s) → ((i ≡ j → ⊥) → (x : ObjectValue) → slice_get T j ≡ Some x → t ≡ with_object s number x)
    → IsBringing (object_name kind number ∷ rest) target before s → IsBringing rest target before t
bring_step T target before s t kind number rest i j there reads_old reads_new stay put so = by (cases_eq i j)
  where
    kept : i ≡ j → IsBringing rest target before s
    kept same =
        let e : slice_get T i ≡ slice_get T j = ap (slice_get T) same in
        let value : object_at before kind number ≡ object_at target kind number = cc in
        record {
          left = stays_same_one target s kind number rest (same_mixed target before s kind number so.mixed value) so.left;
          mixed = so.mixed;
          even = so.even;
          sizes = so.sizes;
        }

    written : IsBringing rest target before (with_object s number (object_at target kind number))
    written = record {
      left = stays_taken target s kind number rest so.even there so.left;
      mixed = mixed_put target before s kind number so.even there so.mixed;
      even = even_with_object s number (object_at target kind number) so.even;
      sizes = sizes_with_object s number (object_at target kind number) ∙ so.sizes;
    }

    by : (i ≡ j) ⊎ (i ≢ j) → IsBringing rest target before t
    by (inl same) = rw (stay same) (kept same)
    by (inr other) = rw (put other (object_at target kind number) reads_new) written

-- an object that is named is there
pub there_in : (s t : Store) (names : List ObjectName) (kind : CapKind) (n : ℕ) → AreAll (sizes_of s) names → sizes_of t ≡ sizes_of s → IsAmong kind n names → n < size_of t.items kind
there_in s t names kind n all sizes among =
    let Below : ℕ → Type 0 = λ k. n < k in
    subst Below (sym (size_of_same t s sizes kind)) (subst Below (size_in_store s kind) (all.there kind n among))

-- at last all are those of the target
pub bring_end : (target before s : Store) → IsEven target → sizes_of target ≡ sizes_of before → IsBringing [] target before s → s ≡ target
bring_end target before s even sizes so = stays_none target s even so.even (so.sizes ∙ sym sizes) so.left

-- ---- numbers that are looked up

-- what is read stays where a table grows
pub reads_grown : (old new : List ObjectValue) (numbers : List ℕ) (objects : List ObjectValue) → Grows old new → Reads old numbers objects → Reads new numbers objects
reads_grown old new numbers objects grows reads = record { each = by numbers objects reads.each }
  where
    by : (numbers : List ℕ) (objects : List ObjectValue) → map (slice_get old) numbers ≡ map Some objects → map (slice_get new) numbers ≡ map Some objects
    by [] [] e = refl
    by [] (x ∷ xs) e = cc
    by (i ∷ is) [] e = cc
    by (i ∷ is) (x ∷ xs) e = joined (grown_get old new i x grows first) (by is xs rest)
      where
        first : slice_get old i ≡ Some x
        first = cc

        rest : map (slice_get old) is ≡ map Some xs
        rest = cc

        joined : slice_get new i ≡ Some x → map (slice_get new) is ≡ map Some xs → slice_get new i ∷ map (slice_get new) is ≡ Some x ∷ map Some xs
        joined h t = rw (h, t) refl

-- one number more
pub reads_push : (table : List ObjectValue) (numbers : List ℕ) (names : List ObjectName) (s : Store) (i : ℕ) (name : ObjectName) → Reads table numbers (objects_of names s) → slice_get table i ≡ Some (named_in s name) → Reads table (numbers ++ i ∷ []) (objects_of (names ++ name ∷ []) s)
reads_push table numbers names s i name reads last = record {
  each =
      map-append (slice_get table) numbers (i ∷ [])
      ∙ ap (λ front. front ++ slice_get table i ∷ []) reads.each
      ∙ ap (λ x. map Some (objects_of names s) ++ x ∷ []) last
      ∙ sym (ap (map Some) (map-append (named_in s) names (name ∷ [])) ∙ map-append Some (objects_of names s) (named_in s name ∷ []));
}

-- one object more is in its ranges
pub ranged_push : (names : List ObjectName) (s : Store) (name : ObjectName) → AreRanged (objects_of names s) → IsInRanges (named_in s name) → AreRanged (objects_of (names ++ name ∷ []) s)
ranged_push names s name all last = record { each = rw (map-append (named_in s) names (name ∷ [])) (All-push IsInRanges (objects_of names s) (named_in s name) all.each last) }
