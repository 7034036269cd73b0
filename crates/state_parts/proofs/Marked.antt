-- Names that are marked, and the names of all objects.
use Rattle.std.proofs.Common.{◌≡◌, ◌≢◌, ℕ, zero, suc, ◌+◌, ◌<◌, ◌⊎◌, inl, inr, List, [], ◌∷◌, ◌++◌, take, get_or, length, refl, sym, ap, ◌∙◌, subst, arith}
use Rattle.std.proofs.lemmas.Bool.{cases_eq}
use Rattle.std.proofs.lemmas.List.{map-append, take_more, get_or-map, length-map}
use Rattle.cap_format.specs.declared.kind.CapKind.{CapKind}
use Rattle.cap_format.specs.declared.kind.CapKind.TheVariants.{Page, CapPage, Gpt, Endpoint, Process}
use Rattle.object_store.specs.declared.sizes.Sizes.{Sizes}
use Rattle.object_store.specs.Sizes.{size_in}
use Rattle.object_store.specs.Object.{ObjectName, object_name, IsAmong}
use Rattle.object_store.proofs.Stays.{among_front, among_back}
use Rattle.machine_state.specs.declared.taking.Name.{Name}
use Rattle.machine_state.specs.Taking.{name_of, names_of}
use Rattle.state_parts.specs.Keys.{AreAll, in_order, numbered}
use Rattle.object_store.specs.Store.{Store, size_of, count_of}
use Rattle.event_reach.specs.Reach.{Covers}
use Rattle.state_parts.specs.Looking.{no_name, HasAll, IsMore, IsMarked, AreMarked}
use Rattle.state_parts.specs.Marking.{AddsThere, HasProcesses, HasThere, HaveCounts}
use Rattle.state_parts.proofs.Once.{among_split, numbered_there, once_push, once_all}

-- the names of a list and of one more
pub names_push : (names : List Name) (name : Name) → names_of (names ++ name ∷ []) ≡ names_of names ++ name_of name ∷ []
names_push names name = map-append name_of names (name ∷ [])

-- ---- more names

-- none more
pub more_none : (names marked : List ObjectName) → IsMore names marked marked
more_none names marked = record { before = λ kind n here. here; among = λ kind n here. inl here; once = λ has. has }

-- one more
pub more_push : (kind : CapKind) (number : ℕ) (marked : List Name) → (IsAmong kind number (names_of marked) → ⊥) → IsMore (object_name kind number ∷ []) (names_of marked) (names_of (marked ++ record { kind = kind; number = number } ∷ []))
more_push kind number marked new = rw (names_push marked (record { kind = kind; number = number })) (record {
  before = λ k n here. among_front k n (names_of marked) (object_name kind number ∷ []) here;
  among = λ k n here. among_split k n (names_of marked) (object_name kind number ∷ []) here;
  once = once_push kind number (names_of marked) new;
})

-- it is there then
pub has_push : (kind : CapKind) (number : ℕ) (marked : List Name) → HasAll (object_name kind number ∷ []) (names_of (marked ++ record { kind = kind; number = number } ∷ []))
has_push kind number marked = rw (names_push marked (record { kind = kind; number = number })) (record { each = λ k n here. among_back k n (names_of marked) (object_name kind number ∷ []) here })

-- one that is among them
pub has_one : (kind : CapKind) (number : ℕ) (marked : List ObjectName) → IsAmong kind number marked → HasAll (object_name kind number ∷ []) marked
has_one kind number marked among = record { each = by }
  where
    by : (k : CapKind) (n : ℕ) → IsAmong k n (object_name kind number ∷ []) → IsAmong k n marked
    by k n (inl here) = rw (here.0, here.1) among
    by k n (inr none) = elim none [ ]

-- a name that is among them is marked
pub marks_has : (kind : CapKind) (number old new : ℕ) (marked : List ObjectName) → HasAll (object_name kind number ∷ []) marked → IsMarked (object_name kind number) old new marked
marks_has kind number old new marked has = record { marks = inl (has.each kind number (inl (refl, refl))) }

-- the name at a place is among them
pub among_at : (names : List ObjectName) (i : ℕ) (d : ObjectName) → i < length names → IsAmong (get_or names i d).kind (get_or names i d).number names
among_at [] i d within = absurd (omega (arith, within))
among_at (name ∷ names) zero d within = inl (refl, refl)
among_at (name ∷ names) (suc i) d within = inr (among_at names i d (omega (arith, within)))

-- so is that of the list from which they are
pub named_at : (names : List Name) (i : ℕ) (d : Name) → i < length names → IsAmong (get_or names i d).kind (get_or names i d).number (names_of names)
named_at names i d within =
    let Named : ObjectName → Type 0 = λ name. IsAmong name.kind name.number (names_of names) in
    subst Named (get_or-map name_of names i d (name_of d) within) (among_at (names_of names) i (name_of d) (rw (length-map names name_of) within))

-- the same by the parts of the name
pub named_by : (names : List Name) (i : ℕ) (d : Name) (kind : CapKind) (number : ℕ) → i < length names → (get_or names i d).kind ≡ kind → (get_or names i d).number ≡ number → IsAmong kind number (names_of names)
named_by names i d kind number within k n = rw (← k, ← n) (named_at names i d within)

-- more names of which each is one of these
pub more_then : (names : List ObjectName) (kind : CapKind) (number : ℕ) (a b c : List ObjectName) → IsAmong kind number names → IsMore names a b → IsMore (object_name kind number ∷ []) b c → IsMore names a c
more_then names kind number a b c named first second = record {
  before = λ k n here. second.before k n (first.before k n here);
  among = λ k n here. by k n (second.among k n here);
  once = λ has. second.once (first.once has);
}
  where
    by : (k : CapKind) (n : ℕ) → IsAmong k n b ⊎ IsAmong k n (object_name kind number ∷ []) → IsAmong k n a ⊎ IsAmong k n names
    by k n (inl old) = first.among k n old
    by k n (inr (inl here)) = inr (rw (here.0, here.1) named)
    by k n (inr (inr none)) = elim none [ ]

-- one more is marked
pub marked_more : (names : List ObjectName) (old new : List ℕ) (a b : List ObjectName) (i : ℕ) → ((kind : CapKind) (n : ℕ) → IsAmong kind n a → IsAmong kind n b) → AreMarked i names old new a → IsMarked (get_or names i no_name) (get_or old i 0) (get_or new i 0) b → AreMarked (i + 1) names old new b
marked_more names old new a b i later marked one = record { each = λ k below. by k below (cases_eq k i) }
  where
    At : ℕ → Type 0
    At k = IsAmong (get_or names k no_name).kind (get_or names k no_name).number b ⊎ (get_or old k 0 ≡ get_or new k 0)

    grown : (k : ℕ) → IsAmong (get_or names k no_name).kind (get_or names k no_name).number a ⊎ (get_or old k 0 ≡ get_or new k 0) → IsAmong (get_or names k no_name).kind (get_or names k no_name).number b ⊎ (get_or old k 0 ≡ get_or new k 0)
    grown k (inl here) = inl (later (get_or names k no_name).kind (get_or names k no_name).number here)
    grown k (inr same) = inr same

    by : (k : ℕ) → k < i + 1 → (k ≡ i) ⊎ (k ≢ i) → IsAmong (get_or names k no_name).kind (get_or names k no_name).number b ⊎ (get_or old k 0 ≡ get_or new k 0)
    by k below (inl here) = rw here one.marks
    by k below (inr other) = grown k (marked.each k (omega (arith, below, other)))

-- ---- all names

-- a number of a kind is named
among_numbered : (kind : CapKind) (count n : ℕ) → n < count → IsAmong kind n (numbered kind count)
among_numbered kind zero n there = absurd (omega (arith, there))
among_numbered kind (suc count) n there = by (cases_eq n count) (among_numbered kind count n)
  where
    by : (n ≡ count) ⊎ (n ≢ count) → (n < count → IsAmong kind n (numbered kind count)) → IsAmong kind n (numbered kind (suc count))
    by (inl last) before = among_back kind n (numbered kind count) (object_name kind count ∷ []) (inl (refl, last))
    by (inr other) before = among_front kind n (numbered kind count) (object_name kind count ∷ []) (before (omega (arith, there, other)))

-- the names of the five kinds are all there are
pub all_numbered : (sizes : Sizes) → AreAll sizes (in_order sizes)
all_numbered sizes = record { all = all; there = there; order = refl; once = once_all sizes.pages sizes.cappages sizes.gpts sizes.processes sizes.endpoints }
  where
    all : (kind : CapKind) (n : ℕ) → n < size_in sizes kind → IsAmong kind n (in_order sizes)
    all Page n within = among_front Page n ([] ++ numbered Page sizes.pages ++ numbered CapPage sizes.cappages ++ numbered Gpt sizes.gpts ++ numbered Process sizes.processes) (numbered Endpoint sizes.endpoints) (among_front Page n ([] ++ numbered Page sizes.pages ++ numbered CapPage sizes.cappages ++ numbered Gpt sizes.gpts) (numbered Process sizes.processes) (among_front Page n ([] ++ numbered Page sizes.pages ++ numbered CapPage sizes.cappages) (numbered Gpt sizes.gpts) (among_front Page n ([] ++ numbered Page sizes.pages) (numbered CapPage sizes.cappages) (among_numbered Page sizes.pages n within))))
    all CapPage n within = among_front CapPage n ([] ++ numbered Page sizes.pages ++ numbered CapPage sizes.cappages ++ numbered Gpt sizes.gpts ++ numbered Process sizes.processes) (numbered Endpoint sizes.endpoints) (among_front CapPage n ([] ++ numbered Page sizes.pages ++ numbered CapPage sizes.cappages ++ numbered Gpt sizes.gpts) (numbered Process sizes.processes) (among_front CapPage n ([] ++ numbered Page sizes.pages ++ numbered CapPage sizes.cappages) (numbered Gpt sizes.gpts) (among_back CapPage n ([] ++ numbered Page sizes.pages) (numbered CapPage sizes.cappages) (among_numbered CapPage sizes.cappages n within))))
    all Gpt n within = among_front Gpt n ([] ++ numbered Page sizes.pages ++ numbered CapPage sizes.cappages ++ numbered Gpt sizes.gpts ++ numbered Process sizes.processes) (numbered Endpoint sizes.endpoints) (among_front Gpt n ([] ++ numbered Page sizes.pages ++ numbered CapPage sizes.cappages ++ numbered Gpt sizes.gpts) (numbered Process sizes.processes) (among_back Gpt n ([] ++ numbered Page sizes.pages ++ numbered CapPage sizes.cappages) (numbered Gpt sizes.gpts) (among_numbered Gpt sizes.gpts n within)))
    all Process n within = among_front Process n ([] ++ numbered Page sizes.pages ++ numbered CapPage sizes.cappages ++ numbered Gpt sizes.gpts ++ numbered Process sizes.processes) (numbered Endpoint sizes.endpoints) (among_back Process n ([] ++ numbered Page sizes.pages ++ numbered CapPage sizes.cappages ++ numbered Gpt sizes.gpts) (numbered Process sizes.processes) (among_numbered Process sizes.processes n within))
    all Endpoint n within = among_back Endpoint n ([] ++ numbered Page sizes.pages ++ numbered CapPage sizes.cappages ++ numbered Gpt sizes.gpts ++ numbered Process sizes.processes) (numbered Endpoint sizes.endpoints) (among_numbered Endpoint sizes.endpoints n within)
    all kind n within = absurd (omega (arith, within))

    of_kind : (kind k : CapKind) (count n : ℕ) → size_in sizes kind ≡ count → IsAmong k n (numbered kind count) → n < size_in sizes k
    of_kind kind k count n size among =
        let is = numbered_there kind k count n among in
        let Below : CapKind → Type 0 = λ x. n < size_in sizes x in
        subst Below (sym is.0) (subst (λ (m : ℕ). n < m) (sym size) is.1)

    there : (kind : CapKind) (n : ℕ) → IsAmong kind n (in_order sizes) → n < size_in sizes kind
    there k n among = five (among_split k n ([] ++ numbered Page sizes.pages ++ numbered CapPage sizes.cappages ++ numbered Gpt sizes.gpts ++ numbered Process sizes.processes) (numbered Endpoint sizes.endpoints) among)
      where
        two : IsAmong k n ([] ++ numbered Page sizes.pages) ⊎ IsAmong k n (numbered CapPage sizes.cappages) → n < size_in sizes k
        two (inl before) = of_kind Page k sizes.pages n refl before
        two (inr here) = of_kind CapPage k sizes.cappages n refl here

        three : IsAmong k n ([] ++ numbered Page sizes.pages ++ numbered CapPage sizes.cappages) ⊎ IsAmong k n (numbered Gpt sizes.gpts) → n < size_in sizes k
        three (inl before) = two (among_split k n ([] ++ numbered Page sizes.pages) (numbered CapPage sizes.cappages) before)
        three (inr here) = of_kind Gpt k sizes.gpts n refl here

        four : IsAmong k n ([] ++ numbered Page sizes.pages ++ numbered CapPage sizes.cappages ++ numbered Gpt sizes.gpts) ⊎ IsAmong k n (numbered Process sizes.processes) → n < size_in sizes k
        four (inl before) = three (among_split k n ([] ++ numbered Page sizes.pages ++ numbered CapPage sizes.cappages) (numbered Gpt sizes.gpts) before)
        four (inr here) = of_kind Process k sizes.processes n refl here

        five : IsAmong k n ([] ++ numbered Page sizes.pages ++ numbered CapPage sizes.cappages ++ numbered Gpt sizes.gpts ++ numbered Process sizes.processes) ⊎ IsAmong k n (numbered Endpoint sizes.endpoints) → n < size_in sizes k
        five (inl before) = four (among_split k n ([] ++ numbered Page sizes.pages ++ numbered CapPage sizes.cappages ++ numbered Gpt sizes.gpts) (numbered Process sizes.processes) before)
        five (inr here) = of_kind Endpoint k sizes.endpoints n refl here

-- ---- marked before an event

module _ (s : Store) where
  -- nothing is added
  pub adds_none : (marked : List ObjectName) → AddsThere s marked marked
  adds_none marked = record { before = λ kind n here. here; there = λ kind n here. inl here; once = λ has. has }

  -- one that is there
  pub adds_one : (kind : CapKind) (number : ℕ) (old new : List ObjectName) → number < size_of s.items kind → IsMore (object_name kind number ∷ []) old new → AddsThere s old new
  adds_one kind number old new there more = record { before = more.before; there = λ k n here. by k n (more.among k n here); once = more.once }
    where
      by : (k : CapKind) (n : ℕ) → IsAmong k n old ⊎ IsAmong k n (object_name kind number ∷ []) → IsAmong k n old ⊎ (n < size_of s.items k)
      by k n (inl before) = inl before
      by k n (inr (inl here)) = inr (rw (here.0, here.1) there)
      by k n (inr (inr none)) = elim none [ ]

  -- one after the other
  pub adds_then : (a b c : List ObjectName) → AddsThere s a b → AddsThere s b c → AddsThere s a c
  adds_then a b c first second = record { before = λ k n here. second.before k n (first.before k n here); there = λ k n here. by k n (second.there k n here); once = λ has. second.once (first.once has) }
    where
      by : (k : CapKind) (n : ℕ) → IsAmong k n b ⊎ (n < size_of s.items k) → IsAmong k n a ⊎ (n < size_of s.items k)
      by k n (inl before) = first.there k n before
      by k n (inr there) = inr there

  -- what is marked stays so
  pub has_then : (names old new : List ObjectName) → AddsThere s old new → HasThere s names old → HasThere s names new
  has_then names old new adds has = record { each = λ k n among there. adds.before k n (has.each k n among there) }

  -- none
  pub has_none : (marked : List ObjectName) → HasThere s [] marked
  has_none marked = record { each = λ k n among there. elim among [ ] }

  -- these and those
  pub has_both : (names others marked : List ObjectName) → HasThere s names marked → HasThere s others marked → HasThere s (names ++ others) marked
  has_both names others marked first second = record { each = λ k n among there. by k n there (among_split k n names others among) }
    where
      by : (k : CapKind) (n : ℕ) → n < size_of s.items k → IsAmong k n names ⊎ IsAmong k n others → IsAmong k n marked
      by k n there (inl here) = first.each k n here there
      by k n there (inr here) = second.each k n here there

  -- one that is marked
  pub has_named : (names marked : List ObjectName) → HasAll names marked → HasThere s names marked
  has_named names marked has = record { each = λ k n among there. has.each k n among }

  -- one that isn't there
  pub has_absent : (kind : CapKind) (number : ℕ) (marked : List ObjectName) → (number < size_of s.items kind → ⊥) → HasThere s (object_name kind number ∷ []) marked
  has_absent kind number marked absent = record { each = by }
    where
      by : (k : CapKind) (n : ℕ) → IsAmong k n (object_name kind number ∷ []) → n < size_of s.items k → IsAmong k n marked
      by k n (inl here) there = absurd (absent (subst (λ (x : CapKind). number < size_of s.items x) here.0 (subst (λ (i : ℕ). i < size_of s.items k) here.1 there)))
      by k n (inr none) there = elim none [ ]

  -- the processes that change, and what covers the others
  pub has_covered : (found changed marked : List ObjectName) → HasProcesses s changed marked → HasThere s found marked → Covers found changed → HasThere s changed marked
  has_covered found changed marked processes has covers = record { each = λ k n among there. by k n among there (covers.each k n among) }
    where
      by : (k : CapKind) (n : ℕ) → IsAmong k n changed → n < size_of s.items k → (k ≡ Process) ⊎ IsAmong k n found → IsAmong k n marked
      by k n among there (inl process) =
          let Marked : CapKind → Type 0 = λ x. IsAmong x n marked in
          let Changed : CapKind → Type 0 = λ x. IsAmong x n changed in
          let There : CapKind → Type 0 = λ x. n < size_of s.items x in
          subst Marked (sym process) (processes.each n (subst Changed process among) (subst There process there))
      by k n among there (inr here) = has.each k n here there

-- ---- counts

-- of no object
pub counts_none : (s t : Store) → HaveCounts s t []
counts_none s t = record { each = λ k n among. elim among [ ] }

-- of one more
pub counts_more : (s t : Store) (names : List Name) (i : ℕ) (d : Name) → i < length names → count_of s.items (get_or names i d).kind (get_or names i d).number ≡ count_of t.items (get_or names i d).kind (get_or names i d).number
    → HaveCounts s t (names_of (take i names)) → HaveCounts s t (names_of (take (i + 1) names))
counts_more s t names i d within same before = subst Have (sym front) (record { each = λ k n among. by k n (among_split k n (names_of (take i names)) (name_of (get_or names i d) ∷ []) among) })
  where
    Have : List ObjectName → Type 0
    Have xs = HaveCounts s t xs

    front : names_of (take (i + 1) names) ≡ names_of (take i names) ++ name_of (get_or names i d) ∷ []
    front = ap names_of (take_more names i d within) ∙ names_push (take i names) (get_or names i d)

    by : (k : CapKind) (n : ℕ) → IsAmong k n (names_of (take i names)) ⊎ IsAmong k n (name_of (get_or names i d) ∷ []) → count_of s.items k n ≡ count_of t.items k n
    by k n (inl earlier) = before.each k n earlier
    by k n (inr (inl here)) = rw (here.0, here.1) same
    by k n (inr (inr none)) = elim none [ ]
