-- Objects that are those of the desk, but for those that are named.
use Rattle.std.proofs.Common.{◌≡◌, ℕ, suc, ◌*◌, ◌<◌, ◌≤◌, ◌⊎◌, inl, inr, List, [], ◌∷◌, get_or, length, slice_get, refl, sym, ap, ◌∙◌, subst, arith}
use Rattle.std.proofs.lemmas.List.Elements.{All-cons, All-head, All-tail}
use Rattle.cap_format.specs.declared.kind.CapKind.{CapKind}
use Rattle.cap_format.specs.declared.kind.CapKind.TheVariants.{Gpt}
use Rattle.object_store.specs.Store.{Store, size_of, sizes_of}
use Rattle.object_store.specs.Object.{ObjectName, ObjectValue, object_name, SameObject, IsAmong, Stays, IsEven}
use Rattle.object_store.specs.Saved.{AreThere}
use Rattle.std.proofs.lemmas.Bool.{cases_lt}
use Rattle.object_store.proofs.Restored.{size_of_same}
use Rattle.object_store.proofs.Stays.{stays_within}
use Rattle.machine_state.specs.Taking.{slots_taken}
use Rattle.state_parts.specs.Keys.{AreAll, HasGptsOnce, named_in, objects_of, Reads}
use Rattle.state_parts.specs.Looking.{no_name, AreMarked, IsMore}
use Rattle.state_parts.specs.Marking.{AddsThere, HasThere}
use Rattle.state_parts.specs.Board.{IsBoard}
use Rattle.state_parts.proofs.Whole.{named_or_past, names_there, past_same}
use Rattle.state_parts.proofs.Once.{once_none, slots_few}
use Rattle.state_parts.proofs.Brought.{stays_all, reads_at, there_in, bring_end}

-- objects are there where each of their names is that of one
pub there_of : (s : Store) (names : List ObjectName) → ((kind : CapKind) (n : ℕ) → IsAmong kind n names → n < size_of s.items kind) → AreThere s names
there_of s [] there = λ i d within. absurd (omega (arith, within))
there_of s (name ∷ names) there = All-cons (λ (x : ObjectName). x.number < size_of s.items x.kind) name names (there name.kind name.number (inl (refl, refl))) (there_of s names (λ kind n among. there kind n (inr among)))

-- and the other way round
pub among_there : (s : Store) (names : List ObjectName) (kind : CapKind) (n : ℕ) → AreThere s names → IsAmong kind n names → n < size_of s.items kind
among_there s [] kind n there among = elim among [ ]
among_there s (name ∷ names) kind n there (inl here) = rw (here.0, here.1) (All-head (λ (x : ObjectName). x.number < size_of s.items x.kind) name names there)
among_there s (name ∷ names) kind n there (inr later) = among_there s names kind n (All-tail (λ (x : ObjectName). x.number < size_of s.items x.kind) name names there) later

-- more names of objects that are there
pub there_more : (s : Store) (names old new : List ObjectName) → AreAll (sizes_of s) names → IsMore names old new → AreThere s old → AreThere s new
there_more s names old new all more there = there_of s new (λ kind n among. by kind n (more.among kind n among))
  where
    by : (kind : CapKind) (n : ℕ) → IsAmong kind n old ⊎ IsAmong kind n names → n < size_of s.items kind
    by kind n (inl before) = among_there s old kind n there before
    by kind n (inr named) = there_in s s names kind n all refl named

-- with more names
pub board_more : (m : Store) (desk : Store) (names old new : List ObjectName) → AreAll (sizes_of desk) names → IsMore names old new → IsBoard m desk old → IsBoard m desk new
board_more m desk names old new all more board = record {
  sizes = board.sizes;
  there = there_more desk names old new all more board.there;
  stays = stays_within old new desk m more.before board.stays;
  once = more.once board.once;
}

-- where all are named any object may have changed
pub board_all : (m : Store) (desk : Store) (names : List ObjectName) → IsEven m → IsEven desk → sizes_of m ≡ sizes_of desk → AreAll (sizes_of desk) names → IsBoard m desk names
board_all m desk names even even_too sizes all = record {
  sizes = sizes;
  there = names_there desk names all;
  stays = stays_all desk m names even_too even (sym sizes) all;
  once = all.once;
}

-- where none is named the objects are those of the desk
pub board_none : (m desk : Store) (names : List ObjectName) → m ≡ desk → names ≡ [] → IsBoard m desk names
board_none m desk names same none = rw (same, none) (record {
  sizes = refl;
  there = there_of desk [] (λ kind n among. elim among [ ]);
  stays = record { same = λ kind n. inr refl };
  once = once_none;
})

-- the place of a name
pub among_index : (names : List ObjectName) (kind : CapKind) (n : ℕ) → IsAmong kind n names → (k : ℕ) × (k < length names) × (get_or names k no_name ≡ object_name kind n)
among_index [] kind n among = elim among [ ]
among_index (name ∷ names) kind n (inl here) = (0, omega arith, named here.0 here.1)
  where
    named : kind ≡ name.kind → n ≡ name.number → object_name name.kind name.number ≡ object_name kind n
    named k m = rw (k, m) refl
among_index (name ∷ names) kind n (inr later) = let rest = among_index names kind n later in let within : rest.0 < length names = rest.1 in (suc rest.0, omega (arith, within), rest.2)

-- what is brought to a target differs from it in the objects that are marked
pub brought_stays : (T : List ObjectValue) (names : List ObjectName) (old new : List ℕ) (desk target m : Store) (changed : List ObjectName) → IsEven desk → IsEven target → sizes_of target ≡ sizes_of desk → AreAll (sizes_of desk) names
    → Reads T old (objects_of names desk) → Reads T new (objects_of names target) → AreMarked (length names) names old new changed → Stays changed desk m → Stays changed target m
brought_stays T names old new desk target m changed even even_too sizes all reads_old reads_new marked stays = record { same = λ kind n. by kind n (named_or_past desk names kind n all) }
  where
    joined : (kind : CapKind) (n : ℕ) → SameObject kind n target desk → IsAmong kind n changed ⊎ SameObject kind n desk m → IsAmong kind n changed ⊎ SameObject kind n target m
    joined kind n same (inl among) = inl among
    joined kind n same (inr stay) = inr (same ∙ stay)

    read : (k : ℕ) → k < length names → get_or old k 0 ≡ get_or new k 0 → named_in desk (get_or names k no_name) ≡ named_in target (get_or names k no_name)
    read k within same =
        let first = reads_at T old names desk k within reads_old in
        let second = reads_at T new names target k within reads_new in
        let e : slice_get T (get_or old k 0) ≡ slice_get T (get_or new k 0) = ap (slice_get T) same in
        cc

    at : (kind : CapKind) (n : ℕ) (k : ℕ) → k < length names → get_or names k no_name ≡ object_name kind n → IsAmong (get_or names k no_name).kind (get_or names k no_name).number changed ⊎ (get_or old k 0 ≡ get_or new k 0) → IsAmong kind n changed ⊎ SameObject kind n target m
    at kind n k within name (inl among) = let Named : ObjectName → Type 0 = λ x. IsAmong x.kind x.number changed in inl (subst Named name among)
    at kind n k within name (inr same) =
        let Same : ObjectName → Type 0 = λ x. named_in desk x ≡ named_in target x in
        joined kind n (sym (subst Same name (read k within same))) (stays.same kind n)

    by : (kind : CapKind) (n : ℕ) → IsAmong kind n names ⊎ (size_of desk.items kind ≤ n) → IsAmong kind n changed ⊎ SameObject kind n target m
    by kind n (inl among) = let found = among_index names kind n among in at kind n found.0 found.1 found.2 (marked.each found.0 found.1)
    by kind n (inr past) = joined kind n (sym (past_same desk target kind n even even_too (sym sizes) past)) (stays.same kind n)

-- where all numbers are the same, no name is to be marked
pub marked_same : (n : ℕ) (names : List ObjectName) (old new : List ℕ) (marked : List ObjectName) → old ≡ new → AreMarked n names old new marked
marked_same n names old new marked same = record { each = λ k within. inr (ap (λ (numbers : List ℕ). get_or numbers k 0) same) }

-- and the objects are those of the target
pub brought_same : (T : List ObjectValue) (names : List ObjectName) (old new : List ℕ) (desk target : Store) → old ≡ new → IsEven desk → IsEven target → sizes_of target ≡ sizes_of desk → AreAll (sizes_of desk) names
    → Reads T old (objects_of names desk) → Reads T new (objects_of names target) → desk ≡ target
brought_same T names old new desk target same even even_too sizes all reads_old reads_new =
    bring_end target desk desk even_too sizes (record {
      left = brought_stays T names old new desk target desk [] even even_too sizes all reads_old reads_new (marked_same (length names) names old new [] same) (record { same = λ kind n. inr refl });
      mixed = record { each = λ kind n. inr refl };
      even = even;
      sizes = refl;
    })

-- ---- an event

-- what is marked is there, where that was which is marked already
pub there_adds : (s : Store) (old new : List ObjectName) → AddsThere s old new → AreThere s old → AreThere s new
there_adds s old new adds there = there_of s new (λ kind n among. by kind n (adds.there kind n among))
  where
    by : (kind : CapKind) (n : ℕ) → IsAmong kind n old ⊎ (n < size_of s.items kind) → n < size_of s.items kind
    by kind n (inl before) = among_there s old kind n there before
    by kind n (inr here) = here

-- no GPT is read twice
pub slots_there : (s : Store) (names : List ObjectName) → AreThere s names → HasGptsOnce names → slots_taken names ≤ 16 * size_of s.items Gpt
slots_there s names there once = slots_few s names (λ n among. among_there s names Gpt n there among) once

-- with more names, each of an object that is there
pub board_adds : (m desk : Store) (old new : List ObjectName) → AddsThere m old new → IsBoard m desk old → IsBoard m desk new
board_adds m desk old new adds board = record {
  sizes = board.sizes;
  there = there_of desk new (λ kind n among. by kind n (adds.there kind n among));
  stays = stays_within old new desk m adds.before board.stays;
  once = adds.once board.once;
}
  where
    by : (kind : CapKind) (n : ℕ) → IsAmong kind n old ⊎ (n < size_of m.items kind) → n < size_of desk.items kind
    by kind n (inl before) = among_there desk old kind n board.there before
    by kind n (inr there) = subst (λ (k : ℕ). n < k) (size_of_same m desk board.sizes kind) there

-- after an event that changed no others
pub board_after : (m t desk : Store) (marked changed : List ObjectName) → IsEven desk → IsEven t → sizes_of t ≡ sizes_of m → HasThere m changed marked → Stays changed m t → IsBoard m desk marked → IsBoard t desk marked
board_after m t desk marked changed even even_too sizes has stays board = record {
  sizes = sizes ∙ board.sizes;
  there = board.there;
  stays = record { same = λ kind n. by kind n (stays.same kind n) };
  once = board.once;
}
  where
    later : (kind : CapKind) (n : ℕ) → SameObject kind n m t → IsAmong kind n marked ⊎ SameObject kind n desk m → IsAmong kind n marked ⊎ SameObject kind n desk t
    later kind n same (inl among) = inl among
    later kind n same (inr before) = inr (before ∙ same)

    named : (kind : CapKind) (n : ℕ) → IsAmong kind n changed → (n < size_of m.items kind) ⊎ (size_of m.items kind ≤ n) → IsAmong kind n marked ⊎ SameObject kind n desk t
    named kind n among (inl there) = inl (has.each kind n among there)
    named kind n among (inr past) =
        let Most : ℕ → Type 0 = λ k. k ≤ n in
        inr (past_same desk t kind n even even_too (sym (sizes ∙ board.sizes)) (subst Most (size_of_same m desk board.sizes kind) past))

    by : (kind : CapKind) (n : ℕ) → IsAmong kind n changed ⊎ SameObject kind n m t → IsAmong kind n marked ⊎ SameObject kind n desk t
    by kind n (inl among) = named kind n among (cases_lt n (size_of m.items kind))
    by kind n (inr same) = later kind n same (board.stays.same kind n)
