-- What is kept meets what is owed: each covered pair is held, and no more is kept than the need counts.
use Rattle.std.proofs.Common.{◌≡◌, ◌≢◌, ◌⊎◌, inl, inr, ℕ, ◌/◌, ◌≤◌, Bool, true, false, not, ◌&&◌, ◌==◌, nat_le, if◌then◌else◌, List, length, refl, sym, ap, ◌∙◌, arith}
use Rattle.std.specs.List.{list_any}
use Rattle.std.specs.FinSet.{contains, contains-retain, items, len}
use Rattle.std.proofs.lemmas.Bool.Decides.{nat_tests}
use Rattle.cap_format.specs.Capability.{Capability, bare, with_count}
use Rattle.cap_format.specs.Kind.{is_counted, number_of, object_kind}
use Rattle.cap_format.specs.declared.item.Item.{Item}
use Rattle.guard_math.specs.Block.{around, holds}
use Rattle.object_store.specs.Store.{Items, count_of}
use Rattle.walk_meaning.specs.declared.kind.Kind.{Kind}
use Rattle.walk_meaning.specs.declared.noted.Noted.{Noted}
use Rattle.walk_meaning.specs.Trail.{trail}
use Rattle.depend_table.specs.Depend.{same_item}
use Rattle.map_cache.specs.declared.key.Key.{Key}
use Rattle.map_cache.specs.Key.{has_key, region_key, root_key, same_space, with_key}
use Rattle.map_cache.specs.Kept.{KeptValue, Note, nothing, added, fits, counted, is_on, kept_without}
use Rattle.map_cache.proofs.Economy.{fits-within}
use Rattle.fetch_economy.specs.Economy.{EconomyValue, at_start, covering, is_for, uncovering}
use Rattle.fetch_economy.specs.Ages.{SameAges, SameAgesBut}
use Rattle.fetch_economy.proofs.Added.{all-holds, has_key-added, has_key-more, header-noted, header_of, noted_all-both, noted_all-within, with_key-there}
use Rattle.depend_table.proofs.Coded.{key_itself, key_tells}
use Rattle.depend_table.proofs.Notes.{notes_apart, notes_total}
use Rattle.depend_table.proofs.Sets.{Within, any-note, any-within, note-any, within-len}
use Rattle.depend_table.proofs.Tests.{both, either, not_true, number_itself, or_left, or_right, same_numbers}
use Rattle.depend_table.specs.Notes.{note}
use Rattle.map_cache.proofs.Codes.{space_coding}

-- ---- spaces with their ages

-- a space has its age where the ages are the same
counted-same : (o q : Items) → SameAges o q → (space : Capability) → counted o space ≡ counted q space
counted-same o q same space = ap (λ (n : ℕ). if is_counted space.kind then with_count space n else space) (same (object_kind space.kind) space.object)

-- its age taken away leaves the same, whatever age it is
bare-counted : (o : Items) (space : Capability) → bare (counted o space) ≡ bare space
bare-counted o space = on (is_counted space.kind)
  where
    on : (b : Bool) → bare (if b then with_count space (count_of o (object_kind space.kind) space.object) else space) ≡ bare space
    on true = refl
    on false = refl

-- the header of its object passes the test with itself
header_itself : (space : Capability) → same_item (header_of space) (header_of space) ≡ true
header_itself space = rw (number_itself (number_of (object_kind space.kind))) (number_itself space.object)

-- ---- the relation

-- over these items: each covered pair is held, and the header of its space was noted for all addresses; each held pair has its
-- keys; the keys are those that the need counts, and the notes are among those that it counts
pub record Meets (k : KeptValue) (e : EconomyValue) (o : Items) : Type 0 where
  pub held : (s : Capability) (p : ℕ) → e.covered s p ≡ true → k.held (counted o s) p ≡ true
  pub headed : (s : Capability) (p : ℕ) → e.covered s p ≡ true → is_counted s.kind ≡ true → list_any (is_for s p (header_of s)) (items e.noted) ≡ true
  pub keyed : (s : Capability) (p : ℕ) → k.held s p ≡ true → (has_key k.keys (root_key s) ≡ true) × (has_key k.keys (region_key s (p / 1024)) ≡ true)
  pub frames : k.keys ≡ e.frames
  pub noted : Within k.notes e.noted

-- so it is at the start
pub meets-start : (o : Items) → Meets nothing at_start o
meets-start o = record {
  held = λ s p covered. absurd (cc);
  headed = λ s p covered named. absurd (cc);
  keyed = λ s p held. absurd (cc);
  frames = refl;
  noted = λ n there. there;
}

-- and at another moment of the same ages
pub meets-same : (k : KeptValue) (e : EconomyValue) (o q : Items) → SameAges o q → Meets k e o → Meets k e q
meets-same k e o q same m = record {
  held = λ s p covered. ap (λ (c : Capability). k.held c p) (sym (counted-same o q same s)) ∙ m.held s p covered;
  headed = m.headed;
  keyed = m.keyed;
  frames = m.frames;
  noted = m.noted;
}

-- ---- an access that reaches

module _ (k : KeptValue) (e : EconomyValue) (o : Items) (space : Capability) (address : ℕ) (kind : Kind) (m : Meets k e o) where
  -- the space with its age, the page, and what the walk reads
  abbrev aged : Capability
  aged = counted o space

  abbrev page : ℕ
  page = address / 4096

  abbrev reads : List Noted
  reads = trail o space address kind

  abbrev covers : EconomyValue
  covers = covering e space aged page reads

  -- a pair that is covered then is this one or was covered
  pair : (s : Capability) (p : ℕ) → covers.covered s p ≡ true → ((s ≡ space) × (p ≡ page)) ⊎ (e.covered s p ≡ true)
  pair s p covered = elim (either (same_space s space && (p == page)) (e.covered s p) covered) [
    | inl here ↦
        let parts = both (same_space s space) (p == page) here in
        inl (key_tells space_coding s space parts.0, same_numbers p page parts.1)
    | inr before ↦ inr before
  ]

  -- the header of this space is noted, for a block that has the page
  header_here : is_counted space.kind ≡ true → list_any (is_for space page (header_of space)) (items covers.noted) ≡ true
  header_here named =
      note-any (notes_total space_coding) (notes_apart space_coding) (is_for space page (header_of space)) covers.noted (note aged (header_of space) (around address 32))
      (header-noted e.noted aged o space address kind named)
      (rw (header_itself space, all-holds address)
      (ap (λ (c : Capability). same_space (bare space) c && true) (bare-counted o space) ∙ ap (λ (b : Bool). b && true) (key_itself space_coding (bare space))))

  headed_then : (s : Capability) (p : ℕ) → covers.covered s p ≡ true → is_counted s.kind ≡ true → list_any (is_for s p (header_of s)) (items covers.noted) ≡ true
  headed_then s p covered named = elim (pair s p covered) [
    | inl here ↦
        ap (λ (c : Capability). list_any (is_for c p (header_of c)) (items covers.noted)) here.0
        ∙ ap (λ (n : ℕ). list_any (is_for space n (header_of space)) (items covers.noted)) here.1
        ∙ header_here (ap (λ (c : Capability). is_counted c.kind) (sym here.0) ∙ named)
    | inr before ↦ any-within (notes_total space_coding) (notes_apart space_coding) (is_for s p (header_of s)) e.noted covers.noted (noted_all-within e.noted aged reads) (m.headed s p before named)
  ]

  -- where the pair was held, nothing is added
  pub meets-held : k.held aged page ≡ true → Meets k covers o
  meets-held held = record {
    held = λ s p covered. elim (pair s p covered) [
      | inl here ↦ ap (λ (c : Capability). k.held (counted o c) p) here.0 ∙ ap (k.held aged) here.1 ∙ held
      | inr before ↦ m.held s p before
    ];
    headed = headed_then;
    keyed = m.keyed;
    frames = frames_then;
    noted = λ n there. noted_all-within e.noted aged reads n (m.noted n there);
  }
    where
      root_there : with_key e.frames (root_key aged) ≡ e.frames
      root_there = with_key-there e.frames (root_key aged) (ap (λ (keys : List Key). has_key keys (root_key aged)) (sym m.frames) ∙ (m.keyed aged page held).0)

      region_there : with_key e.frames (region_key aged (page / 1024)) ≡ e.frames
      region_there = with_key-there e.frames (region_key aged (page / 1024)) (ap (λ (keys : List Key). has_key keys (region_key aged (page / 1024))) (sym m.frames) ∙ (m.keyed aged page held).1)

      frames_then : k.keys ≡ covers.frames
      frames_then = m.frames ∙ sym (ap (λ (keys : List Key). with_key keys (region_key aged (page / 1024))) root_there ∙ region_there)

  -- else its pair, keys and notes are
  pub meets-added : Meets (added k aged page reads) covers o
  meets-added = record {
    held = λ s p covered. elim (pair s p covered) [
      | inl here ↦ or_left (same_space (counted o s) aged && (p == page)) (k.held (counted o s) p)
          (rw (here.0, here.1, key_itself space_coding aged) (number_itself page))
      | inr before ↦ or_right (same_space (counted o s) aged && (p == page)) (k.held (counted o s) p) (m.held s p before)
    ];
    headed = headed_then;
    keyed = λ s p held. elim (either (same_space s aged && (p == page)) (k.held s p) held) [
      | inl here ↦
          let parts = both (same_space s aged) (p == page) here in
          let same : s ≡ aged = key_tells space_coding s aged parts.0 in
          let at : p ≡ page = same_numbers p page parts.1 in
          rw (same, at) (
            has_key-more (with_key k.keys (root_key aged)) (root_key aged) (region_key aged (page / 1024)) (has_key-added k.keys (root_key aged)),
            has_key-added (with_key k.keys (root_key aged)) (region_key aged (page / 1024)),
          )
      | inr before ↦
          let keys = m.keyed s p before in (
            has_key-more (with_key k.keys (root_key aged)) (root_key s) (region_key aged (page / 1024)) (has_key-more k.keys (root_key s) (root_key aged) keys.0),
            has_key-more (with_key k.keys (root_key aged)) (region_key s (p / 1024)) (region_key aged (page / 1024)) (has_key-more k.keys (region_key s (p / 1024)) (root_key aged) keys.1),
          )
    ];
    frames = ap (λ (keys : List Key). with_key (with_key keys (root_key aged)) (region_key aged (page / 1024))) m.frames;
    noted = noted_all-both k.notes e.noted aged reads m.noted;
  }

-- ---- a change

module _ (k : KeptValue) (e : EconomyValue) (item : Item) (o q : Items) (ages : SameAgesBut item o q) (m : Meets k e o) where
  abbrev uncovers : EconomyValue
  uncovers = uncovering e item

  -- a pair that stays covered was covered, and no note of the item is for it
  stays : (s : Capability) (p : ℕ) → uncovers.covered s p ≡ true → (e.covered s p ≡ true) × (list_any (is_for s p item) (items e.noted) ≢ true)
  stays s p covered =
      let parts = both (e.covered s p) (not (list_any (is_for s p item) (items e.noted))) covered in
      (parts.0, λ some. let none : not true ≡ true = ap not (sym some) ∙ parts.1 in absurd (cc))

  -- its space has the age that it had: else its header was the item
  age : (s : Capability) (p : ℕ) → uncovers.covered s p ≡ true → counted q s ≡ counted o s
  age s p covered = on (is_counted s.kind) refl
    where
      on : (b : Bool) → is_counted s.kind ≡ b → (if b then with_count s (count_of q (object_kind s.kind) s.object) else s) ≡ (if b then with_count s (count_of o (object_kind s.kind) s.object) else s)
      on false is = refl
      on true is = elim (ages (object_kind s.kind) s.object) [
        | inl here ↦ absurd ((stays s p covered).1 (ap (λ (i : Item). list_any (is_for s p i) (items e.noted)) here ∙ m.headed s p (stays s p covered).0 is))
        | inr same ↦ ap (with_count s) (sym same)
      ]

  -- a kept note that takes a pair out is one of those that uncover it
  taken : (s : Capability) (p : ℕ) → list_any (is_on (counted q s) p item) (items k.notes) ≡ true → list_any (is_for s p item) (items e.noted) ≡ true
  taken s p some =
      let at = any-note (notes_total space_coding) (notes_apart space_coding) (is_on (counted q s) p item) k.notes some in
      let n : Note = at.0 in
      let parts = both (same_item n.item item) (same_space (counted q s) n.key && holds n.block p) at.1.1 in
      let more = both (same_space (counted q s) n.key) (holds n.block p) parts.1 in
      let space_is : bare s ≡ bare n.key = sym (bare-counted q s) ∙ ap bare (key_tells space_coding (counted q s) n.key more.0) in
      note-any (notes_total space_coding) (notes_apart space_coding) (is_for s p item) e.noted n (m.noted n at.1.0)
      (rw (parts.0, more.1) (ap (λ (c : Capability). same_space (bare s) c && true) (sym space_is) ∙ ap (λ (b : Bool). b && true) (key_itself space_coding (bare s))))

  pub meets-changed : Meets (kept_without k item) uncovers q
  meets-changed = record {
    held = λ s p covered.
        let was = stays s p covered in
        let there : k.held (counted q s) p ≡ true = ap (λ (c : Capability). k.held c p) (age s p covered) ∙ m.held s p was.0 in
        let none : list_any (is_on (counted q s) p item) (items k.notes) ≡ false =
        not_true (list_any (is_on (counted q s) p item) (items k.notes)) (λ some. was.1 (taken s p some)) in
        rw (there, none) refl;
    headed = λ s p covered named. m.headed s p (stays s p covered).0 named;
    keyed = λ s p held. m.keyed s p (both (k.held s p) (not (list_any (is_on s p item) (items k.notes))) held).0;
    frames = m.frames;
    noted = λ n there.
        m.noted n (both (contains k.notes n) (not (same_item n.item item))
        (sym (contains-retain k.notes (λ x. not (same_item x.item item)) n (λ x tie. ap (λ (y : Note). not (same_item y.item item)) (sym ((notes_apart space_coding) n x tie)))) ∙ there)).0;
  }

-- ---- the need

-- whether the need so far fits
abbrev pub within_need : EconomyValue → Bool
within_need e = nat_le (length e.frames) 256 && nat_le (len e.noted) 16384

-- what meets a need that fits, fits
pub meets-fits : (k : KeptValue) (e : EconomyValue) (o : Items) → Meets k e o → within_need e ≡ true → fits k ≡ true
meets-fits k e o m need =
    let parts = both (nat_le (length e.frames) 256) (nat_le (len e.noted) 16384) need in
    fits-within k
    (omega (arith, at_most (length e.frames) 256 parts.0, ap (λ (keys : List Key). length keys) m.frames))
    (omega (arith, at_most (len e.noted) 16384 parts.1, within-len (notes_total space_coding) (notes_apart space_coding) k.notes e.noted m.noted))
  where
    at_most : (n most : ℕ) → nat_le n most ≡ true → n ≤ most
    at_most n most holds = grind (arith, nat_tests, holds)
