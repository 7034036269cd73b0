-- What is kept meets what is owed after a change of an item.
use Rattle.std.proofs.Common.{◌≡◌, ◌≢◌, ℕ, ◌*◌, ◌/◌, ◌%◌, Bool, true, false, not, ◌&&◌, if◌then◌else◌, List, ◌∷◌, ◌++◌, Some, None, refl, sym, ap, subst, ◌∙◌, arith}
use Rattle.std.specs.List.{list_any, AllByRecursion as Each}
use Rattle.std.specs.FinSet.{contains, contains-retain, items}
use Rattle.cap_format.specs.Capability.{Capability, bare, with_count}
use Rattle.cap_format.specs.Kind.{is_counted, number_of, object_kind}
use Rattle.cap_format.specs.declared.item.Item.{Item}
use Rattle.cap_format.specs.declared.item.Item.TheVariants.{Header, Slot}
use Rattle.guard_math.specs.Block.{BlockValue, holds}
use Rattle.object_store.specs.Store.{Items, count_of}
use Rattle.object_store.specs.Differ.{DifferIn}
use Rattle.walk_meaning.specs.declared.kind.Kind.TheVariants.{Load}
use Rattle.walk_meaning.specs.declared.noted.Noted.{Noted}
use Rattle.walk_meaning.specs.Walk.{start_at, step}
use Rattle.walk_meaning.specs.Trail.{header_noted, noted_in, trail}
use Rattle.walk_meaning.specs.After.{trail_after}
use Rattle.walk_meaning.specs.Laws.{Unread}
use Rattle.walk_meaning.proofs.FrameLaw.{agree, frame_law, header_unread}
use Rattle.walk_meaning.proofs.ReadsLaw.{each-middle}
use Rattle.walk_meaning.proofs.Walked.{trail_from-suc}
use Rattle.producers.proofs.Staying.{unread-append}
use Rattle.depend_table.specs.Depend.{lies_in, same_item}
use Rattle.depend_table.proofs.Members.{same_item_tells}
use Rattle.map_cache.specs.Key.{same_space}
use Rattle.map_cache.specs.Kept.{counted}
use Rattle.shared_leaves.specs.declared.key.Key.{Key}
use Rattle.shared_leaves.specs.declared.key.Table.{Table}
use Rattle.shared_leaves.specs.declared.key.Table.TheVariants.{Region, Root, Producer as Joins}
use Rattle.shared_leaves.specs.Key.{has_entries, has_key, is_leaf, root_key, same_key}
use Rattle.shared_leaves.specs.Kept.{Note, SharedKept, covers_note, is_on, kept_without}
use Rattle.shared_leaves.proofs.Dropped.{holds-within, lies-through}
use Rattle.fetch_economy.specs.Economy.{EconomyValue, is_for, uncovering}
use Rattle.shared_economy.specs.Need.{NeedValue}
use Rattle.shared_economy.proofs.Places.{wide-same}
use Rattle.shared_economy.proofs.Trails.{Ends, EndsIn, IsFresh, LinkLeads, each_map, end-stays, fresh-stays, leads-map, leads-stays, reads_behind}
use Rattle.shared_economy.proofs.Added.{bare-counted}
use Rattle.shared_economy.proofs.Meets.{IsCovered, IsNoted, IsNotedOn, Meets, none_some}
use Rattle.depend_table.proofs.Coded.{key_itself, key_tells}
use Rattle.depend_table.proofs.Notes.{notes_apart, notes_total}
use Rattle.depend_table.proofs.Sets.{any-note, note-any}
use Rattle.depend_table.proofs.Tests.{both, not_true, number_itself}
use Rattle.depend_table.specs.Notes.{note}
use Rattle.map_cache.proofs.Codes.{space_coding}
use Rattle.shared_leaves.proofs.Codes.{key_coding}

item_itself : (i : Item) → same_item i i ≡ true
item_itself (Header kind n) = rw (number_itself (number_of kind)) (number_itself n)
item_itself (Slot g i) = rw (number_itself g) (number_itself i)

all_true : (a b c : Bool) → a ≡ true → b ≡ true → c ≡ true → (a && (b && c)) ≡ true
all_true a b c x y z = rw (x, y) z

pub not_false : (b : Bool) → not b ≡ true → b ≡ false
not_false true holds = absurd (cc)
not_false false holds = refl

never : {X : Type 0} (b : Bool) → b ≡ false → b ≡ true → X
never b not_so so = absurd (cc)

-- a key behind which a place ends is a leaf table's
ends_leaf : (o : Items) (s : Capability) (t : Table) (j : ℕ) → EndsIn o s t j → has_entries t ≡ true
ends_leaf o s Root j ends = absurd ends
ends_leaf o s (Region r) j ends = refl
ends_leaf o s (Joins key) j ends = refl

module _ (k : SharedKept) (e : EconomyValue) (n : NeedValue) (o q : Items) (m : Meets k e n o) (x : Item) (differ : DifferIn x o q) where
  abbrev left : SharedKept
  left = kept_without k x

  abbrev uncovers : EconomyValue
  uncovers = uncovering e x

  -- whether a note stays
  abbrev stays : Note → Bool
  stays y = not (same_item y.item x) && not (is_leaf y.key && list_any (covers_note x y) (items k.notes))

  kept_is : (y : Note) → contains left.notes y ≡ (contains k.notes y && stays y)
  kept_is y = contains-retain k.notes stays y (λ z tie. ap stays (sym ((notes_apart key_coding) y z tie)))

  was_kept : (y : Note) → contains left.notes y ≡ true → (contains k.notes y ≡ true) × (stays y ≡ true)
  was_kept y there = both (contains k.notes y) (stays y) (sym (kept_is y) ∙ there)

  -- a note that was there stays, if it is of another item, and, of a leaf table, in no block that is taken out
  is_kept : (y : Note) → contains k.notes y ≡ true → y.item ≢ x → (is_leaf y.key ≡ true → list_any (covers_note x y) (items k.notes) ≢ true) → contains left.notes y ≡ true
  is_kept y there other none =
      let item_no : same_item y.item x ≡ false = not_true (same_item y.item x) (λ same. other (same_item_tells y.item x same)) in
      let leaf_no : (is_leaf y.key && list_any (covers_note x y) (items k.notes)) ≡ false =
      not_true (is_leaf y.key && list_any (covers_note x y) (items k.notes)) (λ some.
      let parts = both (is_leaf y.key) (list_any (covers_note x y) (items k.notes)) some in none parts.0 parts.1) in
      kept_is y ∙ (λ z. there z && (not (item_no z) && not (leaf_no z)))

  -- a read that is noted for a block that has the page is of another item, where no such note is of this one
  other_on : (key : Key) (page : ℕ) (t : Noted) → list_any (is_on key page x) (items k.notes) ≡ false → IsNotedOn k.notes key page t → t.item ≢ x
  other_on key page t none there same =
      never (list_any (is_on key page x) (items k.notes)) none
      (note-any (notes_total key_coding) (notes_apart key_coding) (is_on key page x) k.notes (note key t.item t.block) there.0
      (all_true (same_item t.item x) (same_key key key) (holds t.block page) (ap (λ (i : Item). same_item i x) same ∙ item_itself x) (key_itself key_coding key) there.1))

  -- and its note stays
  kept_on : (key : Key) (page : ℕ) (t : Noted) → list_any (is_on key page x) (items k.notes) ≡ false → IsNotedOn k.notes key page t → IsNotedOn left.notes key page t
  kept_on key page t none there = (
    is_kept (note key t.item t.block) there.0 (other_on key page t none there) (λ leaf some.
        let at = any-note (notes_total key_coding) (notes_apart key_coding) (covers_note x (note key t.item t.block)) k.notes some in
        let y : Note = at.0 in
        let parts = both (same_item y.item x) (same_key key y.key && lies_in t.block y.block) at.1.1 in
        let inner = both (same_key key y.key) (lies_in t.block y.block) parts.1 in
        never (list_any (is_on key page x) (items k.notes)) none
        (note-any (notes_total key_coding) (notes_apart key_coding) (is_on key page x) k.notes y at.1.0
        (all_true (same_item y.item x) (same_key key y.key) (holds y.block page) parts.0 inner.0 (holds-within t.block y.block page inner.1 there.1)))),
    there.1,
  )

  fresh_left : (y : Note) → contains left.notes y ≡ true → is_leaf y.key ≡ true → IsFresh q y.key (noted_in y.item y.block) (IsNoted left.notes y.key)
  fresh_left y there leaf = fresh-stays x o q differ y.key (noted_in y.item y.block) (IsNoted k.notes y.key) (IsNoted left.notes y.key) keeps other (m.fresh y was.0 leaf)
    where
      was : (contains k.notes y ≡ true) × (stays y ≡ true)
      was = was_kept y there

      parts : (not (same_item y.item x) ≡ true) × (not (is_leaf y.key && list_any (covers_note x y) (items k.notes)) ≡ true)
      parts = both (not (same_item y.item x)) (not (is_leaf y.key && list_any (covers_note x y) (items k.notes))) was.1

      other : y.item ≢ x
      other same = never (same_item y.item x) (not_false (same_item y.item x) parts.0) (ap (λ (i : Item). same_item i x) same ∙ item_itself x)

      none : list_any (covers_note x y) (items k.notes) ≡ true → ⊥
      none some =
          never (is_leaf y.key && list_any (covers_note x y) (items k.notes)) (not_false (is_leaf y.key && list_any (covers_note x y) (items k.notes)) parts.1)
          (rw leaf some)

      keeps : (t : Noted) → IsNoted k.notes y.key t → lies_in y.block t.block ≡ true → (t.item ≢ x) × IsNoted left.notes y.key t
      keeps t noted inner = (
        another,
        is_kept (note y.key t.item t.block) noted another (λ leaf some.
            let at = any-note (notes_total key_coding) (notes_apart key_coding) (covers_note x (note y.key t.item t.block)) k.notes some in
            let z : Note = at.0 in
            let one = both (same_item z.item x) (same_key y.key z.key && lies_in t.block z.block) at.1.1 in
            let two = both (same_key y.key z.key) (lies_in t.block z.block) one.1 in
            none (note-any (notes_total key_coding) (notes_apart key_coding) (covers_note x y) k.notes z at.1.0
            (all_true (same_item z.item x) (same_key y.key z.key) (lies_in y.block z.block) one.0 two.0 (lies-through y.block t.block z.block inner two.1)))),
      )
        where
          another : t.item ≢ x
          another same =
              none (note-any (notes_total key_coding) (notes_apart key_coding) (covers_note x y) k.notes (note y.key t.item t.block) noted
              (all_true (same_item t.item x) (same_key y.key y.key) (lies_in y.block t.block) (ap (λ (i : Item). same_item i x) same ∙ item_itself x) (key_itself key_coding y.key) inner))

  links_left : (s : Capability) (r : ℕ) (key : Key) → left.links s r ≡ Some key
      → (has_key k.keys (root_key s) ≡ true) × (has_key k.keys key ≡ true) × LinkLeads q s r key (IsNotedOn left.notes (root_key s) (r * 1024))
  links_left s r key link = on (list_any (is_on (root_key s) (r * 1024) x) (items k.notes)) refl link
    where
      on : (b : Bool) → list_any (is_on (root_key s) (r * 1024) x) (items k.notes) ≡ b → (if b then None else k.links s r) ≡ Some key
          → (has_key k.keys (root_key s) ≡ true) × (has_key k.keys key ≡ true) × LinkLeads q s r key (IsNotedOn left.notes (root_key s) (r * 1024))
      on true taken link = none_some key link
      on false none link =
          let was = m.links s r key link in
          let P : Noted → Type 0 = IsNotedOn k.notes (root_key s) (r * 1024) in (
            was.0,
            was.1,
            leads-map q s r key.space key.table P (IsNotedOn left.notes (root_key s) (r * 1024)) (λ t there. kept_on (root_key s) (r * 1024) t none there)
                (leads-stays x o q differ s r key.space key.table P (λ t there. other_on (root_key s) (r * 1024) t none there) was.2),
          )

  held_left : (key : Key) (j : ℕ) → left.held key j ≡ true → Ends q key j × Each (IsNotedOn left.notes key j) (reads_behind q key j)
  held_left key j held =
      let parts = both (k.held key j) (not (list_any (is_on key j x) (items k.notes))) held in
      let none = not_false (list_any (is_on key j x) (items k.notes)) parts.1 in
      let was = m.held key j parts.0 in
      let unread = each_map (IsNotedOn k.notes key j) (λ t. t.item ≢ x) (λ t there. other_on key j t none there) (reads_behind o key j) was.1 in
      let end = end-stays x o q differ key.space key.table j was.0 unread in (
        end.ends,
        subst (Each (IsNotedOn left.notes key j)) (sym end.reads_are)
            (each_map (IsNotedOn k.notes key j) (IsNotedOn left.notes key j) (λ t there. kept_on key j t none there) (reads_behind o key j) was.1),
      )

  -- ---- a page that stays covered

  module _ (s : Capability) (p : ℕ) (was : IsCovered k e o s p) (none : list_any (is_for s p x) (items e.noted) ≡ false) where
    abbrev space : Capability
    space = counted o s

    abbrev whole : List Noted
    whole = trail o s (p * 4096) Load

    abbrev j : ℕ
    j = p % 1024

    same_bare : same_space (bare s) (bare space) ≡ true
    same_bare = ap (same_space (bare s)) (bare-counted o s) ∙ key_itself space_coding (bare s)

    -- no note of the item is for it
    not_for : (i : Item) (b : BlockValue) → contains e.noted (note space i b) ≡ true → same_item i x ≡ true → holds b p ≡ true → ⊥
    not_for i b there item held =
        never (list_any (is_for s p x) (items e.noted)) none
        (note-any (notes_total space_coding) (notes_apart space_coding) (is_for s p x) e.noted (note space i b) there
        (all_true (same_item i x) (same_space (bare s) (bare space)) (holds b p) item same_bare held))

    unread : Unread x whole
    unread = each_map (λ t. (contains e.noted (note space t.item t.block) ≡ true) × (holds t.block p ≡ true)) (λ t. t.item ≢ x)
        (λ t there same. not_for t.item t.block there.0 (ap (λ (i : Item). same_item i x) same ∙ item_itself x) there.1) whole was.noted

    -- its space has the age that it had
    aged : counted q s ≡ counted o s
    aged = on (is_counted s.kind) refl
      where
        first : is_counted s.kind ≡ true → Header (object_kind s.kind) s.object ≢ x
        first named =
            let parts = unread-append x (header_noted s (p * 4096) 32) (trail_after o Load (p * 4096) 31 (step o Load s (start_at (p * 4096))))
            (subst (Unread x) (trail_from-suc o Load (p * 4096) 31 s (start_at (p * 4096))) unread) in
            header_unread x s (p * 4096) 32 parts.0 named

        on : (b : Bool) → is_counted s.kind ≡ b → (if b then with_count s (count_of q (object_kind s.kind) s.object) else s) ≡ (if b then with_count s (count_of o (object_kind s.kind) s.object) else s)
        on false is = refl
        on true is = ap (with_count s) (sym ((agree x o q differ).counts (object_kind s.kind) s.object (first is)))

    link_left : left.links space (p / 1024) ≡ Some was.key
    link_left =
        let no : list_any (is_on (root_key space) (p / 1024 * 1024) x) (items k.notes) ≡ false =
        not_true (list_any (is_on (root_key space) (p / 1024 * 1024) x) (items k.notes)) (λ some.
        let at = any-note (notes_total key_coding) (notes_apart key_coding) (is_on (root_key space) (p / 1024 * 1024) x) k.notes some in
        let y : Note = at.0 in
        let one = both (same_item y.item x) (same_key (root_key space) y.key && holds y.block (p / 1024 * 1024)) at.1.1 in
        let two = both (same_key (root_key space) y.key) (holds y.block (p / 1024 * 1024)) one.1 in
        let key : root_key space ≡ y.key = key_tells key_coding (root_key space) y.key two.0 in
        let root = m.roots space y.item y.block ((λ z. contains k.notes (note (key z) y.item y.block)) ∙ at.1.0) in
        not_for y.item y.block root.0 one.0 (wide-same y.block (p / 1024) p root.1 refl ∙ two.1)) in
        ap (λ (b : Bool). if b then None else k.links space (p / 1024)) no ∙ was.link

    held_no : list_any (is_on was.key j x) (items k.notes) ≡ false
    held_no = not_true (list_any (is_on was.key j x) (items k.notes)) (λ some.
        let at = any-note (notes_total key_coding) (notes_apart key_coding) (is_on was.key j x) k.notes some in
        let y : Note = at.0 in
        let one = both (same_item y.item x) (same_key was.key y.key && holds y.block j) at.1.1 in
        let two = both (same_key was.key y.key) (holds y.block j) one.1 in
        let key : was.key ≡ y.key = key_tells key_coding was.key y.key two.0 in
        let leaf : is_leaf y.key ≡ true = ap is_leaf (sym key) ∙ ends_leaf o was.key.space was.key.table j (m.held was.key j was.held).0 in
        let fresh = m.fresh y at.1.0 leaf in
        let made = fresh.made j (omega arith) two.1 in
        let reads : reads_behind o was.key j ≡ fresh.before ++ noted_in y.item y.block ∷ made.0 = ap (λ (z : Key). reads_behind o z j) key ∙ made.1 in
        each-middle (λ t. t.item ≢ x) fresh.before made.0 (noted_in y.item y.block) (subst (Unread x) reads (was.behind x unread)) (same_item_tells y.item x one.0))

    still_covered : IsCovered left uncovers q s p
    still_covered =
        let stay = frame_law x o q s (p * 4096) Load was.place differ was.reached unread in
        let end = end-stays x o q differ was.key.space was.key.table j (m.held was.key j was.held).0 (was.behind x unread) in
        record {
          uncounted = was.uncounted;
          capability = was.capability;
          inside = was.inside;
          place = was.place;
          reached = stay.reached;
          noted = subst (λ (d : Capability). Each (λ t. (contains e.noted (note d t.item t.block) ≡ true) × (holds t.block p ≡ true)) (trail q s (p * 4096) Load)) (sym aged)
              (subst (Each (λ t. (contains e.noted (note space t.item t.block) ≡ true) × (holds t.block p ≡ true))) (sym stay.reads) was.noted);
          key = was.key;
          link = ap (λ (d : Capability). left.links d (p / 1024)) aged ∙ link_left;
          held = rw (was.held, held_no) refl;
          behind = λ y unread_too. subst (Unread y) (sym end.reads_are) (was.behind y (subst (Unread y) stay.reads unread_too));
        }

  pub meets-changed : Meets left uncovers n q
  meets-changed = record {
    frames = m.frames;
    roots = λ s i b there. m.roots s i b (was_kept (note (root_key s) i b) there).0;
    leaves = λ y there leaf. m.leaves y (was_kept y there).0 leaf;
    fresh = fresh_left;
    links = links_left;
    held = held_left;
    covered = λ s p covered.
        let parts = both (e.covered s p) (not (list_any (is_for s p x) (items e.noted))) covered in
        still_covered s p (m.covered s p parts.0) (not_false (list_any (is_for s p x) (items e.noted)) parts.1);
  }
