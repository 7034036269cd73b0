-- What is kept meets what is owed after an access that reaches: where its page was held nothing is added, and else it is.
use Rattle.std.proofs.Common.{◌≡◌, ◌⊎◌, inl, inr, ℕ, ◌*◌, ◌/◌, ◌%◌, ◌^◌, ◌<◌, ◌≤◌, Bool, true, false, ◌&&◌, ◌==◌, if◌then◌else◌, List, ◌∷◌, Option, Some, None, Ok, refl, sym, ap, subst, ◌∙◌, arith}
use Rattle.std.specs.List.{AllByRecursion as Each}
use Rattle.std.specs.FinSet.{contains}
use Rattle.cap_format.specs.Capability.{Capability, IsCapability, bare}
use Rattle.cap_format.specs.declared.item.Item.{Item}
use Rattle.guard_math.specs.Block.{BlockValue, holds}
use Rattle.object_store.specs.Store.{Items}
use Rattle.object_store.specs.Ranges.{IsRanged}
use Rattle.walk_meaning.specs.declared.kind.Kind.TheVariants.{Load}
use Rattle.walk_meaning.specs.declared.noted.Noted.{Noted}
use Rattle.walk_meaning.specs.declared.place.Place.{Place}
use Rattle.walk_meaning.specs.Walk.{access}
use Rattle.walk_meaning.specs.Trail.{noted_in, trail}
use Rattle.walk_meaning.specs.Laws.{Unread}
use Rattle.walk_meaning.proofs.BlockLaw.{Falls}
use Rattle.walk_meaning.proofs.ReadsLaw.{NotedAt, each-middle, noted_at}
use Rattle.producers.specs.Producer.{join_of}
use Rattle.depend_table.specs.Depend.{lies_in}
use Rattle.map_cache.specs.Key.{same_space}
use Rattle.map_cache.specs.Kept.{counted}
use Rattle.shared_leaves.specs.declared.key.Key.{Key}
use Rattle.shared_leaves.specs.Key.{has_key, is_leaf, root_key, same_key, with_key}
use Rattle.shared_leaves.specs.Kept.{Addition, Note, SharedKept, added, addition_by, holds_page, is_held, noted_all}
use Rattle.fetch_economy.specs.Economy.{EconomyValue, covering}
use Rattle.shared_economy.specs.Need.{NeedValue, needing}
use Rattle.shared_economy.proofs.Keys.{has_key-added, has_key-more, with_key-there}
use Rattle.shared_economy.proofs.Places.{InPlace, IsWide, falls-before, place-held, place-nested, whole-held}
use Rattle.shared_economy.proofs.Trails.{Ends, IsFresh, LinkLeads, each_both, each_map, each_split, leads-map, reads_behind}
use Rattle.shared_economy.proofs.Added.{Adds, bare-counted, key-linked, key-region, load-adds}
use Rattle.shared_economy.proofs.Meets.{IsCovered, IsNoted, IsNotedOn, Meets}
use Rattle.depend_table.proofs.Coded.{key_itself, key_tells}
use Rattle.depend_table.proofs.Notes.{IsOf, noted_all-each, noted_all-more, noted_all-tells}
use Rattle.depend_table.proofs.Tests.{both, either, number_itself, or_left, or_right, same_numbers}
use Rattle.depend_table.specs.Notes.{note}
use Rattle.map_cache.proofs.Codes.{space_coding}
use Rattle.shared_leaves.proofs.Codes.{key_coding}

module _ (k : SharedKept) (e : EconomyValue) (n : NeedValue) (o : Items) (m : Meets k e n o) (ranged : IsRanged o) (c : Capability) (is : IsCapability c) (uncounted : bare c ≡ c)
    (p : ℕ) (inside : p < 2 ^ 20) (place : Place) (reach : access o c (p * 4096) Load ≡ Ok place) where
  abbrev space : Capability
  space = counted o c

  abbrev r : ℕ
  r = p / 1024

  abbrev j : ℕ
  j = p % 1024

  abbrev whole : List Noted
  whole = trail o c (p * 4096) Load

  abbrev add : Addition
  add = addition_by o space p whole (join_of o c (p * 4096) Load)

  abbrev covers : EconomyValue
  covers = covering e c space p whole

  abbrev needs : NeedValue
  needs = needing n space add

  adds : Adds o space p whole add
  adds = load-adds o ranged c is uncounted p inside place reach

  less : j < 1024
  less = omega arith

  -- the reads of the load are noted for its space
  noted_now : Each (λ q. (contains covers.noted (note space q.item q.block) ≡ true) × (holds q.block p ≡ true)) whole
  noted_now = each_both (λ q. contains covers.noted (note space q.item q.block) ≡ true) (λ q. holds q.block p ≡ true) whole
      (noted_all-each space_coding e.noted space whole) (each_map (NotedAt (p * 4096)) (λ q. holds q.block p ≡ true) (λ q at. whole-held p q inside at) whole (noted_at o c (p * 4096) Load ranged is))

  -- a pair that is covered then is this one or was covered
  pair : (s : Capability) (q : ℕ) → covers.covered s q ≡ true → ((s ≡ c) × (q ≡ p)) ⊎ (e.covered s q ≡ true)
  pair s q covered = elim (either (same_space s c && (q == p)) (e.covered s q) covered) [
    | inl here ↦
        let parts = both (same_space s c) (q == p) here in
        inl (key_tells space_coding s c parts.0, same_numbers q p parts.1)
    | inr before ↦ inr before
  ]

  -- this page, where its region is linked to the access's key, which holds it
  covered_now : (v : SharedKept) → v.links space r ≡ Some add.key → v.held add.key j ≡ true → IsCovered v covers o c p
  covered_now v link held = record {
    uncounted = uncounted;
    capability = is;
    inside = inside;
    place = place;
    reached = reach;
    noted = noted_now;
    key = add.key;
    link = link;
    held = held;
    behind = λ x unread. subst (Unread x) adds.entry (adds.unread x unread);
  }

  -- a page that was covered, where its link and its page stay
  covered_still : (v : SharedKept) (s : Capability) (q : ℕ) (was : IsCovered k e o s q) → v.links (counted o s) (q / 1024) ≡ Some was.key → v.held was.key (q % 1024) ≡ true
      → IsCovered v covers o s q
  covered_still v s q was link held = record {
    uncounted = was.uncounted;
    capability = was.capability;
    inside = was.inside;
    place = was.place;
    reached = was.reached;
    noted = each_map (λ t. (contains e.noted (note (counted o s) t.item t.block) ≡ true) × (holds t.block q ≡ true))
        (λ t. (contains covers.noted (note (counted o s) t.item t.block) ≡ true) × (holds t.block q ≡ true))
        (λ t there. (noted_all-more space_coding e.noted space whole (note (counted o s) t.item t.block) there.0, there.1)) (trail o s (q * 4096) Load) was.noted;
    key = was.key;
    link = link;
    held = held;
    behind = was.behind;
  }

  -- a covered pair is this page or another one
  covered_then : (v : SharedKept) → v.links space r ≡ Some add.key → v.held add.key j ≡ true
      → ((s : Capability) (q : ℕ) (was : IsCovered k e o s q) → (v.links (counted o s) (q / 1024) ≡ Some was.key) × (v.held was.key (q % 1024) ≡ true))
      → (s : Capability) (q : ℕ) → covers.covered s q ≡ true → IsCovered v covers o s q
  covered_then v link held still s q covered = elim (pair s q covered) [
    | inl here ↦ subst (λ (t : ℕ). IsCovered v covers o s t) (sym here.1) (subst (λ (d : Capability). IsCovered v covers o d p) (sym here.0) (covered_now v link held))
    | inr before ↦ let was = m.covered s q before in let stays = still s q was in covered_still v s q was stays.0 stays.1
  ]

  -- where the page was held, nothing is added
  pub meets-held : is_held k space p ≡ true → Meets k covers needs o
  meets-held held = on (k.links space r) refl held
    where
      on : (l : Option Key) → k.links space r ≡ l → holds_page k j l ≡ true → Meets k covers needs o
      on None link held = absurd (cc)
      on (Some key) link held =
          let at = m.links space r key link in
          let end = m.held key j held in
          let same : add.key ≡ key = key-linked o ranged c is uncounted p inside place reach key (IsNotedOn k.notes (root_key space) (r * 1024)) at.2 end.0 in
          let root_there : with_key n.frames (root_key space) ≡ n.frames =
          with_key-there n.frames (root_key space) (ap (λ (keys : List Key). has_key keys (root_key space)) (sym m.frames) ∙ at.0) in
          let key_there : with_key n.frames add.key ≡ n.frames =
          with_key-there n.frames add.key ((λ i. has_key (sym m.frames i) (same i)) ∙ at.1) in
          record {
            frames = m.frames ∙ sym (ap (λ (keys : List Key). with_key keys add.key) root_there ∙ key_there);
            roots = λ s i b there. let was = m.roots s i b there in (noted_all-more space_coding e.noted space whole (note s i b) was.0, was.1);
            leaves = λ q there leaf. noted_all-more key_coding n.records add.key add.entry_reads q (m.leaves q there leaf);
            fresh = m.fresh;
            links = m.links;
            held = m.held;
            covered = covered_then k (link ∙ ap (λ (x : Key). Some x) (sym same)) (ap (λ (x : Key). k.held x j) same ∙ held) (λ s q was. (was.link, was.held));
          }

  -- ---- where it was not, it is

  abbrev more : SharedKept
  more = added k space p add

  notes_more : (q : Note) → contains k.notes q ≡ true → contains more.notes q ≡ true
  notes_more q there =
      noted_all-more key_coding (noted_all k.notes (root_key space) add.link_reads) add.key add.entry_reads q (noted_all-more key_coding k.notes (root_key space) add.link_reads q there)

  on_more : (key : Key) (page : ℕ) (t : Noted) → IsNotedOn k.notes key page t → IsNotedOn more.notes key page t
  on_more key page t there = (notes_more (note key t.item t.block) there.0, there.1)

  links_noted : Each (IsNoted more.notes (root_key space)) add.link_reads
  links_noted = each_map (IsNoted (noted_all k.notes (root_key space) add.link_reads) (root_key space)) (IsNoted more.notes (root_key space))
      (λ t there. noted_all-more key_coding (noted_all k.notes (root_key space) add.link_reads) add.key add.entry_reads (note (root_key space) t.item t.block) there)
      add.link_reads (noted_all-each key_coding k.notes (root_key space) add.link_reads)

  entries_noted : Each (IsNoted more.notes add.key) add.entry_reads
  entries_noted = noted_all-each key_coding (noted_all k.notes (root_key space) add.link_reads) add.key add.entry_reads

  -- a note is one that was there, one of the link, or one of the entry
  tell : (q : Note) → contains more.notes q ≡ true → (contains k.notes q ≡ true) ⊎ (IsOf (root_key space) add.link_reads q ⊎ IsOf add.key add.entry_reads q)
  tell q there = elim (noted_all-tells key_coding (noted_all k.notes (root_key space) add.link_reads) add.key add.entry_reads q there) [
    | inr of ↦ inr (inr of)
    | inl before ↦ elim (noted_all-tells key_coding k.notes (root_key space) add.link_reads q before) [
      | inl was ↦ inl was
      | inr of ↦ inr (inl of)
    ]
  ]

  roots_then : (s : Capability) (i : Item) (b : BlockValue) → contains more.notes (note (root_key s) i b) ≡ true → (contains covers.noted (note s i b) ≡ true) × IsWide b
  roots_then s i b there = elim (tell (note (root_key s) i b) there) [
    | inl before ↦ let was = m.roots s i b before in (noted_all-more space_coding e.noted space whole (note s i b) was.0, was.1)
    | inr new ↦ elim new [
      | inl of ↦
          let spaces : s ≡ space = ap (λ (q : Note). q.key.space) of.note_is in
          let item : i ≡ of.read.item = ap (λ (q : Note). q.item) of.note_is in
          let block : b ≡ of.read.block = ap (λ (q : Note). q.block) of.note_is in
          let P : Noted → Type 0 = λ t. contains covers.noted (note space t.item t.block) ≡ true in
          let Q : Noted → Type 0 = λ t. IsWide t.block × (holds t.block (r * 1024) ≡ true) in
          let one = each-middle P of.before of.after of.read (subst (Each P) of.whole (adds.among P (noted_all-each space_coding e.noted space whole))) in
          let two = each-middle Q of.before of.after of.read (subst (Each Q) of.whole adds.links) in
          ((λ z. contains covers.noted (note (spaces z) (item z) (block z))) ∙ one, subst IsWide (sym block) two.0)
      | inr of ↦ let no : false ≡ true = ap (λ (q : Note). is_leaf q.key) of.note_is ∙ adds.leaf in absurd (cc)
    ]
  ]

  root_no_leaf : (q : Note) → IsOf (root_key space) add.link_reads q → is_leaf q.key ≡ true → ⊥
  root_no_leaf q of leaf = let no : false ≡ true = sym (ap (λ (x : Note). is_leaf x.key) of.note_is) ∙ leaf in cc

  leaves_then : (q : Note) → contains more.notes q ≡ true → is_leaf q.key ≡ true → contains needs.records q ≡ true
  leaves_then q there leaf = elim (tell q there) [
    | inl before ↦ noted_all-more key_coding n.records add.key add.entry_reads q (m.leaves q before leaf)
    | inr new ↦ elim new [
      | inl of ↦ absurd (root_no_leaf q of leaf)
      | inr of ↦
          let P : Noted → Type 0 = IsNoted needs.records add.key in
          ap (contains needs.records) of.note_is
          ∙ each-middle P of.before of.after of.read (subst (Each P) of.whole (noted_all-each key_coding n.records add.key add.entry_reads))
    ]
  ]

  -- a read of the entry is fresh
  fresh_now : (q : Note) (of : IsOf add.key add.entry_reads q) → IsFresh o add.key of.read (IsNoted more.notes add.key)
  fresh_now q of =
      let sizes = falls-before 22 of.before of.after of.read (subst (Falls 22) of.whole adds.falls) in
      let places = each_split (InPlace j) of.before (of.read ∷ of.after) (subst (Each (InPlace j)) of.whole adds.placed) in
      let notes = each_split (IsNoted more.notes add.key) of.before (of.read ∷ of.after) (subst (Each (IsNoted more.notes add.key)) of.whole entries_noted) in
      record {
        before = of.before;
        recorded = notes.0;
        nested = each_map (λ t. (of.read.block.l2 ≤ t.block.l2) × InPlace j t) (λ t. lies_in of.read.block t.block ≡ true)
            (λ t both_of. place-nested j of.read t less places.1.0 both_of.1 both_of.0) of.before
            (each_both (λ t. of.read.block.l2 ≤ t.block.l2) (InPlace j) of.before sizes places.0);
        made = λ i small there. adds.fresh of.before of.after of.read of.whole i small there;
      }

  -- a read that was fresh is so with more notes
  fresh_more : (key : Key) (t : Noted) → IsFresh o key t (IsNoted k.notes key) → IsFresh o key t (IsNoted more.notes key)
  fresh_more key t was = record {
    before = was.before;
    recorded = each_map (IsNoted k.notes key) (IsNoted more.notes key) (λ u there. notes_more (note key u.item u.block) there) was.before was.recorded;
    nested = was.nested;
    made = was.made;
  }

  fresh_then : (q : Note) → contains more.notes q ≡ true → is_leaf q.key ≡ true → IsFresh o q.key (noted_in q.item q.block) (IsNoted more.notes q.key)
  fresh_then q there leaf = elim (tell q there) [
    | inl before ↦ fresh_more q.key (noted_in q.item q.block) (m.fresh q before leaf)
    | inr new ↦ elim new [
      | inl of ↦ absurd (root_no_leaf q of leaf)
      | inr of ↦ subst (λ (x : Note). IsFresh o x.key (noted_in x.item x.block) (IsNoted more.notes x.key)) (sym of.note_is) (fresh_now q of)
    ]
  ]

  -- what is known of a link
  abbrev Linked : Capability → ℕ → Key → Type 0
  Linked s i key = (has_key more.keys (root_key s) ≡ true) × (has_key more.keys key ≡ true) × LinkLeads o s i key (IsNotedOn more.notes (root_key s) (i * 1024))

  linked_now : Linked space r add.key
  linked_now = (
    has_key-more (with_key k.keys (root_key space)) (root_key space) add.key (has_key-added k.keys (root_key space)),
    has_key-added (with_key k.keys (root_key space)) add.key,
    adds.leads (IsNotedOn more.notes (root_key space) (r * 1024))
        (each_both (IsNoted more.notes (root_key space)) (λ t. holds t.block (r * 1024) ≡ true) add.link_reads links_noted
        (each_map (λ t. IsWide t.block × (holds t.block (r * 1024) ≡ true)) (λ t. holds t.block (r * 1024) ≡ true) (λ t both_of. both_of.1) add.link_reads adds.links)),
  )

  linked_still : (s : Capability) (i : ℕ) (key : Key) → k.links s i ≡ Some key → Linked s i key
  linked_still s i key link =
      let was = m.links s i key link in (
        has_key-more (with_key k.keys (root_key space)) (root_key s) add.key (has_key-more k.keys (root_key s) (root_key space) was.0),
        has_key-more (with_key k.keys (root_key space)) key add.key (has_key-more k.keys key (root_key space) was.1),
        leads-map o s i key.space key.table (IsNotedOn k.notes (root_key s) (i * 1024)) (IsNotedOn more.notes (root_key s) (i * 1024)) (on_more (root_key s) (i * 1024)) was.2,
      )

  links_then : (s : Capability) (i : ℕ) (key : Key) → more.links s i ≡ Some key → Linked s i key
  links_then s i key link = on (same_space s space && (i == r)) refl link
    where
      on : (b : Bool) → (same_space s space && (i == r)) ≡ b → (if b then Some add.key else k.links s i) ≡ Some key → Linked s i key
      on true is link =
          let parts = both (same_space s space) (i == r) is in
          let key_is : add.key ≡ key = cc (link) in
          subst (Linked s i) key_is
          (subst (λ (x : ℕ). Linked s x add.key) (sym (same_numbers i r parts.1)) (subst (λ (d : Capability). Linked d r add.key) (sym (key_tells space_coding s space parts.0)) linked_now))
      on false is link = linked_still s i key link

  held_then : (x : Key) (i : ℕ) → more.held x i ≡ true → Ends o x i × Each (IsNotedOn more.notes x i) (reads_behind o x i)
  held_then x i there = elim (either (same_key x add.key && (i == j)) (k.held x i) there) [
    | inl here ↦
        let parts = both (same_key x add.key) (i == j) here in
        let notes : Each (IsNotedOn more.notes add.key j) add.entry_reads =
        each_both (IsNoted more.notes add.key) (λ t. holds t.block j ≡ true) add.entry_reads entries_noted
        (each_map (InPlace j) (λ t. holds t.block j ≡ true) (λ t at. place-held j t less at) add.entry_reads adds.placed) in
        let now : Ends o add.key j × Each (IsNotedOn more.notes add.key j) (reads_behind o add.key j) = (adds.ends, subst (Each (IsNotedOn more.notes add.key j)) adds.entry notes) in
        subst (λ (y : Key). Ends o y i × Each (IsNotedOn more.notes y i) (reads_behind o y i)) (sym (key_tells key_coding x add.key parts.0))
        (subst (λ (y : ℕ). Ends o add.key y × Each (IsNotedOn more.notes add.key y) (reads_behind o add.key y)) (sym (same_numbers i j parts.1)) now)
    | inr before ↦
        let was = m.held x i before in
        (was.0, each_map (IsNotedOn k.notes x i) (IsNotedOn more.notes x i) (on_more x i) (reads_behind o x i) was.1)
  ]

  -- where a covered page's region gets the link, it is to the key that it had
  link_still : (s : Capability) (q : ℕ) (was : IsCovered k e o s q) → more.links (counted o s) (q / 1024) ≡ Some was.key
  link_still s q was = on (same_space (counted o s) space && (q / 1024 == r)) refl
    where
      on : (b : Bool) → (same_space (counted o s) space && (q / 1024 == r)) ≡ b → (if b then Some add.key else k.links (counted o s) (q / 1024)) ≡ Some was.key
      on false other = was.link
      on true here =
          let parts = both (same_space (counted o s) space) (q / 1024 == r) here in
          let spaces : counted o s ≡ space = key_tells space_coding (counted o s) space parts.0 in
          let one : s ≡ c = sym was.uncounted ∙ (sym (bare-counted o s) ∙ (ap bare spaces ∙ (bare-counted o c ∙ uncounted))) in
          let reach_too : access o c (q * 4096) Load ≡ Ok was.place = ap (λ (d : Capability). access o d (q * 4096) Load) (sym one) ∙ was.reached in
          let link : k.links space (q / 1024) ≡ Some was.key = ap (λ (d : Capability). k.links d (q / 1024)) (sym spaces) ∙ was.link in
          let leads = m.links space (q / 1024) was.key link in
          let ends = m.held was.key (q % 1024) was.held in
          let linked = key-linked o ranged c is uncounted q was.inside was.place reach_too was.key (IsNotedOn k.notes (root_key space) (q / 1024 * 1024)) leads.2 ends.0 in
          let region = key-region o ranged c is uncounted p inside place reach q was.inside was.place reach_too (sym (same_numbers (q / 1024) r parts.1)) in
          ap (λ (x : Key). Some x) (region ∙ linked)

  link_now : more.links space r ≡ Some add.key
  link_now =
      let here : (same_space space space && (r == r)) ≡ true = rw (key_itself space_coding space) (number_itself r) in
      ap (λ (b : Bool). if b then Some add.key else k.links space r) here

  held_now : more.held add.key j ≡ true
  held_now =
      let here : (same_key add.key add.key && (j == j)) ≡ true = rw (key_itself key_coding add.key) (number_itself j) in
      or_left (same_key add.key add.key && (j == j)) (k.held add.key j) here

  pub meets-added : Meets more covers needs o
  meets-added = record {
    frames = ap (λ (keys : List Key). with_key (with_key keys (root_key space)) add.key) m.frames;
    roots = roots_then;
    leaves = leaves_then;
    fresh = fresh_then;
    links = links_then;
    held = held_then;
    covered = covered_then more link_now held_now
        (λ s q was. (link_still s q was, or_right (same_key was.key add.key && (q % 1024 == j)) (k.held was.key (q % 1024)) was.held));
  }
