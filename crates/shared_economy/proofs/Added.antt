-- What an access that reaches adds: the reads behind its key, where they lead, and what its link depends on. And that where a
-- page is held, the key that is linked is the access's own.
use Rattle.std.proofs.Common.{◌≡◌, ◌≢◌, inl, ℕ, suc, ◌+◌, ◌*◌, ◌/◌, ◌%◌, ◌^◌, ◌<◌, ◌≤◌, Bool, true, false, if◌then◌else◌, List, [], ◌∷◌, ◌++◌, length, map, take, drop, Option, Some, None, Ok, refl, sym, ap, subst, ◌∙◌, arith}
use Rattle.std.specs.List.{AllByRecursion as Each}
use Rattle.std.proofs.Math.Nat.{le_trans}
use Rattle.std.proofs.Math.Seq.{drop-append_seam, take-append-add}
use Rattle.cap_format.specs.Capability.{Capability, IsCapability, bare, with_count}
use Rattle.cap_format.specs.Kind.{is_counted, object_kind}
use Rattle.cap_format.specs.declared.item.Item.{Item}
use Rattle.cap_format.specs.declared.item.Item.TheVariants.{Header}
use Rattle.cap_format.specs.declared.kind.CapKind.TheVariants.{Gpt}
use Rattle.guard_math.specs.Block.{around, block_of, holds}
use Rattle.object_store.specs.Store.{Items, count_of}
use Rattle.object_store.specs.Ranges.{IsRanged}
use Rattle.walk_meaning.specs.declared.kind.Kind.{Kind}
use Rattle.walk_meaning.specs.declared.kind.Kind.TheVariants.{Load}
use Rattle.walk_meaning.specs.declared.noted.Noted.{Noted}
use Rattle.walk_meaning.specs.declared.place.Place.{Place}
use Rattle.walk_meaning.specs.Walk.{access, start_at, step}
use Rattle.walk_meaning.specs.Trail.{header_noted, noted, noted_in, trail, trail_from}
use Rattle.walk_meaning.specs.After.{trail_after}
use Rattle.walk_meaning.specs.Laws.{Unread}
use Rattle.walk_meaning.proofs.BlockLaw.{Falls, block_law, falls}
use Rattle.walk_meaning.proofs.FrameLaw.{Agree, Apart}
use Rattle.walk_meaning.proofs.KindLaw.{kind_law}
use Rattle.walk_meaning.proofs.PageLaw.{page_law}
use Rattle.walk_meaning.proofs.ReadsLaw.{NotedAt, each-middle, noted_at}
use Rattle.walk_meaning.proofs.Walked.{trail_from-suc}
use Rattle.producers.specs.declared.producer.Background.{Background}
use Rattle.producers.specs.declared.producer.Produced.{Produced}
use Rattle.producers.specs.declared.producer.Producer.{Producer}
use Rattle.producers.specs.Producer.{Point, aged, at_join, cut, gpt_cap, join_of, joined_trail, joined_walk, key_of, produced_by}
use Rattle.producers.specs.Meets.{Meets}
use Rattle.producers.specs.Laws.{Joined}
use Rattle.producers.proofs.Behind.{joined-front, joined-last, last-joined}
use Rattle.producers.proofs.Cuts.{map-append}
use Rattle.producers.proofs.Fronts.{map-split}
use Rattle.producers.proofs.Joins.{join_law, joins-alike}
use Rattle.producers.proofs.Points.{meets-rests}
use Rattle.producers.proofs.Regions.{meets-capability, meets-low}
use Rattle.producers.proofs.Staying.{meets-stays, unread-append}
use Rattle.producers.proofs.Wide.{wide-last, wide-region, wide_from}
use Rattle.map_cache.specs.Kept.{counted}
use Rattle.shared_leaves.specs.declared.key.Key.{Key}
use Rattle.shared_leaves.specs.declared.key.Table.{Table}
use Rattle.shared_leaves.specs.declared.key.Table.TheVariants.{Region, Root, Producer as Joins}
use Rattle.shared_leaves.specs.Key.{is_leaf, own_key, producer_key}
use Rattle.shared_leaves.specs.Kept.{Addition, addition_by, addition_of, background_reads}
use Rattle.shared_economy.specs.Accesses.{IsAccess}
use Rattle.shared_economy.proofs.Places.{InPlace, IsWide, falls-before, falls-behind, falls-cut, in-place, page_high, page_low, place_high, place_low, uncut-covers, whole_page, whole-held, wide-block, wide-same}
use Rattle.shared_economy.proofs.Trails.{Ends, EndsIn, JoinedEnd, LeadsTo, LinkLeads, cut-unread, each_append, each_map, each_split, reads_behind, reads_in}

-- a space's count taken away again
pub bare-counted : (o : Items) (space : Capability) → bare (counted o space) ≡ bare space
bare-counted o space = on (is_counted space.kind)
  where
    on : (b : Bool) → bare (if b then with_count space (count_of o (object_kind space.kind) space.object) else space) ≡ bare space
    on true = refl
    on false = refl

-- the same maps
agree_itself : (x : Item) (o : Items) → Agree x o o
agree_itself x o = record {
  sizes = λ k. refl;
  counts = λ k n apart. refl;
  headers = λ g apart. refl;
  slots = λ g i apart unread. inl refl;
}

each-placed : (p : ℕ) (xs : List Noted) → Each (NotedAt (p * 4096)) xs → Each (InPlace (p % 1024)) (map cut xs)
each-placed p [] all = tt
each-placed p (x ∷ xs) all = (in-place p x all.0, each-placed p xs all.1)

-- reads of a background, and where it is another object
placed-background : (j : ℕ) (b : Option Background) → j < 1024 → Each (InPlace j) (background_reads b)
placed-background j None less = tt
placed-background j (Some b) less =
    let none : j * 4096 / 2 ^ 22 ≡ 0 = omega (arith, less) in
    (record { round = ap (λ (q : ℕ). block_of (q * 2 ^ 22) 22) (sym none); low = omega arith; high = omega arith }, tt)

falls-background : (b : Option Background) (xs : List Noted) → Falls 22 xs → Falls 22 (background_reads b ++ xs)
falls-background None xs falls = falls
falls-background (Some b) xs falls = (omega arith, falls)

unread-background : (x : Item) (o : Items) (b : Option ℕ) → Apart x b → Unread x (background_reads (aged o b))
unread-background x o None apart = tt
unread-background x o (Some g) apart = (apart, tt)

-- ---- what an access adds

-- what is known of what an access of page `p` of a space adds
pub record Adds (o : Items) (space : Capability) (p : ℕ) (whole : List Noted) (add : Addition) : Type 1 where
  pub leaf : is_leaf add.key ≡ true
  pub entry : add.entry_reads ≡ reads_behind o add.key (p % 1024)
  pub ends : Ends o add.key (p % 1024)
  pub placed : Each (InPlace (p % 1024)) add.entry_reads
  pub falls : Falls 22 add.entry_reads
  pub fresh : (before after : List Noted) (n : Noted) → add.entry_reads ≡ before ++ n ∷ after → (j : ℕ) → j < 1024 → holds n.block j ≡ true
      → (rest : List Noted) × (reads_behind o add.key j ≡ before ++ n ∷ rest)
  pub leads : (P : Noted → Type 0) → Each P add.link_reads → LinkLeads o space (p / 1024) add.key P
  pub links : Each (λ n. IsWide n.block × (holds n.block (p / 1024 * 1024) ≡ true)) add.link_reads
  pub among : (P : Noted → Type 0) → Each P whole → Each P add.link_reads
  pub unread : (x : Item) → Unread x whole → Unread x add.entry_reads

module _ (o : Items) (ranged : IsRanged o) (c : Capability) (is : IsCapability c) (uncounted : bare c ≡ c) (p : ℕ) (fits : p < 2 ^ 20)
    (place : Place) (reach : access o c (p * 4096) Load ≡ Ok place) where
  abbrev space : Capability
  space = counted o c

  abbrev a : ℕ
  a = p * 4096

  abbrev r : ℕ
  r = p / 1024

  abbrev j : ℕ
  j = p % 1024

  abbrev whole : List Noted
  whole = trail o c a Load

  abbrev joint : Option Point
  joint = join_of o c a Load

  bare_space : bare space ≡ c
  bare_space = bare-counted o c ∙ uncounted

  placed_all : Each (NotedAt a) whole
  placed_all = noted_at o c a Load ranged is

  falls_all : Falls 32 whole
  falls_all = falls o Load a 32 c (start_at a)

  -- the last producer of the walk
  pub wide_is : wide_from o Load 32 c (start_at a) 0 ≡ produced_by o joint
  wide_is = wide-last o Load a place 32 c (start_at a) [] reach

  -- ---- without a producer

  own_front : (before after : List Noted) (n : Noted) → map cut whole ≡ before ++ n ∷ after → (i : ℕ) → i < 1024 → holds n.block i ≡ true
      → (rest : List Noted) × (reads_in o space (Region r) i ≡ before ++ n ∷ rest)
  own_front before after n are i less held =
      let split = map-split cut whole before after n are in
      let m : Noted = split.middle in
      let at : NotedAt a m = each-middle (NotedAt a) split.front split.back m (subst (Each (NotedAt a)) split.whole placed_all) in
      let b : ℕ = (r * 1024 + i) * 4096 in
      let inside = uncut-covers p i m fits at less (ap (λ (k : Noted). holds k.block i) split.middle_is ∙ held) in
      let law = block_law o c a b Load Load split.front split.back m ranged is split.whole inside in (
        map cut law.0,
        (λ i. map cut (trail o (bare_space i) b Load))
            ∙ (ap (map cut) law.1 ∙ (map-append cut split.front (m ∷ law.0) ∙ (λ i. split.front_is i ++ split.middle_is i ∷ map cut law.0))),
      )

  own_adds : joint ≡ None → Adds o space p whole (addition_by o space p whole None)
  own_adds none = record {
    leaf = refl;
    entry = λ i. map cut (trail o (sym bare_space i) (sym (whole_page p) i * 4096) Load);
    ends = record {
      place = place;
      reached = (λ i. access o (bare_space i) (whole_page p i * 4096) Load) ∙ reach;
      alone = (λ i. wide_from o Load 32 (bare_space i) (start_at (whole_page p i * 4096)) 0) ∙ (wide_is ∙ ap (produced_by o) none);
    };
    placed = each-placed p whole placed_all;
    falls = falls-cut 32 whole falls_all;
    fresh = own_front;
    leads = λ P all. (refl, refl);
    links = tt;
    among = λ P all. tt;
    unread = λ x unread. cut-unread x whole unread;
  }

  -- ---- with a producer

  module _ (m : Point) (found : joint ≡ Some m) where
    joined : Joined o c a Load place m
    joined = join_law o c a Load place m ranged is (omega (arith, fits)) reach found

    abbrev key : Producer
    key = key_of o m

    abbrev tail : List Noted
    tail = trail_from o Load a (suc m.left) m.cap m.at

    whole_is : whole ≡ m.before ++ tail
    whole_is = (meets-rests o Load a m 32 c (start_at a) m.before joined.met).reads_are

    wide : 22 ≤ m.at.l2
    wide = let w = joined.passes.wide in omega (arith, w)

    first : Noted
    first = noted (Header (object_kind m.cap.kind) m.cap.object) a m.at.l2

    header_is : header_noted m.cap a m.at.l2 ≡ first ∷ []
    unfolding first
    header_is =
        let counts : is_counted m.cap.kind ≡ true = ap is_counted joined.passes.kind in
        ap (λ (b : Bool). if b then noted (Header (object_kind m.cap.kind) m.cap.object) a m.at.l2 ∷ [] else []) counts

    later : List Noted
    later = trail_after o Load a m.left (step o Load m.cap m.at)

    tail_is : tail ≡ first ∷ later
    unfolding later
    tail_is = trail_from-suc o Load a m.left m.cap m.at ∙ ap (λ (t : List Noted). t ++ trail_after o Load a m.left (step o Load m.cap m.at)) header_is

    parts : whole ≡ m.before ++ first ∷ later
    parts = whole_is ∙ ap (λ (t : List Noted). m.before ++ t) tail_is

    -- the reads behind the producer, cut
    behind_is : map cut tail ≡ joined_trail o key (j * 4096) Load
    behind_is =
        (joins-alike o Load a m joined.passes (meets-capability o ranged Load a m wide 32 c (start_at a) m.before is joined.met)
        (meets-low o ranged Load a m wide 32 c (start_at a) m.before is joined.met)).reads
        ∙ ap (λ (low : ℕ). joined_trail o key low Load) (page_low p)

    abbrev links_are : List Noted
    links_are = take (length m.before + 1) whole

    abbrev entries_are : List Noted
    entries_are = background_reads key.background ++ map cut (drop (length m.before) whole)

    links_is : links_are ≡ m.before ++ first ∷ []
    links_is = ap (take (length m.before + 1)) parts ∙ take-append-add m.before (first ∷ later) 1

    entries_is : entries_are ≡ background_reads key.background ++ map cut tail
    entries_is = ap (λ (t : List Noted). background_reads key.background ++ map cut t) (ap (drop (length m.before)) whole_is ∙ drop-append_seam m.before tail)

    -- what holds of each read up to the producer's header
    sizes : Each (λ n. 22 ≤ n.block.l2) (m.before ++ first ∷ [])
    unfolding first
    sizes = each_append (λ n. 22 ≤ n.block.l2) m.before (first ∷ [])
        (each_map (λ n. m.at.l2 ≤ n.block.l2) (λ n. 22 ≤ n.block.l2) (λ n below. le_trans wide below) m.before
        (falls-before 32 m.before later first (subst (Falls 32) parts falls_all)))
        (wide, tt)

    in_front : (P : Noted → Type 0) → Each P whole → Each P (m.before ++ first ∷ [])
    in_front P all =
        let split = each_split P m.before (first ∷ later) (subst (Each P) parts all) in
        each_append P m.before (first ∷ []) split.0 (split.1.0, tt)

    each_wide : (ns : List Noted) → Each (NotedAt a) ns → Each (λ n. 22 ≤ n.block.l2) ns → Each (λ n. IsWide n.block × (holds n.block (r * 1024) ≡ true)) ns
    each_wide [] ats more = tt
    each_wide (n ∷ ns) ats more =
        let block : IsWide n.block = wide-block p n fits ats.0 more.0 in
        let held : holds n.block p ≡ true = held_at n ats.0 in
        ((block, sym (wide-same n.block r p block refl) ∙ held), each_wide ns ats.1 more.1)
      where
        held_at : (n : Noted) → NotedAt a n → holds n.block p ≡ true
        held_at n at = whole-held p n fits at

    background : (x : Item) → Unread x whole → Unread x (background_reads key.background)
    background x unread =
        let front : Unread x (m.before ++ header_noted m.cap a m.at.l2) =
        subst (Unread x) (ap (λ (t : List Noted). m.before ++ t) (sym header_is)) (in_front (λ n. n.item ≢ x) unread) in
        unread-background x o m.at.background
        (meets-stays x o o (agree_itself x o) Load a m joined.passes.kind 32 c (start_at a) m.before tt tt joined.met front).background

    joined_front : (before after : List Noted) (n : Noted) → map cut tail ≡ before ++ n ∷ after → (i : ℕ) → i < 1024 → holds n.block i ≡ true
        → (rest : List Noted) × (joined_trail o key (i * 4096) Load ≡ before ++ n ∷ rest)
    joined_front before after n are i less held =
        let split = map-split cut tail before after n are in
        let k : Noted = split.middle in
        let whole_split : whole ≡ m.before ++ (split.front ++ k ∷ split.back) = whole_is ∙ ap (λ (t : List Noted). m.before ++ t) split.whole in
        let rest_at = each_split (NotedAt a) m.before (split.front ++ k ∷ split.back) (subst (Each (NotedAt a)) whole_split placed_all) in
        let at : NotedAt a k = each-middle (NotedAt a) split.front split.back k rest_at.1 in
        let b : ℕ = (r * 1024 + i) * 4096 in
        let inside = uncut-covers p i k fits at less (ap (λ (q : Noted). holds q.block i) split.middle_is ∙ held) in
        let near : a / 2 ^ 22 ≡ b / 2 ^ 22 = page_high p ∙ sym (place_high r i less) in
        let law = joined-front o ranged Load a c is m m.before joined.met joined.passes b split.front split.back k whole_split near inside in (
          law.0,
          sym (ap (λ (low : ℕ). joined_trail o key low Load) (place_low r i less)) ∙ (law.1 ∙ (λ i. split.front_is i ++ split.middle_is i ∷ law.0)),
        )

    -- a read of the background, or one behind the producer
    fresh_behind : (b : Option Background) (before after : List Noted) (n : Noted) → background_reads b ++ map cut tail ≡ before ++ n ∷ after
        → (i : ℕ) → i < 1024 → holds n.block i ≡ true
        → (rest : List Noted) × (background_reads b ++ joined_trail o key (i * 4096) Load ≡ before ++ n ∷ rest)
    fresh_behind None before after n are i less held = joined_front before after n are i less held
    fresh_behind (Some b) [] after n are i less held =
        let one : noted_in (Header Gpt b.gpt) (around 0 22) ≡ n = cc (are) in
        (joined_trail o key (i * 4096) Load, ap (λ (k : Noted). k ∷ joined_trail o key (i * 4096) Load) one)
    fresh_behind (Some b) (k ∷ before) after n are i less held =
        let one : noted_in (Header Gpt b.gpt) (around 0 22) ≡ k = cc (are) in
        let behind : map cut tail ≡ before ++ n ∷ after = cc (are) in
        let rest = joined_front before after n behind i less held in
        (rest.0, λ i. one i ∷ rest.1 i)

    joined_adds : Adds o space p whole (addition_by o space p whole (Some m))
    joined_adds = record {
      leaf = refl;
      entry = entries_is ∙ ap (λ (t : List Noted). background_reads key.background ++ t) behind_is;
      ends = record {
        place = place;
        reached = sym (ap (λ (low : ℕ). joined_walk o key low Load) (page_low p)) ∙ joined.reached;
        last = last-joined o ranged Load a c is m m.before joined.met joined.passes (wide_is ∙ ap (produced_by o) found) (j * 4096) (omega arith);
      };
      placed = subst (Each (InPlace j)) (sym entries_is)
          (each_append (InPlace j) (background_reads key.background) (map cut tail) (placed-background j key.background (omega arith))
          (each-placed p tail (each_split (NotedAt a) m.before tail (subst (Each (NotedAt a)) whole_is placed_all)).1));
      falls = subst (Falls 22) (sym entries_is)
          (falls-background key.background (map cut tail) (falls-cut 32 tail (falls-behind 32 m.before tail (subst (Falls 32) whole_is falls_all))));
      fresh = λ before after n are i less held. fresh_behind key.background before after n (sym entries_is ∙ are) i less held;
      leads = λ P all. (
        refl,
        record {
          address = a;
          there = page_high p;
          point = m;
          reads = m.before;
          met = subst (λ (d : Capability). Meets o Load a 32 d (start_at a) m m.before) (sym bare_space) joined.met;
          passes = joined.passes;
          key_is = refl;
          recorded = subst (Each P) (links_is ∙ ap (λ (t : List Noted). m.before ++ t) (sym header_is)) all;
        },
      );
      links = subst (Each (λ n. IsWide n.block × (holds n.block (r * 1024) ≡ true))) (sym links_is)
          (each_wide (m.before ++ first ∷ []) (in_front (NotedAt a) placed_all) sizes);
      among = λ P all. subst (Each P) (sym links_is) (in_front P all);
      unread = λ x unread. subst (Unread x) (sym entries_is)
          (each_append (λ n. n.item ≢ x) (background_reads key.background) (map cut tail) (background x unread)
          (cut-unread x tail (unread-append x m.before tail (subst (Unread x) whole_is unread)).1));
    }

  -- what the load adds
  pub load-adds : Adds o space p whole (addition_by o space p whole joint)
  load-adds = on joint refl
    where
      on : (m : Option Point) → joint ≡ m → Adds o space p whole (addition_by o space p whole m)
      on None none = own_adds none
      on (Some m) found = joined_adds m found

  -- ---- a page that is held

  -- the addition's key where the last producer is known
  key_none : (m : Option Point) → ◌≡◌ {A = Option Produced} (produced_by o m) None → (addition_by o space p whole m).key ≡ own_key space r
  key_none None e = refl
  key_none (Some m) e = absurd (cc)

  key_some : (m : Option Point) (d : Produced) → produced_by o m ≡ Some d → (addition_by o space p whole m).key ≡ producer_key d.producer
  key_some None d e = absurd (cc)
  key_some (Some m) d e =
      let one : ◌≡◌ {A = Produced} (record { producer = key_of o m; before = length m.before }) d = cc (e) in
      ap (λ (x : Produced). producer_key x.producer) one

  -- where a region is linked to a key behind which no walks join at this place, it is the access's key
  pub key-linked : (k : Key) (P : Noted → Type 0) → LinkLeads o space r k P → Ends o k j → (addition_by o space p whole joint).key ≡ k
  key-linked k P leads ends = on k.space k.table leads ends
    where
      on : (s : Capability) (t : Table) → LeadsTo o space r s t P → EndsIn o s t j → (addition_by o space p whole joint).key ≡ record { space = s; table = t }
      on s Root leads ends = absurd leads
      on s (Region t) leads ends =
          let here : s ≡ space = leads.0 in
          let region : t ≡ r = leads.1 in
          let none : produced_by o joint ≡ None =
          sym wide_is
          ∙ ((λ i. wide_from o Load 32 (sym bare_space i) (start_at (sym (whole_page p) i * 4096)) 0)
          ∙ ((λ i. wide_from o Load 32 (bare (sym here i)) (start_at ((sym region i * 1024 + j) * 4096)) 0) ∙ ends.alone)) in
          key_none joint none ∙ (λ i. own_key (sym here i) (sym region i))
      on s (Joins x) leads ends =
          let l = leads.1 in
          let met : Meets o Load l.address 32 c (start_at l.address) l.point l.reads =
          subst (λ (d : Capability). Meets o Load l.address 32 d (start_at l.address) l.point l.reads) bare_space l.met in
          let last = joined-last o ranged Load l.address c is l.point l.reads met l.passes (j * 4096) (omega arith) (last_at l.point x l.key_is ends) in
          let moved : wide_from o Load 32 c (start_at l.address) 0 ≡ wide_from o Load 32 c (start_at a) 0 =
          wide-region o ranged Load Load 32 c (start_at l.address) a 0 is (l.there ∙ sym (page_high p)) in
          key_some joint (record { producer = key_of o l.point; before = length l.reads }) (sym wide_is ∙ (sym moved ∙ last))
          ∙ (λ i. record { space = sym leads.0 i; table = Joins (l.key_is i) })
        where
          last_at : (m : Point) (x : Producer) → key_of o m ≡ x → JoinedEnd o x j
              → wide_from o Load (suc m.left) (gpt_cap m.cap.object) (at_join (key_of o m) (j * 4096)) 0 ≡ Some (record { producer = key_of o m; before = 0 })
          last_at m x is end = (subst (λ (q : Producer). JoinedEnd o q j) (sym is) end).last

-- the key of what an access adds, by its last producer
key_with : Capability → ℕ → Option Produced → Key
key_with s region None = own_key s region
key_with s region (Some d) = producer_key d.producer

key-with : (o : Items) (space : Capability) (page : ℕ) (reads : List Noted) (m : Option Point) → (addition_by o space page reads m).key ≡ key_with space (page / 1024) (produced_by o m)
unfolding key_with
key-with o s page reads None = refl
key-with o s page reads (Some m) = refl

-- two loads of one region that reach have the same key
pub key-region : (o : Items) → IsRanged o → (c : Capability) → IsCapability c → bare c ≡ c
    → (p : ℕ) → p < 2 ^ 20 → (place : Place) → access o c (p * 4096) Load ≡ Ok place
    → (q : ℕ) → q < 2 ^ 20 → (other : Place) → access o c (q * 4096) Load ≡ Ok other → p / 1024 ≡ q / 1024
    → (addition_by o (counted o c) p (trail o c (p * 4096) Load) (join_of o c (p * 4096) Load)).key
    ≡ (addition_by o (counted o c) q (trail o c (q * 4096) Load) (join_of o c (q * 4096) Load)).key
key-region o ranged c is uncounted p fits place reach q fits_too other reach_too region =
    let near : p * 4096 / 2 ^ 22 ≡ q * 4096 / 2 ^ 22 = page_high p ∙ (region ∙ sym (page_high q)) in
    let produced : produced_by o (join_of o c (p * 4096) Load) ≡ produced_by o (join_of o c (q * 4096) Load) =
    sym (wide_is o ranged c is uncounted p fits place reach)
    ∙ (wide-region o ranged Load Load 32 c (start_at (p * 4096)) (q * 4096) 0 is near ∙ wide_is o ranged c is uncounted q fits_too other reach_too) in
    key-with o (counted o c) p (trail o c (p * 4096) Load) (join_of o c (p * 4096) Load)
    ∙ ((λ i. key_with (counted o c) (region i) (produced i))
    ∙ sym (key-with o (counted o c) q (trail o c (q * 4096) Load) (join_of o c (q * 4096) Load)))

-- ---- any access of data that reaches

-- an access that reaches, as the load of its page's first address
pub record AsLoad (o : Items) (c : Capability) (address : ℕ) (kind : Kind) : Type 0 where
  pub place : Place
  pub reached : access o c (address / 4096 * 4096) Load ≡ Ok place
  pub reads : trail o c address kind ≡ trail o c (address / 4096 * 4096) Load
  pub adds : addition_of o c address kind
      ≡ addition_by o (counted o c) (address / 4096) (trail o c (address / 4096 * 4096) Load) (join_of o c (address / 4096 * 4096) Load)

-- an addition by its last producer
addition_with : Items → Capability → ℕ → List Noted → Option Produced → Addition
addition_with o s page reads None = record { key = own_key s (page / 1024); link_reads = []; entry_reads = map cut reads }
addition_with o s page reads (Some d) = record {
  key = producer_key d.producer;
  link_reads = take (d.before + 1) reads;
  entry_reads = background_reads d.producer.background ++ map cut (drop d.before reads);
}

addition-with : (o : Items) (space : Capability) (page : ℕ) (reads : List Noted) (m : Option Point) → addition_by o space page reads m ≡ addition_with o space page reads (produced_by o m)
unfolding addition_with
addition-with o s page reads None = refl
addition-with o s page reads (Some m) = refl

pub as-load : (o : Items) (c : Capability) (address : ℕ) (kind : Kind) (place : Place) → IsAccess o c address kind → access o c address kind ≡ Ok place → AsLoad o c address kind
as-load o c address kind place is reach =
    let a : ℕ = address / 4096 * 4096 in
    let page : address / 4096 ≡ a / 4096 = omega arith in
    let first = page_law o c address a kind place is.ranged is.capability page reach in
    let there : Place = record { kind = place.kind; number = place.number; offset = a % 4096; restr = place.restr } in
    let second = kind_law o c a kind Load there is.data_kind first.reached in
    let loads : access o c a Load ≡ Ok there = second.same refl in
    let reads : trail o c address kind ≡ trail o c a Load = sym first.reads ∙ sym second.reads in
    let moved : wide_from o kind 32 c (start_at address) 0 ≡ wide_from o Load 32 c (start_at a) 0 =
    wide-region o is.ranged kind Load 32 c (start_at address) a 0 is.capability (omega arith) in
    let produced : produced_by o (join_of o c address kind) ≡ produced_by o (join_of o c a Load) =
    sym (wide-last o kind address place 32 c (start_at address) [] reach) ∙ (moved ∙ wide-last o Load a there 32 c (start_at a) [] loads) in
    record {
      place = there;
      reached = loads;
      reads = reads;
      adds =
          addition-with o (counted o c) (address / 4096) (trail o c address kind) (join_of o c address kind)
          ∙ ((λ i. addition_with o (counted o c) (address / 4096) (reads i) (produced i))
          ∙ sym (addition-with o (counted o c) (address / 4096) (trail o c a Load) (join_of o c a Load)));
    }
