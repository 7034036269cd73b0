-- What a walk that reached adds: its reads in their parts, and that its link and its entry are right and depend on these.
use Rattle.std.proofs.Common.{◌≡◌, ℕ, zero, suc, ◌+◌, ◌*◌, ◌/◌, ◌%◌, ◌^◌, ◌<◌, ◌≤◌, min, true, if◌then◌else◌, List, [], ◌∷◌, ◌++◌, length, length-append, map, take, drop, Option, Some, None, Ok, refl, sym, ap, ◌∙◌, subst, append_assoc, arith}
use Rattle.std.specs.Prelude.{IfSome}
use Rattle.std.specs.Result.{result_ok}
use Rattle.std.specs.List.{AllByRecursion as Each}
use Rattle.std.proofs.lemmas.List.{append_cancel_left, drop_at, take_at}
use Rattle.cap_format.specs.Capability.{Capability, IsCapability}
use Rattle.cap_format.specs.Item.{IsItem}
use Rattle.cap_format.specs.Kind.{is_counted, object_kind}
use Rattle.cap_format.specs.declared.item.Item.TheVariants.{Header}
use Rattle.cap_format.specs.declared.kind.CapKind.{CapKind}
use Rattle.guard_math.specs.Block.{BlockValue, around, block_of, holds}
use Rattle.guard_math.proofs.BlockLaws.{IsBlock-around, covers-around_self, holds-page}
use Rattle.object_store.specs.Store.{Items}
use Rattle.object_store.specs.Meaning.{meaning}
use Rattle.object_store.specs.Ranges.{IsRanged}
use Rattle.walk_meaning.specs.declared.kind.Kind.{Kind}
use Rattle.walk_meaning.specs.declared.kind.Kind.TheVariants.{Load}
use Rattle.walk_meaning.specs.declared.noted.Noted.{Noted}
use Rattle.walk_meaning.specs.declared.place.Place.{Place}
use Rattle.walk_meaning.specs.Bounds.{Below}
use Rattle.walk_meaning.specs.Walk.{access, is_data}
use Rattle.walk_meaning.specs.Trail.{header_noted, noted, trail}
use Rattle.walk_meaning.specs.Laws.{IsRead, KindLaw, PageLaw, ReadsLaw}
use Rattle.walk_meaning.proofs.ReadsLaw.{NotedAt, noted_at}
use Rattle.producers.specs.declared.producer.Background.{Background}
use Rattle.producers.specs.declared.producer.Produced.{Produced}
use Rattle.producers.specs.declared.producer.Producer.{Producer}
use Rattle.producers.specs.Producer.{Point, background_number, cut, join_of, joined_trail, joined_walk, key_of, produced_by}
use Rattle.producers.specs.Laws.{ComesTo, JoinLaw, Joined, RegionLaw, moved}
use Rattle.producers.proofs.Cuts.{cut-noted}
use Rattle.producers.proofs.Joins.{number-aged, ok_told}
use Rattle.map_cache.specs.Coherent.{IsFresh}
use Rattle.map_cache.specs.Effects.{reached_leaf}
use Rattle.map_cache.proofs.Accesses.{walked-fresh}
use Rattle.shared_leaves.specs.Key.{own_key, producer_key}
use Rattle.shared_leaves.specs.Kept.{addition_by, background_reads}
use Rattle.shared_leaves.specs.Coherent.{IsEntry, IsJoined, IsLink, IsMet}
use Rattle.shared_leaves.specs.Effects.{IsAmong, IsDue, IsWalked, addition_for}
use Rattle.shared_leaves.proofs.Readings.{all_among, each_append, each_front, each_map}

-- what a walk adds by what it told
pub addition-told : (o : Items) (space : Capability) (page : ℕ) (reads : List Noted) (p : Option Point) → addition_for space page (produced_by o p) reads ≡ addition_by o space page reads p
addition-told o space page reads None = refl
addition-told o space page reads (Some p) = refl

-- ---- what holds of each read

each_both : (P Q : Noted → Type 0) (ns : List Noted) → Each P ns → Each Q ns → Each (λ n. P n × Q n) ns
each_both P Q [] ps qs = tt
each_both P Q (n ∷ ns) ps qs = ((ps.0, qs.0), each_both P Q ns ps.1 qs.1)

-- what holds of each read that was cut holds of each read, cut
each_uncut : (P : Noted → Type 0) (ns : List Noted) → Each P (map cut ns) → Each (λ n. P (cut n)) ns
each_uncut P [] ps = tt
each_uncut P (n ∷ ns) ps = (ps.0, each_uncut P ns ps.1)

each_cut : (P : Noted → Type 0) (ns : List Noted) → Each (λ n. P (cut n)) ns → Each P (map cut ns)
each_cut P [] ps = tt
each_cut P (n ∷ ns) ps = (ps.0, each_cut P ns ps.1)

-- each read is due whose block has the page
all_due : (page : ℕ) (ns : List Noted) → Each (λ n. holds n.block page ≡ true) ns → Each (IsDue ns page) ns
all_due page ns held =
    each_map (λ n. IsAmong ns n × (holds n.block page ≡ true)) (IsDue ns page) (λ n both. record { among = both.0; held = both.1 }) ns
    (each_both (IsAmong ns) (λ n. holds n.block page ≡ true) ns (all_among ns) held)

-- ---- blocks, cut to a region

-- the block round an address has its page
holds-around : (a l : ℕ) → 12 ≤ l → l ≤ 32 → a < 2 ^ 32 → holds (around a l) (a / 4096) ≡ true
holds-around a l low high fits = holds-page (around a l) (IsBlock-around a l low high fits) a ∙ covers-around_self a l

-- a read of a walk to an address, cut, has the place of the address's page
cut-holds : (a : ℕ) (n : Noted) → NotedAt a n → holds (cut n).block (a / 4096 % 1024) ≡ true
cut-holds a n at =
    let low = at.low in
    let high = at.high in
    let place : a % 2 ^ 22 / 4096 ≡ a / 4096 % 1024 = omega arith in
    let small : min n.block.l2 22 ≤ 32 = omega (arith, high) in
    let large : 12 ≤ min n.block.l2 22 = omega (arith, low) in
    let whole : cut n ≡ noted n.item (a % 2 ^ 22) (min n.block.l2 22) = ap (λ (b : BlockValue). cut (record { item = n.item; block = b })) at.round ∙ cut-noted n.item a n.block.l2 in
    ap (λ (m : Noted). holds m.block (a / 4096 % 1024)) whole
    ∙ (ap (λ (p : ℕ). holds (around (a % 2 ^ 22) (min n.block.l2 22)) p) (sym place)
    ∙ holds-around (a % 2 ^ 22) (min n.block.l2 22) large small (omega arith))

cuts-hold : (a : ℕ) (ns : List Noted) → Each (NotedAt a) ns → Each (λ m. holds m.block (a / 4096 % 1024) ≡ true) (map cut ns)
cuts-hold a ns at = each_cut (λ m. holds m.block (a / 4096 % 1024) ≡ true) ns (each_map (NotedAt a) (λ n. holds (cut n).block (a / 4096 % 1024) ≡ true) (cut-holds a) ns at)

-- a background's read has every place
background-holds : (place : ℕ) → place < 1024 → (b : Option Background) → Each (λ m. holds m.block place ≡ true) (background_reads b)
background-holds place less None = tt
background-holds place less (Some b) =
    let inside : place * 4096 / 4096 ≡ place = omega arith in
    let region : around (place * 4096) 22 ≡ around 0 22 = let none : place * 4096 / 2 ^ 22 ≡ 0 = omega (arith, less) in ap (λ (q : ℕ). block_of (q * 2 ^ 22) 22) none in
    ((λ i. holds (sym region i) (sym inside i)) ∙ holds-around (place * 4096) 22 (omega arith) (omega arith) (omega (arith, less)), tt)

-- items stay what they are
cut-items : (ns : List Noted) → Each (λ n. IsItem n.item) ns → Each (λ n. IsItem n.item) (map cut ns)
cut-items ns items = each_cut (λ n. IsItem n.item) ns items

background-items : (b : Option Background) → Below 1024 (background_number b) → Each (λ n. IsItem n.item) (background_reads b)
background-items None below = tt
background-items (Some b) below = ((refl, below), tt)

-- what an entry depends on is of items that there may be
pub entry-items : (b : Option Background) (ns : List Noted) → Below 1024 (background_number b) → Each (λ n. IsItem n.item) ns → Each (λ n. IsItem n.item) (background_reads b ++ map cut ns)
entry-items b ns below items = each_append (λ n. IsItem n.item) (background_reads b) (map cut ns) (background-items b below) (cut-items ns items)

pub each_take : (P : Noted → Type 0) (k : ℕ) (ns : List Noted) → Each P ns → Each P (take k ns)
each_take P zero ns all = tt
each_take P (suc k) [] all = tt
each_take P (suc k) (n ∷ ns) all = (all.0, each_take P k ns all.1)

pub each_drop : (P : Noted → Type 0) (k : ℕ) (ns : List Noted) → Each P ns → Each P (drop k ns)
each_drop P zero ns all = all
each_drop P (suc k) [] all = tt
each_drop P (suc k) (n ∷ ns) all = each_drop P k ns all.1

-- ---- a walk that reached

module _ (page_law : PageLaw) (kind_law : KindLaw) (reads_law : ReadsLaw) (join_law : JoinLaw) (region_law : RegionLaw)
    (o : Items) (ranged : IsRanged o) (space : Capability) (is : IsCapability (meaning o space))
    (address : ℕ) (low : address < 2 ^ 32) (kind : Kind) (data' : is_data kind ≡ true)
    (place : Place) (reached : access o (meaning o space) address kind ≡ Ok place) where
  abbrev c : Capability
  c = meaning o space

  abbrev page : ℕ
  page = address / 4096

  abbrev reads : List Noted
  reads = trail o c address kind

  -- the page's leaf is fresh, and the load of its first address makes the same reads
  fresh : IsFresh o space page (reached_leaf place) (λ n. holds n.block page ≡ true)
  fresh = (walked-fresh page_law kind_law o space ranged is address kind data' reads_law place low reached).fresh

  first_reads : trail o c (page * 4096) Load ≡ reads
  first_reads = (walked-fresh page_law kind_law o space ranged is address kind data' reads_law place low reached).reads_are

  round : Each (NotedAt address) reads
  round = noted_at o c address kind ranged is

  -- ---- without a producer

  own_link : IsLink o space (page / 1024) (own_key space (page / 1024)) (IsDue [] (page / 1024 * 1024))
  own_link = (refl, refl)

  own_entry : IsEntry o (own_key space (page / 1024)) (page % 1024) (reached_leaf place) (IsDue (map cut reads) (page % 1024))
  own_entry =
      let due : Each (λ n. IsDue (map cut reads) (page % 1024) (cut n)) reads =
      each_uncut (IsDue (map cut reads) (page % 1024)) reads (all_due (page % 1024) (map cut reads) (cuts-hold address reads round)) in
      let whole : page ≡ page / 1024 * 1024 + page % 1024 = omega arith in
      let here : IsFresh o space page (reached_leaf place) (λ n. IsDue (map cut reads) (page % 1024) (cut n)) = record {
        place = fresh.place;
        reached = fresh.reached;
        number = fresh.number;
        write = fresh.write;
        execute = fresh.execute;
        reads = subst (Each (λ n. IsDue (map cut reads) (page % 1024) (cut n))) (sym first_reads) due;
      } in
      subst (λ (p : ℕ). IsFresh o space p (reached_leaf place) (λ n. IsDue (map cut reads) (page % 1024) (cut n))) whole here

  -- ---- with a producer

  module _ (p : Point) (found : join_of o c address kind ≡ Some p) where
    joined : Joined o c address kind place p
    joined = join_law o c address kind place p ranged is low reached found

    -- the read of the producer's header
    abbrev header : List Noted
    header = header_noted p.cap address p.at.l2

    comes : (b : ℕ) (k : Kind) → address / 2 ^ 22 ≡ b / 2 ^ 22 → ComesTo o c b k p p.before header
    comes b k near = region_law o c address b kind k p p.before ranged is near joined.met joined.passes

    here : ComesTo o c address kind p p.before header
    here = comes address kind refl

    one_header : length header ≡ 1
    one_header = ap (λ (k : CapKind). length (if is_counted k then noted (Header (object_kind k) p.cap.object) address p.at.l2 ∷ [] else [])) joined.passes.kind

    abbrev behind : List Noted
    behind = header ++ here.further

    parts : reads ≡ p.before ++ behind
    parts = here.reads_are

    pub produced-within : length p.before < length reads
    produced-within = omega (arith, ap (λ (ns : List Noted). length ns) parts, length-append p.before behind, length-append header here.further, one_header)

    pub produced-background : Below 1024 (background_number (key_of o p).background)
    produced-background = subst (Below 1024) (sym (number-aged o p.at.background)) here.background

    link_reads : take (length p.before + 1) reads ≡ p.before ++ header
    link_reads =
        ap (take (length p.before + 1)) (parts ∙ sym (append_assoc p.before header here.further))
        ∙ take_at (p.before ++ header) here.further (length p.before + 1) (omega (arith, length-append p.before header, one_header))

    entry_behind : drop (length p.before) reads ≡ behind
    entry_behind = ap (drop (length p.before)) parts ∙ drop_at p.before behind (length p.before) refl

    -- the link is right, from the first address of the region
    region_near : address / 2 ^ 22 ≡ page / 1024 * 2 ^ 22 / 2 ^ 22
    region_near = omega arith

    first : ComesTo o c (page / 1024 * 2 ^ 22) Load p p.before header
    first = comes (page / 1024 * 2 ^ 22) Load region_near

    link_due : Each (IsDue (p.before ++ header) (page / 1024 * 1024)) (p.before ++ header)
    link_due =
        let fits : page / 1024 * 2 ^ 22 < 2 ^ 32 = omega (arith, low) in
        let pages : page / 1024 * 2 ^ 22 / 4096 ≡ page / 1024 * 1024 = omega arith in
        let all : Each (IsRead (page / 1024 * 2 ^ 22)) ((p.before ++ header) ++ first.further) =
        subst (Each (IsRead (page / 1024 * 2 ^ 22))) (first.reads_are ∙ sym (append_assoc p.before header first.further)) (reads_law o c (page / 1024 * 2 ^ 22) Load ranged is fits) in
        all_due (page / 1024 * 1024) (p.before ++ header)
        (each_map (IsRead (page / 1024 * 2 ^ 22)) (λ n. holds n.block (page / 1024 * 1024) ≡ true) (λ n read. ap (holds n.block) (sym pages) ∙ read.held) (p.before ++ header)
        (each_front (IsRead (page / 1024 * 2 ^ 22)) (p.before ++ header) first.further all).0)

    shared_link : IsLink o space (page / 1024) (producer_key (key_of o p)) (IsDue (take (length p.before + 1) reads) (page / 1024 * 1024))
    shared_link =
        let met : IsMet o space (page / 1024) (key_of o p) (IsDue (p.before ++ header) (page / 1024 * 1024)) = record {
          point = moved p first.rest;
          reads = p.before;
          met = first.met;
          passes = first.passes;
          suits = record {
            gpt = refl;
            top = ap (λ (k : Producer). k.top) (sym first.key);
            restr = refl;
            background = number-aged o p.at.background;
            left = refl;
          };
          recorded = subst (λ (h : List Noted). Each (IsDue (p.before ++ header) (page / 1024 * 1024)) (p.before ++ h)) (sym first.header_is) link_due;
        } in
        subst (λ (ns : List Noted). IsMet o space (page / 1024) (key_of o p) (IsDue ns (page / 1024 * 1024))) (sym link_reads) met

    -- the entry is right, from the first address of the page
    page_near : address / 2 ^ 22 ≡ page * 4096 / 2 ^ 22
    page_near = omega arith

    bits : page * 4096 % 2 ^ 22 ≡ page % 1024 * 4096
    bits = omega arith

    paged : ComesTo o c (page * 4096) Load p p.before header
    paged = comes (page * 4096) Load page_near

    same_behind : header ++ paged.further ≡ behind
    same_behind = append_cancel_left p.before (header ++ paged.further) behind (sym paged.reads_are ∙ (first_reads ∙ parts))

    joined_reads : joined_trail o (key_of o p) (page % 1024 * 4096) Load ≡ map cut behind
    joined_reads = ap (λ (n : ℕ). joined_trail o (key_of o p) n Load) (sym bits) ∙ (sym paged.cut_reads ∙ ap (map cut) same_behind)

    joined_reached : joined_walk o (key_of o p) (page % 1024 * 4096) Load ≡ Ok fresh.place
    joined_reached =
        ap (λ (n : ℕ). joined_walk o (key_of o p) n Load) (sym bits)
        ∙ ok_told (joined_walk o (key_of o p) (page * 4096 % 2 ^ 22) Load) fresh.place (sym paged.place ∙ ap result_ok fresh.reached)

    abbrev entry_reads : List Noted
    entry_reads = background_reads (key_of o p).background ++ map cut behind

    entry_due : Each (IsDue entry_reads (page % 1024)) entry_reads
    entry_due =
        let less : page % 1024 < 1024 = omega arith in
        let later : Each (NotedAt address) behind = (each_front (NotedAt address) p.before behind (subst (Each (NotedAt address)) parts round)).1 in
        all_due (page % 1024) entry_reads
        (each_append (λ m. holds m.block (page % 1024) ≡ true) (background_reads (key_of o p).background) (map cut behind)
        (background-holds (page % 1024) less (key_of o p).background) (cuts-hold address behind later))

    shared_entry : IsEntry o (producer_key (key_of o p)) (page % 1024) (reached_leaf place)
        (IsDue (background_reads (key_of o p).background ++ map cut (drop (length p.before) reads)) (page % 1024))
    shared_entry =
        let is_joined : IsJoined o (key_of o p) (page % 1024) (reached_leaf place) (IsDue entry_reads (page % 1024)) = record {
          ends = fresh.place;
          reached = joined_reached;
          number = fresh.number;
          write = fresh.write;
          execute = fresh.execute;
          reads = subst (λ (ns : List Noted). Each (IsDue entry_reads (page % 1024)) (background_reads (key_of o p).background ++ ns)) (sym joined_reads) entry_due;
        } in
        subst (λ (ns : List Noted). IsJoined o (key_of o p) (page % 1024) (reached_leaf place) (IsDue (background_reads (key_of o p).background ++ map cut ns) (page % 1024)))
        (sym entry_behind) is_joined

  -- ---- either way

  pub walked-by : (p : Option Point) → join_of o c address kind ≡ p → IsWalked o space page (reached_leaf place) (addition_by o space page reads p)
  walked-by None none = record { link = own_link; entry = own_entry }
  walked-by (Some p) found = record { link = shared_link p found; entry = shared_entry p found }

  pub within-by : (p : Option Point) → join_of o c address kind ≡ p → IfSome (produced_by o p) (λ (x : Produced). x.before < length reads)
  within-by None none = tt
  within-by (Some p) found = produced-within p found

  pub background-by : (p : Option Point) → join_of o c address kind ≡ p → IfSome (produced_by o p) (λ (x : Produced). Below 1024 (background_number x.producer.background))
  background-by None none = tt
  background-by (Some p) found = produced-background p found
