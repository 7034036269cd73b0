-- The reads behind a frame's key: where they lead, which of them are noted, and what stays over a change of an item.
use Rattle.std.proofs.Common.{◌≡◌, ◌≢◌, ℕ, suc, ◌+◌, ◌*◌, ◌/◌, ◌^◌, ◌<◌, true, List, [], ◌∷◌, ◌++◌, map, Option, Some, None, Ok, ap, ◌∙◌}
use Rattle.std.specs.List.{AllByRecursion as Each}
use Rattle.cap_format.specs.Capability.{Capability, bare, null}
use Rattle.cap_format.specs.declared.item.Item.{Item}
use Rattle.guard_math.specs.Block.{holds}
use Rattle.object_store.specs.Store.{Items}
use Rattle.object_store.specs.Differ.{DifferIn}
use Rattle.walk_meaning.specs.declared.kind.Kind.TheVariants.{Load}
use Rattle.walk_meaning.specs.declared.noted.Noted.{Noted}
use Rattle.walk_meaning.specs.declared.place.Place.{Place}
use Rattle.walk_meaning.specs.Walk.{access, start_at}
use Rattle.walk_meaning.specs.Trail.{header_noted, trail, trail_from}
use Rattle.walk_meaning.specs.Laws.{Unread}
use Rattle.walk_meaning.proofs.FrameLaw.{Agree, Apart, agree, frame_law, same_walk}
use Rattle.producers.specs.declared.producer.Background.{Background}
use Rattle.producers.specs.declared.producer.Producer.{Producer}
use Rattle.producers.specs.Producer.{Point, at_join, background_number, cut, gpt_cap, joined_trail, joined_walk, key_of}
use Rattle.producers.specs.Meets.{Meets, PassesAt}
use Rattle.producers.proofs.Fronts.{Front, front-behind, front-cut, front-from, front-to}
use Rattle.producers.proofs.Joins.{key_law}
use Rattle.producers.proofs.Staying.{unread-append}
use Rattle.producers.proofs.Wide.{wide-framed, wide_from}
use Rattle.depend_table.specs.Depend.{lies_in}
use Rattle.shared_leaves.specs.declared.key.Key.{Key}
use Rattle.shared_leaves.specs.declared.key.Table.{Table}
use Rattle.shared_leaves.specs.declared.key.Table.TheVariants.{Region, Root, Producer as Joins}
use Rattle.shared_leaves.specs.Kept.{background_reads}

-- ---- the reads

-- what the walks of a place of a key's region read behind the key, cut to the region
abbrev pub reads_in : Items → Capability → Table → ℕ → List Noted
reads_in o space Root j = []
reads_in o space (Region r) j = map cut (trail o (bare space) ((r * 1024 + j) * 4096) Load)
reads_in o space (Joins key) j = background_reads key.background ++ joined_trail o key (j * 4096) Load

abbrev pub reads_behind : Items → Key → ℕ → List Noted
reads_behind o k j = reads_in o k.space k.table j

-- ---- where they lead

-- the load of a page of a space reaches, and joins no others
pub record OwnEnd (o : Items) (space : Capability) (page : ℕ) : Type 0 where
  pub place : Place
  pub reached : access o (bare space) (page * 4096) Load ≡ Ok place
  pub alone : wide_from o Load 32 (bare space) (start_at (page * 4096)) 0 ≡ None

-- the loads with a producer's key reach at this place, and join no others behind
pub record JoinedEnd (o : Items) (key : Producer) (j : ℕ) : Type 0 where
  pub place : Place
  pub reached : joined_walk o key (j * 4096) Load ≡ Ok place
  pub last : wide_from o Load (suc key.left) (gpt_cap key.gpt) (at_join key (j * 4096)) 0 ≡ Some (record { producer = key; before = 0 })

abbrev pub EndsIn : Items → Capability → Table → ℕ → Type 0
EndsIn o space Root j = ⊥
EndsIn o space (Region r) j = OwnEnd o space (r * 1024 + j)
EndsIn o space (Joins key) j = JoinedEnd o key j

abbrev pub Ends : Items → Key → ℕ → Type 0
Ends o k j = EndsIn o k.space k.table j

-- the walks of a region of a space come to a GPT that joins others with this key; P holds of each read up to its header
pub record Leads (o : Items) (space : Capability) (region : ℕ) (key : Producer) (P : Noted → Type 0) : Type 0 where
  pub address : ℕ
  pub there : address / 2 ^ 22 ≡ region
  pub point : Point
  pub reads : List Noted
  pub met : Meets o Load address 32 (bare space) (start_at address) point reads
  pub passes : PassesAt point
  pub key_is : key_of o point ≡ key
  pub recorded : Each P (reads ++ header_noted point.cap address point.at.l2)

abbrev pub LeadsTo : Items → Capability → ℕ → Capability → Table → (Noted → Type 0) → Type 0
LeadsTo o space region s Root P = ⊥
LeadsTo o space region s (Region r) P = (s ≡ space) × (r ≡ region)
LeadsTo o space region s (Joins key) P = (s ≡ null) × Leads o space region key P

abbrev pub LinkLeads : Items → Capability → ℕ → Key → (Noted → Type 0) → Type 0
LinkLeads o space region k P = LeadsTo o space region k.space k.table P

-- A read behind a key is fresh where it is made at each place of its block, behind the same reads; P holds of each of these,
-- and the block lies in theirs.
pub record IsFresh (o : Items) (k : Key) (n : Noted) (P : Noted → Type 0) : Type 0 where
  pub before : List Noted
  pub recorded : Each P before
  pub nested : Each (λ m. lies_in n.block m.block ≡ true) before
  pub made : (j : ℕ) → j < 1024 → holds n.block j ≡ true → (after : List Noted) × (reads_behind o k j ≡ before ++ n ∷ after)

-- ---- what holds of each read

pub each_map : (P Q : Noted → Type 0) → ((n : Noted) → P n → Q n) → (ns : List Noted) → Each P ns → Each Q ns
each_map P Q f [] all = tt
each_map P Q f (n ∷ ns) all = (f n all.0, each_map P Q f ns all.1)

pub each_both : (P Q : Noted → Type 0) (ns : List Noted) → Each P ns → Each Q ns → Each (λ n. P n × Q n) ns
each_both P Q [] ps qs = tt
each_both P Q (n ∷ ns) ps qs = ((ps.0, qs.0), each_both P Q ns ps.1 qs.1)

pub each_append : (P : Noted → Type 0) (xs ys : List Noted) → Each P xs → Each P ys → Each P (xs ++ ys)
each_append P [] ys ps qs = qs
each_append P (x ∷ xs) ys ps qs = (ps.0, each_append P xs ys ps.1 qs)

pub each_split : (P : Noted → Type 0) (xs ys : List Noted) → Each P (xs ++ ys) → Each P xs × Each P ys
each_split P [] ys ps = (tt, ps)
each_split P (x ∷ xs) ys ps = let rest = each_split P xs ys ps.1 in ((ps.0, rest.0), rest.1)

pub leads-map : (o : Items) (space : Capability) (region : ℕ) (s : Capability) (table : Table) (P Q : Noted → Type 0) → ((n : Noted) → P n → Q n)
    → LeadsTo o space region s table P → LeadsTo o space region s table Q
leads-map o space region s Root P Q f leads = leads
leads-map o space region s (Region r) P Q f leads = leads
leads-map o space region s (Joins key) P Q f (none, leads) = (
  none,
  record {
    address = leads.address;
    there = leads.there;
    point = leads.point;
    reads = leads.reads;
    met = leads.met;
    passes = leads.passes;
    key_is = leads.key_is;
    recorded = each_map P Q f (leads.reads ++ header_noted leads.point.cap leads.address leads.point.at.l2) leads.recorded;
  },
)

-- ---- over a change of an item

unread-cut : (x : Item) (ns : List Noted) → Unread x (map cut ns) → Unread x ns
unread-cut x [] h = tt
unread-cut x (n ∷ ns) h = (h.0, unread-cut x ns h.1)

pub cut-unread : (x : Item) (ns : List Noted) → Unread x ns → Unread x (map cut ns)
cut-unread x [] h = tt
cut-unread x (n ∷ ns) h = (h.0, cut-unread x ns h.1)

background-apart : (x : Item) (b : Option Background) → Unread x (background_reads b) → Apart x (background_number b)
background-apart x None h = tt
background-apart x (Some b) h = h.0

-- what stays: the reads, and where they lead
pub record EndStays (q : Items) (space : Capability) (table : Table) (j : ℕ) (reads : List Noted) : Type 0 where
  pub ends : EndsIn q space table j
  pub reads_are : reads_in q space table j ≡ reads

module _ (x : Item) (o q : Items) (differ : DifferIn x o q) where
  abbrev same : Agree x o q
  same = agree x o q differ

  -- what is led to stays, if the item is not read
  pub end-stays : (space : Capability) (table : Table) (j : ℕ) → EndsIn o space table j → Unread x (reads_in o space table j) → EndStays q space table j (reads_in o space table j)
  end-stays space Root j ends unread = absurd ends
  end-stays space (Region r) j ends unread =
      let page : ℕ = r * 1024 + j in
      let whole = unread-cut x (trail o (bare space) (page * 4096) Load) unread in
      let stays = frame_law x o q (bare space) (page * 4096) Load ends.place differ ends.reached whole in
      record {
        ends = record {
          place = ends.place;
          reached = stays.reached;
          alone = wide-framed x o q same Load (page * 4096) ends.place 32 (bare space) (start_at (page * 4096)) 0 tt tt ends.reached whole ∙ ends.alone;
        };
        reads_are = ap (map cut) stays.reads;
      }
  end-stays space (Joins key) j ends unread =
      let parts = unread-append x (background_reads key.background) (joined_trail o key (j * 4096) Load) unread in
      let whole = unread-cut x (trail_from o Load (j * 4096) (suc key.left) (gpt_cap key.gpt) (at_join key (j * 4096))) parts.1 in
      let apart = background-apart x key.background parts.0 in
      let stays = same_walk x o q same Load (j * 4096) ends.place (suc key.left) (gpt_cap key.gpt) (at_join key (j * 4096)) tt apart ends.reached whole in
      record {
        ends = record {
          place = ends.place;
          reached = stays.reached;
          last = wide-framed x o q same Load (j * 4096) ends.place (suc key.left) (gpt_cap key.gpt) (at_join key (j * 4096)) 0 tt apart ends.reached whole ∙ ends.last;
        };
        reads_are = ap (λ (t : List Noted). background_reads key.background ++ map cut t) stays.reads;
      }

  -- what a link leads to stays, if no read of the item is recorded
  pub leads-stays : (space : Capability) (region : ℕ) (s : Capability) (table : Table) (P : Noted → Type 0) → ((n : Noted) → P n → n.item ≢ x)
      → LeadsTo o space region s table P → LeadsTo q space region s table P
  leads-stays space region s Root P other leads = leads
  leads-stays space region s (Region r) P other leads = leads
  leads-stays space region s (Joins key) P other (none, leads) =
      let unread = each_map P (λ n. n.item ≢ x) other (leads.reads ++ header_noted leads.point.cap leads.address leads.point.at.l2) leads.recorded in
      let stays = key_law x o q (bare space) leads.address Load leads.point leads.reads differ leads.met leads.passes unread in (
        none,
        record {
          address = leads.address;
          there = leads.there;
          point = leads.point;
          reads = leads.reads;
          met = stays.met;
          passes = leads.passes;
          key_is = stays.key ∙ leads.key_is;
          recorded = leads.recorded;
        },
      )

  -- the reads behind a key begin alike
  front_behind : (space : Capability) (table : Table) (j : ℕ) → Front x (reads_in o space table j) (reads_in q space table j)
  front_behind space Root j = tt
  front_behind space (Region r) j =
      let a : ℕ = (r * 1024 + j) * 4096 in
      front-cut x (trail o (bare space) a Load) (trail q (bare space) a Load) (front-from x o q same Load a 32 (bare space) (start_at a) tt tt)
  front_behind space (Joins key) j =
      let a : ℕ = j * 4096 in
      let walk_o : List Noted = trail_from o Load a (suc key.left) (gpt_cap key.gpt) (at_join key a) in
      let walk_q : List Noted = trail_from q Load a (suc key.left) (gpt_cap key.gpt) (at_join key a) in
      front-behind x (background_reads key.background) (map cut walk_o) (map cut walk_q) (λ unread.
      front-cut x walk_o walk_q (front-from x o q same Load a (suc key.left) (gpt_cap key.gpt) (at_join key a) tt (background-apart x key.background unread)))

  -- a read stays fresh, if neither it nor a read before it is of the item
  pub fresh-stays : (k : Key) (n : Noted) (P Q : Noted → Type 0) → ((m : Noted) → P m → lies_in n.block m.block ≡ true → (m.item ≢ x) × Q m) → n.item ≢ x
      → IsFresh o k n P → IsFresh q k n Q
  fresh-stays k n P Q keeps other fresh = record {
    before = fresh.before;
    recorded = each_map (λ m. (m.item ≢ x) × Q m) Q (λ m both. both.1) fresh.before left;
    nested = fresh.nested;
    made = λ j less held.
        let made = fresh.made j less held in
        front-to x (reads_behind o k j) (reads_behind q k j) fresh.before made.0 n (front_behind k.space k.table j) made.1
        (each_map (λ m. (m.item ≢ x) × Q m) (λ m. m.item ≢ x) (λ m both. both.0) fresh.before left) other;
  }
    where
      left : Each (λ m. (m.item ≢ x) × Q m) fresh.before
      left = each_map (λ m. P m × (lies_in n.block m.block ≡ true)) (λ m. (m.item ≢ x) × Q m) (λ m both. keeps m both.0 both.1) fresh.before
          (each_both P (λ m. lies_in n.block m.block ≡ true) fresh.before fresh.recorded fresh.nested)
