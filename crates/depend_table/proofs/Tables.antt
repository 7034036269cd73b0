-- Tables and their records: an empty one, after a record is taken, after one is noted.
use Rattle.std.proofs.Common.{◌≡◌, ◌≢◌, inl, inr, ℕ, ◌+◌, ◌<◌, ◌≤◌, Bool, true, false, not, ◌&&◌, ◌||◌, if◌then◌else◌, List, [], length, get_or, set, replicate, sum_by, Option, Some, None, refl, sym, ap, ◌∙◌, arith}
use Rattle.std.proofs.lemmas.Bool.Decides.{leb_tells}
use Rattle.std.proofs.lemmas.List.{get_or-set_same, get_or-set_other, get_or_past, get_or-replicate, length-set, length-replicate}
use Rattle.std.proofs.lemmas.List.Sums.{sum_by-set}
use Rattle.std.proofs.lemmas.List.Folds.{sum_by-replicate}
use Rattle.slab.specs.Slab.{Slab, get, slab_len, Updates}
use Rattle.cap_format.specs.Item.{IsItem}
use Rattle.depend_table.specs.declared.chain.Chain.{Chain}
use Rattle.depend_table.specs.declared.chain.Node.{Node}
use Rattle.depend_table.specs.Depend.{Adds, Depend, Takes, has, same}
use Rattle.depend_table.proofs.Members.{same_itself, same_tells}
use Rattle.depend_table.specs.Place.{place_of}
use Rattle.depend_table.specs.Chain.{IsLinked, IsTable, chain_at, no_chain, record_of, records_of}
use Rattle.depend_table.proofs.Listed.{Noted, equal_tests, has-noted, length-records, noted-has}
use Rattle.depend_table.proofs.Linked.{linked-noted, linked-taken, one_more, one_or_not}

-- no chain stands among empty ones
pub chain_at-replicate : (n place : ℕ) → chain_at (replicate n no_chain) place ≡ no_chain
chain_at-replicate n place = elim (leb_tells n place) [
  | inl past ↦ get_or_past (replicate n no_chain) place no_chain (omega (arith, past.1, length-replicate n no_chain))
  | inr low ↦ get_or-replicate n place no_chain no_chain low.1
]

-- no nodes are linked with chains of no record
pub linked_none : (node : ℕ → Option Node) (chain : ℕ → Chain) → ((k : ℕ) → node k ≡ None) → ((place : ℕ) → chain place ≡ no_chain) → IsLinked node chain
linked_none node chain vacant empty = record {
  items = λ k m is. absurd (none k m is);
  chains = λ place. rw (empty place) refl;
  rests = λ k m is. absurd (none k m is);
  within = λ k m is. absurd (none k m is);
  apart = λ j k a b isa isb place long. absurd (none j a isa);
  once = λ j k a b isa isb same. absurd (none j a isa);
}
  where
    none : (k : ℕ) (m : Node) → node k ≢ Some m
    none k m is = let here = vacant k in cc

pub table_empty : (nodes : Slab Node) (chains : List Chain) (n : ℕ) → nodes.slots ≡ [] → 16384 ≤ nodes.capacity → n ≡ 23040 → chains ≡ replicate n no_chain → IsTable nodes chains
table_empty nodes chains n empty room places are = record {
  room = room;
  most = omega (arith, none_there);
  places = ap length are ∙ length-replicate n no_chain ∙ places;
  total = ap (sum_by (λ (c : Chain). c.length)) are ∙ sum_by-replicate (λ (c : Chain). c.length) n no_chain ∙ omega (arith, none_there);
  linked = linked_none (get nodes) (chain_at chains)
      (λ k. ap (λ (slots : List (Option Node)). get_or slots k None) empty)
      (λ place. ap (λ (cs : List Chain). chain_at cs place) are ∙ chain_at-replicate n place);
}
  where
    none_there : slab_len nodes ≡ 0
    none_there = rw empty refl

-- a chain is no longer than all records
pub chain_fits : (nodes : Slab Node) (chains : List Chain) (place : ℕ) → IsTable nodes chains → place < 23040 → (chain_at chains place).length ≤ 16384
chain_fits nodes chains place table inside =
    let sums = sum_by-set (λ (c : Chain). c.length) chains place no_chain no_chain (omega (arith, inside, table.places)) in
    omega (arith, sums, table.total, table.most)

module _ (old new : Slab Node) (chains : List Chain) (key : ℕ) (m : Node)
    (table : IsTable old chains) (at : get old key ≡ Some m) (updates : Updates old new key None)
    (fewer : slab_len new + 1 ≡ slab_len old) where
  pub table-taken : new.capacity ≡ old.capacity → place_of m.item < length chains → (chain_at chains (place_of m.item)).first ≡ Some key → IsTable new (set chains (place_of m.item) m.rest)
  table-taken capacity within first = record {
    room = omega (arith, table.room, capacity);
    most = omega (arith, table.most, fewer);
    places = length-set chains (place_of m.item) m.rest ∙ table.places;
    total = omega (arith, sums, table.total, fewer, before);
    linked = linked-taken (get old) (get new) (chain_at chains) (chain_at (set chains (place_of m.item) m.rest)) key m table.linked at first updates.changed updates.others (get_or-set_same chains (place_of m.item) m.rest no_chain within) (λ place differs. get_or-set_other chains (place_of m.item) place m.rest no_chain differs);
  }
    where
      sums : sum_by (λ (c : Chain). c.length) (set chains (place_of m.item) m.rest) + (chain_at chains (place_of m.item)).length ≡ sum_by (λ (c : Chain). c.length) chains + m.rest.length
      sums = sum_by-set (λ (c : Chain). c.length) chains (place_of m.item) m.rest no_chain within

      before : (chain_at chains (place_of m.item)).length ≡ m.rest.length + 1
      before = one_more (get old) (get new) (chain_at chains) (chain_at (set chains (place_of m.item) m.rest)) key m table.linked at first updates.changed updates.others (get_or-set_same chains (place_of m.item) m.rest no_chain within) (λ place differs. get_or-set_other chains (place_of m.item) place m.rest no_chain differs)

  pub takes-record : Takes (records_of old.slots) (records_of new.slots) (record_of m)
  takes-record = record {
    there = has-noted old.slots key m at;
    records = λ e. equal_tests (has (records_of new.slots) e) (not (same (record_of m) e) && has (records_of old.slots) e) (to e) (from e);
    count = omega (arith, length-records new.slots, length-records old.slots, fewer);
  }
    where
      to : (e : Depend) → has (records_of new.slots) e ≡ true → (not (same (record_of m) e) && has (records_of old.slots) e) ≡ true
      to e holds = on (same (record_of m) e) refl
        where
          found : Noted new.slots e
          found = noted-has new.slots e holds

          k : ℕ
          k = found.0

          n : Node
          n = found.1.0

          differs : k ≢ key
          differs same' = let gone : get new k ≡ None = ap (get new) same' ∙ updates.changed in let here = found.1.1.0 in cc

          was : get old k ≡ Some n
          was = sym (updates.others k differs) ∙ found.1.1.0

          there : has (records_of old.slots) e ≡ true
          there = ap (has (records_of old.slots)) (sym found.1.1.1) ∙ has-noted old.slots k n was

          on : (b : Bool) → same (record_of m) e ≡ b → (not b && has (records_of old.slots) e) ≡ true
          on true is = absurd (differs (table.linked.once k key n m was at (found.1.1.1 ∙ sym (same_tells (record_of m) e is))))
          on false is = there

      from : (e : Depend) → (not (same (record_of m) e) && has (records_of old.slots) e) ≡ true → has (records_of new.slots) e ≡ true
      from e holds = on (same (record_of m) e) refl holds
        where
          on : (b : Bool) → same (record_of m) e ≡ b → (not b && has (records_of old.slots) e) ≡ true → has (records_of new.slots) e ≡ true
          on true is none = absurd (cc)
          on false is there = elim (one_or_not found.0 key) [
            | inl same' ↦ absurd (let here : get old key ≡ Some found.1.0 = ap (get old) (sym same') ∙ found.1.1.0 in
                let one : found.1.0 ≡ m = cc in
                let itself : same (record_of m) e ≡ true = ap (λ (d : Depend). same (record_of m) d) (sym found.1.1.1 ∙ ap record_of one) ∙ same_itself (record_of m) in
                cc)
            | inr differs ↦ ap (has (records_of new.slots)) (sym found.1.1.1) ∙ has-noted new.slots found.0 found.1.0 (updates.others found.0 differs ∙ found.1.1.0)
          ]
            where
              found : Noted old.slots e
              found = noted-has old.slots e there

module _ (old new : Slab Node) (chains : List Chain) (key : ℕ) (m : Node)
    (table : IsTable old chains) (vacant : get old key ≡ None) (updates : Updates old new key (Some m))
    (longer : slab_len new ≡ slab_len old + 1) (absent : has (records_of old.slots) (record_of m) ≡ false) where
  -- a node that was there is there
  kept : (k : ℕ) (n : Node) → get old k ≡ Some n → get new k ≡ Some n
  kept k n is = elim (one_or_not k key) [
    | inl same' ↦ absurd (let here : get old k ≡ None = ap (get old) same' ∙ vacant in cc)
    | inr differs ↦ updates.others k differs ∙ is
  ]

  pub table-noted : (chain : Chain) → new.capacity ≡ old.capacity → slab_len old < 16384 → IsItem m.item → place_of m.item < length chains → m.rest ≡ chain_at chains (place_of m.item) → chain.first ≡ Some key → chain.length ≡ m.rest.length + 1 → IsTable new (set chains (place_of m.item) chain)
  table-noted chain capacity room item within rest first long = record {
    room = omega (arith, table.room, capacity);
    most = omega (arith, room, longer);
    places = length-set chains (place_of m.item) chain ∙ table.places;
    total = omega (arith, sums, table.total, longer, long, before);
    linked = linked-noted (get old) (get new) (chain_at chains) (chain_at (set chains (place_of m.item) chain)) key m table.linked vacant updates.changed updates.others item rest unlike (ap (λ (c : Chain). c.first) now ∙ first) (ap (λ (c : Chain). c.length) now ∙ long) (λ place differs. get_or-set_other chains (place_of m.item) place chain no_chain differs);
  }
    where
      now : chain_at (set chains (place_of m.item) chain) (place_of m.item) ≡ chain
      now = get_or-set_same chains (place_of m.item) chain no_chain within

      sums : sum_by (λ (c : Chain). c.length) (set chains (place_of m.item) chain) + (chain_at chains (place_of m.item)).length ≡ sum_by (λ (c : Chain). c.length) chains + chain.length
      sums = sum_by-set (λ (c : Chain). c.length) chains (place_of m.item) chain no_chain within

      before : (chain_at chains (place_of m.item)).length ≡ m.rest.length
      before = ap (λ (c : Chain). c.length) (sym rest)

      unlike : (k : ℕ) (n : Node) → get old k ≡ Some n → record_of n ≢ record_of m
      unlike k n is same' = let there : has (records_of old.slots) (record_of m) ≡ true = ap (has (records_of old.slots)) (sym same') ∙ has-noted old.slots k n is in cc

  pub adds-record : Adds (records_of old.slots) (records_of new.slots) (record_of m)
  adds-record = record {
    records = λ e. equal_tests (has (records_of new.slots) e) (same (record_of m) e || has (records_of old.slots) e) (to e) (from e);
    count = counted (has (records_of old.slots) (record_of m)) absent;
  }
    where
      counted : (b : Bool) → b ≡ false → length (records_of new.slots) ≡ (if b then length (records_of old.slots) else length (records_of old.slots) + 1)
      counted true is = absurd (cc)
      counted false is = omega (arith, length-records new.slots, length-records old.slots, longer)

      to : (e : Depend) → has (records_of new.slots) e ≡ true → (same (record_of m) e || has (records_of old.slots) e) ≡ true
      to e holds = elim (one_or_not found.0 key) [
        | inl same' ↦
            let here : get new key ≡ Some found.1.0 = ap (get new) (sym same') ∙ found.1.1.0 in
            let changed = updates.changed in
            let one : found.1.0 ≡ m = cc in
            let itself : same (record_of m) e ≡ true = ap (λ (d : Depend). same (record_of m) d) (sym found.1.1.1 ∙ ap record_of one) ∙ same_itself (record_of m) in
            left (same (record_of m) e) (has (records_of old.slots) e) itself
        | inr differs ↦ right (same (record_of m) e) (has (records_of old.slots) e) (ap (has (records_of old.slots)) (sym found.1.1.1) ∙ has-noted old.slots found.0 found.1.0 (sym (updates.others found.0 differs) ∙ found.1.1.0))
      ]
        where
          found : Noted new.slots e
          found = noted-has new.slots e holds

          left : (a b : Bool) → a ≡ true → (a || b) ≡ true
          left true b is = refl
          left false b is = absurd (cc)

          right : (a b : Bool) → b ≡ true → (a || b) ≡ true
          right true b is = refl
          right false b is = is

      from : (e : Depend) → (same (record_of m) e || has (records_of old.slots) e) ≡ true → has (records_of new.slots) e ≡ true
      from e holds = on (same (record_of m) e) refl holds
        where
          on : (b : Bool) → same (record_of m) e ≡ b → (b || has (records_of old.slots) e) ≡ true → has (records_of new.slots) e ≡ true
          on true is there = ap (has (records_of new.slots)) (sym (same_tells (record_of m) e is)) ∙ has-noted new.slots key m updates.changed
          on false is there =
              let found = noted-has old.slots e there in
              ap (has (records_of new.slots)) (sym found.1.1.1) ∙ has-noted new.slots found.0 found.1.0 (kept found.0 found.1.0 found.1.1.0)
