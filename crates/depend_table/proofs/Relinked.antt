-- Chains that are made anew, key by key.
use Rattle.std.proofs.Common.{◌≡◌, ◌≢◌, inl, inr, ℕ, zero, suc, ◌+◌, ◌<◌, ◌≤◌, Bool, true, false, not, if◌then◌else◌, nat_lt, List, [], ◌∷◌, filter, length, get_or, set, sum_by, count_by, is_some, cond, Option, Some, None, refl, sym, ap, ◌∙◌, subst, arith, add-one}
use Rattle.std.proofs.lemmas.Bool.Decides.{nat_tests}
use Rattle.std.proofs.Math.Path.{fun_ext}
use Rattle.std.proofs.lemmas.List.{get_or-set_same, get_or-set_other, length-set}
use Rattle.std.proofs.lemmas.List.Sums.{sum_by-set, sum_by-cons}
use Rattle.slab.specs.Slab.{Slab, get, slab_len}
use Rattle.guard_math.specs.Block.{BlockValue}
use Rattle.cap_format.specs.Item.{IsItem}
use Rattle.depend_table.specs.declared.chain.Chain.{Chain}
use Rattle.depend_table.specs.declared.chain.Node.{Node}
use Rattle.depend_table.specs.Depend.{Depend, is_within}
use Rattle.depend_table.specs.Place.{place_of}
use Rattle.depend_table.specs.Chain.{IsLinked, IsLinkedTo, IsTable, below, chain_at, count_below, linked_chain, no_chain, one_if, record_at, record_of, records_of, unless_within}
use Rattle.depend_table.proofs.Linked.{linked-noted, one_or_not}

-- ---- nodes below a key

below_inside : (node : ℕ → Option Node) (end k : ℕ) → k < end → below node end k ≡ node k
below_inside node end k less = on (nat_lt k end) (grind (arith, nat_tests))
  where
    on : (b : Bool) → b ≡ true → (if b then node k else None) ≡ node k
    on true e = refl
    on false e = absurd (cc)

below_past : (node : ℕ → Option Node) (end k : ℕ) → end ≤ k → below node end k ≡ None
below_past node end k past = on (nat_lt k end) (grind (arith, nat_tests))
  where
    on : (b : Bool) → b ≡ false → (if b then node k else None) ≡ None
    on true e = absurd (cc)
    on false e = refl

-- a node that is found below a key is below it
below_tells : (node : ℕ → Option Node) (end k : ℕ) (n : Node) → below node end k ≡ Some n → (k < end) × (node k ≡ Some n)
below_tells node end k n is = on (nat_lt k end) refl is
  where
    on : (b : Bool) → nat_lt k end ≡ b → (if b then node k else None) ≡ Some n → (k < end) × (node k ≡ Some n)
    on true e found = (grind (arith, nat_tests), found)
    on false e found = absurd (cc)

-- the nodes below the next key are the same, but for this one
below_next : (node other : ℕ → Option Node) (key : ℕ) → ((k : ℕ) → k ≢ key → other k ≡ node k) → (k : ℕ) → k ≢ key → below other (key + 1) k ≡ below node key k
below_next node other key same k differs = on (nat_lt k key) (nat_lt k (key + 1)) (grind (arith, nat_tests))
  where
    on : (b c : Bool) → c ≡ b → (if c then other k else None) ≡ (if b then node k else None)
    on true true e = same k differs
    on false false e = refl
    on true false e = absurd (cc)
    on false true e = absurd (cc)

-- nodes that are the same are linked the same
linked_same : (node other : ℕ → Option Node) (chain : ℕ → Chain) → ((k : ℕ) → other k ≡ node k) → IsLinked node chain → IsLinked other chain
linked_same node other chain same linked = subst (λ (f : ℕ → Option Node). IsLinked f chain) (sym (fun_ext same)) linked

-- ---- how many there are below a key

count_below-next : (node : ℕ → Option Node) (key : ℕ) → count_below node (key + 1) ≡ count_below node key + one_if (is_some (node key))
count_below-next node key = ap (count_below node) (add-one key)

count_below-same : (node other : ℕ → Option Node) (end : ℕ) → ((k : ℕ) → k < end → other k ≡ node k) → count_below other end ≡ count_below node end
count_below-same node other zero same = refl
count_below-same node other (suc end) same =
    let before = count_below-same node other end (λ k less. same k (omega (arith, less))) in
    let here : one_if (is_some (other end)) ≡ one_if (is_some (node end)) = ap (λ (o : Option Node). one_if (is_some o)) (same end (omega arith)) in
    omega (arith, before, here)

count_below-cons : (x : Option Node) (xs : List (Option Node)) (end : ℕ)
    → count_below (λ k. get_or (x ∷ xs) k None) (suc end) ≡ one_if (is_some x) + count_below (λ k. get_or xs k None) end
count_below-cons x xs zero = omega arith
count_below-cons x xs (suc end) = let before = count_below-cons x xs end in omega (arith, before)

count_below-none : (end : ℕ) → count_below (λ k. get_or [] k None) end ≡ 0
count_below-none zero = refl
count_below-none (suc end) = let before = count_below-none end in omega (arith, before)

-- no more than all, and all where there is none from the key on
count_below-most : (slots : List (Option Node)) (end : ℕ) → count_below (λ k. get_or slots k None) end ≤ count_by is_some slots
count_below-most slots zero = omega arith
count_below-most [] (suc end) = let none = count_below-none (suc end) in omega (arith, none)
count_below-most (x ∷ xs) (suc end) =
    let front = count_below-cons x xs end in
    let rest = count_below-most xs end in
    let whole = sum_by-cons (λ (o : Option Node). cond (is_some o) 1 0) x xs in
    omega (arith, front, rest, whole)

count_below-all : (slots : List (Option Node)) (end : ℕ) → ((k : ℕ) → end ≤ k → get_or slots k None ≡ None) → count_below (λ k. get_or slots k None) end ≡ count_by is_some slots
count_below-all [] end none = count_below-none end
count_below-all (x ∷ xs) zero none =
    let rest = count_below-all xs zero (λ k past. none (suc k) (omega arith)) in
    let here : one_if (is_some x) ≡ 0 = ap (λ (o : Option Node). one_if (is_some o)) (none 0 (omega arith)) in
    let whole = sum_by-cons (λ (o : Option Node). cond (is_some o) 1 0) x xs in
    omega (arith, rest, here, whole)
count_below-all (x ∷ xs) (suc end) none =
    let front = count_below-cons x xs end in
    let rest = count_below-all xs end (λ k past. none (suc k) (omega (arith, past))) in
    let whole = sum_by-cons (λ (o : Option Node). cond (is_some o) 1 0) x xs in
    omega (arith, front, rest, whole)

-- ---- records

-- records that are dropped or stay, key by key
pub records_left : (root : ℕ) (block : BlockValue) (old new : List (Option Node))
    → ((k : ℕ) → record_at (get_or new k None) ≡ unless_within root block (record_at (get_or old k None)))
    → records_of new ≡ filter (λ d. not (is_within root block d)) (records_of old)
records_left root block [] [] left = refl
records_left root block [] (y ∷ ys) left = on y (left 0) (records_left root block [] ys (λ k. left (suc k)))
  where
    on : (y : Option Node) → record_at y ≡ None → records_of ys ≡ [] → records_of (y ∷ ys) ≡ []
    on None e rest = rest
    on (Some n) e rest = absurd (cc)
records_left root block (x ∷ xs) [] left = on x (left 0) (records_left root block xs [] (λ k. left (suc k)))
  where
    on : (x : Option Node) → None ≡ unless_within root block (record_at x) → [] ≡ filter (λ d. not (is_within root block d)) (records_of xs)
        → [] ≡ filter (λ d. not (is_within root block d)) (records_of (x ∷ xs))
    on None e rest = rest
    on (Some n) e rest = within (is_within root block (record_of n)) e
      where
        within : (b : Bool) → None ≡ (if b then None else Some (record_of n))
            → [] ≡ (if not b then record_of n ∷ filter (λ d. not (is_within root block d)) (records_of xs) else filter (λ d. not (is_within root block d)) (records_of xs))
        within true e = rest
        within false e = absurd (cc)
records_left root block (x ∷ xs) (y ∷ ys) left = on x y (left 0) (records_left root block xs ys (λ k. left (suc k)))
  where
    on : (x y : Option Node) → record_at y ≡ unless_within root block (record_at x) → records_of ys ≡ filter (λ d. not (is_within root block d)) (records_of xs)
        → records_of (y ∷ ys) ≡ filter (λ d. not (is_within root block d)) (records_of (x ∷ xs))
    on None None e rest = rest
    on None (Some m) e rest = absurd (cc)
    on (Some n) y e rest = within (is_within root block (record_of n)) y e
      where
        within : (b : Bool) (y : Option Node) → record_at y ≡ (if b then None else Some (record_of n))
            → records_of (y ∷ ys) ≡ (if not b then record_of n ∷ filter (λ d. not (is_within root block d)) (records_of xs) else filter (λ d. not (is_within root block d)) (records_of xs))
        within true None e = rest
        within true (Some m) e = absurd (cc)
        within false None e = absurd (cc)
        within false (Some m) e = let same : record_of m ≡ record_of n = cc in rw (same, rest) refl

-- ---- at the start, at a key, at the end

-- a chain is no longer than all records
pub chain_short : (nodes : Slab Node) (chains : List Chain) (end place : ℕ) → IsLinkedTo nodes chains end → place < 23040 → (chain_at chains place).length ≤ 16384
chain_short nodes chains end place linked inside =
    let most = count_below-most nodes.slots end in
    let sums = sum_by-set (λ (c : Chain). c.length) chains place no_chain no_chain (omega (arith, inside, linked.places)) in
    omega (arith, most, sums, linked.total, linked.most)

-- a key without a node, before and after
pub linked_gone : (old new : Slab Node) (chains : List Chain) (key : ℕ) → IsLinkedTo old chains key → slab_len new ≤ slab_len old
    → ((k : ℕ) → k ≢ key → get new k ≡ get old k) → get new key ≡ None → IsLinkedTo new chains (key + 1)
linked_gone old new chains key linked fewer others gone = record {
  most = omega (arith, fewer, linked.most);
  places = linked.places;
  items = λ k n is. linked.items k n (was k n is);
  once = λ j k m n isj isk. linked.once j k m n (was j m isj) (was k n isk);
  total =
      let next = count_below-next (get new) key in
      let same = count_below-same (get old) (get new) key (λ k less. others k (λ e. omega (arith, e, less))) in
      let none : one_if (is_some (get new key)) ≡ 0 = ap (λ (o : Option Node). one_if (is_some o)) gone in
      omega (arith, linked.total, next, same, none);
  linked = linked_same (below (get old) key) (below (get new) (key + 1)) (chain_at chains) same linked.linked;
}
  where
    was : (k : ℕ) (n : Node) → get new k ≡ Some n → get old k ≡ Some n
    was k n is = elim (one_or_not k key) [
      | inl same ↦ absurd (let none : get new k ≡ None = ap (get new) same ∙ gone in cc)
      | inr differs ↦ sym (others k differs) ∙ is
    ]

    same : (k : ℕ) → below (get new) (key + 1) k ≡ below (get old) key k
    same k = elim (one_or_not k key) [
      | inl one ↦
          below_inside (get new) (key + 1) k (omega (arith, one)) ∙ (ap (get new) one ∙ gone) ∙ sym (below_past (get old) key k (omega (arith, one)))
      | inr differs ↦ below_next (get old) (get new) key others k differs
    ]

-- a node that is linked under its key
pub linked_more : (old new : Slab Node) (chains : List Chain) (key : ℕ) (n m : Node) → IsLinkedTo old chains key → slab_len new ≤ slab_len old
    → ((k : ℕ) → k ≢ key → get new k ≡ get old k) → get old key ≡ Some n → get new key ≡ Some m → record_of m ≡ record_of n
    → m.rest ≡ chain_at chains (place_of m.item) → place_of m.item < length chains
    → IsLinkedTo new (set chains (place_of m.item) (linked_chain key m.rest)) (key + 1)
linked_more old new chains key n m linked fewer others at there same rest within = record {
  most = omega (arith, fewer, linked.most);
  places = length-set chains (place_of m.item) (linked_chain key m.rest) ∙ linked.places;
  items = λ k x is. let found = was k x is in subst (λ (d : Depend). IsItem d.item) (sym found.1.1) (linked.items k found.0 found.1.0);
  once = λ j k a b isa isb e.
      let one = was j a isa in
      let two = was k b isb in
      linked.once j k one.0 two.0 one.1.0 two.1.0 (sym one.1.1 ∙ e ∙ two.1.1);
  total =
      let sums = sum_by-set (λ (c : Chain). c.length) chains (place_of m.item) (linked_chain key m.rest) no_chain within in
      let long : m.rest.length ≡ (chain_at chains (place_of m.item)).length = ap (λ (c : Chain). c.length) rest in
      let next = count_below-next (get new) key in
      let before = count_below-same (get old) (get new) key (λ k less. others k (λ e. omega (arith, e, less))) in
      let one : one_if (is_some (get new key)) ≡ 1 = ap (λ (o : Option Node). one_if (is_some o)) there in
      omega (arith, linked.total, sums, long, next, before, one);
  linked = linked-noted (below (get old) key) (below (get new) (key + 1)) (chain_at chains) (chain_at (set chains (place_of m.item) (linked_chain key m.rest))) key m
      linked.linked (below_past (get old) key key (omega arith)) (below_inside (get new) (key + 1) key (omega arith) ∙ there)
      (below_next (get old) (get new) key others) item rest unlike
      (ap (λ (c : Chain). c.first) now) (ap (λ (c : Chain). c.length) now)
      (λ place differs. get_or-set_other chains (place_of m.item) place (linked_chain key m.rest) no_chain differs);
}
  where
    was : (k : ℕ) (x : Node) → get new k ≡ Some x → (y : Node) × ((get old k ≡ Some y) × (record_of x ≡ record_of y))
    was k x is = elim (one_or_not k key) [
      | inl one ↦
          let here : get new k ≡ Some m = ap (get new) one ∙ there in
          let this : x ≡ m = cc in
          (n, (ap (get old) one ∙ at, ap record_of this ∙ same))
      | inr differs ↦ (x, (sym (others k differs) ∙ is, refl))
    ]

    item : IsItem m.item
    item = subst (λ (d : Depend). IsItem d.item) (sym same) (linked.items key n at)

    unlike : (k : ℕ) (x : Node) → below (get old) key k ≡ Some x → record_of x ≢ record_of m
    unlike k x is e =
        let found = below_tells (get old) key k x is in
        let one = linked.once k key x n found.1 at (e ∙ same) in
        omega (arith, found.0, one)

    now : chain_at (set chains (place_of m.item) (linked_chain key m.rest)) (place_of m.item) ≡ linked_chain key m.rest
    now = get_or-set_same chains (place_of m.item) (linked_chain key m.rest) no_chain within

-- where all keys are behind, the table is one
pub linked_end : (new : Slab Node) (chains : List Chain) (end : ℕ) → IsLinkedTo new chains end → 16384 ≤ new.capacity
    → ((k : ℕ) → end ≤ k → get new k ≡ None) → IsTable new chains
linked_end new chains end linked room none = record {
  room = room;
  most = linked.most;
  places = linked.places;
  total = linked.total ∙ count_below-all new.slots end none;
  linked = linked_same (below (get new) end) (get new) (chain_at chains) same linked.linked;
}
  where
    same : (k : ℕ) → get new k ≡ below (get new) end k
    same k = on (nat_lt k end) refl
      where
        on : (b : Bool) → nat_lt k end ≡ b → get new k ≡ (if b then get new k else None)
        on true e = refl
        on false e = none k (grind (arith, nat_tests))
