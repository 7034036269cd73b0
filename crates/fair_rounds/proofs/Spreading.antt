-- One more node that a search finds, and one more whose edges were followed.
use Rattle.std.proofs.Common.{◌≡◌, ℕ, zero, suc, ◌+◌, ◌<◌, ◌≤◌, ◌⊎◌, inl, inr, Bool, true, false, not, cond, List, [], ◌∷◌, ◌++◌, length, get_or, set, replicate, All, Option, Some, slice_get, count_by, refl, sym, ap, ◌∙◌, subst, arith, length-append, length-set}
use Rattle.std.proofs.lemmas.List.{get_or-set_other, length-replicate}
use Rattle.std.proofs.lemmas.List.Sums.{sum_by-set}
use Rattle.std.proofs.lemmas.List.Folds.{sum_by-replicate}
use Rattle.std.proofs.lemmas.Bool.{cases_eq}
use Rattle.std.proofs.lemmas.Option.{slice_get_within, same_Some}
use Rattle.reaches_back.specs.Edges.{end_of, walked}
use Rattle.fair_rounds.specs.declared.breadth.Found.{Found}
use Rattle.fair_rounds.specs.Search.{IsFound, IsFoundBefore, IsChild, IsSearched, IsSpread}
use Rattle.fair_rounds.proofs.Places.{get-old, get-front, get-new, get-push, some-at}

-- a mark more is one less that isn't
pub count-set : (marks : List Bool) (at : ℕ) → at < length marks → get_or marks at false ≡ false → count_by not (set marks at true) + 1 ≡ count_by not marks
count-set marks at l h =
    let count : Bool → ℕ = λ b. cond (not b) 1 0 in
    let one : count (get_or marks at false) ≡ count false = ap count h in
    omega (arith, sum_by-set count marks at true false l, one)

-- with no mark, all aren't
pub count-none : (nodes : ℕ) → count_by not (replicate nodes false) ≡ nodes
count-none nodes =
    let count : Bool → ℕ = λ b. cond (not b) 1 0 in
    omega (arith, sum_by-replicate count nodes false)

pub found-old : (found more : List Found) (node most : ℕ) → IsFound found node most → IsFound (found ++ more) node most
found-old found more node most f = record { at = f.at; entry = f.entry; there = get-old found more f.at f.entry f.there; is = f.is; depth = f.depth }

before-old : (found more : List Found) (node place : ℕ) → IsFoundBefore found node place → IsFoundBefore (found ++ more) node place
before-old found more node place f = record { at = f.at; before = f.before; entry = f.entry; there = get-old found more f.at f.entry f.there; is = f.is }

-- what was found was found before the next
before-next : (found more : List Found) (node most : ℕ) → IsFound found node most → IsFoundBefore (found ++ more) node (length found)
before-next found more node most f = record { at = f.at; before = slice_get_within found f.at f.entry f.there; entry = f.entry; there = get-old found more f.at f.entry f.there; is = f.is }

pub found-more : (found : List Found) (node most more : ℕ) → most ≤ more → IsFound found node most → IsFound found node more
found-more found node most more l f = record { at = f.at; entry = f.entry; there = f.there; is = f.is; depth = omega (arith, l, f.depth) }

module _ (width : ℕ) (ends : List ℕ) where
  child-old : (found more : List Found) (i : ℕ) (child : Found) → IsChild width ends found i child → IsChild width ends (found ++ more) i child
  child-old found more i child is = record {
    parent = is.parent;
    there = get-old found more child.parent is.parent is.there;
    earlier = is.earlier;
    choice = is.choice;
    leads = is.leads;
    depth = is.depth;
    turn = λ j f h c l before. before-old found more (end_of width ends f.node c) i (is.turn j f (get-front found more j f (within j c before) h) c l before);
  }
    where
      within : (j c : ℕ) → (j < child.parent) ⊎ ((j ≡ child.parent) × (c < child.choice)) → j < length found
      within j c (inl l) = omega (arith, l, slice_get_within found child.parent is.parent is.there)
      within j c (inr e) = omega (arith, e.0, slice_get_within found child.parent is.parent is.there)

  module _ (marks : List Bool) (found : List Found) (at : ℕ) (from : Found) (there : slice_get found at ≡ Some from) (s : IsSpread width ends marks found at) where
    -- what is marked was found, no farther than one edge behind
    pub spread-seen : (node : ℕ) → get_or marks node false ≡ true → IsFound found node (from.depth + 1)
    spread-seen node h =
        let old = s.seen node h in
        record { at = old.0; entry = old.1; there = old.2; is = old.3; depth = s.last from there old.0 old.1 old.2 }

    -- once all edges of the node at the place were followed
    pub spread-next : ((c : ℕ) → c < width → IsFound found (end_of width ends from.node c) (from.depth + 1)) → IsSpread width ends marks found (at + 1)
    spread-next all = record {
      tree = s.tree;
      order = s.order;
      inside = s.inside;
      count = s.count;
      seen = s.seen;
      last = λ f h i g k. (let nearer : from.depth ≤ f.depth = s.order at (at + 1) from f (omega arith) there h in omega (arith, nearer, s.last from there i g k));
      followed = followed;
    }
      where
        followed : (i : ℕ) (f : Found) → i < at + 1 → slice_get found i ≡ Some f → (c : ℕ) → c < width → IsFound found (end_of width ends f.node c) (f.depth + 1)
        followed i f l h c m = by (cases_eq i at)
          where
            by : (i ≡ at) ⊎ (i ≡ at → ⊥) → IsFound found (end_of width ends f.node c) (f.depth + 1)
            by (inl e) =
                let same : from ≡ f = same_Some from f (sym there ∙ ap (slice_get found) (sym e) ∙ h) in
                subst (λ (g : Found). IsFound found (end_of width ends g.node c) (g.depth + 1)) same (all c m)
            by (inr apart) = s.followed i f (omega (arith, apart)) h c m

    module _ (c : ℕ) (l : c < width) (end : ℕ) (leads : end_of width ends from.node c ≡ end) (within : end < length marks) (unseen : get_or marks end false ≡ false) (new : Found) (node : new.node ≡ end) (parent : new.parent ≡ at) (choice : new.choice ≡ c) (depth : new.depth ≡ from.depth + 1)
        (so-far : (k : ℕ) → k < c → IsFound found (end_of width ends from.node k) (from.depth + 1)) where
      -- the new one is the child of the one at the place
      new-child : IsChild width ends (found ++ new ∷ []) (length found) new
      new-child = record {
        parent = from;
        there = subst (λ i. slice_get (found ++ new ∷ []) i ≡ Some from) (sym parent) (get-old found (new ∷ []) at from there);
        earlier = omega (arith, parent, slice_get_within found at from there);
        choice = omega (arith, choice, l);
        leads = ap (end_of width ends from.node) choice ∙ leads ∙ sym node;
        depth = depth;
        turn = turn;
      }
        where
          turn : (j : ℕ) (f : Found) → slice_get (found ++ new ∷ []) j ≡ Some f → (k : ℕ) → k < width → (j < new.parent) ⊎ ((j ≡ new.parent) × (k < new.choice))
              → IsFoundBefore (found ++ new ∷ []) (end_of width ends f.node k) (length found)
          turn j f h k m (inl l) =
              let j-old : j < at = omega (arith, l, parent) in
              before-next found (new ∷ []) (end_of width ends f.node k) (f.depth + 1)
              (s.followed j f j-old (get-front found (new ∷ []) j f (omega (arith, j-old, slice_get_within found at from there)) h) k m)
          turn j f h k m (inr e) =
              let same : from ≡ f = same_Some from f (sym (get-old found (new ∷ []) at from there) ∙ ap (slice_get (found ++ new ∷ [])) (sym parent ∙ sym e.0) ∙ h) in
              subst (λ (g : Found). IsFoundBefore (found ++ new ∷ []) (end_of width ends g.node k) (length found)) same
              (before-next found (new ∷ []) (end_of width ends from.node k) (from.depth + 1) (so-far k (omega (arith, e.1, choice))))

      each : (i : ℕ) (f : Found) → 0 < i → (slice_get found i ≡ Some f) ⊎ ((i ≡ length found) × (f ≡ new)) → IsChild width ends (found ++ new ∷ []) i f
      each i f p (inl e) = child-old found (new ∷ []) i f (s.tree.each i f p e)
      each i f p (inr e) = subst (λ (g : Found). IsChild width ends (found ++ new ∷ []) i g) (sym e.1) (subst (λ j. IsChild width ends (found ++ new ∷ []) j new) (sym e.0) new-child)

      first : (f : Found) → (slice_get found 0 ≡ Some f) ⊎ ((0 ≡ length found) × (f ≡ new)) → f.depth ≡ 0
      first f (inl e) = s.tree.first f e
      first f (inr e) = absurd (omega (arith, e.0, s.tree.some))

      order : (i j : ℕ) (a b : Found) → i ≤ j → (slice_get found i ≡ Some a) ⊎ ((i ≡ length found) × (a ≡ new)) → (slice_get found j ≡ Some b) ⊎ ((j ≡ length found) × (b ≡ new)) → a.depth ≤ b.depth
      order i j a b m (inl e) (inl f) = s.order i j a b m e f
      order i j a b m (inl e) (inr f) = omega (arith, s.last from there i a e, ap (λ (g : Found). g.depth) f.1, depth)
      order i j a b m (inr e) (inl f) = absurd (omega (arith, m, e.0, slice_get_within found j b f))
      order i j a b m (inr e) (inr f) = omega (arith, ap (λ (g : Found). g.depth) e.1, ap (λ (g : Found). g.depth) f.1)

      inside : (i : ℕ) (f : Found) → (slice_get found i ≡ Some f) ⊎ ((i ≡ length found) × (f ≡ new)) → (f.node < length (set marks end true)) × (f.depth ≤ i)
      inside i f (inl e) = (omega (arith, (s.inside i f e).0, length-set marks end true), (s.inside i f e).1)
      inside i f (inr e) = (omega (arith, ap (λ (g : Found). g.node) e.1, node, within, length-set marks end true), omega (arith, ap (λ (g : Found). g.depth) e.1, depth, (s.inside at from there).1, slice_get_within found at from there, e.0))

      last : (f : Found) → slice_get (found ++ new ∷ []) at ≡ Some f → (i : ℕ) (g : Found) → (slice_get found i ≡ Some g) ⊎ ((i ≡ length found) × (g ≡ new)) → g.depth ≤ f.depth + 1
      last f h i g e =
          let same : from ≡ f = same_Some from f (sym (get-old found (new ∷ []) at from there) ∙ h) in
          subst (λ (k : Found). g.depth ≤ k.depth + 1) same (by e)
        where
          by : (slice_get found i ≡ Some g) ⊎ ((i ≡ length found) × (g ≡ new)) → g.depth ≤ from.depth + 1
          by (inl k) = s.last from there i g k
          by (inr k) = omega (arith, ap (λ (n : Found). n.depth) k.1, depth)

      followed : (i : ℕ) (f : Found) → i < at → (slice_get found i ≡ Some f) ⊎ ((i ≡ length found) × (f ≡ new)) → (k : ℕ) → k < width → IsFound (found ++ new ∷ []) (end_of width ends f.node k) (f.depth + 1)
      followed i f m (inl e) k n = found-old found (new ∷ []) (end_of width ends f.node k) (f.depth + 1) (s.followed i f m e k n)
      followed i f m (inr e) k n = absurd (omega (arith, m, e.0, slice_get_within found at from there))

      seen : (at : ℕ) → get_or (set marks end true) at false ≡ true → (i : ℕ) × (f : Found) × (slice_get (found ++ new ∷ []) i ≡ Some f) × (f.node ≡ at)
      seen at h = by (cases_eq at end)
        where
          by : (at ≡ end) ⊎ (at ≡ end → ⊥) → (i : ℕ) × (f : Found) × (slice_get (found ++ new ∷ []) i ≡ Some f) × (f.node ≡ at)
          by (inl e) = (length found, new, get-new found new, node ∙ sym e)
          by (inr apart) =
              let old = s.seen at (sym (get_or-set_other marks end at true false apart) ∙ h) in
              (old.0, old.1, get-old found (new ∷ []) old.0 old.1 old.2, old.3)

      -- the search with the new node
      pub spread-push : IsSpread width ends (set marks end true) (found ++ new ∷ []) at
      spread-push = record {
        tree = record {
          some = omega (arith, s.tree.some, length-append found (new ∷ []));
          first = λ f h. first f (get-push found new 0 f h);
          each = λ i f p h. each i f p (get-push found new i f h);
        };
        order = λ i j a b m h k. order i j a b m (get-push found new i a h) (get-push found new j b k);
        inside = λ i f h. inside i f (get-push found new i f h);
        count = omega (arith, count-set marks end within unseen, s.count, length-append found (new ∷ []), length-set marks end true);
        seen = seen;
        last = λ f h i g k. last f h i g (get-push found new i g k);
        followed = λ i f m h. followed i f m (get-push found new i f h);
      }

      pub push-found : IsFound (found ++ new ∷ []) end (from.depth + 1)
      push-found = record { at = length found; entry = new; there = get-new found new; is = node; depth = omega (arith, depth) }

  -- the edges of the one at the place were followed for so many choices
  pub record IsSoFar (zeroth : Option Found) (at : ℕ) (from : Found) (choice : ℕ) (marks : List Bool) (found : List Found) : Type 0 where
    pub there : slice_get found at ≡ Some from
    pub first : slice_get found 0 ≡ zeroth
    pub spread : IsSpread width ends marks found at
    pub so_far : (c : ℕ) → c < choice → IsFound found (end_of width ends from.node c) (from.depth + 1)

  one-more : (found : List Found) (from : Found) (choice : ℕ) → ((c : ℕ) → c < choice → IsFound found (end_of width ends from.node c) (from.depth + 1))
      → IsFound found (end_of width ends from.node choice) (from.depth + 1) → (c : ℕ) → c < choice + 1 → IsFound found (end_of width ends from.node c) (from.depth + 1)
  one-more found from choice before here c l = by (cases_eq c choice)
    where
      by : (c ≡ choice) ⊎ (c ≡ choice → ⊥) → IsFound found (end_of width ends from.node c) (from.depth + 1)
      by (inl e) = subst (λ d. IsFound found (end_of width ends from.node d) (from.depth + 1)) (sym e) here
      by (inr apart) = before c (omega (arith, apart))

  module _ (zeroth : Option Found) (at : ℕ) (from : Found) (choice : ℕ) (marks : List Bool) (found : List Found) (s : IsSoFar zeroth at from choice marks found) where
    -- the next edge ends at a node that was found
    pub so-far-seen : get_or marks (end_of width ends from.node choice) false ≡ true → IsSoFar zeroth at from (choice + 1) marks found
    so-far-seen h = record {
      there = s.there;
      first = s.first;
      spread = s.spread;
      so_far = one-more found from choice s.so_far (spread-seen marks found at from s.there s.spread (end_of width ends from.node choice) h);
    }

    -- or at a new one
    pub so-far-new : choice < width → end_of width ends from.node choice < length marks → get_or marks (end_of width ends from.node choice) false ≡ false
        → (new : Found) → new.node ≡ end_of width ends from.node choice → new.parent ≡ at → new.choice ≡ choice → new.depth ≡ from.depth + 1
        → IsSoFar zeroth at from (choice + 1) (set marks (end_of width ends from.node choice) true) (found ++ new ∷ [])
    so-far-new l within unseen new node parent is depth =
        let head = some-at found 0 s.spread.tree.some in
        record {
          there = get-old found (new ∷ []) at from s.there;
          first = get-old found (new ∷ []) 0 head.0 head.1 ∙ sym head.1 ∙ s.first;
          spread = spread-push marks found at from s.there s.spread choice l (end_of width ends from.node choice) refl within unseen new node parent is depth s.so_far;
          so_far = one-more (found ++ new ∷ []) from choice (λ c m. found-old found (new ∷ []) (end_of width ends from.node c) (from.depth + 1) (s.so_far c m))
              (push-found marks found at from s.there s.spread choice l (end_of width ends from.node choice) refl within unseen new node parent is depth s.so_far);
        }

  -- where all edges were followed, all nodes were found
  module _ (marks : List Bool) (found : List Found) (at : ℕ) (past : length found ≤ at) (s : IsSpread width ends marks found at) where
    along : (path : List ℕ) (node most : ℕ) → All (λ c. c < width) path → IsFound found node most → IsFound found (walked width ends node path) (most + length path)
    along [] node most all f = found-more found node most (most + 0) (omega arith) f
    along (c ∷ path) node most all f =
        let more = s.followed f.at f.entry (omega (arith, past, slice_get_within found f.at f.entry f.there)) f.there c (all 0 c (omega arith)) in
        let there : IsFound found (end_of width ends node c) (most + 1) = found-more found (end_of width ends node c) (f.entry.depth + 1) (most + 1) (omega (arith, f.depth)) (subst (λ n. IsFound found (end_of width ends n c) (f.entry.depth + 1)) f.is more) in
        found-more found (walked width ends node (c ∷ path)) (most + 1 + length path) (most + length (c ∷ path)) (omega arith) (along path (end_of width ends node c) (most + 1) (λ k d m. all (suc k) d (omega arith)) there)

    pub spread-all : (from : ℕ) (f : Found) → slice_get found 0 ≡ Some f → f.node ≡ from → IsSearched width ends (length marks) from found
    spread-all from f there is = record {
      tree = s.tree;
      inside = λ i g h. (s.inside i g h).0;
      start = λ g h. ap (λ (k : Found). k.node) (same_Some g f (sym h ∙ there)) ∙ is;
      order = s.order;
      all = λ path all. found-more found (walked width ends from path) (0 + length path) (length path) (omega arith) (along path from 0 all (record { at = 0; entry = f; there = there; is = is; depth = omega (arith, s.tree.first f there) }));
    }

  -- at first the start alone is found
  pub spread-start : (nodes from : ℕ) (f : Found) → from < nodes → f.node ≡ from → f.depth ≡ 0 → IsSpread width ends (set (replicate nodes false) from true) (f ∷ []) 0
  spread-start nodes from f l node depth = record {
    tree = record {
      some = omega arith;
      first = λ g h. ap (λ (k : Found). k.depth) (same_Some g f (sym h)) ∙ depth;
      each = λ i g p h. absurd (omega (arith, p, slice_get_within (f ∷ []) i g h));
    };
    order = λ i j a b m h k. omega (arith, zeros i a h, zeros j b k);
    inside = λ i g h. (omega (arith, ap (λ (k : Found). k.node) (only i g h), node, l, length-set (replicate nodes false) from true, length-replicate nodes false), omega (arith, zeros i g h));
    count = omega (arith, count-set (replicate nodes false) from (omega (arith, l, length-replicate nodes false)) (unmarked nodes from), count-none nodes, length-set (replicate nodes false) from true, length-replicate nodes false);
    seen = λ node h. (0, f, refl, marked node h);
    last = λ g h i k e. omega (arith, zeros i k e);
    followed = λ i g m. absurd (omega (arith, m));
  }
    where
      only : (i : ℕ) (g : Found) → slice_get (f ∷ []) i ≡ Some g → g ≡ f
      only i g h = by (get-push [] f i g h)
        where
          by : (slice_get {X = Found} [] i ≡ Some g) ⊎ ((i ≡ 0) × (g ≡ f)) → g ≡ f
          by (inl e) = absurd (omega (arith, slice_get_within {A = Found} [] i g e))
          by (inr e) = e.1

      zeros : (i : ℕ) (g : Found) → slice_get (f ∷ []) i ≡ Some g → g.depth ≡ 0
      zeros i g h = ap (λ (k : Found). k.depth) (only i g h) ∙ depth

      unmarked : (n i : ℕ) → get_or (replicate n false) i false ≡ false
      unmarked zero i = refl
      unmarked (suc n) zero = refl
      unmarked (suc n) (suc i) = unmarked n i

      marked : (v : ℕ) → get_or (set (replicate nodes false) from true) v false ≡ true → f.node ≡ v
      marked v h = by (cases_eq v from)
        where
          by : (v ≡ from) ⊎ (v ≡ from → ⊥) → f.node ≡ v
          by (inl e) = node ∙ sym e
          by (inr apart) = absurd (clash (unmarked nodes v) (sym (get_or-set_other (replicate nodes false) from v true false apart) ∙ h))
            where
              clash : (e : get_or (replicate nodes false) v false ≡ false) (k : get_or (replicate nodes false) v false ≡ true) → ⊥
              clash e k = cc
