-- How a round that leads back is found, choice by choice.
use Rattle.std.proofs.Common.{◌≡◌, ℕ, zero, suc, ◌+◌, ◌<◌, ◌⊎◌, inl, inr, ◌↔◌, Bool, true, false, Option, None, Some, List, [], ◌∷◌, ◌++◌, length, get_or, set, replicate, All, refl, sym, ap, ◌∙◌, subst, arith, true≢false, append_assoc, length-set}
use Rattle.std.proofs.lemmas.Bool.{cases_eq}
use Rattle.std.proofs.lemmas.List.{get_or-set_same, get_or-set_other, length-replicate, get_or_append_left}
use Rattle.std.proofs.Math.Seq.{get_or-append_seam}
use Rattle.std.specs.Option.{MatchOption}
use Rattle.std.proofs.lemmas.List.Elements.{All-append, All-cons, All-nil}
use Rattle.std.specs.List.{Contains}
use Rattle.reaches_back.specs.Edges.{end_of, walked, AreEdges, CanReach}
use Rattle.fair_rounds.specs.Table.{is_marked, ComesTo, IsLoop}
use Rattle.fair_rounds.specs.Loops.{AreLeading, Adds, Returns, IsLoopless}
use Rattle.fair_rounds.proofs.Passing.{contains-left, contains-right, contains-parts, All-front, All-back}
use Rattle.fair_rounds.proofs.Edges.{walked-append, end-inside, walked-inside}
use Rattle.fair_rounds.proofs.Flooding.{reaches-on}

-- a marked node is one of the list's
pub marked-within : (marks : List Bool) (at : ℕ) → is_marked marks at ≡ true → at < length marks
marked-within [] at h = absurd (true≢false (sym h))
marked-within (x ∷ marks) zero h = omega arith
marked-within (x ∷ marks) (suc at) h = omega (arith, marked-within marks at h)

unmarked : (n i : ℕ) → get_or (replicate n false) i false ≡ false
unmarked zero i = refl
unmarked (suc n) zero = refl
unmarked (suc n) (suc i) = unmarked n i

-- one mark alone
pub one-marked : (nodes at : ℕ) → at < nodes → is_marked (set (replicate nodes false) at true) at ≡ true
one-marked nodes at l = get_or-set_same (replicate nodes false) at true false (omega (arith, l, length-replicate nodes false))

pub one-alone : (nodes at node : ℕ) → is_marked (set (replicate nodes false) at true) node ≡ true → node ≡ at
one-alone nodes at node h = by (cases_eq node at)
  where
    by : (node ≡ at) ⊎ (node ≡ at → ⊥) → node ≡ at
    by (inl e) = e
    by (inr apart) = absurd (true≢false (sym h ∙ get_or-set_other (replicate nodes false) at node true false apart ∙ unmarked nodes node))

pub one-long : (nodes at : ℕ) → length (set (replicate nodes false) at true) ≡ nodes
one-long nodes at = length-set (replicate nodes false) at true ∙ length-replicate nodes false

module _ (width : ℕ) (ends : List ℕ) where
  -- marks that lead back to one mark alone
  pub leading : (nodes to : ℕ) → to < nodes → (marks : List Bool) → length marks ≡ nodes
      → ((at : ℕ) → at < length (set (replicate nodes false) to true) → (is_marked marks at ≡ true) ↔ CanReach width ends (set (replicate nodes false) to true) at)
      → AreLeading width ends nodes to marks
  leading nodes to l marks many reach = record {
    many = many;
    sound = λ at a h. (let r = (reach at (omega (arith, a, one-long nodes to))).0 h in
        record { path = r.path; choices = r.edges; leads = one-alone nodes to (walked width ends at r.path) r.marked });
    all = λ at a c. (reach at (omega (arith, a, one-long nodes to))).1
        (record { path = c.path; edges = c.choices; marked = ap (is_marked (set (replicate nodes false) to true)) c.leads ∙ one-marked nodes to l });
  }

  -- marks that lead back to others, by more that do
  pub leading-by : (old mid marks : List Bool) → ((i : ℕ) → is_marked mid i ≡ true → CanReach width ends old i) → ((i : ℕ) → is_marked old i ≡ true → is_marked mid i ≡ true)
      → (at : ℕ) → (is_marked marks at ≡ true) ↔ CanReach width ends mid at → (is_marked marks at ≡ true) ↔ CanReach width ends old at
  leading-by old mid marks sound kept at reach = (
    λ h. reaches-on width ends old mid sound at (reach.0 h),
    λ r. reach.1 (record { path = r.path; edges = r.edges; marked = kept (walked width ends at r.path) r.marked }),
  )

  -- choices to a node with an edge, and over it
  pub adds-over : (marks : List Bool) (choice from end : ℕ) (old path new : List ℕ) → choice < width → All (λ c. c < width) path → walked width ends from path ≡ end
      → is_marked marks (end_of width ends end choice) ≡ true → new ≡ old ++ path ++ choice ∷ [] → Adds width ends marks choice from old new (end_of width ends end choice)
  adds-over marks choice from end old path new l all leads marked is = record {
    path = path ++ choice ∷ [];
    added = is ∙ append_assoc old path (choice ∷ []);
    choices = All-append (λ c. c < width) path (choice ∷ []) all (All-cons (λ c. c < width) choice [] l (All-nil (λ c. c < width)));
    leads = walked-append width ends from path (choice ∷ []) ∙ ap (λ n. end_of width ends n choice) leads;
    marked = marked;
    has = subst (λ (xs : List ℕ). Contains xs choice) (sym is) (contains-right (old ++ path) (choice ∷ []) choice (0, omega arith, refl));
  }

  pub adds-none : (marks : List Bool) (choice from : ℕ) (old : List ℕ) → is_marked marks from ≡ true → Contains old choice → Adds width ends marks choice from old old from
  adds-none marks choice from old marked has = record {
    path = [];
    added = sym (append-none old);
    choices = All-nil (λ c. c < width);
    leads = refl;
    marked = marked;
    has = has;
  }
    where
      append-none : (xs : List ℕ) → xs ++ [] ≡ xs
      append-none [] = refl
      append-none (x ∷ xs) = ap (λ ys. x ∷ ys) (append-none xs)

  -- the first so many choices are among some that lead from one node to another, which is marked
  pub record IsUnderWay (nodes at : ℕ) (marks : List Bool) (choice here : ℕ) (taken : List ℕ) : Type 0 where
    pub inside : here < nodes
    pub marked : is_marked marks here ≡ true
    pub choices : All (λ c. c < width) taken
    pub leads : walked width ends at taken ≡ here
    pub has : (c : ℕ) → c < choice → Contains taken c

  module _ (nodes at : ℕ) (marks : List Bool) (are : AreEdges width ends nodes) (within : at < nodes) (back : AreLeading width ends nodes at marks) where
    pub under-start : IsUnderWay nodes at marks 0 at []
    under-start = record {
      inside = within;
      marked = back.all at within (record { path = []; choices = All-nil (λ c. c < width); leads = refl });
      choices = All-nil (λ c. c < width);
      leads = refl;
      has = λ c l. absurd (omega (arith, l));
    }

    pub under-more : (choice here to : ℕ) (taken new : List ℕ) → IsUnderWay nodes at marks choice here taken → Adds width ends marks choice here taken new to → IsUnderWay nodes at marks (choice + 1) to new
    under-more choice here to taken new way adds = record {
      inside = subst (λ n. n < nodes) adds.leads (walked-inside width ends nodes are here adds.path way.inside adds.choices);
      marked = adds.marked;
      choices = subst (All (λ c. c < width)) (sym adds.added) (All-append (λ c. c < width) taken adds.path way.choices adds.choices);
      leads = ap (walked width ends at) adds.added ∙ walked-append width ends at taken adds.path ∙ ap (λ n. walked width ends n adds.path) way.leads ∙ adds.leads;
      has = has;
    }
      where
        has : (c : ℕ) → c < choice + 1 → Contains new c
        has c l = by (cases_eq c choice)
          where
            by : (c ≡ choice) ⊎ (c ≡ choice → ⊥) → Contains new c
            by (inl e) = subst (Contains new) (sym e) adds.has
            by (inr apart) = subst (λ (xs : List ℕ). Contains xs c) (sym adds.added) (contains-left taken adds.path c (way.has c (omega (arith, apart))))

    -- where the edge of a choice leads nowhere back, no round does
    pub under-stuck : (choice here : ℕ) (taken : List ℕ) → IsUnderWay nodes at marks choice here taken → choice < width
        → ((path : List ℕ) → All (λ c. c < width) path → is_marked marks (end_of width ends (walked width ends here path) choice) ≡ false) → IsLoopless width ends at
    under-stuck choice here taken way l none cycle loop =
        let p = contains-parts cycle choice (loop.round.each choice l) in
        let home = back.sound here way.inside way.marked in
        let all : All (λ c. c < width) (p.0 ++ choice ∷ p.1) = subst (All (λ c. c < width)) p.2 loop.round.choices in
        let pre = All-front (λ c. c < width) p.0 (choice ∷ p.1) all in
        let post : All (λ c. c < width) p.1 = All-back (λ c. c < width) (choice ∷ []) p.1 (All-back (λ c. c < width) p.0 (choice ∷ p.1) all) in
        let mid = walked width ends at p.0 in
        let there : walked width ends here (home.path ++ p.0) ≡ mid = walked-append width ends here home.path p.0 ∙ ap (λ n. walked width ends n p.0) home.leads in
        let lost = none (home.path ++ p.0) (All-append (λ c. c < width) home.path p.0 home.choices pre) in
        let end = end_of width ends mid choice in
        let inside : end < nodes = end-inside width ends nodes are mid choice (walked-inside width ends nodes are at p.0 within pre) l in
        let leads : walked width ends end p.1 ≡ at = sym (walked-append width ends at p.0 (choice ∷ p.1)) ∙ ap (walked width ends at) (sym p.2) ∙ loop.back in
        let found = back.all end inside (record { path = p.1; choices = post; leads = leads }) in
        true≢false (sym found ∙ ap (λ n. is_marked marks (end_of width ends n choice)) (sym there) ∙ lost)

    pub under-home : (choice here : ℕ) (taken : List ℕ) → IsUnderWay nodes at marks choice here taken → ComesTo width ends here at
    under-home choice here taken way = back.sound here way.inside way.marked

    -- a round that leads back
    pub under-back : (here : ℕ) (taken new : List ℕ) → IsUnderWay nodes at marks width here taken → Returns width ends here at taken new → IsLoop width ends at new
    under-back here taken new way returns = record {
      round = record {
        choices = subst (All (λ c. c < width)) (sym returns.added) (All-append (λ c. c < width) taken returns.path way.choices returns.choices);
        each = λ c l. subst (λ (xs : List ℕ). Contains xs c) (sym returns.added) (contains-left taken returns.path c (way.has c l));
      };
      back = ap (walked width ends at) returns.added ∙ walked-append width ends at taken returns.path ∙ ap (λ n. walked width ends n returns.path) way.leads ∙ returns.leads;
    }

-- one mark more, each of them what is wanted
pub pushed : (marks : List Bool) (b : Bool) (at : ℕ) (f : ℕ → Bool) → length marks ≡ at → ((i : ℕ) → i < at → is_marked marks i ≡ f i) → b ≡ f at
    → (i : ℕ) → i < at + 1 → is_marked (marks ++ b ∷ []) i ≡ f i
pushed marks b at f many before here i l = by (cases_eq i at)
  where
    by : (i ≡ at) ⊎ (i ≡ at → ⊥) → is_marked (marks ++ b ∷ []) i ≡ f i
    by (inl e) = ap (is_marked (marks ++ b ∷ [])) (e ∙ sym many) ∙ get_or-append_seam marks b [] false ∙ here ∙ ap f (sym e)
    by (inr apart) = get_or_append_left marks (b ∷ []) false i (omega (arith, l, apart, many)) ∙ before i (omega (arith, l, apart))

-- what follows from what is said of an option
pub match-weaker : {X : Type 0} (o : Option X) (A B : Type 0) (P Q : X → Type 0) → (A → B) → ((x : X) → P x → Q x) → MatchOption o A P → MatchOption o B Q
match-weaker None A B P Q f g h = f h
match-weaker (Some x) A B P Q f g h = g x h
