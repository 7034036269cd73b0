-- Nodes and their doubles: a double is come to where a goal is wanted.
use Rattle.std.proofs.Common.{◌≡◌, ℕ, suc, ◌+◌, ◌*◌, ◌<◌, ◌≤◌, ◌⊎◌, inl, inr, Bool, true, false, not, ◌&&◌, ◌||◌, List, [], ◌∷◌, ◌++◌, length, map, get_or, All, refl, sym, ap, ◌∙◌, arith, true≢false, length-append}
use Rattle.std.proofs.lemmas.List.{get_or_append_left, get_or-append-add, get_or-map, length-map}
use Rattle.std.proofs.lemmas.List.Elements.{All-append, All-map, All-weaker}
use Rattle.reaches_back.specs.Edges.{end_of, walked, AreEdges}
use Rattle.fair_rounds.specs.Rounds.{after, passes}
use Rattle.fair_rounds.specs.Table.{is_marked, is_wanted, doubled, wanting_end, wanting}
use Rattle.fair_rounds.proofs.Passing.{passes-here, passes-next, passes-cons}
use Rattle.fair_rounds.proofs.Edges.{place-inside, end-inside}

-- whether a goal is wanted behind a list of choices
abbrev pub wants : (width : ℕ) (ends : List ℕ) (goals firsts : List Bool) → Bool → ℕ → List ℕ → Bool
wants width ends goals firsts before at [] = before
wants width ends goals firsts before at (c ∷ path) = wants width ends goals firsts (is_wanted goals firsts before (end_of width ends at c)) (end_of width ends at c) path

-- what was wanted before, or begins here, where there is no goal
wanted-parts : (g b f : Bool) → (not g && (b || f)) ≡ true → (g ≡ false) × ((f ≡ true) ⊎ ((f ≡ false) × (b ≡ true)))
wanted-parts true b f h = absurd (true≢false (sym h))
wanted-parts false b true h = (refl, inl refl)
wanted-parts false true false h = (refl, inr (refl, refl))
wanted-parts false false false h = absurd (true≢false (sym h))

wanted-first : (g b f : Bool) → g ≡ false → f ≡ true → (not g && (b || f)) ≡ true
wanted-first true b f h k = absurd (true≢false h)
wanted-first false b false h k = absurd (true≢false (sym k))
wanted-first false true true h k = refl
wanted-first false false true h k = refl

wanted-still : (g f : Bool) → g ≡ false → (not g && (true || f)) ≡ true
wanted-still true f h = absurd (true≢false h)
wanted-still false f h = refl

pub doubled-far : (nodes : ℕ) (b : Bool) (at : ℕ) → at < nodes → nodes ≤ doubled nodes b at → b ≡ true
doubled-far nodes true at a l = refl
doubled-far nodes false at a l = absurd (omega (arith, a, l))

module _ (width : ℕ) (ends : List ℕ) (goals firsts : List Bool) (are : AreEdges width ends (length goals)) where
  -- an edge of a node or of its double
  wanting-step : (before : Bool) (at c : ℕ) → at < length goals → c < width
      → end_of width (wanting ends goals firsts) (doubled (length goals) before at) c ≡ wanting_end goals firsts before (end_of width ends at c)
  wanting-step false at c a l =
      let inside = place-inside width ends (length goals) are at c a l in
      get_or_append_left (map (wanting_end goals firsts false) ends) (map (wanting_end goals firsts true) ends) 0 (at * width + c) (omega (arith, inside, length-map ends (wanting_end goals firsts false)))
      ∙ get_or-map (wanting_end goals firsts false) ends (at * width + c) 0 0 inside
  wanting-step true at c a l =
      let inside = place-inside width ends (length goals) are at c a l in
      let long : length (map (wanting_end goals firsts false) ends) ≡ length goals * width = length-map ends (wanting_end goals firsts false) ∙ are.many in
      let place : (length goals + at) * width + c ≡ length (map (wanting_end goals firsts false) ends) + (at * width + c) = omega (arith, long) in
      ap (λ n. get_or (wanting ends goals firsts) n 0) place
      ∙ get_or-append-add (map (wanting_end goals firsts false) ends) (map (wanting_end goals firsts true) ends) (at * width + c) 0
      ∙ get_or-map (wanting_end goals firsts true) ends (at * width + c) 0 0 inside

  pub wanting-walk : (before : Bool) (at : ℕ) (path : List ℕ) → at < length goals → All (λ c. c < width) path
      → walked width (wanting ends goals firsts) (doubled (length goals) before at) path
      ≡ doubled (length goals) (wants width ends goals firsts before at path) (after (end_of width ends) at path)
  wanting-walk before at [] a all = refl
  wanting-walk before at (c ∷ path) a all =
      let l = all 0 c (omega arith) in
      ap (λ n. walked width (wanting ends goals firsts) n path) (wanting-step before at c a l)
      ∙ wanting-walk (is_wanted goals firsts before (end_of width ends at c)) (end_of width ends at c) path (end-inside width ends (length goals) are at c a l) (λ k d m. all (suc k) d (omega arith))

  pub wanting-inside : (before : Bool) (at : ℕ) → at < length goals → wanting_end goals firsts before at < length goals + length goals
  wanting-inside before at l = small (is_wanted goals firsts before at)
    where
      small : (b : Bool) → doubled (length goals) b at < length goals + length goals
      small true = omega arith
      small false = omega (arith, l)

  -- there are edges for each node and its double
  pub wanting-edges : AreEdges width (wanting ends goals firsts) (length goals + length goals)
  wanting-edges = record {
    many = omega (arith, length-append (map (wanting_end goals firsts false) ends) (map (wanting_end goals firsts true) ends), length-map ends (wanting_end goals firsts false), length-map ends (wanting_end goals firsts true), are.many);
    each = All-append (λ at. at < length goals + length goals) (map (wanting_end goals firsts false) ends) (map (wanting_end goals firsts true) ends) (half false) (half true);
  }
    where
      small : (b : Bool) (at : ℕ) → at < length goals → doubled (length goals) b at < length goals + length goals
      small true at l = omega arith
      small false at l = omega arith

      half : (before : Bool) → All (λ at. at < length goals + length goals) (map (wanting_end goals firsts before) ends)
      half before = All-map (λ at. at < length goals + length goals) (wanting_end goals firsts before) ends
          (All-weaker (λ at. at < length goals) (λ at. wanting_end goals firsts before at < length goals + length goals) (λ at l. small (is_wanted goals firsts before at) at l) ends are.each)

module _ (width : ℕ) (ends : List ℕ) (goals firsts : List Bool) where
  -- the path goes by a first node, and passes no goal from there on
  pub record IsWanted (at : ℕ) (path : List ℕ) : Type 0 where
    pub stem : List ℕ
    pub rest : List ℕ
    pub parts : path ≡ stem ++ rest
    pub begins : is_marked firsts (after (end_of width ends) at stem) ≡ true
    pub never : passes (end_of width ends) (is_marked goals) (after (end_of width ends) at stem) rest ≡ false

  wanted-since : (before : Bool) (at : ℕ) (path : List ℕ) → (before ≡ true → is_marked goals at ≡ false) → wants width ends goals firsts before at path ≡ true
      → ((before ≡ true) × (passes (end_of width ends) (is_marked goals) at path ≡ false)) ⊎ IsWanted at path
  wanted-since before at [] free h = inl (h, free h)
  wanted-since before at (c ∷ path) free h =
      let end = end_of width ends at c in
      by (wanted-since (is_wanted goals firsts before end) end path (λ k. (wanted-parts (is_marked goals end) before (is_marked firsts end) k).0) h)
    where
      by : ((is_wanted goals firsts before (end_of width ends at c) ≡ true) × (passes (end_of width ends) (is_marked goals) (end_of width ends at c) path ≡ false)) ⊎ IsWanted (end_of width ends at c) path
          → ((before ≡ true) × (passes (end_of width ends) (is_marked goals) at (c ∷ path) ≡ false)) ⊎ IsWanted at (c ∷ path)
      by (inr w) = inr (record { stem = c ∷ w.stem; rest = w.rest; parts = ap (λ l. c ∷ l) w.parts; begins = w.begins; never = w.never })
      by (inl e) = begin (wanted-parts (is_marked goals (end_of width ends at c)) before (is_marked firsts (end_of width ends at c)) e.0).1
        where
          begin : (is_marked firsts (end_of width ends at c) ≡ true) ⊎ ((is_marked firsts (end_of width ends at c) ≡ false) × (before ≡ true))
              → ((before ≡ true) × (passes (end_of width ends) (is_marked goals) at (c ∷ path) ≡ false)) ⊎ IsWanted at (c ∷ path)
          begin (inl f) = inr (record { stem = c ∷ []; rest = path; parts = refl; begins = f; never = e.1 })
          begin (inr f) = inl (f.1, passes-cons (end_of width ends) (is_marked goals) at c path (free f.1) e.1)

  -- where a goal is wanted, it is since a first node
  pub wanted-sound : (at : ℕ) (path : List ℕ) → wants width ends goals firsts (is_wanted goals firsts false at) at path ≡ true → IsWanted at path
  wanted-sound at path h =
      by (wanted-since (is_wanted goals firsts false at) at path (λ k. (wanted-parts (is_marked goals at) false (is_marked firsts at) k).0) h)
    where
      by : ((is_wanted goals firsts false at ≡ true) × (passes (end_of width ends) (is_marked goals) at path ≡ false)) ⊎ IsWanted at path → IsWanted at path
      by (inr w) = w
      by (inl e) = begin (wanted-parts (is_marked goals at) false (is_marked firsts at) e.0).1
        where
          begin : (is_marked firsts at ≡ true) ⊎ ((is_marked firsts at ≡ false) × (false ≡ true)) → IsWanted at path
          begin (inl f) = record { stem = []; rest = path; parts = refl; begins = f; never = e.1 }
          begin (inr f) = absurd (true≢false (sym f.1))

  wants-append : (before : Bool) (at : ℕ) (p q : List ℕ) → wants width ends goals firsts before at (p ++ q) ≡ wants width ends goals firsts (wants width ends goals firsts before at p) (after (end_of width ends) at p) q
  wants-append before at [] q = refl
  wants-append before at (c ∷ p) q = wants-append (is_wanted goals firsts before (end_of width ends at c)) (end_of width ends at c) p q

  -- a goal is wanted at a first node that is none
  wants-first : (before : Bool) (at : ℕ) (stem : List ℕ) → is_marked goals (after (end_of width ends) at stem) ≡ false → is_marked firsts (after (end_of width ends) at stem) ≡ true
      → wants width ends goals firsts (is_wanted goals firsts before at) at stem ≡ true
  wants-first before at [] g f = wanted-first (is_marked goals at) before (is_marked firsts at) g f
  wants-first before at (c ∷ stem) g f = wants-first (is_wanted goals firsts before at) (end_of width ends at c) stem g f

  wants-still : (at : ℕ) (rest : List ℕ) → passes (end_of width ends) (is_marked goals) at rest ≡ false → wants width ends goals firsts true at rest ≡ true
  wants-still at [] never = refl
  wants-still at (c ∷ rest) never =
      let on = passes-next (end_of width ends) (is_marked goals) at c rest never in
      let still = wanted-still (is_marked goals (end_of width ends at c)) (is_marked firsts (end_of width ends at c)) (passes-here (end_of width ends) (is_marked goals) (end_of width ends at c) rest on) in
      ap (λ b. wants width ends goals firsts b (end_of width ends at c) rest) still ∙ wants-still (end_of width ends at c) rest on

  -- a goal is wanted behind a first node as long as none is passed
  pub wanted-all : (at : ℕ) (stem rest : List ℕ) → is_marked firsts (after (end_of width ends) at stem) ≡ true
      → passes (end_of width ends) (is_marked goals) (after (end_of width ends) at stem) rest ≡ false
      → wants width ends goals firsts (is_wanted goals firsts false at) at (stem ++ rest) ≡ true
  wanted-all at stem rest f never =
      let here = wants-first false at stem (passes-here (end_of width ends) (is_marked goals) (after (end_of width ends) at stem) rest never) f in
      wants-append (is_wanted goals firsts false at) at stem rest
      ∙ ap (λ b. wants width ends goals firsts b (after (end_of width ends) at stem) rest) here
      ∙ wants-still (after (end_of width ends) at stem) rest never
