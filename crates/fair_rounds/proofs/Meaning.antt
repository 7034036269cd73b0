-- From numbered nodes to the states for which they stand: what comes, and what evades.
use Rattle.std.proofs.Common.{◌≡◌, ℕ, suc, ◌<◌, Bool, ◌||◌, List, [], ◌∷◌, ◌++◌, length, All, refl, sym, ap, ◌∙◌, subst, arith}
use Rattle.std.proofs.lemmas.List.Elements.{All-append, All-nil, All-head, All-tail}
use Rattle.std.specs.List.{concat}
use Rattle.reaches_back.specs.Edges.{end_of}
use Rattle.fair_rounds.specs.Rounds.{IsRound, after, passes, MustWithin, IsLasso, AlwaysComes, IsEvasion, IsShortest}
use Rattle.fair_rounds.specs.Table.{is_marked}
use Rattle.fair_rounds.specs.Meaning.{StandsFor}
use Rattle.fair_rounds.proofs.Lassos.{lasso-evades}
use Rattle.fair_rounds.proofs.Edges.{end-inside, after-inside}

-- rounds one behind the other have choices alone
concat-choices : (width : ℕ) (rounds : List (List ℕ)) → All (IsRound width) rounds → All (λ c. c < width) (concat rounds)
concat-choices width [] all = All-nil (λ c. c < width)
concat-choices width (round ∷ rounds) all =
    All-append (λ c. c < width) round (concat rounds) (All-head (IsRound width) round rounds all).choices (concat-choices width rounds (All-tail (IsRound width) round rounds all))

module _ {S : Type 0} (next : S → ℕ → S) (goal first : S → Bool) (width : ℕ) (ends : List ℕ) (goals firsts : List Bool) (means : ℕ → S) (stands : StandsFor next goal first width ends goals firsts means) where
  after-means : (at : ℕ) (path : List ℕ) → at < length goals → All (λ c. c < width) path → means (after (end_of width ends) at path) ≡ after next (means at) path
  after-means at [] a all = refl
  after-means at (c ∷ path) a all =
      let l = all 0 c (omega arith) in
      after-means (end_of width ends at c) path (end-inside width ends (length goals) stands.edges at c a l) (λ k d m. all (suc k) d (omega arith))
      ∙ ap (λ s. after next s path) (stands.leads at c a l)

  passes-means : (at : ℕ) (path : List ℕ) → at < length goals → All (λ c. c < width) path → passes (end_of width ends) (is_marked goals) at path ≡ passes next goal (means at) path
  passes-means at [] a all = stands.passed at a
  passes-means at (c ∷ path) a all =
      let l = all 0 c (omega arith) in
      let rest = passes-means (end_of width ends at c) path (end-inside width ends (length goals) stands.edges at c a l) (λ k d m. all (suc k) d (omega arith)) in
      ap (λ b. b || passes (end_of width ends) (is_marked goals) (end_of width ends at c) path) (stands.passed at a)
      ∙ ap (λ b. goal (means at) || b) (rest ∙ ap (λ s. passes next goal s path) (stands.leads at c a l))

  must-means : (at most : ℕ) → at < length goals → MustWithin (end_of width ends) (is_marked goals) width at most → MustWithin next goal width (means at) most
  must-means at most a must rounds many are =
      sym (passes-means at (concat rounds) a (concat-choices width rounds are)) ∙ must rounds many are

  -- what always comes to nodes always comes to states
  pub comes-means : (start most : ℕ) → start < length goals → AlwaysComes (end_of width ends) (is_marked goals) width (is_marked firsts) start most
      → AlwaysComes next goal width first (means start) most
  comes-means start most a comes stem choices begins =
      let at = after (end_of width ends) start stem in
      let inside : at < length goals = after-inside width ends (length goals) stands.edges start stem a choices in
      let same = after-means start stem a choices in
      subst (λ s. MustWithin next goal width s most) same
      (must-means at most inside (comes stem choices (stands.begun at inside ∙ ap first same ∙ begins)))

  lasso-means : (at : ℕ) (path cycle : List ℕ) → at < length goals → IsLasso (end_of width ends) (is_marked goals) width at path cycle → IsLasso next goal width (means at) path cycle
  lasso-means at path cycle a lasso =
      let inside : after (end_of width ends) at path < length goals = after-inside width ends (length goals) stands.edges at path a lasso.choices in
      let all = All-append (λ c. c < width) path cycle lasso.choices lasso.round.choices in
      let same = after-means at path a lasso.choices in
      record {
        choices = lasso.choices;
        round = lasso.round;
        back = ap (λ s. after next s cycle) (sym same) ∙ sym (after-means (after (end_of width ends) at path) cycle inside lasso.round.choices) ∙ ap means lasso.back ∙ same;
        never = sym (passes-means at (path ++ cycle) a all) ∙ lasso.never;
      }

  lasso-back : (at : ℕ) (path cycle : List ℕ) → at < length goals → IsLasso next goal width (means at) path cycle → IsLasso (end_of width ends) (is_marked goals) width at path cycle
  lasso-back at path cycle a lasso =
      let inside : after (end_of width ends) at path < length goals = after-inside width ends (length goals) stands.edges at path a lasso.choices in
      let round : after (end_of width ends) (after (end_of width ends) at path) cycle < length goals =
      after-inside width ends (length goals) stands.edges (after (end_of width ends) at path) cycle inside lasso.round.choices in
      let all = All-append (λ c. c < width) path cycle lasso.choices lasso.round.choices in
      let same = after-means at path a lasso.choices in
      record {
        choices = lasso.choices;
        round = lasso.round;
        back = stands.apart (after (end_of width ends) (after (end_of width ends) at path) cycle) (after (end_of width ends) at path) round inside
            (after-means (after (end_of width ends) at path) cycle inside lasso.round.choices ∙ ap (λ s. after next s cycle) same ∙ lasso.back ∙ sym same);
        never = passes-means at (path ++ cycle) a all ∙ lasso.never;
      }

  evasion-means : (start : ℕ) (path cycle : List ℕ) → start < length goals → IsEvasion (end_of width ends) (is_marked goals) width (is_marked firsts) start path cycle
      → IsEvasion next goal width first (means start) path cycle
  evasion-means start path cycle a e =
      let at = after (end_of width ends) start e.stem in
      let inside : at < length goals = after-inside width ends (length goals) stands.edges start e.stem a e.choices in
      let same = after-means start e.stem a e.choices in
      let lasso : IsLasso next goal width (after next (means start) e.stem) e.rest cycle =
      subst (λ s. IsLasso next goal width s e.rest cycle) same (lasso-means at e.rest cycle inside e.lasso) in
      record {
        stem = e.stem;
        rest = e.rest;
        parts = e.parts;
        choices = e.choices;
        begins = ap first (sym same) ∙ sym (stands.begun at inside) ∙ e.begins;
        lasso = lasso;
        evades = lasso-evades next goal width (after next (means start) e.stem) e.rest cycle lasso;
      }

  evasion-back : (start : ℕ) (path cycle : List ℕ) → start < length goals → IsEvasion next goal width first (means start) path cycle
      → IsEvasion (end_of width ends) (is_marked goals) width (is_marked firsts) start path cycle
  evasion-back start path cycle a e =
      let at = after (end_of width ends) start e.stem in
      let inside : at < length goals = after-inside width ends (length goals) stands.edges start e.stem a e.choices in
      let same = after-means start e.stem a e.choices in
      let lasso = lasso-back at e.rest cycle inside (subst (λ s. IsLasso next goal width s e.rest cycle) (sym same) e.lasso) in
      record {
        stem = e.stem;
        rest = e.rest;
        parts = e.parts;
        choices = e.choices;
        begins = stands.begun at inside ∙ ap first same ∙ e.begins;
        lasso = lasso;
        evades = lasso-evades (end_of width ends) (is_marked goals) width at e.rest cycle lasso;
      }

  -- a shortest evasion of nodes is one of states
  pub shortest-means : (start : ℕ) (path cycle : List ℕ) → start < length goals → IsShortest (end_of width ends) (is_marked goals) width (is_marked firsts) start path cycle
      → IsShortest next goal width first (means start) path cycle
  shortest-means start path cycle a s = record {
    evasion = evasion-means start path cycle a s.evasion;
    shortest = λ other round e. s.shortest other round (evasion-back start other round a e);
    earliest = λ other round e. s.earliest other round (evasion-back start other round a e);
  }
