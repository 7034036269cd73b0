-- Lists of edges of a table, and where they lead.
use Rattle.std.proofs.Common.{◌≡◌, ℕ, suc, ◌+◌, ◌*◌, ◌<◌, List, [], ◌∷◌, ◌++◌, length, All, refl, subst, arith}
use Rattle.reaches_back.specs.Edges.{end_of, walked, AreEdges}
use Rattle.fair_rounds.specs.Rounds.{after}

-- an edge of a node has its place in the table
pub place-within : (nodes width at edge : ℕ) → at < nodes → edge < width → at * width + edge < nodes * width
place-within nodes width at edge a e = grind arith

module _ (width : ℕ) (ends : List ℕ) where
  pub walked-append : (at : ℕ) (path more : List ℕ) → walked width ends at (path ++ more) ≡ walked width ends (walked width ends at path) more
  walked-append at [] more = refl
  walked-append at (edge ∷ path) more = walked-append (end_of width ends at edge) path more

  pub walked-after : (at : ℕ) (path : List ℕ) → walked width ends at path ≡ after (end_of width ends) at path
  walked-after at [] = refl
  walked-after at (edge ∷ path) = walked-after (end_of width ends at edge) path

  module _ (nodes : ℕ) (are : AreEdges width ends nodes) where
    pub place-inside : (at edge : ℕ) → at < nodes → edge < width → at * width + edge < length ends
    place-inside at edge a e = omega (arith, are.many, place-within nodes width at edge a e)

    pub end-inside : (at edge : ℕ) → at < nodes → edge < width → end_of width ends at edge < nodes
    end-inside at edge a e = are.each (at * width + edge) 0 (place-inside at edge a e)

    pub walked-inside : (at : ℕ) (path : List ℕ) → at < nodes → All (λ c. c < width) path → walked width ends at path < nodes
    walked-inside at [] a all = a
    walked-inside at (edge ∷ path) a all = walked-inside (end_of width ends at edge) path (end-inside at edge a (all 0 edge (omega arith))) (λ k d m. all (suc k) d (omega arith))

    pub after-inside : (at : ℕ) (path : List ℕ) → at < nodes → All (λ c. c < width) path → after (end_of width ends) at path < nodes
    after-inside at path a all = subst (λ n. n < nodes) (walked-after at path) (walked-inside at path a all)
