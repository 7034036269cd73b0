-- What is watched, as it is collected.
use Rattle.std.proofs.Common.{◌≡◌, ◌∙◌, ℕ, ◌+◌, ◌<◌, List, [], ◌++◌, length, get_or, drop, flat_map, sym, ap, ap₂, append-nil, append_assoc}
use Rattle.std.proofs.lemmas.List.{at_drop_more}
use Rattle.std.proofs.lemmas.List.Concat.{flat_map-cons}
use Rattle.quiet_finding.specs.Watched.{WatchedValue, watched}

module _ {X : Type 0} (f : X → List ℕ) (xs : List X) where
  -- what was collected, and what is left, is what there was and all of the list
  abbrev pub IsCollecting : List ℕ → List ℕ → ℕ → Type 0
  IsCollecting old done i = done ++ flat_map f (drop i xs) ≡ old ++ flat_map f xs

  pub collecting-none : (old done : List ℕ) → done ≡ old → IsCollecting old done 0
  collecting-none old done is = ap (λ (l : List ℕ). l ++ flat_map f xs) is

  pub collecting-more : (old done new : List ℕ) (i : ℕ) (d : X) → IsCollecting old done i → i < length xs → new ≡ done ++ f (get_or xs i d) → IsCollecting old new (i + 1)
  collecting-more old done new i d collecting below is =
      let rest = drop (i + 1) xs in
      let x = get_or xs i d in
      let next = at_drop_more (flat_map f) xs i d below ∙ flat_map-cons f x rest in
      ap (λ (l : List ℕ). l ++ flat_map f rest) is ∙ append_assoc done (f x) (flat_map f rest) ∙ ap (λ (l : List ℕ). done ++ l) (sym next) ∙ collecting

  pub collecting-all : (old done : List ℕ) (i : ℕ) → IsCollecting old done i → drop i xs ≡ [] → done ≡ old ++ flat_map f xs
  collecting-all old done i collecting none = sym (append-nil done) ∙ ap (λ (left : List X). done ++ flat_map f left) (sym none) ∙ collecting

-- the same processes and the same pages
pub both : (v w : WatchedValue) → v.processes ≡ w.processes → v.pages ≡ w.pages → v ≡ w
both v w processes pages = ap₂ (λ (ps ns : List ℕ). watched ps ns) processes pages
