-- Rounds of choices: what comes within them, and what evades them.
use Rattle.std.specs.Prelude.{◌≡◌, ℕ, ◌<◌, ◌≤◌, ◌⊎◌, ◌||◌, Bool, true, false, List, [], ◌∷◌, ◌++◌, length, All}
use Rattle.std.specs.List.{concat, Contains}

-- in the order of choices the first list comes before the other, which is as long: where they first differ it has the earlier
-- choice
abbrev pub IsEarlier : List ℕ → List ℕ → Type 0
IsEarlier [] path = ⊥
IsEarlier (c ∷ other) [] = ⊥
IsEarlier (c ∷ other) (d ∷ path) = (c < d) ⊎ ((c ≡ d) × IsEarlier other path)

-- each of so many choices occurs, and nothing else
pub record IsRound (width : ℕ) (round : List ℕ) : Type 0 where
  pub choices : All (λ c. c < width) round
  pub each : (c : ℕ) → c < width → Contains round c

module _ {S : Type 0} (next : S → ℕ → S) where
  -- the state after a list of choices, the first first
  abbrev pub after : S → List ℕ → S
  after s [] = s
  after s (c ∷ path) = after (next s c) path

  module _ (goal : S → Bool) where
    -- the state is a goal, or the choices lead from it through one
    abbrev pub passes : S → List ℕ → Bool
    passes s [] = goal s
    passes s (c ∷ path) = goal s || passes (next s c) path

    module _ (width : ℕ) where
      -- whatever so many rounds from the state are, they pass a goal
      abbrev pub MustWithin : S → ℕ → Type 0
      MustWithin s most = (rounds : List (List ℕ)) → length rounds ≡ most → All (IsRound width) rounds → passes s (concat rounds) ≡ true

      -- so many rounds from the state that pass no goal
      pub record Evades (s : S) (most : ℕ) : Type 0 where
        pub rounds : List (List ℕ)
        pub many : length rounds ≡ most
        pub are : All (IsRound width) rounds
        pub never : passes s (concat rounds) ≡ false

      -- the path leads to a state from which the cycle, a round, leads back to it; neither passes a goal
      pub record IsLasso (s : S) (path cycle : List ℕ) : Type 0 where
        pub choices : All (λ c. c < width) path
        pub round : IsRound width cycle
        pub back : after (after s path) cycle ≡ after s path
        pub never : passes s (path ++ cycle) ≡ false

      module _ (first : S → Bool) (start : S) where
        -- wherever a first state is come to, so many rounds from it pass a goal
        abbrev pub AlwaysComes : ℕ → Type 0
        AlwaysComes most = (stem : List ℕ) → All (λ c. c < width) stem → first (after start stem) ≡ true → MustWithin (after start stem) most

        -- the path goes by a first state, and from there on it is a lasso with the cycle, so any number of rounds can evade the goals
        pub record IsEvasion (path cycle : List ℕ) : Type 0 where
          pub stem : List ℕ
          pub rest : List ℕ
          pub parts : path ≡ stem ++ rest
          pub choices : All (λ c. c < width) stem
          pub begins : first (after start stem) ≡ true
          pub lasso : IsLasso (after start stem) rest cycle
          pub evades : (most : ℕ) → Evades (after start stem) most

        -- no path of another evasion is shorter, nor as long and earlier
        pub record IsShortest (path cycle : List ℕ) : Type 0 where
          pub evasion : IsEvasion path cycle
          pub shortest : (other round : List ℕ) → IsEvasion other round → length path ≤ length other
          pub earliest : (other round : List ℕ) → IsEvasion other round → length other ≡ length path → IsEarlier other path → ⊥
