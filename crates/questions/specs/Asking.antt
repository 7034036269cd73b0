-- Properties by their numbers. (Own.)
use Rattle.std.specs.Prelude.{ℕ, zero, suc, Bool, true, false, if◌then◌else◌, List, [], ◌∷◌, ◌++◌, length, slice_index_or}
use Rattle.questions.specs.declared.asks.Asks.{Asks}
use Rattle.questions.specs.declared.asks.Asks.TheVariants.{Never, Ever, Must, MustAfter, Count}
use Rattle.questions.specs.declared.properties.Sought.{Sought}
use Rattle.questions.specs.declared.properties.Sought.TheVariants.{One, Wants}
use Rattle.questions.specs.Question.{PropertyValue, is_count, is_ever, is_must, is_must_after, is_never, property_of}

-- property `n`
abbrev pub property_at : List PropertyValue → ℕ → PropertyValue
property_at properties n = slice_index_or properties n (property_of 0 Never [])

-- whether a property asks what is wanted
abbrev pub asks_this : Asks → Asks → Bool
asks_this Never = is_never
asks_this Ever = is_ever
asks_this Must = is_must
asks_this MustAfter = is_must_after
asks_this Count = is_count

-- whether it asks what comes: that it can come, or that it must
abbrev pub is_want : Asks → Bool
is_want Ever = true
is_want Must = true
is_want MustAfter = true
is_want _ = false

-- whether it is sought
abbrev pub is_sought : Sought → Asks → Bool
is_sought (One wanted) = asks_this wanted
is_sought Wants = is_want

-- the numbers below `n` of the properties that ask this
unfoldable pub asking_below : (Asks → Bool) → List PropertyValue → ℕ → List ℕ
asking_below asks properties zero = []
asking_below asks properties (suc n) =
    asking_below asks properties n ++ (if asks (property_at properties n).asks then n ∷ [] else [])

-- the numbers of all that do
abbrev pub asking : (Asks → Bool) → List PropertyValue → List ℕ
asking asks properties = asking_below asks properties (length properties)
