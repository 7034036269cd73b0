-- Marks of states.
use Rattle.std.specs.Prelude.{ℕ, Bool, List, [], ◌∷◌, ◌++◌, map}
use Rattle.breadth_first.specs.System.{System}
use Rattle.breadth_first.specs.declared.answer.Want.{Want}
use Rattle.breadth_first.specs.declared.answer.Want.TheVariants.{Ever, Must, MustAfter}
use Rattle.breadth_first.specs.declared.asked.Test.{Test}
use Rattle.breadth_first.specs.declared.asked.Test.TheVariants.{Passes, IsFirst}

-- the number that a test has
abbrev pub number_of : Test → ℕ
number_of (Passes t) = t
number_of (IsFirst t) = t

-- whether a state is as a test asks
abbrev pub is_as : {S : Type 0} → System S → Test → S → Bool
is_as g (Passes t) = g.test t
is_as g (IsFirst t) = g.first t

-- for each test, of each state whether it is so
abbrev pub judged : {S : Type 0} → System S → List Test → List S → List (List Bool)
judged g tests states = map (λ t. map (is_as g t) states) tests

-- the number of the test that has to be passed
abbrev pub goal_of : Want → ℕ
goal_of (Ever t) = t
goal_of (Must t) = t
goal_of (MustAfter t) = t

-- by what a state is judged that a want begins with
abbrev pub first_of : Want → List Test
first_of (Ever t) = []
first_of (Must t) = []
first_of (MustAfter t) = IsFirst t ∷ []

-- the same of each of the wants
abbrev pub firsts_of : List Want → List Test
firsts_of [] = []
firsts_of (want ∷ wants) = first_of want ++ firsts_of wants

-- by what states are judged for wants: what each wants, and behind that what they begin with
abbrev pub tests_of : List Want → List Test
tests_of wants = map (λ want. Passes (goal_of want)) wants ++ firsts_of wants
