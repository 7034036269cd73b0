-- Where no `never` fails in a state, and where one does.
use Rattle.std.proofs.Common.{◌≡◌, ◌∙◌, ℕ, ◌<◌, ◌&&◌, Bool, true, false, cond, List, [], length, get_or, Some, None, sym, ap, inl, inr, arith}
use Rattle.std.specs.List.{position, position_or_len}
use Rattle.std.proofs.lemmas.Bool.{and_parts, cases_lt, lt-ltb}
use Rattle.std.proofs.lemmas.List.Quantifiers.{position-Some}
use Rattle.std.proofs.lemmas.List.Sums.{fails_before_first}
use Rattle.machine_state.specs.State.{State}
use Rattle.separation_policy.specs.Policy.{PolicyValue}
use Rattle.questions.specs.declared.asks.Asks.TheVariants.{Never}
use Rattle.questions.specs.Atom.{crosses}
use Rattle.questions.specs.Question.{QuestionValue, fails, first_failing, holds, is_never, property_of}
use Rattle.questions.specs.Asking.{property_at}
use Rattle.exploration.specs.Explored.{AsksNever, IsSafe}

-- where there is no first, there is none
none_passes : {X : Type 0} (p : X → Bool) (xs : List X) (k : ℕ) (d : X) → position p xs ≡ None → k < length xs → p (get_or xs k d) ≡ false
none_passes p xs k d none there = elim (cases_lt (position_or_len p xs) (length xs)) [
  | inl within ↦
      let some = sym (ap (λ (b : Bool). cond b (Some (position_or_len p xs)) None) (lt-ltb (position_or_len p xs) (length xs) within)) ∙ none in absurd (cc (some))
  | inr past ↦ fails_before_first p xs k d (omega (arith, past, there))
]

and_second : (a b : Bool) → a ≡ true → (a && b) ≡ false → b ≡ false
and_second true b is none = none
and_second false b is none = absurd (cc (is))

module _ (question : QuestionValue) (policy : PolicyValue) (t : State) where
  abbrev test : ℕ → Bool
  test n = fails (crosses policy t) t (property_at question.properties n)

  pub safe-none : first_failing question policy t ≡ None → IsSafe question policy t
  safe-none none n asks =
      and_second (is_never (property_at question.properties n).asks) (holds question policy t n) asks.asked
      (none_passes (fails (crosses policy t) t) question.properties n (property_of 0 Never []) none asks.there)

  -- the first that fails
  pub record Fails (n : ℕ) : Type 0 where
    pub never : AsksNever question n
    pub fails : holds question policy t n ≡ true
    pub first : (m : ℕ) → m < n → AsksNever question m → holds question policy t m ≡ false

  pub fails-some : (n : ℕ) → first_failing question policy t ≡ Some n → Fails n
  fails-some n some =
      let found = position-Some (fails (crosses policy t) t) question.properties n (property_of 0 Never []) some in
      let both = and_parts (is_never (property_at question.properties n).asks) (holds question policy t n) found.1 in
      record {
        never = record { there = found.0; asked = both.0 };
        fails = both.1;
        first = λ m before asks. and_second (is_never (property_at question.properties m).asks) (holds question policy t m) asks.asked (found.2 m before);
      }
