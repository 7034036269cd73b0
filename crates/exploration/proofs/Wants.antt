-- What a question wants of a search, by the numbers of its properties.
use Rattle.std.proofs.Common.{◌≡◌, ◌∙◌, ℕ, ◌+◌, ◌<◌, ◌++◌, ◌∷◌, [], All, Bool, true, false, List, length, map, take, get_or, slice_get, slice_index, Option, None, Some, refl, sym, ap, subst}
use Rattle.std.specs.Option.{option_map}
use Rattle.std.proofs.lemmas.List.{map-append, take_more}
use Rattle.std.proofs.lemmas.List.Elements.{All-map, All-weaker}
use Rattle.std.proofs.lemmas.Option.{get_or_from_slice_get, none-some, same_Some, slice_get-get_or, slice_get-map}
use Rattle.breadth_first.specs.Marks.{goal_of}
use Rattle.breadth_first.specs.declared.answer.Want.{Want}
use Rattle.questions.specs.declared.asks.Asks.{Asks}
use Rattle.questions.specs.declared.asks.Asks.TheVariants.{Never, Ever, Must, MustAfter, Count}
use Rattle.questions.specs.Question.{PropertyValue, QuestionValue, is_ever, is_must, is_must_after}
use Rattle.questions.specs.Asking.{asking, is_want, property_at}
use Rattle.questions.proofs.Numbers.{asking-earlier, asking-has, asking-there}
use Rattle.exploration.specs.Explored.{want_by, wants_by, wants_of}

-- ---- what a property asks

pub ever-is : (a : Asks) → is_ever a ≡ true → a ≡ Ever
ever-is Ever is = refl
ever-is Never is = absurd (cc (is))
ever-is Must is = absurd (cc (is))
ever-is MustAfter is = absurd (cc (is))
ever-is Count is = absurd (cc (is))

pub must-is : (a : Asks) → is_must a ≡ true → a ≡ Must
must-is Must is = refl
must-is Never is = absurd (cc (is))
must-is Ever is = absurd (cc (is))
must-is MustAfter is = absurd (cc (is))
must-is Count is = absurd (cc (is))

pub must_after-is : (a : Asks) → is_must_after a ≡ true → a ≡ MustAfter
must_after-is MustAfter is = refl
must_after-is Never is = absurd (cc (is))
must_after-is Ever is = absurd (cc (is))
must_after-is Must is = absurd (cc (is))
must_after-is Count is = absurd (cc (is))

-- ---- the list of wants

-- a loop makes one thing of each in its turn
pub mapped-next : {X Y : Type 0} (f : X → Y) (xs : List X) (before now : List Y) (i : ℕ) (x d : X) → i < length xs → x ≡ get_or xs i d → before ≡ map f (take i xs) → now ≡ before ++ f x ∷ []
    → now ≡ map f (take (i + 1) xs)
mapped-next f xs before now i x d within at are is =
    is ∙ ap (λ ys. ys ++ f x ∷ []) are ∙ ap (λ y. map f (take i xs) ++ f y ∷ []) at ∙ sym (map-append f (take i xs) (get_or xs i d ∷ [])) ∙ ap (map f) (sym (take_more xs i d within))

goal-is : (a : Asks) (n : ℕ) → goal_of (want_by a n) ≡ n
goal-is Never n = refl
goal-is Ever n = refl
goal-is Must n = refl
goal-is MustAfter n = refl
goal-is Count n = refl

-- each is of a property that is there
pub wants-there : (properties : List PropertyValue) → All (λ want. goal_of want < length properties) (wants_by properties)
wants-there properties = All-map (λ want. goal_of want < length properties) (λ n. want_by (property_at properties n).asks n) (asking is_want properties)
    (All-weaker (λ n. n < length properties) (λ n. goal_of (want_by (property_at properties n).asks n) < length properties)
    (λ n within. subst (λ k. k < length properties) (sym (goal-is (property_at properties n).asks n)) within) (asking is_want properties) (asking-there is_want properties))

module _ (question : QuestionValue) where
  abbrev properties : List PropertyValue
  properties = question.properties

  abbrev numbers : List ℕ
  numbers = asking is_want properties

  -- what the property with a number wants
  abbrev pub want_of_number : ℕ → Want
  want_of_number n = want_by (property_at properties n).asks n

  named : (i n : ℕ) → slice_get numbers i ≡ Some n → slice_get (wants_of question) i ≡ Some (want_of_number n)
  named i n at = slice_get-map want_of_number numbers i ∙ ap (option_map want_of_number) at

  -- a property that asks what comes has its want
  pub want-there : (n : ℕ) → n < length properties → is_want (property_at properties n).asks ≡ true → (i : ℕ) × (slice_get (wants_of question) i ≡ Some (want_of_number n))
  want-there n there asked =
      let has = asking-has is_want properties n there asked in
      (has.0, named has.0 n (slice_get-get_or numbers has.0 n has.1 ∙ ap Some has.2))

  -- that of an earlier one stands before
  pub want-earlier : (e n m : ℕ) → slice_get numbers e ≡ Some n → m < n → is_want (property_at properties m).asks ≡ true
      → (i : ℕ) × (i < e) × (slice_get (wants_of question) i ≡ Some (want_of_number m))
  want-earlier e n m there before asked =
      let place = asking-earlier is_want properties e n m there before asked in
      (place.0, place.1, named place.0 m place.2)

  -- and each want is that of its property
  pub want-named : (i : ℕ) (w : Want) → slice_get (wants_of question) i ≡ Some w
      → (slice_get numbers i ≡ Some (slice_index numbers i)) × (w ≡ want_of_number (slice_index numbers i))
  want-named i w at = by (slice_get numbers i) refl
    where
      by : (o : Option ℕ) → slice_get numbers i ≡ o → (slice_get numbers i ≡ Some (slice_index numbers i)) × (w ≡ want_of_number (slice_index numbers i))
      by None is = absurd (none-some w (sym (slice_get-map want_of_number numbers i ∙ ap (option_map want_of_number) is) ∙ at))
      by (Some n) is =
          let same : slice_index numbers i ≡ n = get_or_from_slice_get numbers i n 0 is in
          (is ∙ ap Some (sym same), same_Some w (want_of_number n) (sym at ∙ named i n is) ∙ ap want_of_number (sym same))
