-- Ranges of objects of a kind: where another domain has one of them, and what is at each place once they are assigned.
use Rattle.std.proofs.Common.{◌≡◌, ℕ, ◌+◌, ◌-◌, ◌<◌, ◌≤◌, ◌^◌, ◌==◌, ◌||◌, inl, inr, max, Bool, true, false, List, ◌++◌, length, get_or, set, take, drop, Option, Some, None, refl, sym, ◌∙◌, ap, subst, arith, eqb-true}
use Rattle.std.specs.List.{list_any}
use Rattle.std.proofs.lemmas.Bool.{cases_lt, cases_eq, false_from_ne_true, false≢true, not-false}
use Rattle.std.proofs.lemmas.List.{places, get_or_past, get_or-take, get_or-drop, ext_get_or, length-take, length-drop, length-set, drop-drop, get_or-set_same, get_or-set_other}
use Rattle.std.proofs.lemmas.List.Folds.{list_any_at, list_any_none, list_any-append}
use Rattle.std.proofs.lemmas.List.Elements.{All-from_get_or}
use Rattle.std.proofs.Math.Seq.{take-add, take-append_seam}
use Rattle.separation_policy.specs.Making.{assigned_between, is_other}
use Rattle.separation_policy.specs.ObjectDomains.{IsRun, KnowsRuns}

-- ---- another domain's objects

-- an element of a range, by its place in the whole list
range-at : (xs : List (Option ℕ)) (from count n : ℕ) → from ≤ n → n < from + count → get_or (take count (drop from xs)) (n - from) None ≡ get_or xs n None
range-at xs from count n above below =
    get_or-take count (drop from xs) (n - from) None (omega arith)
    ∙ (get_or-drop from xs (n - from) None ∙ ap (λ (k : ℕ). get_or xs k None) (omega arith))

-- another domain has one of a range if it has the first
pub other-first : (xs : List (Option ℕ)) (d from count : ℕ) → from < length xs → 0 < count → is_other d (get_or xs from None) ≡ true → list_any (is_other d) (take count (drop from xs)) ≡ true
other-first xs d from count there some is =
    list_any_at (is_other d) (take count (drop from xs)) (from - from) None
    (omega (arith, length-take count (drop from xs), length-drop from xs))
    (ap (is_other d) (range-at xs from count from (omega arith) (omega arith)) ∙ is)

-- where no other domain has one of a range, none has the one at any place of it
none-at : (xs : List (Option ℕ)) (d from count n : ℕ) → list_any (is_other d) (take count (drop from xs)) ≡ false → from ≤ n → n < from + count → is_other d (get_or xs n None) ≡ false
none-at xs d from count n none above below = elim (cases_lt n (length xs)) [
  | inl lt ↦ false_from_ne_true _ (λ is. false≢true (sym none ∙ list_any_at (is_other d) (take count (drop from xs)) (n - from) None
      (omega (arith, length-take count (drop from xs), length-drop from xs))
      (ap (is_other d) (range-at xs from count n above below) ∙ is)))
  | inr past ↦ ap (is_other d) (get_or_past xs n None past)
]

-- a domain that is no other
no-other : (d e : ℕ) (x : Option ℕ) → x ≡ Some e → is_other d x ≡ false → x ≡ Some d
no-other d e x is none = is ∙ ap (λ (n : ℕ). Some n) (eqb-true e d (not-false (e == d) (sym (ap (is_other d) is) ∙ none)))

-- ---- places of a list where a range was assigned

module _ (xs : List (Option ℕ)) (from to d : ℕ) (order : from ≤ to) (there : to < length xs) where
  -- there are as many elements as before
  pub length-assigned : length (assigned_between xs from to d) ≡ length xs
  length-assigned = grind (arith, places)

  -- the domain, at each place of the range
  pub assigned-within : (n : ℕ) → from ≤ n → n ≤ to → get_or (assigned_between xs from to d) n None ≡ Some d
  assigned-within n above below = grind (arith, places)

  -- what was there before, at each place below it
  pub assigned-below : (n : ℕ) → n < from → get_or (assigned_between xs from to d) n None ≡ get_or xs n None
  assigned-below n below = grind (arith, places)

  -- and at each above it
  pub assigned-above : (n : ℕ) → to < n → get_or (assigned_between xs from to d) n None ≡ get_or xs n None
  assigned-above n above = grind (arith, places)

  -- a list that is otherwise as before, and has the domain at each place of the range
  pub same-assigned : (ys : List (Option ℕ)) → length ys ≡ length xs → ((n : ℕ) → n < from → get_or ys n None ≡ get_or xs n None) → ((n : ℕ) → to < n → get_or ys n None ≡ get_or xs n None) → ((n : ℕ) → from ≤ n → n ≤ to → get_or ys n None ≡ Some d) → ys ≡ assigned_between xs from to d
  same-assigned ys size below above within = ext_get_or None ys (assigned_between xs from to d) (size ∙ sym length-assigned) (λ n _. at n)
    where
      at : (n : ℕ) → get_or ys n None ≡ get_or (assigned_between xs from to d) n None
      at n = elim (cases_lt n from) [
        | inl before ↦ below n before ∙ sym (assigned-below n before)
        | inr on ↦ elim (cases_lt to n) [
          | inl past ↦ above n past ∙ sym (assigned-above n past)
          | inr in_range ↦ within n on in_range ∙ sym (assigned-within n on in_range)
        ]
      ]

-- a list that is written back whole
pub written-back : (len : ℕ) (new xs : List (Option ℕ)) → len ≡ length xs → length new ≡ length xs → take len (new ++ drop (length new) xs) ≡ new
written-back len new xs size same =
    ap (λ (n : ℕ). take n (new ++ drop (length new) xs)) (size ∙ sym same) ∙ take-append_seam new (drop (length new) xs)

-- ---- runs

module _ (xs : List (Option ℕ)) (from to d : ℕ) (order : from ≤ to) (there : to < length xs) (free : list_any (is_other d) (take (to + 1 - from) (drop from xs)) ≡ false) where
  -- the run that begins a range of which no other domain has any object is of this domain
  run-held : (end : ℕ) → IsRun xs from end → (n : ℕ) → from ≤ n → n < end → get_or xs n None ≡ Some d
  run-held end run n above below =
      run.each n above below ∙ (sym (run.each from (omega arith) (omega arith)) ∙ no-other d run.domain (get_or xs from None)
      (run.each from (omega arith) (omega arith))
      (none-at xs d from (to + 1 - from) from free (omega arith) (omega arith)))

  -- so what is written behind it alone is written as a whole
  pub written-behind : (end behind : ℕ) → IsRun xs from end → behind ≡ max end from → behind ≤ to → (old new : List (Option ℕ)) → old ≡ xs → new ≡ assigned_between old behind to d → (len : ℕ) → len ≡ length xs → take len (new ++ drop (length new) xs) ≡ assigned_between xs from to d
  written-behind end behind run is within old new same put len size =
      let now : new ≡ assigned_between xs behind to d = put ∙ ap (λ (ys : List (Option ℕ)). assigned_between ys behind to d) same in
      written-back len new xs size (ap length now ∙ length-assigned xs behind to d within there)
      ∙ (now ∙ same-assigned xs from to d order there (assigned_between xs behind to d) (length-assigned xs behind to d within there)
      (λ n below. assigned-below xs behind to d within there n (omega arith))
      (λ n above. assigned-above xs behind to d within there n above)
      (λ n above below. elim (cases_lt n behind) [
        | inl in_run ↦ assigned-below xs behind to d within there n in_run ∙ run-held end run n above (omega arith)
        | inr past ↦ assigned-within xs behind to d within there n past below
      ]))

  -- and nothing needs to be where it has the whole range
  pub held-whole : (end behind : ℕ) → IsRun xs from end → behind ≡ max end from → to < behind → xs ≡ assigned_between xs from to d
  held-whole end behind run is past =
      same-assigned xs from to d order there xs refl (λ n _. refl) (λ n _. refl) (λ n above below. run-held end run n above (omega arith))

  -- a run stays one where no object of another domain is assigned
  pub run-kept : (start end : ℕ) → IsRun xs start end → IsRun (assigned_between xs from to d) start end
  run-kept start end run = record { domain = run.domain; each = each }
    where
      each : (n : ℕ) → start ≤ n → n < end → get_or (assigned_between xs from to d) n None ≡ Some run.domain
      each n above below = elim (cases_lt n from) [
        | inl before ↦ assigned-below xs from to d order there n before ∙ run.each n above below
        | inr on ↦ elim (cases_lt to n) [
          | inl past ↦ assigned-above xs from to d order there n past ∙ run.each n above below
          | inr in_range ↦ assigned-within xs from to d order there n on in_range
              ∙ (sym (no-other d run.domain (get_or xs n None) (run.each n above below) (none-at xs d from (to + 1 - from) n free on (omega arith)))
              ∙ run.each n above below)
        ]
      ]

  -- the range is one
  pub run-assigned : IsRun (assigned_between xs from to d) from (to + 1)
  run-assigned = record { domain = d; each = λ n above below. assigned-within xs from to d order there n above (omega arith) }

  -- what is known stays known, and the range is too
  pub known-assigned : (ends : List ℕ) → KnowsRuns xs ends → KnowsRuns (assigned_between xs from to d) (set ends from (to + 1))
  known-assigned ends known = record {
    few = subst (λ (n : ℕ). n < 2 ^ 16) (sym (length-assigned xs from to d order there)) known.few;
    size = length-set ends from (to + 1) ∙ (known.size ∙ sym (length-assigned xs from to d order there));
    each = each;
  }
    where
      each : (start : ℕ) → IsRun (assigned_between xs from to d) start (get_or (set ends from (to + 1)) start 0)
      each start = elim (cases_eq start from) [
        | inl same ↦ let size = known.size in
            subst (λ (n : ℕ). IsRun (assigned_between xs from to d) n (get_or (set ends from (to + 1)) n 0)) (sym same)
            (subst (λ (n : ℕ). IsRun (assigned_between xs from to d) from n) (sym (get_or-set_same ends from (to + 1) 0 (omega arith))) run-assigned)
        | inr other ↦ subst (λ (n : ℕ). IsRun (assigned_between xs from to d) start n) (sym (get_or-set_other ends from start (to + 1) 0 other))
            (run-kept start (get_or ends start 0) (known.each start))
      ]

module _ (xs : List (Option ℕ)) (from end behind : ℕ) (run : IsRun xs from end) (is : behind ≡ max end (from + 1)) where
  -- an object and the run that begins with it, if one is known, are of one domain
  same-domain : (n : ℕ) → from ≤ n → n < behind → get_or xs n None ≡ get_or xs from None
  same-domain n above below = elim (cases_lt from n) [
    | inl after ↦ run.each n above (omega arith) ∙ sym (run.each from (omega arith) (omega arith))
    | inr itself ↦ let same : n ≡ from = omega arith in ap (λ (k : ℕ). get_or xs k None) same
  ]

  -- so no other domain has one of them if none has the first
  pub none-before : (d count : ℕ) → is_other d (get_or xs from None) ≡ false → from + count ≤ behind → list_any (is_other d) (take count (drop from xs)) ≡ false
  none-before d count none within =
      list_any_none (is_other d) (take count (drop from xs)) (All-from_get_or (λ (x : Option ℕ). is_other d x ≡ false) (take count (drop from xs)) None at)
    where
      at : (i : ℕ) → i < length (take count (drop from xs)) → is_other d (get_or (take count (drop from xs)) i None) ≡ false
      at i lt =
          let below : i < count = omega (arith, length-take count (drop from xs)) in
          ap (is_other d) (get_or-take count (drop from xs) i None below ∙ (get_or-drop from xs i None ∙ same-domain (from + i) (omega arith) (omega arith))) ∙ none

  -- another domain has one of a range if it has one behind that run
  pub others-behind : (d to : ℕ) → is_other d (get_or xs from None) ≡ false → behind ≤ to → list_any (is_other d) (take (to + 1 - from) (drop from xs)) ≡ list_any (is_other d) (take (to + 1 - behind) (drop behind xs))
  others-behind d to none within =
      let count = behind - from in
      let left = to + 1 - behind in
      let parts : to + 1 - from ≡ count + left = omega arith in
      let there : from + count ≡ behind = omega arith in
      ap (λ (n : ℕ). list_any (is_other d) (take n (drop from xs))) parts
      ∙ (ap (list_any (is_other d)) (take-add count left (drop from xs))
      ∙ (list_any-append (is_other d) (take count (drop from xs)) (take left (drop count (drop from xs)))
      ∙ (ap (λ (b : Bool). b || list_any (is_other d) (take left (drop count (drop from xs)))) (none-before d count none (omega arith))
      ∙ ap (λ (ys : List (Option ℕ)). list_any (is_other d) (take left ys)) (drop-drop count from xs ∙ ap (λ (n : ℕ). drop n xs) there))))
