-- The places of names among the names of all objects.
use Rattle.std.proofs.Common.{◌≡◌, ◌≢◌, ℕ, zero, suc, ◌+◌, ◌<◌, ◌≤◌, ◌-◌, ◌⊎◌, inl, inr, List, [], ◌∷◌, ◌++◌, length, get_or, set, refl, sym, ap, ◌∙◌, arith}
use Rattle.std.proofs.lemmas.Bool.{cases_eq, cases_lt}
use Rattle.std.proofs.lemmas.List.{length-append, get_or_append_left, get_or-append-add, length-set, get_or-set_same, get_or-set_other}
use Rattle.cap_format.specs.declared.kind.CapKind.{CapKind}
use Rattle.cap_format.specs.declared.kind.CapKind.TheVariants.{Page, CapPage, Gpt, Process, Endpoint}
use Rattle.object_store.specs.declared.sizes.Sizes.{Sizes}
use Rattle.object_store.specs.Sizes.{size_in}
use Rattle.object_store.specs.Object.{ObjectName, object_name}
use Rattle.state_parts.specs.Keys.{numbered, in_order, before_kind}
use Rattle.state_parts.specs.Looking.{no_name, IsPlace, IsPut}

-- ---- so many objects of a kind

-- so many names there are
numbered_many : (kind : CapKind) (count : ℕ) → length (numbered kind count) ≡ count
numbered_many kind zero = refl
numbered_many kind (suc n) =
    let all = length-append (numbered kind n) (object_name kind n ∷ []) in
    let front = numbered_many kind n in
    omega (arith, all, front)

-- each is where its number says
numbered_at : (kind : CapKind) (count n : ℕ) → n < count → get_or (numbered kind count) n no_name ≡ object_name kind n
numbered_at kind zero n there = absurd (omega (arith, there))
numbered_at kind (suc count) n there = by (cases_eq n count) (numbered_at kind count n)
  where
    many : length (numbered kind count) ≡ count
    many = numbered_many kind count

    last : get_or (numbered kind count ++ object_name kind count ∷ []) (length (numbered kind count) + 0) no_name ≡ object_name kind count
    last = get_or-append-add (numbered kind count) (object_name kind count ∷ []) 0 no_name

    by : (n ≡ count) ⊎ (n ≢ count) → (n < count → get_or (numbered kind count) n no_name ≡ object_name kind n) → get_or (numbered kind (suc count)) n no_name ≡ object_name kind n
    by (inl same) before =
        let place : n ≡ length (numbered kind count) + 0 = omega (arith, same, many) in
        ap (λ (k : ℕ). get_or (numbered kind (suc count)) k no_name) place ∙ last ∙ ap (object_name kind) (sym same)
    by (inr other) before =
        let below : n < count = omega (arith, there, other) in
        get_or_append_left (numbered kind count) (object_name kind count ∷ []) no_name n (omega (arith, below, many)) ∙ before below

-- ---- behind others

-- the names of a kind come behind those in front
module _ (front : List ObjectName) (m : ℕ) (many : length front ≡ m) (kind : CapKind) (count : ℕ) where
  -- so many there are then
  more_many : length (front ++ numbered kind count) ≡ m + count
  more_many = let all = length-append front (numbered kind count) in let here = numbered_many kind count in omega (arith, all, here, many)

  -- one of those in front
  at_front : (k : ℕ) → k < m → get_or (front ++ numbered kind count) k no_name ≡ get_or front k no_name
  at_front k below = get_or_append_left front (numbered kind count) no_name k (omega (arith, below, many))

  -- one of the kind
  at_kind : (n : ℕ) → n < count → get_or (front ++ numbered kind count) (m + n) no_name ≡ object_name kind n
  at_kind n there =
      let place : m + n ≡ length front + n = omega (arith, many) in
      ap (λ (k : ℕ). get_or (front ++ numbered kind count) k no_name) place ∙ get_or-append-add front (numbered kind count) n no_name ∙ numbered_at kind count n there

-- ---- all names

module _ (z : Sizes) where
  abbrev one : List ObjectName
  one = [] ++ numbered Page z.pages

  abbrev two : List ObjectName
  two = one ++ numbered CapPage z.cappages

  abbrev three : List ObjectName
  three = two ++ numbered Gpt z.gpts

  abbrev four : List ObjectName
  four = three ++ numbered Process z.processes

  -- where the names of a kind end, those of the next begin
  one_many : length one ≡ z.pages
  one_many = numbered_many Page z.pages

  two_many : length two ≡ z.pages + z.cappages
  two_many = more_many one z.pages one_many CapPage z.cappages

  three_many : length three ≡ z.pages + z.cappages + z.gpts
  three_many = more_many two (z.pages + z.cappages) two_many Gpt z.gpts

  four_many : length four ≡ z.pages + z.cappages + z.gpts + z.processes
  four_many = more_many three (z.pages + z.cappages + z.gpts) three_many Process z.processes

  -- so many names there are
  pub order_many : length (in_order z) ≡ z.pages + z.cappages + z.gpts + z.processes + z.endpoints
  order_many = more_many four (z.pages + z.cappages + z.gpts + z.processes) four_many Endpoint z.endpoints

  -- a place in front of the endpoints, of the processes, of the GPTs, of the capability pages
  in_four : (k : ℕ) → k < z.pages + z.cappages + z.gpts + z.processes → get_or (in_order z) k no_name ≡ get_or four k no_name
  in_four k below = at_front four (z.pages + z.cappages + z.gpts + z.processes) four_many Endpoint z.endpoints k below

  in_three : (k : ℕ) → k < z.pages + z.cappages + z.gpts → get_or (in_order z) k no_name ≡ get_or three k no_name
  in_three k below = in_four k (omega (arith, below)) ∙ at_front three (z.pages + z.cappages + z.gpts) three_many Process z.processes k below

  in_two : (k : ℕ) → k < z.pages + z.cappages → get_or (in_order z) k no_name ≡ get_or two k no_name
  in_two k below = in_three k (omega (arith, below)) ∙ at_front two (z.pages + z.cappages) two_many Gpt z.gpts k below

  in_one : (k : ℕ) → k < z.pages → get_or (in_order z) k no_name ≡ get_or one k no_name
  in_one k below = in_two k (omega (arith, below)) ∙ at_front one z.pages one_many CapPage z.cappages k below

  -- the name of each object is where it is reckoned to be
  pub order_at : (kind : CapKind) (n : ℕ) → n < size_in z kind → get_or (in_order z) (before_kind z kind + n) no_name ≡ object_name kind n
  order_at Page n there =
      let place : 0 + n ≡ n = omega arith in
      ap (λ (k : ℕ). get_or (in_order z) k no_name) place ∙ in_one n there ∙ numbered_at Page z.pages n there
  order_at CapPage n there = in_two (z.pages + n) (omega (arith, there)) ∙ at_kind one z.pages one_many CapPage z.cappages n there
  order_at Gpt n there = in_three (z.pages + z.cappages + n) (omega (arith, there)) ∙ at_kind two (z.pages + z.cappages) two_many Gpt z.gpts n there
  order_at Process n there = in_four (z.pages + z.cappages + z.gpts + n) (omega (arith, there)) ∙ at_kind three (z.pages + z.cappages + z.gpts) three_many Process z.processes n there
  order_at Endpoint n there = at_kind four (z.pages + z.cappages + z.gpts + z.processes) four_many Endpoint z.endpoints n there
  order_at kind n there = absurd (omega (arith, there))

  -- and within the list
  pub order_within : (kind : CapKind) (n : ℕ) → n < size_in z kind → before_kind z kind + n < length (in_order z)
  order_within Page n there = omega (arith, order_many, there)
  order_within CapPage n there = omega (arith, order_many, there)
  order_within Gpt n there = omega (arith, order_many, there)
  order_within Process n there = omega (arith, order_many, there)
  order_within Endpoint n there = omega (arith, order_many, there)
  order_within kind n there = absurd (omega (arith, there))

  -- where a name is reckoned to be
  abbrev place_in : ObjectName → ℕ
  place_in name = before_kind z name.kind + name.number

  -- a place that is a kind's, so far behind where it begins
  placed : (k : ℕ) (kind : CapKind) (n : ℕ) → n < size_in z kind → k ≡ before_kind z kind + n → place_in (get_or (in_order z) k no_name) ≡ k
  placed k kind n there at = ap (λ (j : ℕ). place_in (get_or (in_order z) j no_name)) at ∙ ap place_in (order_at kind n there) ∙ sym at

  -- each place is where the name that is there is reckoned to be
  order_place : (k : ℕ) → k < length (in_order z) → place_in (get_or (in_order z) k no_name) ≡ k
  order_place k within =
      let all : k < z.pages + z.cappages + z.gpts + z.processes + z.endpoints = omega (arith, order_many, within) in
      five all (cases_lt k (z.pages + z.cappages + z.gpts + z.processes))
    where
      two_ : k < z.pages + z.cappages → (k < z.pages) ⊎ (z.pages ≤ k) → place_in (get_or (in_order z) k no_name) ≡ k
      two_ below (inl before) = placed k Page k before (omega arith)
      two_ below (inr past) = placed k CapPage (k - z.pages) (omega (arith, below, past)) (omega (arith, past))

      three_ : k < z.pages + z.cappages + z.gpts → (k < z.pages + z.cappages) ⊎ (z.pages + z.cappages ≤ k) → place_in (get_or (in_order z) k no_name) ≡ k
      three_ below (inl before) = two_ before (cases_lt k z.pages)
      three_ below (inr past) = placed k Gpt (k - (z.pages + z.cappages)) (omega (arith, below, past)) (omega (arith, past))

      four_ : k < z.pages + z.cappages + z.gpts + z.processes → (k < z.pages + z.cappages + z.gpts) ⊎ (z.pages + z.cappages + z.gpts ≤ k) → place_in (get_or (in_order z) k no_name) ≡ k
      four_ below (inl before) = three_ before (cases_lt k (z.pages + z.cappages))
      four_ below (inr past) = placed k Process (k - (z.pages + z.cappages + z.gpts)) (omega (arith, below, past)) (omega (arith, past))

      five : k < z.pages + z.cappages + z.gpts + z.processes + z.endpoints → (k < z.pages + z.cappages + z.gpts + z.processes) ⊎ (z.pages + z.cappages + z.gpts + z.processes ≤ k) → place_in (get_or (in_order z) k no_name) ≡ k
      five below (inl before) = four_ before (cases_lt k (z.pages + z.cappages + z.gpts))
      five below (inr past) = placed k Endpoint (k - (z.pages + z.cappages + z.gpts + z.processes)) (omega (arith, below, past)) (omega (arith, past))

  -- an object's name is at its place, and nowhere else
  pub place_there : (name : ObjectName) → name.number < size_in z name.kind → IsPlace (in_order z) name (before_kind z name.kind + name.number)
  place_there name there = record {
    within = order_within name.kind name.number there;
    here = order_at name.kind name.number there;
    alone = λ k within same. sym (order_place k within) ∙ ap place_in same;
  }

-- ---- a number that is written at a place

pub put_at : (names : List ObjectName) (name : ObjectName) (place number : ℕ) (old : List ℕ) → length old ≡ length names → IsPlace names name place → IsPut names name number old (set old place number)
put_at names name place number old many at = record {
  many = length-set old place number;
  here = λ k within same. ap (λ (j : ℕ). get_or (set old place number) j 0) (at.alone k within same) ∙ get_or-set_same old place number 0 (let below = at.within in omega (arith, below, many));
  others = λ k not. others k not (cases_eq k place);
}
  where
    others : (k : ℕ) → (k < length names → get_or names k no_name ≡ name → ⊥) → (k ≡ place) ⊎ (k ≢ place) → get_or (set old place number) k 0 ≡ get_or old k 0
    others k not (inl same) =
        let below = at.within in
        absurd (not (omega (arith, below, same)) (ap (λ (j : ℕ). get_or names j no_name) same ∙ at.here))
    others k not (inr other) = get_or-set_other old place k number 0 other
