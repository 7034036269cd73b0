-- What a search spends: sums of what its steps do.
use Rattle.std.proofs.Common.{◌≡◌, ℕ, zero, suc, ◌+◌, ◌*◌, ◌-◌, ◌<◌, ◌≤◌, Bool, true, false, if◌then◌else◌, List, ◌∷◌, [], ◌++◌, length, map, slice_get, Option, None, Some, IfSome, Result, Ok, Err, sym, ap, ◌∙◌, subst, arith, true≢false}
use Rattle.std.specs.Prelude.{⊤}
use Rattle.std.proofs.Math.Nat.{mul-le-mul_right}
use Rattle.std.proofs.lemmas.List.{length-map, length_push}
use Rattle.std.proofs.lemmas.Option.{same_Some, slice_get-map, slice_get_within}
use Rattle.std.specs.List.{list_any}
use Rattle.std.specs.Result.{IsErr}
use Rattle.std.specs.Option.{option_map}
use Rattle.indexmap.specs.IndexSet.{insert_key}
use Rattle.breadth_first.specs.System.{System, IsEquality}
use Rattle.breadth_first.specs.Marks.{tests_of}
use Rattle.breadth_first.specs.Order.{opened}
use Rattle.breadth_first.specs.Spending.{SpendsAtMost, choices_cost, opening_cost, opened_cost, looks}
use Rattle.breadth_first.specs.Progress.{Tries, Adds, Expands, HasSpent, SpendsTo, StopsBehind, ChoicesSpend, AddSpends, TrySpends, ExpandSpends, LevelSpends, WalkSpends}
use Rattle.breadth_first.specs.declared.origins.Origin.{Origin}
use Rattle.breadth_first.specs.declared.answer.Want.{Want}
use Rattle.breadth_first.specs.declared.search.Added.{Added}
use Rattle.breadth_first.specs.declared.search.Added.TheVariants.{At, Violates, Full}
use Rattle.breadth_first.specs.declared.search.Stop.{Stop}
use Rattle.breadth_first.specs.declared.search.Stop.TheVariants.{Bad, NoRoom}
use Rattle.breadth_first.specs.declared.levels.End.{End}
use Rattle.breadth_first.proofs.Fronts.{front-length, front-get}
use Rattle.breadth_first.proofs.Order.{trying-suc, trying-front, trying-upto, opened-suc, opened-step, opened-start}

-- nothing is no more than anything
pub spends-nothing : (most n : ℕ) → SpendsAtMost most n n
spends-nothing most n = record { grows = omega arith; few = omega arith }

-- one look more, and no more than so many
pub spends-step : (look n : ℕ) {before mid after : ℕ} → SpendsAtMost (n * look) before mid → SpendsAtMost look mid after → SpendsAtMost ((n + 1) * look) before after
spends-step look n a b = record { grows = omega (arith, a.grows, b.grows); few = omega (arith, a.few, b.few) }

pub spends-within : (look n m : ℕ) {before after : ℕ} → n ≤ m → SpendsAtMost (n * look) before after → SpendsAtMost (m * look) before after
spends-within look n m l a = record { grows = a.grows; few = omega (arith, a.few, mul-le-mul_right look l) }

-- what a limit has room for that has room for more
pub room-through : (limit : Option ℕ) (n m k : ℕ) → n ≤ m → m ≡ k → IfSome limit (λ l. k ≤ l) → IfSome limit (λ l. n ≤ l)
room-through None n m k a e room = tt
room-through (Some l) n m k a e room = omega (arith, a, e, room)

-- what was spent until a state was kept, by how many are kept then
pub adds-same : (look old new n : ℕ) → new ≡ old → (n ≤ n) × (n + old * look ≤ n + new * look)
adds-same look old new n e = (omega arith, omega (arith, ap (λ k. k * look) e))

pub adds-one : (look old new : ℕ) {before after : ℕ} → new ≡ old + 1 → SpendsAtMost look before after → (before ≤ after) × (after + old * look ≤ before + new * look)
adds-one look old new e a = (a.grows, omega (arith, a.few, ap (λ k. k * look) e))

module _ {S : Type 0} (g : System S) where
  -- what some choices cost is no more than what all do
  choices-more : (s : S) (n k : ℕ) → choices_cost g s n ≤ choices_cost g s (n + k)
  choices-more s n zero =
      let e : n ≡ n + 0 = omega arith in
      let same = ap (choices_cost g s) e in
      omega (arith, same)
  choices-more s n (suc k) =
      let e : suc (n + k) ≡ n + suc k = omega arith in
      let same = ap (choices_cost g s) e in
      omega (arith, same, choices-more s n k)

  opening-upto : (o : Option S) (n m : ℕ) → n ≤ m → opening_cost g o n ≤ opening_cost g o m
  opening-upto None n m l = omega arith
  opening-upto (Some s) n m l =
      let e : n + (m - n) ≡ m = omega arith in
      let same = ap (choices_cost g s) e in
      omega (arith, same, choices-more s n (m - n))

  -- one choice more
  opening-next : (o : Option S) (s : S) (n : ℕ) → o ≡ Some s → opening_cost g o (n + 1) ≡ opening_cost g o n + g.cost s n
  opening-next o s n e =
      let one : n + 1 ≡ suc n = omega arith in
      ap (λ o. opening_cost g o (n + 1)) e ∙ ap (choices_cost g s) one ∙ sym (ap (λ o. opening_cost g o n + g.cost s n) e)

  opened_cost-suc : (n : ℕ) → opened_cost g (n + 1) ≡ opened_cost g n + opening_cost g (slice_get (opened g n) n) g.choices
  unfolding opened_cost
  opened_cost-suc n =
      let one : n + 1 ≡ suc n = omega arith in
      ap (opened_cost g) one

  -- what was spent on the first so many choices of the state with the index `at`
  pub record TriedSpend (at choice old new before after : ℕ) : Type 0 where
    pub grows : before ≤ after
    pub most : after + old * g.look ≤ before + opening_cost g (slice_get (opened g at) at) choice + new * g.look

  pub tried-none : (at old before : ℕ) → TriedSpend at 0 old old before before
  tried-none at old before = record { grows = omega arith; most = omega arith }

  -- the choice was made
  pub tried-choice : (at choice : ℕ) (parent : S) → slice_get (opened g at) at ≡ Some parent → {old new before mid after : ℕ} → TriedSpend at choice old new before mid → SpendsAtMost (g.cost parent choice) mid after
      → TriedSpend at (choice + 1) old new before after
  tried-choice at choice parent state tried cost = record {
    grows = omega (arith, tried.grows, cost.grows);
    most = omega (arith, tried.most, cost.few, opening-next (slice_get (opened g at) at) parent choice state);
  }

  -- and its state was kept, or wasn't
  pub tried-add : (at choice : ℕ) {old new more before mid after : ℕ} → TriedSpend at choice old new before mid → (mid ≤ after) × (after + new * g.look ≤ mid + more * g.look) → TriedSpend at choice old more before after
  tried-add at choice tried add = record { grows = omega (arith, tried.grows, add.0); most = omega (arith, tried.most, add.1) }

  -- so much for all choices, and so many looks more
  pub choices-spend : (limit : Option ℕ) (at n old new more : ℕ) {before mid after : ℕ} → n ≤ g.choices → IfSome limit (λ m. new ≤ m) → at < new → new ≤ length (opened g (suc at)) → TriedSpend at n old new before mid → SpendsAtMost (more * g.look) mid after
      → ChoicesSpend g limit at old more new before after
  choices-spend limit at n old new more l room few within tried looked = record {
    room = room;
    few = few;
    inside = within;
    grows = omega (arith, tried.grows, looked.grows);
    spends = omega (arith, tried.most, looked.few, opening-upto (slice_get (opened g at) at) n g.choices l);
  }

  -- another limit, and a look more
  pub spent-limit : {limit other : Option ℕ} {tests begun more parents kept spent : ℕ} → IfSome other (λ n. kept ≤ n) → HasSpent g limit tests begun more parents kept spent → HasSpent g other tests begun more parents kept spent
  spent-limit room has = record { room = room; few = has.few; inside = has.inside; spends = has.spends }

  pub spent-more : {limit : Option ℕ} {tests begun parents kept spent : ℕ} → HasSpent g limit tests begun 0 parents kept spent → HasSpent g limit tests begun 1 parents kept spent
  spent-more has = record {
    room = has.room;
    few = has.few;
    inside = has.inside;
    spends = record { grows = has.spends.grows; few = omega (arith, has.spends.few) };
  }

  -- what the counts cost more
  pub counted : (limit : Option ℕ) (wants : List Want) (counts : List ℕ) (tests parents kept : ℕ) {before mid after : ℕ} → tests ≡ length (tests_of wants) + length counts → HasSpent g limit tests before 1 parents kept mid
      → SpendsAtMost (kept * (length counts * g.look)) mid after → SpendsAtMost (opened_cost g parents + looks wants counts kept parents * g.look) before after
  counted limit wants counts tests parents kept many has judged =
      let sum : parents * tests ≡ parents * (length (tests_of wants) + length counts) = ap (λ n. parents * n) many in
      let product : parents * tests * g.look ≡ parents * (length (tests_of wants) + length counts) * g.look = ap (λ n. n * g.look) sum in
      record { grows = omega (arith, has.spends.grows, judged.grows); few = omega (arith, has.spends.few, judged.few, product) }

  -- what is said where a call failed
  pub add-failed : {X E : Type 0} (old new : ℕ) (r : Result X E) {before after : ℕ} → IsErr r → SpendsAtMost g.look before after → AddSpends g old new r before after
  add-failed old new (Ok x) e spends = absurd (true≢false (sym e))
  add-failed old new (Err x) e spends = spends

  pub try-failed : {X E : Type 0} (limit : Option ℕ) (at old new kept : ℕ) (r : Result X E) {before after : ℕ} → IsErr r → ChoicesSpend g limit at old 1 kept before after → TrySpends g limit at old new r before after
  try-failed limit at old new kept (Ok x) e spends = absurd (true≢false (sym e))
  try-failed limit at old new kept (Err x) e spends = (kept, spends)

  pub open-failed : {X E : Type 0} (limit : Option ℕ) (tests begun parents new kept : ℕ) (r : Result X E) {spent : ℕ} → IsErr r → HasSpent g limit tests begun 1 parents kept spent → ExpandSpends g limit tests begun parents new r spent
  open-failed limit tests begun parents new kept (Ok x) e has = absurd (true≢false (sym e))
  open-failed limit tests begun parents new kept (Err x) e has = (kept, has)

  pub level-failed : {E : Type 0} (limit : Option ℕ) (tests begun all new : ℕ) (r : Result (Option Stop) E) {spent : ℕ} → IsErr r → SpendsTo g limit tests begun spent (λ parents kept. ⊤) → LevelSpends g limit tests begun all new r spent
  level-failed limit tests begun all new (Ok x) e to = absurd (true≢false (sym e))
  level-failed limit tests begun all new (Err x) e to = to

  pub walk-failed : {E : Type 0} (limit : Option ℕ) (tests begun new : ℕ) (r : Result End E) {spent : ℕ} → IsErr r → SpendsTo g limit tests begun spent (λ parents kept. ⊤) → WalkSpends g limit tests begun new r spent
  walk-failed limit tests begun new (Ok x) e to = absurd (true≢false (sym e))
  walk-failed limit tests begun new (Err x) e to = to

  -- a state that was found is kept at most once
  insert-long : (old : List S) (s : S) → (length old ≤ length (insert_key g.same old s)) × (length (insert_key g.same old s) ≤ length old + 1)
  insert-long old s = by (list_any (g.same s) old)
    where
      by : (b : Bool) → (length old ≤ length (if b then old else old ++ s ∷ [])) × (length (if b then old else old ++ s ∷ []) ≤ length old + 1)
      by true = (omega arith, omega arith)
      by false = (omega (arith, length_push old s), omega (arith, length_push old s))

  insert-apart : (old : List S) (s : S) → list_any (g.same s) old ≡ false → insert_key g.same old s ≡ old ++ s ∷ []
  insert-apart old s e = ap (λ b. if b then old else old ++ s ∷ []) e

  pub adds-long : (limit : Option ℕ) (old : List S) (s : S) (new : List S) (origins : List Origin) (origin : Origin) (told : List Origin) (a : Added) → Adds g limit old s new origins origin told a
      → (length old ≤ length new) × (length new ≤ length (insert_key g.same old s)) × (length new ≤ length old + 1)
  adds-long limit old s new origins origin told (At i) is =
      let long = insert-long old s in
      (omega (arith, long.0, ap length is.states), omega (arith, ap length is.states), omega (arith, long.1, ap length is.states))
  adds-long limit old s new origins origin told (Violates property) is =
      let long = ap length is.0.1 in
      let insert = ap length (insert-apart old s is.0.0) in
      (omega (arith, long, length_push old s), omega (arith, long, insert), omega (arith, long, length_push old s))
  adds-long limit old s new origins origin told Full is =
      let long = insert-long old s in
      (omega (arith, ap length is.0), omega (arith, long.0, ap length is.0), omega (arith, ap length is.0))

module _ {S : Type 0} (g : System S) (law : IsEquality g.same) where
  -- before anything was opened
  pub begun-failed : (limit : Option ℕ) (tests : ℕ) {before after : ℕ} → SpendsAtMost (2 * g.look) before after → HasSpent g limit tests before 1 0 0 after
  begun-failed limit tests spends = record {
    room = any limit;
    few = omega arith;
    inside = omega arith;
    spends = record { grows = spends.grows; few = omega (arith, spends.few) };
  }
    where
      any : (limit : Option ℕ) → IfSome limit (λ n. 0 ≤ n)
      any None = tt
      any (Some n) = omega arith

  pub begun-spent : (limit : Option ℕ) (tests old new : ℕ) {before mid after : ℕ} → old ≡ 0 → new ≤ old + 1 → IfSome limit (λ n. new ≤ n) → SpendsAtMost g.look before mid → (mid ≤ after) × (after + old * g.look ≤ mid + new * g.look)
      → HasSpent g limit tests before 0 0 new after
  begun-spent limit tests old new none most room start add = record {
    room = room;
    few = omega arith;
    inside = omega (arith, most, none, ap length (opened-start g law));
    spends = record { grows = omega (arith, start.grows, add.0); few = omega (arith, start.few, add.1, ap (λ k. k * g.look) none) };
  }

  -- the states that a choice of the state with the index `at` may add
  pub tries-opened : {K : Type 0} {held : K → Type 0} {means : K → S} (limit : Option ℕ) (at choice : ℕ) (keys : List K) (origins : List Origin) → choice ≤ g.choices → Tries g held means limit at choice keys origins
      → (at < length keys) × (length keys ≤ length (opened g (suc at)))
  tries-opened {means = means} limit at choice keys origins l tries =
      let long = length-map keys means in
      let there = slice_get_within (opened g at) at tries.parent tries.state in
      let front = front-length (trying-front g law (opened g at) tries.parent choice) in
      let upto = front-length (trying-upto g law (opened g at) tries.parent choice g.choices l) in
      (omega (arith, there, front, ap length tries.kept, long), omega (arith, upto, ap length tries.kept, long, ap length (opened-suc g law at tries.parent tries.state)))

  pub adds-opened : {K : Type 0} {held : K → Type 0} {means : K → S} (is : K → S) (limit : Option ℕ) (at choice : ℕ) (keys news : List K) (origins told : List Origin) (origin : Origin) → choice < g.choices → (tries : Tries g held means limit at choice keys origins)
      → (a : Added) → Adds g limit (map means keys) (g.next tries.parent choice) (map is news) origins origin told a
      → (at < length news) × (length news ≤ length (opened g (suc at)))
  adds-opened {means = means} is limit at choice keys news origins told origin l tries a adds =
      let before = tries-opened limit at choice keys origins (omega (arith, l)) tries in
      let long = adds-long g limit (map means keys) (g.next tries.parent choice) (map is news) origins origin told a adds in
      let next = ap length (trying-suc g law (opened g at) tries.parent choice) in
      let kept = ap (λ l. length (insert_key g.same l (g.next tries.parent choice))) tries.kept in
      let upto = front-length (trying-upto g law (opened g at) tries.parent (suc choice) g.choices (omega (arith, l))) in (
        omega (arith, before.0, long.0, length-map keys means, length-map news is),
        omega (arith, long.1, length-map news is, kept, next, upto, ap length (opened-suc g law at tries.parent tries.state)),
      )

  -- the state from which a choice starts, as its key says it
  pub cost-taken : {K : Type 0} {held : K → Type 0} {means : K → S} {h : System S} (limit : Option ℕ) (at choice : ℕ) (keys : List K) (origins : List Origin) → h ≡ g → (tries : Tries g held means limit at choice keys origins)
      → (from : K) → slice_get keys at ≡ Some from → h.cost (means from) choice ≡ g.cost tries.parent choice
  cost-taken {means = means} limit at choice keys origins same tries from there =
      let turn : slice_get (map means keys) at ≡ Some tries.parent = subst (λ l. slice_get l at ≡ Some tries.parent) (sym tries.kept) (front-get (trying-front g law (opened g at) tries.parent choice) at tries.parent tries.state) in
      let parent : means from ≡ tries.parent = same_Some (means from) tries.parent (sym (slice_get-map means keys at ∙ ap (option_map means) there) ∙ turn) in
      ap (λ t. t.cost (means from) choice) same ∙ ap (λ s. g.cost s choice) parent

  -- the state was judged, and its choices were tried
  pub expand-spent : (limit : Option ℕ) (tests begun at kept more new : ℕ) {before mid after : ℕ} → HasSpent g limit tests begun 0 at kept before → SpendsAtMost (tests * g.look) before mid → ChoicesSpend g limit at kept more new mid after
      → HasSpent g limit tests begun more (at + 1) new after
  expand-spent limit tests begun at kept more new has judged tried =
      let one : suc at ≡ at + 1 = omega arith in
      let product : (at + 1) * tests * g.look ≡ at * tests * g.look + tests * g.look = omega arith in
      record {
        room = tried.room;
        few = omega (arith, tried.few);
        inside = subst (λ n. new ≤ length (opened g n)) one tried.inside;
        spends = record {
          grows = omega (arith, has.spends.grows, judged.grows, tried.grows);
          few = omega (arith, has.spends.few, judged.few, tried.spends, opened_cost-suc g at, product);
        };
      }

  -- or that failed
  pub expand-failed : (limit : Option ℕ) (tests begun at kept : ℕ) {before after : ℕ} → at < kept → HasSpent g limit tests begun 0 at kept before → SpendsAtMost (tests * g.look) before after → HasSpent g limit tests begun 1 (at + 1) kept after
  expand-failed limit tests begun at kept few has judged =
      let front = front-length (opened-step g law at) in
      expand-spent limit tests begun at kept 1 kept has judged (record {
        room = has.room;
        few = few;
        inside = omega (arith, has.inside, front);
        grows = omega arith;
        spends = omega arith;
      })

  pub expand-tried : {X E : Type 0} (limit : Option ℕ) (tests begun at kept new : ℕ) (r : Result X E) (after : ℕ) {before mid : ℕ} → HasSpent g limit tests begun 0 at kept before → SpendsAtMost (tests * g.look) before mid → TrySpends g limit at kept new r mid after
      → ExpandSpends g limit tests begun (at + 1) new r after
  expand-tried limit tests begun at kept new (Ok stop) after has judged tried = expand-spent limit tests begun at kept 0 new has judged tried
  expand-tried limit tests begun at kept new (Err error) after has judged tried = (tried.0, expand-spent limit tests begun at kept 1 tried.0 has judged tried.1)

  -- a state at which the search stops is the last of those whose choices were tried
  pub stops-behind : (limit : Option ℕ) (at : ℕ) (states : List S) (stop : Stop) → Expands g limit at states (Some stop) → StopsBehind (at + 1) stop
  stops-behind limit at states (Bad property) x = tt
  stops-behind limit at states (NoRoom i choice) x = ap (λ n. n + 1) (sym x.0)
