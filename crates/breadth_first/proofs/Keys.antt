-- Keys, and the states that they stand for.
use Rattle.std.proofs.Common.{◌≡◌, ℕ, suc, Bool, true, false, if◌then◌else◌, ◌||◌, List, [], ◌∷◌, ◌++◌, map, slice_get, slice_index_or, position, Some, None, All, refl, sym, ap, ◌∙◌, subst, arith}
use Rattle.std.proofs.lemmas.List.{map_push}
use Rattle.std.proofs.lemmas.List.Elements.{All-push}
use Rattle.std.proofs.lemmas.List.Quantifiers.{position-Some}
use Rattle.std.proofs.lemmas.Option.{slice_get-map, slice_get-get_or, slice_get_within, get_or_from_slice_get, same_Some}
use Rattle.std.specs.List.{list_any}
use Rattle.std.specs.Option.{option_map}
use Rattle.indexmap.specs.IndexSet.{insert_key}
use Rattle.breadth_first.specs.System.{System, IsEquality}
use Rattle.breadth_first.specs.Kept.{Keeps}
use Rattle.breadth_first.specs.Progress.{IsAdded, IsKept, AreSafe}
use Rattle.breadth_first.specs.declared.origins.Origin.{Origin}

module _ {K S : Type 0} where
  -- what is kept from one moment to the next and from there to a third is kept from the first to the third
  pub keeps-refl : (g : System S) (held : K → Type 0) (means : K → S) → Keeps g held means g held means
  keeps-refl g held means = record { system = refl; still = λ k h. h; stays = λ k h. refl }

  pub keeps-trans : {g h k : System S} {held holds has : K → Type 0} {means stands is : K → S} → Keeps g held means h holds stands → Keeps h holds stands k has is → Keeps g held means k has is
  keeps-trans a b = record {
    system = b.system ∙ a.system;
    still = λ key h. b.still key (a.still key h);
    stays = λ key h. b.stays key (a.still key h) ∙ a.stays key h;
  }

  module _ {g h : System S} {held holds : K → Type 0} {means stands : K → S} (keeps : Keeps g held means h holds stands) where
    pub keeps-all : (keys : List K) → All held keys → All holds keys
    keeps-all keys all k d l = keeps.still (slice_index_or keys k d) (all k d l)

    pub keeps-map : (keys : List K) → All held keys → map stands keys ≡ map means keys
    keeps-map [] all = refl
    keeps-map (key ∷ keys) all =
        let first = keeps.stays key (all 0 key (omega arith)) in
        let rest = keeps-map keys (λ k d l. all (suc k) d (omega arith)) in
        cc

module _ {K S : Type 0} (g : System S) (law : IsEquality g.same) (held : K → Type 0) (means : K → S) (eq : K → K → Bool)
    (alike : (a b : K) → held a → held b → eq a b ≡ g.same (means a) (means b)) where
  -- a key is among keys where its state is among theirs
  pub any-map : (key : K) → held key → (keys : List K) → All held keys → list_any (eq key) keys ≡ list_any (g.same (means key)) (map means keys)
  any-map key h [] all = refl
  any-map key h (x ∷ keys) all =
      let first = alike key x h (all 0 x (omega arith)) in
      let rest = any-map key h keys (λ k d l. all (suc k) d (omega arith)) in
      ap (λ b. b || list_any (eq key) keys) first ∙ ap (λ b. g.same (means key) (means x) || b) rest

  -- a key that is equal to one at a place has its state there
  pub seen-at : (key : K) → held key → (keys : List K) → All held keys → (i : ℕ) (x : K) → slice_get keys i ≡ Some x → eq key x ≡ true → slice_get (map means keys) i ≡ Some (means key)
  seen-at key h keys all i x at e =
      let inside = slice_get_within keys i x at in
      let is : slice_index_or keys i x ≡ x = cc (slice_get-get_or keys i x inside) in
      let there : held x = subst held is (all i x inside) in
      let same : means key ≡ means x = (law (means key) (means x)).0 (sym (alike key x h there) ∙ e) in
      slice_get-map means keys i ∙ ap (option_map means) at ∙ ap Some (sym same)

  pub held-insert : (key : K) → held key → (keys : List K) → All held keys → All held (insert_key eq keys key)
  held-insert key h keys all = by (list_any (eq key) keys)
    where
      by : (b : Bool) → All held (if b then keys else keys ++ key ∷ [])
      by true = all
      by false = All-push held keys key all h

  -- a key that is new goes last, with its state
  pub added : (key : K) → held key → (keys : List K) → All held keys → list_any (eq key) keys ≡ false → IsAdded g (map means keys) (means key) (map means (insert_key eq keys key))
  added key h keys all none =
      (sym (any-map key h keys all) ∙ none, ap (λ b. map means (if b then keys else keys ++ key ∷ [])) none ∙ map_push means keys key)

  -- one that isn't changes nothing
  pub stayed : (key : K) (keys : List K) → list_any (eq key) keys ≡ true → map means (insert_key eq keys key) ≡ map means keys
  stayed key keys some = ap (λ b. map means (if b then keys else keys ++ key ∷ [])) some

  -- the same where the set says where the key is
  pub seen-position : (key : K) → held key → (keys : List K) → All held keys → (i : ℕ) → position (eq key) keys ≡ Some i → slice_get (map means keys) i ≡ Some (means key)
  seen-position key h keys all i at =
      let found = position-Some (eq key) keys i key at in
      seen-at key h keys all i (slice_index_or keys i key) (slice_get-get_or keys i key found.0) found.1

  -- a key that was there, and where the set says it is
  pub seen-stored : (key : K) → held key → (keys news : List K) → All held keys → news ≡ insert_key eq keys key → list_any (eq key) keys ≡ true → (i : ℕ) → (x : K) × (slice_get news i ≡ Some x) × (eq key x ≡ true)
      → (map means news ≡ map means keys) × (slice_get (map means keys) i ≡ Some (means key))
  seen-stored key h keys news all are some i (x, at, e) =
      let still : news ≡ keys = are ∙ ap (λ b. if b then keys else keys ++ key ∷ []) some in
      (ap (map means) still, seen-at key h keys all i x (subst (λ l. slice_get l i ≡ Some x) still at) e)

  -- the key that the set has at the place means the same
  pub stored-means : (key : K) → held key → (news : List K) → All held news → (i : ℕ) (y : K) → slice_get news i ≡ Some y → (x : K) × (slice_get news i ≡ Some x) × (eq key x ≡ true) → means y ≡ means key
  stored-means key h news all i y at (x, there, e) =
      same_Some (means y) (means key) (sym (slice_get-map means news i ∙ ap (option_map means) at) ∙ seen-at key h news all i x there e)

  pub held-news : (key : K) → held key → (keys news : List K) → All held keys → news ≡ insert_key eq keys key → All held news
  held-news key h keys news all are = subst (All held) (sym are) (held-insert key h keys all)

  -- a key that was added, once the space was asked more
  pub added-then : (key : K) → held key → (keys news : List K) → All held keys → news ≡ insert_key eq keys key → list_any (eq key) keys ≡ false
      → {h : System S} {holds : K → Type 0} {stands : K → S} → Keeps g held means h holds stands → IsAdded g (map means keys) (means key) (map stands news)
  added-then key h keys news all are none keeps =
      let add = added key h keys all none in
      (add.0, keeps-map keeps news (held-news key h keys news all are) ∙ ap (map means) are ∙ add.1)

  -- a key that was there is kept at its place
  pub kept-there : (key : K) → held key → (keys : List K) → All held keys → list_any (eq key) keys ≡ true → (news : List S) → news ≡ map means keys → (origins : List Origin) (origin : Origin) (i : ℕ) → slice_get (map means keys) i ≡ Some (means key)
      → IsKept g (map means keys) (means key) news origins origin origins i
  kept-there key h keys all some news still origins origin i at =
      let there : list_any (g.same (means key)) (map means keys) ≡ true = sym (any-map key h keys all) ∙ some in
      record {
        states = still ∙ sym (ap (λ b. if b then map means keys else map means keys ++ means key ∷ []) there);
        at = subst (λ l. slice_get l i ≡ Some (means key)) (sym still) at;
        safe = λ safe. subst (AreSafe g) (sym still) safe;
        came = sym (ap (λ b. if b then origins else origins ++ origin ∷ []) there);
      }

  -- and so is one that was added, once the space was asked more
  pub kept-new : (key : K) → held key → (keys news : List K) → All held keys → news ≡ insert_key eq keys key → list_any (eq key) keys ≡ false → (origins : List Origin) (origin : Origin)
      → (i : ℕ) → (x : K) × (slice_get news i ≡ Some x) × (eq key x ≡ true) → g.violated (means key) ≡ None
      → {h : System S} {holds : K → Type 0} {stands : K → S} → Keeps g held means h holds stands → IsKept g (map means keys) (means key) (map stands news) origins origin (origins ++ origin ∷ []) i
  kept-new key h keys news all are none origins origin i (x, at, e) fine {h = later} {holds} {stands} keeps =
      let add = added-then key h keys news all are none keeps in
      let held-all = held-news key h keys news all are in
      record {
        states = add.1 ∙ sym (ap (λ b. if b then map means keys else map means keys ++ means key ∷ []) add.0);
        at = subst (λ l. slice_get l i ≡ Some (means key)) (sym (keeps-map keeps news held-all)) (seen-at key h news held-all i x at e);
        safe = λ safe. subst (AreSafe g) (sym add.1) (All-push (λ s. g.violated s ≡ None) (map means keys) (means key) safe fine);
        came = sym (ap (λ b. if b then origins else origins ++ origin ∷ []) add.0);
      }

-- a key at a place of keys that are held is held
pub held-at : {K : Type 0} (held : K → Type 0) (keys : List K) → All held keys → (i : ℕ) (x : K) → slice_get keys i ≡ Some x → held x
held-at held keys all i x at = subst held (get_or_from_slice_get keys i x x at) (all i x (slice_get_within keys i x at))
