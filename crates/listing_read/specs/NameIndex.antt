-- Where each name was given first: an index into the namings, so that no look goes through all of them.
use Rattle.std.specs.Prelude.{◌≡◌, ◌<◌, ℕ, true, false, cond, List, length, take, Vec, Option, Some, None, bytes_eq}
use Rattle.std.specs.Option.{option_or}
use Rattle.std.specs.Ordering.{nat_cmp}
use Rattle.std.specs.Cmp.Lexicographic.{slice_cmp}
use Rattle.std.specs.BTreeMap.{BTreeMap, get_by}
use Rattle.listing_read.specs.declared.names.Naming.{Naming}
use Rattle.listing_read.specs.Names.{is_taken}

-- the name is given, and by none of the namings before this place
pub record IsFirst (name : List ℕ) (namings : List Naming) (place : ℕ) : Type 0 where
  pub within : place < length namings
  pub given : is_taken name namings ≡ true
  pub not_before : is_taken name (take place namings) ≡ false

-- what is found of a name: from where on it is given, or that it isn't
abbrev pub IsFound : List ℕ → List Naming → Option ℕ → Type 0
IsFound name namings (Some place) = IsFirst name namings place
IsFound name namings None = is_taken name namings ≡ false

module _ {Z : Type 0} where
  -- the place that an index has for a name
  abbrev pub place_in : BTreeMap (Vec ℕ Z) ℕ → List ℕ → Option ℕ
  place_in places name = get_by (λ key. slice_cmp nat_cmp name key.items) places

  -- the places are those of the names that were given
  abbrev pub IsIndex : BTreeMap (Vec ℕ Z) ℕ → List Naming → Type 0
  IsIndex places namings = (name : List ℕ) → IsFound name namings (place_in places name)

  -- one name gets this place, unless it has one, and every other name stays where it is
  abbrev pub Notes : BTreeMap (Vec ℕ Z) ℕ → BTreeMap (Vec ℕ Z) ℕ → List ℕ → ℕ → Type 0
  Notes old new noted place =
      (name : List ℕ) → place_in new name ≡ option_or (place_in old name) (cond (bytes_eq noted name) (Some place) None)
