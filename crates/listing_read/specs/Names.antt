-- The names that a listing gives to objects. A name is given once, for one object, and is looked up with the kind of the
-- object that is wanted.
use Rattle.std.specs.Prelude.{ℕ, ◌==◌, ◌&&◌, Bool, List, bytes_eq, Option, option_map}
use Rattle.std.specs.List.{list_any, find}
use Rattle.cap_format.specs.declared.kind.CapKind.{CapKind}
use Rattle.cap_format.specs.Kind.{number_of}
use Rattle.listing_read.specs.declared.names.Naming.{Naming}

-- it gives this name
abbrev pub gives : List ℕ → Naming → Bool
gives name naming = bytes_eq naming.name name

-- it gives this name to an object of this kind
abbrev pub stands_for : CapKind → List ℕ → Naming → Bool
stands_for kind name naming = gives name naming && (number_of naming.kind == number_of kind)

-- the name was given
abbrev pub is_taken : List ℕ → List Naming → Bool
is_taken name names = list_any (gives name) names

-- the number of the object of this kind for which the name stands, if it was given for one
unfoldable pub number_called : CapKind → List ℕ → List Naming → Option ℕ
number_called kind name names = option_map (λ naming. naming.number) (find (stands_for kind name) names)
