-- What the lines of a listing are judged by: its version, the sizes of its machine, and the names that earlier lines gave.
use Rattle.std.specs.Prelude.{Bool, true, false, [], ◌∷◌, ◌++◌}
use Rattle.object_store.specs.declared.sizes.Sizes.{Sizes}
use Rattle.listing_read.specs.declared.names.Naming.{Naming}
use Rattle.listing_read.specs.declared.terms.Version.{Version}
use Rattle.listing_read.specs.declared.terms.Version.TheVariants.{One, Two}
use Rattle.listing_read.specs.declared.terms.Terms.{Terms}

-- a listing of this version may give names to objects
abbrev pub has_names : Version → Bool
has_names One = false
has_names Two = true

-- what the first statement on a machine of these sizes is judged by
abbrev pub terms_of : Version → Sizes → Terms
terms_of version sizes = record { version = version; sizes = sizes; names = [] }

-- the same with one name more
abbrev pub with_name : Naming → Terms → Terms
with_name naming terms = record terms { names = terms.names ++ naming ∷ [] }
