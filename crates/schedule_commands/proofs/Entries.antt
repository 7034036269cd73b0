-- The lines of entries.
use Rattle.std.proofs.Common.{◌≡◌, List, [], ◌∷◌, ◌++◌, ap}
use Rattle.map_cache.specs.declared.mapping.Mapping.{Mapping}
use Rattle.schedule_commands.specs.Tables.{entry_text, entries_text}

pub entries_text-nil : (ms : List Mapping) → ms ≡ [] → entries_text ms ≡ []
unfolding entries_text
entries_text-nil ms none = ap entries_text none

pub entries_text-cons : (ms rest : List Mapping) (m : Mapping) → ms ≡ m ∷ rest → entries_text ms ≡ entry_text m ++ entries_text rest
unfolding entries_text
entries_text-cons ms rest m is = ap entries_text is
