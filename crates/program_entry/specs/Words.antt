-- The words of a call, by what the system gave for its arguments.
use Rattle.std.specs.Prelude.{ℕ, List, [], ◌∷◌, map, drop, String, string_bytes, Option, Some, None, Result, Ok, Err}
use Rattle.std.specs.IoError.{error_kind}
use Rattle.std.specs.Vec.Iter.{into_iter_items}
use Rattle.std.specs.declared.io.Error.{Error}
use Rattle.std.specs.declared.io.ErrorKind.{ErrorKind}
use Rattle.std.specs.declared.io.ErrorKind.TheVariants.{OutOfMemory}
use Rattle.std.specs.declared.vec.IntoIter.{IntoIter}

-- where the system gave no arguments: no words, if memory was wanting for them; and if one is not UTF-8, one empty word, which is
-- of no form
abbrev pub unreadable_words : ErrorKind → Option (List (List ℕ))
unreadable_words OutOfMemory = None
unreadable_words _ = Some ([] ∷ [])

-- the words are those behind the program's name
abbrev pub given_words : {A : Type 0} → Result (IntoIter (String A) A) Error → Option (List (List ℕ))
given_words (Ok args) = Some (map string_bytes (drop 1 (into_iter_items args)))
given_words (Err error) = unreadable_words (error_kind error)
