-- A listing: what each of its lines says, by its bytes, its place (the first line, the second, or among the statements),
-- the version, the sizes and the names that earlier lines gave; and the listing that the lines make, in which every name
-- is replaced by its number, or the first fault with the number of its line.
use Rattle.std.specs.Prelude.{◌≡◌, ℕ, ◌+◌, ◌==◌, ◌&&◌, Bool, true, if◌then◌else◌, List, [], ◌∷◌, ◌++◌, length, ok_or, bytes_eq, codes, Option, Some, None, Result, Ok, Err, ⊤}
use Rattle.coy_text.specs.Words.{words_of, field}
use Rattle.coy_text.specs.Line.{is_visible_line, is_skipped}
use Rattle.coy_io.specs.Lines.{Part, Line, LongLine, PastLimit}
use Rattle.object_store.specs.Ranges.{IsWithinLimits}
use Rattle.listing_read.specs.Faults.{◌>>=◌, ensured}
use Rattle.listing_read.specs.Machine.{version_of, machine_of}
use Rattle.listing_read.specs.Statement.{IsStatement, ListingValue}
use Rattle.listing_read.specs.Terms.{has_names, terms_of, with_name}
use Rattle.listing_read.specs.StatementLines.{statement_of, naming_line}
use Rattle.listing_read.specs.declared.fault.Fault.{Fault}
use Rattle.listing_read.specs.declared.fault.Fault.TheVariants.{LineTooLong, BadByte, BadHeader, BadMachine, NoEnd, WrongWords}
use Rattle.listing_read.specs.declared.fault.ListingFault.{ListingFault}
use Rattle.listing_read.specs.declared.fault.ListingFault.TheVariants as faults
use Rattle.listing_read.specs.declared.place.Place.{Place}
use Rattle.listing_read.specs.declared.place.Place.TheVariants.{Header, Machine, Statements}
use Rattle.listing_read.specs.declared.terms.Terms.{Terms}
use Rattle.listing_read.specs.declared.terms.Version.{Version}
use Rattle.listing_read.specs.declared.names.Naming.{Naming}
use Rattle.listing_read.specs.declared.place.Said.{Said}
use Rattle.listing_read.specs.declared.place.Said.TheVariants.{Nothing, Opens, Calls, Says, Ends}
use Rattle.listing_read.specs.declared.statement.Statement.{Statement}

-- the first line
unfoldable pub header_line : List (List ℕ) → Result Said Fault
header_line words = do
  version ← ok_or (version_of words) BadHeader
  Ok (Opens (Machine version))

-- the second line
unfoldable pub machine_line : Version → List (List ℕ) → Result Said Fault
machine_line version words = do
  sizes ← ok_or (machine_of words) BadMachine
  Ok (Opens (Statements (terms_of version sizes)))

-- `end`
unfoldable pub end_line : Terms → List (List ℕ) → Result Said Fault
end_line terms words = do
  _ ← ensured (length words == 1) WrongWords
  Ok (Ends terms.sizes)

-- a statement
unfoldable pub says_line : Terms → List (List ℕ) → Result Said Fault
says_line terms words = do
  statement ← statement_of terms words
  Ok (Says statement)

-- a name for an object
unfoldable pub calls_line : Terms → List (List ℕ) → Result Said Fault
calls_line terms words = do
  naming ← naming_line terms words
  Ok (Calls naming)

-- a name, in version 2, or a statement
unfoldable pub stating_line : Terms → List (List ℕ) → Result Said Fault
stating_line terms words =
    if has_names terms.version && bytes_eq (field words 0) (codes "name") then calls_line terms words
    else says_line terms words

-- every further line
unfoldable pub further_line : Terms → List (List ℕ) → Result Said Fault
further_line terms words =
    if bytes_eq (field words 0) (codes "end") then end_line terms words else stating_line terms words

-- a line that is not skipped
abbrev pub said_by : Place → List (List ℕ) → Result Said Fault
said_by Header words = header_line words
said_by (Machine version) words = machine_line version words
said_by (Statements terms) words = further_line terms words

-- a line by its words
abbrev pub judged_words : Place → List (List ℕ) → Result Said Fault
judged_words place words = if is_skipped words then Ok Nothing else said_by place words

-- a line of at most 512 bytes
unfoldable pub judged : Place → List ℕ → Result Said Fault
judged place line = do
  _ ← ensured (is_visible_line line) BadByte
  judged_words place (words_of line)

-- what the lines of a listing make: the listing, the number of its line `end` and what stands behind that; or the first
-- fault and the number of its line; or that the listing goes on behind the last byte that is read
pub data Listed : Type 0 where
  Good : (listing : ListingValue) → (last : ℕ) → (rest : List Part) → Listed
  Refused : (line : ℕ) → (fault : Fault) → Listed
  Past : Listed

-- the same with these statements in front
abbrev pub with_front : List Statement → Listed → Listed
with_front statements (Good listing last rest) =
    Good (record listing { statements = statements ++ listing.statements }) last rest
with_front statements (Refused line fault) = Refused line fault
with_front statements Past = Past

-- the fault where the input ends before this place was filled
abbrev pub fault_at_end : Place → Fault
fault_at_end Header = BadHeader
fault_at_end (Machine version) = BadMachine
fault_at_end (Statements terms) = NoEnd

-- the place behind a line that gives a name
abbrev pub place_with : Naming → Place → Place
place_with naming (Statements terms) = Statements (with_name naming terms)
place_with naming Header = Header
place_with naming (Machine version) = Machine version

-- the place of the next line
abbrev pub place_behind : Place → Result Said Fault → Place
place_behind place (Ok (Opens next)) = next
place_behind place (Ok Nothing) = place
place_behind place (Ok (Calls naming)) = place_with naming place
place_behind place (Ok (Says statement)) = place
place_behind place (Ok (Ends sizes)) = place
place_behind place (Err fault) = place

-- what line n makes, given the lines behind it and what they make
abbrev pub listed_by : ℕ → List Part → Result Said Fault → Listed → Listed
listed_by n rest (Ok Nothing) behind = behind
listed_by n rest (Ok (Opens next)) behind = behind
listed_by n rest (Ok (Calls naming)) behind = behind
listed_by n rest (Ok (Says statement)) behind = with_front (statement ∷ []) behind
listed_by n rest (Ok (Ends sizes)) behind = Good (record { sizes = sizes; statements = [] }) n rest
listed_by n rest (Err fault) behind = Refused n fault

-- what the lines from line n on make, the first of them in this place
unfoldable pub listing_of : Place → ℕ → List Part → Listed
listing_of place n [] = Refused n (fault_at_end place)
listing_of place n (LongLine ∷ parts) = Refused n LineTooLong
listing_of place n (PastLimit ∷ parts) = Past
listing_of place n (Line line ∷ parts) =
    listed_by n parts (judged place line) (listing_of (place_behind place (judged place line)) (n + 1) parts)

-- the known lines make this listing, the last of them is this one, and these are left
abbrev pub IsListed : Place → ℕ → Option (List Part) → ListingValue → ℕ → Option (List Part) → Type 0
IsListed place n None listing last new = ⊤
IsListed place n (Some parts) listing last None = ⊥
IsListed place n (Some parts) listing last (Some rest) = listing_of place n parts ≡ Good listing last rest

-- the known lines make no listing, and this is why; a failing source and want of memory are no fault of the lines
abbrev pub IsCause : ListingFault → Place → ℕ → Option (List Part) → Type 0
IsCause fault place n None = ⊤
IsCause (faults.Refused line fault) place n (Some parts) = listing_of place n parts ≡ Refused line fault
IsCause faults.TooLong place n (Some parts) = listing_of place n parts ≡ Past
IsCause faults.ReadFault place n (Some parts) = ⊤
IsCause faults.OutOfMemory place n (Some parts) = ⊤

-- the words of the last line of a listing
abbrev pub is_end : List (List ℕ) → Bool
is_end words = (length words == 1) && bytes_eq (field words 0) (codes "end")

-- what ends a listing has these words
abbrev pub EndsAt : Result Said Fault → List (List ℕ) → Type 0
EndsAt (Ok (Ends sizes)) words = is_end words ≡ true
EndsAt (Ok Nothing) words = ⊤
EndsAt (Ok (Opens next)) words = ⊤
EndsAt (Ok (Calls naming)) words = ⊤
EndsAt (Ok (Says statement)) words = ⊤
EndsAt (Err fault) words = ⊤

-- the sizes of a place, where it has some, are within their limits
abbrev pub IsPlace : Place → Type 0
IsPlace Header = ⊤
IsPlace (Machine version) = ⊤
IsPlace (Statements terms) = IsWithinLimits terms.sizes

-- what may be said in a place
abbrev pub IsSaid : Place → Said → Type 0
IsSaid place Nothing = ⊤
IsSaid Header (Opens (Machine version)) = ⊤
IsSaid (Machine version) (Opens (Statements terms)) = IsWithinLimits terms.sizes
IsSaid (Statements terms) (Calls naming) = ⊤
IsSaid (Statements terms) (Says statement) = IsStatement terms.sizes statement
IsSaid (Statements terms) (Ends sizes) = sizes ≡ terms.sizes
IsSaid _ _ = ⊥
