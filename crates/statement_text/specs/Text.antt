-- A listing and a schedule as text: one line for each statement and event, its words with one space between two.
use Rattle.std.specs.Prelude.{ℕ, List, [], ◌∷◌, ◌++◌, codes, decimal, flat_map}
use Rattle.coy_io.specs.Lines.{line_feed}
use Rattle.coy_text.specs.Spaced.{line_of}
use Rattle.object_lines.specs.Words.{line_text}
use Rattle.object_store.specs.declared.sizes.Sizes.{Sizes}
use Rattle.listing_read.specs.declared.statement.Statement.{Statement}
use Rattle.listing_read.specs.declared.schedule.Timed.{Timed}
use Rattle.listing_read.specs.declared.terms.Version.{Version}
use Rattle.listing_read.specs.declared.terms.Version.TheVariants.{One, Two}
use Rattle.listing_read.specs.Statement.{ListingValue}
use Rattle.statement_text.specs.Words.{statement_words, event_words}

-- the line of a statement
abbrev pub statement_text : Statement → List ℕ
statement_text statement = line_text (statement_words statement)

-- the line of what a schedule asks for
abbrev pub event_line : Timed → List ℕ
event_line event = line_of (event_words event)

-- the same with its line feed
abbrev pub event_text : Timed → List ℕ
event_text event = event_line event ++ line_feed

-- the words of the first line
abbrev pub format_words : Version → List (List ℕ)
format_words One = codes "coyotos" ∷ codes "1" ∷ []
format_words Two = codes "coyotos" ∷ codes "2" ∷ []

-- and of the second
abbrev pub machine_words : Sizes → List (List ℕ)
machine_words sizes =
    codes "machine" ∷ decimal sizes.harts ∷ decimal sizes.pages ∷ decimal sizes.cappages ∷ decimal sizes.gpts ∷
    decimal sizes.processes ∷ decimal sizes.endpoints ∷ []

-- the first line
abbrev pub format_text : Version → List ℕ
format_text version = line_text (format_words version)

-- the second line
abbrev pub machine_text : Sizes → List ℕ
machine_text sizes = line_text (machine_words sizes)

-- the last line
abbrev pub end_text : List ℕ
end_text = codes "end" ++ line_feed

-- the lines of statements
abbrev pub statements_text : List Statement → List ℕ
statements_text statements = flat_map statement_text statements

-- the lines of a schedule
abbrev pub events_text : List Timed → List ℕ
events_text events = flat_map event_text events

-- the migrated text of a listing: a listing of version 2 without names that says the same
unfoldable pub listing_text : ListingValue → List ℕ
listing_text listing = format_text Two ++ (machine_text listing.sizes ++ (statements_text listing.statements ++ end_text))
