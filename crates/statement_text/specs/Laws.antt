-- The laws: what is written of a statement, of a listing and of a schedule is read as that statement, listing and
-- schedule. Their premises are the ranges of the values' types, and that a machine of these sizes has what is named. No
-- word shows a count, so capabilities are without theirs.
use Rattle.std.specs.Prelude.{ℕ, ◌≡◌, ◌+◌, ◌-◌, ◌≤◌, List, [], ◌∷◌, ◌++◌, length, map, Some, Ok}
use Rattle.std.specs.List.{All}
use Rattle.coy_io.specs.Limits.{input_limit}
use Rattle.coy_io.specs.Lines.{Part, Line, parts, parts_of}
use Rattle.cap_format.specs.Capability.{Capability, IsCapability, bare}
use Rattle.object_store.specs.Ranges.{IsWithinLimits}
use Rattle.object_store.specs.declared.sizes.Sizes.{Sizes}
use Rattle.listing_read.specs.declared.place.Place.TheVariants.{Header}
use Rattle.listing_read.specs.declared.schedule.Timed.{Timed}
use Rattle.listing_read.specs.declared.statement.Statement.{Statement}
use Rattle.listing_read.specs.declared.terms.Terms.{Terms}
use Rattle.listing_read.specs.declared.terms.Version.{Version}
use Rattle.listing_read.specs.CapWord.{cap_of, IsStated}
use Rattle.listing_read.specs.Terms.{terms_of}
use Rattle.listing_read.specs.Statement.{IsStatement, IsTyped, IsListing, ListingValue}
use Rattle.listing_read.specs.Schedule.{IsTimed, schedule_line}
use Rattle.listing_read.specs.Listing.{Good, listing_of}
use Rattle.cap_words.specs.Text.{cap_text}
use Rattle.statement_text.specs.Text.{format_text, machine_text, statement_text, end_text, listing_text, event_line, events_text}
use Rattle.statement_text.specs.ReadsBack.{ReadsBack, IsSayable}
use Rattle.statement_text.specs.Lists.{Lists}

-- the word of a capability gives that capability, in either version and whatever names there are
abbrev pub CapabilitiesAreRead : Type 0
CapabilitiesAreRead =
    (terms : Terms) (c : Capability) → IsCapability c → IsStated terms.sizes (bare c) → cap_of terms (cap_text c) ≡ Ok (bare c)

-- the line of a statement says that statement
abbrev pub StatementsAreRead : Type 0
StatementsAreRead =
    (terms : Terms) (statement : Statement) → IsWithinLimits terms.sizes → IsStatement terms.sizes statement →
    IsTyped statement → IsSayable terms.version statement → ReadsBack terms (statement_text statement) statement

-- a text that reads back, in front of other bytes, lists its statement, and no text lists none
abbrev pub TextsAreListed : Type 0
TextsAreListed = (terms : Terms) (text : List ℕ) (statement : Statement) → ReadsBack terms text statement → Lists terms text (statement ∷ [])

-- no text lists no statements
abbrev pub NothingIsListed : Type 0
NothingIsListed = (terms : Terms) → Lists terms [] []

-- one text behind another lists what they list, in this order
abbrev pub BothAreListed : Type 0
BothAreListed =
    (terms : Terms) (first second : List ℕ) (xs ys : List Statement) → Lists terms first xs → Lists terms second ys →
    Lists terms (first ++ second) (xs ++ ys)

-- the two lines in front of a text that lists statements, and the line `end` behind it, make their listing, whatever
-- lines stand behind that
abbrev pub ListedIsListing : Type 0
ListedIsListing =
    (version : Version) (sizes : Sizes) (text : List ℕ) (statements : List Statement) (rest : List ℕ) → IsWithinLimits sizes →
    Lists (terms_of version sizes) text statements →
    let whole = format_text version ++ (machine_text sizes ++ (text ++ (end_text ++ rest))) in
    let front = length (format_text version) + (length (machine_text sizes) + (length text + length end_text)) in
    length whole ≤ input_limit →
    listing_of Header 1 (parts_of whole) ≡
    Good (record { sizes = sizes; statements = statements }) (3 + length statements) (parts [] (input_limit - front) rest)

-- a line of a schedule as a reader gives it
abbrev pub event_part : Timed → Part
event_part event = Line (event_line event)

-- the line of an event asks for that event, of a machine with so many harts
abbrev pub EventsAreRead : Type 0
EventsAreRead =
    (harts : ℕ) (event : Timed) → harts ≤ 8 → IsTimed harts event → schedule_line harts (event_line event) ≡ Ok (Some event)

-- what is written of a listing and of a schedule behind it is read as that listing, and then one line for each event,
-- where it has no more bytes than an input may have
abbrev pub MigratedIsRead : Type 0
MigratedIsRead =
    (listing : ListingValue) (events : List Timed) → IsListing listing → All IsTyped listing.statements →
    All (IsTimed listing.sizes.harts) events →
    length (listing_text listing ++ events_text events) ≤ input_limit →
    listing_of Header 1 (parts_of (listing_text listing ++ events_text events)) ≡
    Good listing (3 + length listing.statements) (map event_part events)
