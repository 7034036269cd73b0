-- *Migration*: the migrated text says what the input says (this project's own).
use Rattle.std.specs.Prelude.{◌≡◌, ◌≤◌, ℕ, List, ◌++◌, length}
use Rattle.coy_io.specs.Lines.{Part, parts_of}
use Rattle.coy_io.specs.Limits.{input_limit}
use Rattle.listing_read.specs.Listing.{Good, listing_of}
use Rattle.listing_read.specs.Statement.{ListingValue}
use Rattle.listing_read.specs.declared.place.Place.TheVariants.{Header}
use Rattle.listing_read.specs.declared.schedule.Timed.{Timed}
use Rattle.schedule_replay.specs.Asked.{asked}
use Rattle.schedule_replay.specs.Scheduled.{Scheduled, AtEnd, scheduled}
use Rattle.statement_text.specs.Text.{events_text, listing_text}

-- an input makes this listing, and the lines behind it ask for these events and have no fault
pub record Says (bytes : List ℕ) (listing : ListingValue) (all : Scheduled) : Type 0 where
  pub last : ℕ
  pub rest : List Part
  pub listed : listing_of Header 1 (parts_of bytes) ≡ Good listing last rest
  pub asked : scheduled listing.sizes.harts last rest ≡ all
  pub whole : all.ending ≡ AtEnd

-- two inputs have the same statements and the same events, and neither has a fault
pub record SaySame (bytes text : List ℕ) : Type 0 where
  pub listing : ListingValue
  pub all : Scheduled
  pub one : Says bytes listing all
  pub other : Says text listing all

-- a text is that of an input where it says the same, if it has no more bytes than an input may have
abbrev pub IsMigrated : List ℕ → List ℕ → Type 0
IsMigrated bytes text = length text ≤ input_limit → SaySame bytes text

-- lines behind a listing end with no fault, and the text of both is read as this listing and the events of these lines, if it
-- has no more bytes than an input may have
pub record ReadsAgain (listing : ListingValue) (last : ℕ) (rest : List Part) : Type 0 where
  pub lines : List Timed
  pub asks : asked listing.sizes.harts last rest ≡ record { lines = lines; ending = AtEnd }
  pub again : length (listing_text listing ++ events_text lines) ≤ input_limit
      → Says (listing_text listing ++ events_text lines) listing (scheduled listing.sizes.harts last rest)
