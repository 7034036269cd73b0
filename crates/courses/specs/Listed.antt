-- What a command comes to that reads a listing and then the lines behind it (this project's own).
use Rattle.std.specs.Prelude.{ℕ, List}
use Rattle.coy_io.specs.Lines.{Part}
use Rattle.listing_read.specs.Listing.{Listed, Good, Refused, Past, listing_of}
use Rattle.listing_read.specs.Statement.{ListingValue}
use Rattle.listing_read.specs.declared.place.Place.TheVariants.{Header}
use Rattle.courses.specs.Course.{Course, ends_in}
use Rattle.courses.specs.Ending.{told_end}
use Rattle.courses.specs.declared.exit.Exit.TheVariants.{ListingRefused, TooLong}

-- what a command does with a listing, the number of its line `end` and the lines behind that
abbrev pub Behind : Type 0
Behind = ListingValue → ℕ → List Part → Course

-- what it comes to, by the listing that the lines of its input make: what it does with that, or the one line of the refusal
abbrev pub listed_course : Behind → Listed → Course
listed_course behind (Good listing last rest) = behind listing last rest
listed_course behind (Refused line fault) = ends_in (told_end (ListingRefused line fault))
listed_course behind Past = ends_in (told_end TooLong)

-- what it comes to with the lines of its input
abbrev pub lines_course : Behind → List Part → Course
lines_course behind parts = listed_course behind (listing_of Header 1 parts)
