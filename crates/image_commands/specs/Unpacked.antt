-- What `unpack` comes to (this project's own).
use Rattle.std.specs.Prelude.{ℕ, false, List, length, Result, Ok, Err}
use Rattle.image_binary.specs.Image.{concluded, listing_of, unpacked}
use Rattle.image_binary.specs.declared.fault.ImageFault.{ImageFault}
use Rattle.image_binary.specs.declared.fault.ImageFault.TheVariants as faulty
use Rattle.listing_read.specs.Statement.{ListingValue}
use Rattle.statement_text.specs.Text.{listing_text}
use Rattle.courses.specs.Course.{Course, ends_in}
use Rattle.courses.specs.Ending.{Output, told_end}
use Rattle.courses.specs.declared.exit.Exit.{Exit}
use Rattle.courses.specs.declared.exit.Exit.TheVariants.{Done, ReadFault, OutOfMemory, TooLong, ImageRefused}

-- the exit where bytes give no listing; no bytes give the last two
abbrev pub image_exit : ImageFault → Exit
image_exit (faulty.Refused offset fault) = ImageRefused offset fault
image_exit faulty.TooLong = TooLong
image_exit faulty.ReadFault = ReadFault
image_exit faulty.OutOfMemory = OutOfMemory

-- what is written of what bytes give: the text of their listing, or the one line of the refusal
abbrev pub unpack_output : Result ListingValue ImageFault → Output
unpack_output (Ok listing) = record { text = listing_text listing; exit = Done }
unpack_output (Err fault) = told_end (image_exit fault)

-- what the command comes to with what bytes give: nothing is written before the last of them was read
abbrev pub unpack_course : Result ListingValue ImageFault → Course
unpack_course answer = ends_in (unpack_output answer)

-- what it comes to with all bytes of an input
abbrev pub image_course : List ℕ → Course
image_course bytes = unpack_course (unpacked bytes)

-- what bytes give that were read, as if the input ended behind them
abbrev pub read_of : List ℕ → Result ListingValue ImageFault
read_of bytes = concluded false (length bytes) (listing_of bytes)

-- what the command comes to with them
abbrev pub read_course : List ℕ → Course
read_course bytes = unpack_course (read_of bytes)
