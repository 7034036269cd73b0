-- What an input comes to is so, whether the program was run on it or not.
use Rattle.std.proofs.Common.{◌≡◌}
use Rattle.coy_io.specs.Lines.{parts_of}
use Rattle.listing_read.specs.Listing.{Listed, Good, Refused, Past, listing_of}
use Rattle.listing_read.specs.declared.place.Place.TheVariants.{Header}
use Rattle.image_builder.specs.Boot.{booted}
use Rattle.run_places.proofs.Booted.{booted-has}
use Rattle.confine_check.specs.Sides.{all_right}
use Rattle.courses.specs.Course.{course_output}
use Rattle.courses.specs.Listed.{listed_course}
use Rattle.courses.specs.declared.exit.Exit.TheVariants.{Done}
use Rattle.confine_command.specs.Confine.{confine_course}
use Rattle.confine_command.specs.Decided.{DecidesListed}
use Rattle.confine_command.specs.Laws.{DecidedLaw}
use Rattle.confine_command.specs.Stated.{stated}
use Rattle.confine_command.proofs.Awake.{booted-awake}
use Rattle.confine_command.proofs.Deciding.{decides-stated}
use Rattle.confine_command.proofs.Finding.{finds-exactly}

listed-decided : (all : Listed) → (listed_course confine_course all).last.exit ≡ Done → DecidesListed all (course_output (listed_course confine_course all)).text
listed-decided (Good listing last rest) done =
    decides-stated (booted listing) (booted-awake listing) (λ sides. finds-exactly (booted listing) sides (booted-awake listing) (booted-has listing))
    (stated (all_right listing.sizes) last rest) done
listed-decided (Refused line fault) done = cc
listed-decided Past done = cc

pub decided_law : DecidedLaw
decided_law bytes done = listed-decided (listing_of Header 1 (parts_of bytes)) done
