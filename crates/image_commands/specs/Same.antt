-- *Image*: what `unpack` writes for what `pack` wrote is the migrated text (this project's own).
use Rattle.std.specs.Prelude.{◌≡◌, ◌≤◌, ℕ, List, length}
use Rattle.coy_io.specs.Lines.{parts_of}
use Rattle.coy_io.specs.Limits.{input_limit}
use Rattle.courses.specs.Course.{course_output}
use Rattle.courses.specs.Listed.{lines_course}
use Rattle.courses.specs.Migrated.{migrate_course}
use Rattle.image_commands.specs.Unpacked.{image_course}

-- bytes are the image of an input where `unpack` writes for them what `migrate` writes for the input, and ends as that does, if
-- they are no more than an input may have
abbrev pub IsImageOf : List ℕ → List ℕ → Type 0
IsImageOf input image =
    length image ≤ input_limit → course_output (image_course image) ≡ course_output (lines_course migrate_course (parts_of input))
