-- What the program's words ask for, and what that comes to with the bytes of its input (this project's own).
use Rattle.std.specs.Prelude.{ℕ, Bool, true, false, if◌then◌else◌, List, [], ◌∷◌, bytes_eq, codes, Option, Some, None}
use Rattle.coy_io.specs.Lines.{Part, parts_of, whole_lines}
use Rattle.courses.specs.Course.{Course, ends_in}
use Rattle.courses.specs.Ending.{Output}
use Rattle.courses.specs.Listed.{lines_course}
use Rattle.courses.specs.Program.{Program}
use Rattle.courses.specs.declared.exit.Exit.TheVariants.{Done}
use Rattle.explore_program.specs.Told.{explore_course}
use Rattle.explore_program.specs.declared.words.Wanted.{Wanted}
use Rattle.explore_program.specs.declared.words.Wanted.TheVariants.{Help, Explore}

-- what these words ask for: no words that the machine is gone through, and a lone `--help` how the program is used
abbrev pub asked_by : List (List ℕ) → Option Wanted
asked_by [] = Some Explore
asked_by (word ∷ []) = if bytes_eq word (codes "--help") then Some Help else None
asked_by (word ∷ other ∷ words) = None

-- how the program is used
abbrev pub usage_text : List ℕ
usage_text = codes "usage: explore\n"

-- whether the input is read for it
abbrev pub reads : Wanted → Bool
reads Explore = true
reads Help = false

-- what is asked for comes to with the lines of the input, where this is told of their question
abbrev pub course_for : Output → Wanted → List Part → Course
course_for told Explore lines = lines_course (explore_course told) lines
course_for told Help lines = ends_in (record { text = usage_text; exit = Done })

-- memory is taken for the input alone
abbrev pub is_early : List (List ℕ) → Bool
is_early [] = false
is_early (word ∷ words) = true

-- the program, which takes lines of its input, where this is told of their question
abbrev pub explore : Output → Program Wanted (List Part)
explore told = record {
  asked = asked_by;
  usage = usage_text;
  reads = reads;
  whole = λ bytes. parts_of bytes;
  front = λ bytes. whole_lines [] bytes;
  course = course_for told;
  early = is_early;
}
