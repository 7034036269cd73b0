-- What the program writes, how it ends and how many slots it fetches, for its words and for the bytes of its input (this
-- project's own).
use Rattle.std.specs.Prelude.{ℕ, Bool, true, false, List, ◌++◌, codes, Option}
use Rattle.coy_io.specs.Lines.{Part, parts_of}
use Rattle.generated_text.specs.Text.{make_text}
use Rattle.std.specs.List.{list_any}
use Rattle.courses.specs.Course.{Course, course_fetches, ends_in}
use Rattle.courses.specs.Ending.{Output}
use Rattle.courses.specs.Listed.{lines_course}
use Rattle.schedule_commands.specs.Finished.{check_course, schedule_course}
use Rattle.schedule_commands.specs.declared.command.ScheduleCommand.{ScheduleCommand}
use Rattle.schedule_commands.specs.declared.command.ScheduleCommand.TheVariants as schedule
use Rattle.confine_command.specs.Confine.{confine_course}
use Rattle.courses.specs.Migrated.{migrate_course}
use Rattle.image_commands.specs.Packed.{pack_course}
use Rattle.image_commands.specs.Unpacked.{unpack_course}
use Rattle.back_command.specs.Back.{back_course}
use Rattle.share_command.specs.Share.{share_course}
use Rattle.coyotos_words.specs.declared.command.Command.{Command}
use Rattle.coyotos_words.specs.declared.command.Command.TheVariants.{Help, Check, Schedule, Make, Pack, Unpack, Migrate, Confine, Share, Back}
use Rattle.coyotos_words.specs.Command.{command_of, is_dashed}
use Rattle.coyotos_words.specs.Usage.{usage_line}
use Rattle.coyotos_cli.specs.Command.{asks_input, count_of}
use Rattle.coyotos_cli.specs.Input.{Input, read_input, whole_input}
use Rattle.courses.specs.Program.{Program, asked_course}
use Rattle.courses.specs.Program as programs
use Rattle.courses.specs.declared.exit.Exit.TheVariants.{Done}

-- how the program is used
abbrev pub usage_text : List ℕ
usage_text = usage_line ++ codes "\n"

-- what a command over a schedule comes to with these lines
abbrev pub over_lines : ScheduleCommand → List Part → Course
over_lines command parts = lines_course (schedule_course command) parts

-- what `make` comes to: the generated text is written, or for its summary read in the place of the input
abbrev pub make_course : ℕ → Bool → Course
make_course number false = ends_in (record { text = make_text number; exit = Done })
make_course number true = over_lines schedule.Summary (parts_of (make_text number))

-- what a command comes to with the input: `unpack` takes it as an image, and every other one as lines; `--help`, which tells
-- how the program is used, and `make` don't look at it
abbrev pub command_course : Command → Input → Course
command_course Help input = ends_in (record { text = usage_text; exit = Done })
command_course Check input = lines_course check_course input.lines
command_course (Schedule command) input = over_lines (schedule.Of command) input.lines
command_course (Make number summary) input = make_course number summary
command_course Pack input = lines_course pack_course input.lines
command_course Unpack input = unpack_course input.image
command_course Migrate input = lines_course migrate_course input.lines
command_course Confine input = lines_course confine_course input.lines
command_course Share input = lines_course share_course input.lines
command_course (Back number) input = lines_course (back_course number) input.lines

-- the program; a word that begins with `-` is answered with no memory taken
abbrev pub coyotos : Program Command Input
coyotos = record {
  asked = command_of;
  usage = usage_text;
  reads = asks_input;
  whole = whole_input;
  front = read_input;
  course = command_course;
  early = list_any is_dashed;
}

-- what words come to with the input, and with all bytes of it
abbrev pub words_course : Option Command → Input → Course
words_course asked input = asked_course coyotos asked input

abbrev pub whole_course : List (List ℕ) → List ℕ → Course
whole_course words bytes = programs.whole_course coyotos words bytes

-- what the program writes and how it ends
abbrev pub out : List (List ℕ) → List ℕ → Output
out words bytes = programs.out coyotos words bytes

-- how many slots the program fetches, where their number is told
abbrev pub fetched : List (List ℕ) → List ℕ → ℕ
fetched words bytes = course_fetches (count_of (command_of words)) (whole_course words bytes)

-- ---- what stands where reading failed

-- what bytes that were read make sure: the records of the whole lines in them, and the touches of these. What is written
-- last is not among it; an image makes nothing sure, nor do lines whose last events are undone
abbrev pub sure : List (List ℕ) → List ℕ → Course
sure words bytes = programs.sure coyotos words bytes
