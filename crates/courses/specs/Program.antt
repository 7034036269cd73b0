-- A program: what its words ask for, and what that comes to with the bytes of its input (this project's own).
use Rattle.std.specs.Prelude.{◌≡◌, ◌≢◌, ◌⊎◌, ℕ, Bool, true, false, if◌then◌else◌, List, [], Option, Some, None}
use Rattle.std.specs.Io.KnownBytes.{IsAtEnd}
use Rattle.courses.specs.Course.{Course, course_output, ends_in}
use Rattle.courses.specs.Ending.{Output}
use Rattle.courses.specs.Exit.{is_finished}
use Rattle.courses.specs.declared.exit.Exit.{Exit}
use Rattle.courses.specs.declared.exit.Exit.TheVariants.{Usage, ReadFault, WriteFault, OutOfMemory}

-- A program: what words ask for, where they are of a form, and how it is used where they are of none; whether the input is read
-- for what is asked; what is taken of all bytes of it, and of bytes behind which there may be more; and what it comes to with
-- these. Words that are answered with no memory taken are early.
pub record Program (Asked Input : Type 0) : Type 0 where
  pub asked : List (List ℕ) → Option Asked
  pub usage : List ℕ
  pub reads : Asked → Bool
  pub whole : List ℕ → Input
  pub front : List ℕ → Input
  pub course : Asked → Input → Course
  pub early : List (List ℕ) → Bool

module _ {Asked Input : Type 0} (program : Program Asked Input) where
  -- whether the input is read for what is asked; for words of no form it is not
  abbrev pub reads_for : Option Asked → Bool
  reads_for None = false
  reads_for (Some asked) = program.reads asked

  -- the bytes that are read for it, where they are known: those that the source tells, and none where it is not read
  abbrev pub bytes_for : Option Asked → Option (List ℕ) → Option (List ℕ)
  bytes_for asked held = if reads_for asked then held else Some []

  -- how the program is used is written, and it ends so
  abbrev pub tells_usage : Exit → Course
  tells_usage exit = ends_in (record { text = program.usage; exit = exit })

  -- what is asked for comes to, with what was taken of the input; words of no form tell how the program is used
  abbrev pub asked_course : Option Asked → Input → Course
  asked_course None input = tells_usage Usage
  asked_course (Some asked) input = program.course asked input

  -- what words come to with all bytes of the input
  abbrev pub whole_course : List (List ℕ) → List ℕ → Course
  whole_course words bytes = asked_course (program.asked words) (program.whole bytes)

  -- what the program writes and how it ends
  abbrev pub out : List (List ℕ) → List ℕ → Output
  out words bytes = course_output (whole_course words bytes)

  -- what bytes make sure behind which reading failed
  abbrev pub sure : List (List ℕ) → List ℕ → Course
  sure words bytes = asked_course (program.asked words) (program.front bytes)

  -- where all was done the input was read to its end, and where it is not read the source stays as it was and no reading
  -- fails
  pub record ReadsInput {S : Type 0} (held : S → Option (List ℕ)) (words : List (List ℕ)) (old new : S) (exit : Exit) : Type 0 where
    pub end : is_finished exit ≡ true → reads_for (program.asked words) ≡ true → IsAtEnd (held new)
    pub unread : reads_for (program.asked words) ≡ false → new ≡ old
    pub unfailed : reads_for (program.asked words) ≡ false → exit ≢ ReadFault

  -- words of no form are answered as such, and no others, but where there was no memory to read them; early words want none
  pub record HasForm (words : List (List ℕ)) (exit : Exit) : Type 0 where
    pub usage : exit ≡ Usage → program.asked words ≡ None
    pub no_form : program.asked words ≡ None → (exit ≡ Usage) ⊎ ((exit ≡ WriteFault) ⊎ (exit ≡ OutOfMemory))
    pub early : program.early words ≡ true → exit ≢ OutOfMemory
