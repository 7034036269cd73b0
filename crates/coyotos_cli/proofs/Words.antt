-- From what a command comes to, to what the words come to that ask for it.
use Rattle.std.proofs.Common.{◌≡◌, ◌≢◌, ◌≤◌, ◌+◌, ◌∙◌, [], ℕ, List, map, Bool, true, false, Option, None, Some, IfSome, IsOk, Result, Ok, Err, length, inr, refl, sym, ap, subst, arith}
use Rattle.std.specs.List.{list_any}
use Rattle.std.specs.Io.KnownBytes.{Appends}
use Rattle.coy_io.specs.Causes.{Rose}
use Rattle.coy_io.specs.Lines.{Part, parts_of, whole_lines}
use Rattle.generated_text.specs.Text.{make_text}
use Rattle.kernel_core.specs.Outcome.{Touch}
use Rattle.coyotos_words.specs.Command.{command_of, is_dashed, is_help}
use Rattle.coyotos_words.specs.declared.command.Command.{Command}
use Rattle.coyotos_words.specs.declared.command.Command.TheVariants.{Help, Check, Schedule, Make, Pack, Unpack, Migrate, Confine, Share, Back}
use Rattle.coyotos_words.proofs.Dashed.{bytes_dashed}
use Rattle.coyotos_cli.specs.Command.{asks_run, count_of, has_cache, tells_fetches}
use Rattle.courses.specs.Exit.{status_of}
use Rattle.courses.specs.Ending.{Output, EndsNothing, Outputs, Completes, Ends, Fetches, HasCauses}
use Rattle.courses.specs.Course.{Course, ends_in, cached, course_output, course_fetches, ComesTo, HasEntries}
use Rattle.courses.specs.Bounds.{IsBounded}
use Rattle.courses.specs.Listed.{Behind, listed_course, lines_course}
use Rattle.courses.specs.Sure.{StandsSure, WritesSure}
use Rattle.schedule_replay.specs.Scheduled.{Scheduled, scheduled}
use Rattle.schedule_commands.specs.declared.command.ScheduleCommand.{ScheduleCommand}
use Rattle.schedule_commands.specs.declared.command.ScheduleCommand.TheVariants as schedule
use Rattle.schedule_commands.proofs.Bounded.{schedule-sound}
use Rattle.image_builder.specs.Boot.{booted}
use Rattle.schedule_commands.specs.Finished.{check_course, counted, course_of, schedule_course}
use Rattle.schedule_commands.proofs.Behind.{check-entries, check-sound}
use Rattle.schedule_replay.specs.Replay.{count_answer}
use Rattle.confine_command.specs.Confine.{confine_course}
use Rattle.courses.specs.Migrated.{migrate_course}
use Rattle.migrate_command.specs.Same.{Says, SaySame}
use Rattle.migrate_command.proofs.Sound.{migrate-entries, migrate-sound}
use Rattle.confine_command.proofs.Sound.{confine-entries, confine-sound}
use Rattle.back_command.specs.Back.{back_course, undoing}
use Rattle.share_command.specs.Few.{IsSharedBounded, TellsFew}
use Rattle.share_command.specs.Share.{share_course, sharing}
use Rattle.image_binary.specs.Image.{unpacked}
use Rattle.image_commands.specs.Packed.{pack_course, pack_output}
use Rattle.image_commands.specs.Passed.{passed}
use Rattle.image_commands.specs.Unpacked.{unpack_course, unpack_output}
use Rattle.coyotos_cli.specs.Input.{Input, read_input, whole_input}
use Rattle.coyotos_cli.specs.Program.{command_course, over_lines, words_course, whole_course, out, fetched, sure}
use Rattle.courses.proofs.Endings.{completes}
use Rattle.courses.proofs.Lasts.{comes-last, lines-entries, none-entries}
use Rattle.courses.proofs.Sound.{IsSound, ends-sound, lines-sound, sound-bounded}
use Rattle.coyotos_cli.specs.Laws.{SameCourseLaw}
use Rattle.coyotos_cli.specs.Contract.{bytes_for, Answers, ComesFor, HasForm, SharesFor, StandsFor, FetchesFor}
use Rattle.courses.specs.declared.exit.Exit.{Exit}
use Rattle.courses.specs.declared.exit.Exit.TheVariants.{Done, Usage, ReadFault, WriteFault, OutOfMemory}

-- ---- translators

-- where words run over a mapping cache, its slots are counted
count-cached : (asked : Option Command) → has_cache asked ≡ true → count_of asked ≡ cached
count-cached (Some Share) has = cc
count-cached _ has = refl

-- and `share` has none
pub cache-shared : {X : Type 0} (command : Command) → command ≡ Share → has_cache (Some command) ≡ true → X
cache-shared command is has = let bad : false ≡ true = ap (λ c. has_cache (Some c)) (sym is) ∙ has in cc

-- a count has no entries
pub known-check : (held : Option (List ℕ)) → IfSome held (λ bytes. HasEntries (lines_course check_course (parts_of bytes)))
known-check None = tt
known-check (Some bytes) = lines-entries check_course check-entries (parts_of bytes)

-- an image has no entries, and neither has its text
pub known-pack : (held : Option (List ℕ)) → IfSome held (λ bytes. HasEntries (lines_course pack_course (parts_of bytes)))
known-pack None = tt
known-pack (Some bytes) = lines-entries pack_course (λ listing last rest. none-entries (pack_output listing (passed last rest))) (parts_of bytes)

pub known-unpack : (held : Option (List ℕ)) → IfSome held (λ bytes. HasEntries (unpack_course (unpacked bytes)))
known-unpack None = tt
known-unpack (Some bytes) = none-entries (unpack_output (unpacked bytes))

-- the entries of a text are none
pub known-migrate : (held : Option (List ℕ)) → IfSome held (λ bytes. HasEntries (lines_course migrate_course (parts_of bytes)))
known-migrate None = tt
known-migrate (Some bytes) = lines-entries migrate_course migrate-entries (parts_of bytes)

-- the entries of a cut are none
pub known-confine : (held : Option (List ℕ)) → IfSome held (λ bytes. HasEntries (lines_course confine_course (parts_of bytes)))
known-confine None = tt
known-confine (Some bytes) = lines-entries confine_course confine-entries (parts_of bytes)

-- the entries of a state that is undone are none
pub known-back : (number : ℕ) (held : Option (List ℕ)) → IfSome held (λ bytes. HasEntries (lines_course (back_course number) (parts_of bytes)))
known-back number None = tt
known-back number (Some bytes) = lines-entries (back_course number) (λ listing last rest. none-entries (back_course number listing last rest).last) (parts_of bytes)

-- inputs that say the same come to the same, for a command that goes by their listing and by what their lines ask for alone
same-behind : (bytes text : List ℕ) (same : SaySame bytes text) (behind : Behind) (after : Scheduled → Course)
    → ((last : ℕ) (rest : List Part) → behind same.listing last rest ≡ after (scheduled same.listing.sizes.harts last rest))
    → lines_course behind (parts_of bytes) ≡ lines_course behind (parts_of text)
same-behind bytes text same behind after goes = of_one bytes same.one ∙ sym (of_one text same.other)
  where
    of_one : (bytes : List ℕ) (one : Says bytes same.listing same.all) → lines_course behind (parts_of bytes) ≡ after same.all
    of_one bytes one = ap (listed_course behind) one.listed ∙ goes one.last one.rest ∙ ap after one.asked

same-scheduled : (bytes text : List ℕ) → SaySame bytes text → (command : ScheduleCommand) → over_lines command (parts_of bytes) ≡ over_lines command (parts_of text)
same-scheduled bytes text same command = same-behind bytes text same (schedule_course command) (course_of command (booted same.listing)) (λ last rest. refl)

-- and so for each command that runs or counts them
pub same-course : SameCourseLaw
same-course bytes text same Help asks = refl
same-course bytes text same Check asks = same-behind bytes text same check_course (λ all. ends_in (counted (count_answer all))) (λ last rest. refl)
same-course bytes text same (Schedule command) asks = same-scheduled bytes text same (schedule.Of command)
same-course bytes text same (Make number summary) asks = refl
same-course bytes text same Pack asks = cc
same-course bytes text same Unpack asks = cc
same-course bytes text same Migrate asks = cc
same-course bytes text same Confine asks = cc
same-course bytes text same Share asks = same-behind bytes text same share_course (sharing (booted same.listing)) (λ last rest. refl)
same-course bytes text same (Back number) asks = same-behind bytes text same (back_course number) (undoing number (booted same.listing)) (λ last rest. refl)

-- ---- what is so of a course

-- what is so of what a command comes to is so of what the words come to that ask for it
pub known-words : (Q : Course → Type 0) (words : List (List ℕ)) (command : Command) → command_of words ≡ Some command → (held : Option (List ℕ))
    → IfSome (bytes_for (Some command) held) (λ bytes. Q (command_course command (whole_input bytes)))
    → IfSome (bytes_for (command_of words) held) (λ bytes. Q (whole_course words bytes))
known-words Q words command asked held known =
    subst (λ a. IfSome (bytes_for a held) (λ bytes. Q (words_course a (whole_input bytes)))) (sym asked) known

-- ---- the bounds on what is fetched

-- what a command over a schedule comes to is within them
over-sound : (command : ScheduleCommand) (parts : List Part) → IsSound (over_lines command parts)
over-sound command parts = lines-sound (schedule_course command) (schedule-sound command) parts

-- and so is what any comes to that runs over a mapping cache
command-sound : (command : Command) (input : Input) → has_cache (Some command) ≡ true → IsSound (command_course command input)
command-sound Help input has = ends-sound _
command-sound Check input has = lines-sound check_course check-sound input.lines
command-sound (Schedule command) input has = over-sound (schedule.Of command) input.lines
command-sound (Make number false) input has = ends-sound _
command-sound (Make number true) input has = over-sound schedule.Summary (parts_of (make_text number))
command-sound Pack input has = lines-sound pack_course (λ listing last rest. ends-sound _) input.lines
command-sound Unpack input has = ends-sound _
command-sound Migrate input has = lines-sound migrate_course migrate-sound input.lines
command-sound Confine input has = lines-sound confine_course confine-sound input.lines
command-sound Share input has = cc
command-sound (Back number) input has = lines-sound (back_course number) (λ listing last rest. ends-sound _) input.lines

-- how few frames `share` tells, and how few slots it fetches, is so of the words that ask for it
pub shares-words : (words : List (List ℕ)) (command : Command) → command_of words ≡ Some command → (held : Option (List ℕ)) (fetches fetches' : ℕ) (exit : Exit)
    → (command ≡ Share → exit ≡ Done → IfSome (bytes_for (Some command) held) (λ bytes. TellsFew (command_course command (whole_input bytes))))
    → (command ≡ Share → IfSome (bytes_for (Some command) held) (λ bytes. IsSharedBounded fetches fetches' (command_course command (whole_input bytes))))
    → SharesFor words held fetches fetches' exit
shares-words words command asked held fetches fetches' exit few bounded = record {
  frames = λ done is. known-words TellsFew words command asked held (few (let same : Some command ≡ Some Share = sym asked ∙ is in cc) done);
  bounded = λ is. known-words (IsSharedBounded fetches fetches') words command asked held (bounded (let same : Some command ≡ Some Share = sym asked ∙ is in cc));
}

module _ (command : Command) (taken taken' : Option (List ℕ)) (fetches fetches' : ℕ) (exit : Exit) where
  abbrev Comes : Course → Type 0
  Comes = ComesFor (Some command) taken taken' fetches fetches' exit

  -- what comes with all that it fetches
  pub comes-told : (count : List Touch → ℕ) → count_of (Some command) ≡ count → (course : Course) → ComesTo taken taken' fetches fetches' exit count course → Comes course
  comes-told count is course comes = record {
    output = comes.output;
    fetched = λ tells. subst (λ n. Fetches fetches fetches' exit (course_fetches n course)) (sym is) comes.fetched;
  }

  pub comes-known : (count : List Touch → ℕ) → count_of (Some command) ≡ count → (course : List ℕ → Course) (held : Option (List ℕ))
      → IfSome held (λ bytes. ComesTo taken taken' fetches fetches' exit count (course bytes)) → IfSome held (λ bytes. Comes (course bytes))
  comes-known count is course None comes = tt
  comes-known count is course (Some bytes) comes = comes-told count is (course bytes) comes

  -- where a text by itself was written, and nothing fetched
  pub comes-text : (faults faults' : ℕ) (text : Output) → count_of (Some command) ≡ cached → Ends taken taken' faults faults' exit text → fetches' ≡ fetches → Comes (ends_in text)
  comes-text faults faults' text is e same = comes-told cached is (ends_in text) (comes-last taken taken' faults faults' fetches fetches' exit cached text e same refl)

-- what `back` comes to, of which the number of slots is not told
pub comes-back : (number : ℕ) (taken taken' : Option (List ℕ)) (fetches fetches' : ℕ) (exit : Exit) (held : Option (List ℕ))
    → IfSome held (λ bytes. Outputs taken taken' exit (course_output (lines_course (back_course number) (parts_of bytes))))
    → IfSome held (λ bytes. ComesFor (Some (Back number)) taken taken' fetches fetches' exit (command_course (Back number) (whole_input bytes)))
comes-back number taken taken' fetches fetches' exit None output = tt
comes-back number taken taken' fetches fetches' exit (Some bytes) output = record { output = output; fetched = λ tells. cc }

-- ---- a text by itself

-- no source is at fault where none was asked
pub causes-other : (unread unwritten unwritten' : ℕ) (exit : Exit) → exit ≢ ReadFault → HasCauses 0 0 unwritten unwritten' exit → HasCauses unread unread unwritten unwritten' exit
causes-other unread unwritten unwritten' exit never causes = record {
  read = λ same. absurd (never same);
  read_quiet = λ other. refl;
  write = causes.write;
  write_quiet = causes.write_quiet;
}

-- ---- what stands where reading failed

module _ (asked : Option Command) (held held' taken taken' : Option (List ℕ)) (fetches fetches' : ℕ) where
  -- what stands with all that was fetched
  pub stands-told : (count : List Touch → ℕ) → count_of asked ≡ count → (course : List ℕ → Course) → StandsSure held held' taken taken' fetches fetches' count course
      → StandsFor asked held held' taken taken' fetches fetches' course
  stands-told count is course s = record {
    writes = s.writes;
    fetched = λ tells. subst (λ n. fetches' ≡ fetches + n (course s.writes.bytes).touches) (sym is) s.fetched;
  }

  -- what stands by what bytes come to stands so by another name of that, and of what was asked for
  pub stands-course : (other_asked : Option Command) (course other : List ℕ → Course) → asked ≡ other_asked
      → (s : StandsFor asked held held' taken taken' fetches fetches' course) → course s.writes.bytes ≡ other s.writes.bytes
      → StandsFor other_asked held held' taken taken' fetches fetches' other
  stands-course other_asked course other is s same = record {
    writes = record {
      bytes = s.writes.bytes;
      read = s.writes.read;
      goes_on = subst (λ c. EndsNothing (length (whole_lines [] s.writes.bytes)) c.last.exit) same s.writes.goes_on;
      written = subst (λ c. Appends taken taken' c.records) same s.writes.written;
    };
    fetched = λ tells.
        subst (λ a. fetches' ≡ fetches + count_of a (other s.writes.bytes).touches) is
        (subst (λ (c : Course). fetches' ≡ fetches + count_of asked c.touches) same (s.fetched (ap tells_fetches is ∙ tells)));
  }

-- what stands of `back`, of which the number of slots is not told
pub stands-back : (number : ℕ) (held held' taken taken' : Option (List ℕ)) (fetches fetches' : ℕ)
    → WritesSure held held' taken taken' (λ bytes. lines_course (back_course number) (whole_lines [] bytes))
    → StandsFor (Some (Back number)) held held' taken taken' fetches fetches' (λ bytes. command_course (Back number) (read_input bytes))
stands-back number held held' taken taken' fetches fetches' w = record { writes = w; fetched = λ tells. cc }

-- ---- words

module _ (words : List (List ℕ)) (command : Command) (asked : command_of words ≡ Some command) where
  -- the words come to what the command comes to
  words-course : (input : Input) → words_course (command_of words) input ≡ command_course command input
  words-course input = ap (λ asked. words_course asked input) asked

  -- and the same bytes are read for them
  bytes-read : (held : Option (List ℕ)) → bytes_for (command_of words) held ≡ bytes_for (Some command) held
  bytes-read held = ap (λ asked. bytes_for asked held) asked

  module _ (taken taken' : Option (List ℕ)) (fetches fetches' : ℕ) (exit : Exit) where
    abbrev Answer : List ℕ → Type 0
    Answer bytes = ComesFor (Some command) taken taken' fetches fetches' exit (command_course command (whole_input bytes))

    outputs : (told : Option (List ℕ)) → IfSome told Answer → IfSome told (λ bytes. Outputs taken taken' exit (out words bytes))
    outputs None comes = tt
    outputs (Some bytes) comes = subst (Outputs taken taken' exit) (ap course_output (sym (words-course (whole_input bytes)))) comes.output

    -- what is told of the words is told of the command
    told-of : tells_fetches (command_of words) ≡ true → tells_fetches (Some command) ≡ true
    told-of tells = sym (ap tells_fetches asked) ∙ tells

    fetches_all : tells_fetches (Some command) ≡ true → (told : Option (List ℕ)) → IfSome told Answer → IfSome told (λ bytes. Fetches fetches fetches' exit (fetched words bytes))
    fetches_all tells None comes = tt
    fetches_all tells (Some bytes) comes =
        subst (λ a. Fetches fetches fetches' exit (course_fetches (count_of a) (words_course a (whole_input bytes)))) (sym asked) (comes.fetched tells)

    bounded_all : tells_fetches (Some command) ≡ true → has_cache (Some command) ≡ true → (told : Option (List ℕ)) → IfSome told Answer
        → IfSome told (λ bytes. IsBounded fetches fetches' (whole_course words bytes))
    bounded_all tells has None comes = tt
    bounded_all tells has (Some bytes) comes =
        let course : Course = command_course command (whole_input bytes) in
        let most : fetches' ≤ fetches + course_fetches cached course =
        subst (λ n. fetches' ≤ fetches + course_fetches n course) (count-cached (Some command) has) (comes.fetched tells).most in
        subst (IsBounded fetches fetches') (sym (words-course (whole_input bytes))) (sound-bounded course fetches fetches' (command-sound command (whole_input bytes) has) most)

    -- what was written is what the words come to
    pub answers-words : (held : Option (List ℕ)) → IfSome (bytes_for (Some command) held) Answer → (exit ≡ OutOfMemory → taken' ≡ taken) → Answers words held taken taken' exit
    answers-words held comes unwritten = record {
      output = subst (λ told. IfSome told (λ bytes. Outputs taken taken' exit (out words bytes))) (sym (bytes-read held)) (outputs (bytes_for (Some command) held) comes);
      unwritten = unwritten;
    }

    -- and the slots that were fetched are those that the words fetch
    pub fetches-words : (held : Option (List ℕ)) → IfSome (bytes_for (Some command) held) Answer
        → (asks_run (Some command) ≡ false → fetches' ≡ fetches) → (exit ≡ OutOfMemory → fetches' ≡ fetches) → FetchesFor words held fetches fetches' exit
    fetches-words held comes stays unspent = record {
      counted = λ tells. subst (λ told. IfSome told (λ bytes. Fetches fetches fetches' exit (fetched words bytes))) (sym (bytes-read held)) (fetches_all (told-of tells) (bytes_for (Some command) held) comes);
      bounded = λ tells has.
          subst (λ told. IfSome told (λ bytes. IsBounded fetches fetches' (whole_course words bytes))) (sym (bytes-read held))
          (bounded_all (told-of tells) (sym (ap has_cache asked) ∙ has) (bytes_for (Some command) held) comes);
      unfetched = λ off. stays (sym (ap asks_run asked) ∙ off);
      unspent = unspent;
    }

  -- what a command makes sure is what the words make sure that ask for it
  pub sure-words : (held held' taken taken' : Option (List ℕ)) (fetches fetches' : ℕ)
      → StandsFor (Some command) held held' taken taken' fetches fetches' (λ bytes. command_course command (read_input bytes))
      → StandsFor (command_of words) held held' taken taken' fetches fetches' (sure words)
  sure-words held held' taken taken' fetches fetches' s =
      stands-course (Some command) held held' taken taken' fetches fetches' (command_of words) _ _ (sym asked) s (sym (words-course (read_input s.writes.bytes)))

  -- what is so of the text of a command is so of the words that ask for it
  pub text-words : (P : List ℕ → List ℕ → Type 0) (other : Command) → command_of words ≡ Some other → (held : Option (List ℕ))
      → (command ≡ other → IfSome held (λ bytes. P bytes (course_output (command_course command (whole_input bytes))).text))
      → IfSome held (λ bytes. P bytes (out words bytes).text)
  text-words P other is held told = by held (told (let same : Some command ≡ Some other = sym asked ∙ is in cc))
    where
      by : (held : Option (List ℕ)) → IfSome held (λ bytes. P bytes (course_output (command_course command (whole_input bytes))).text) → IfSome held (λ bytes. P bytes (out words bytes).text)
      by None all = tt
      by (Some bytes) all = subst (λ (c : Course). P bytes (course_output c).text) (sym (words-course (whole_input bytes))) all

  -- of those that have a form and begin with `-` the command is `--help`
  dashed-help : list_any is_dashed words ≡ true → command ≡ Help
  dashed-help dashed = by_help (is_help words) refl
    where
      by_help : (help : Bool) → is_help words ≡ help → command ≡ Help
      by_help true help = let same : Some Help ≡ Some command = rw help at asked in cc
      by_help false help = let same : None ≡ Some command = rw (help, dashed) at asked in cc

  -- words of a form are not told how the program is used, and those that begin with `-` want no memory
  pub form-words : (exit : Exit) → exit ≢ Usage → (command ≡ Help → exit ≢ OutOfMemory) → HasForm words exit
  form-words exit usage memory = record {
    usage = λ same. absurd (usage same);
    no_form = λ none. let same : None ≡ Some command = sym none ∙ asked in cc;
    early = λ dashed. memory (dashed-help dashed);
  }

-- the same of the known bytes
completes-told : (told old new : Option (List ℕ)) (exit : Exit) (output : List ℕ → Output) → (exit ≡ ReadFault → ⊥) → (exit ≡ WriteFault → ⊥)
    → IfSome told (λ bytes. Outputs old new exit (output bytes)) → IfSome told (λ bytes. Completes old new exit (output bytes))
completes-told None old new exit output read write outputs = tt
completes-told (Some bytes) old new exit output read write outputs = completes old new exit (output bytes) read write outputs

-- where neither count of faults rose, the answer is the whole output, or memory was wanting
pub completes-words : (words : List (List ℕ)) (held taken taken' : Option (List ℕ)) (unread unread' unwritten unwritten' : ℕ) (exit : Exit)
    → Answers words held taken taken' exit → HasCauses unread unread' unwritten unwritten' exit
    → (Rose unread unread' → ⊥) → (Rose unwritten unwritten' → ⊥)
    → IfSome (bytes_for (command_of words) held) (λ bytes. Completes taken taken' exit (out words bytes))
completes-words words held taken taken' unread unread' unwritten unwritten' exit a causes read write =
    completes-told (bytes_for (command_of words) held) taken taken' exit (out words)
    (λ same. read (causes.read same)) (λ same. write (causes.write same)) a.output

-- an error is no success
err_fails : {E T : Type 0} (r : Result T E) (e : E) → r ≡ Err e → IsOk r → ⊥
err_fails (Ok x) e is ok = cc
err_fails (Err f) e is ok = cc

-- words that end for want of memory have none that begins with `-`
pub form-memory : {X E T : Type 0} (bytes : X → List ℕ) (words : List X) (r : Result T E) (e : E) → r ≡ Err e
    → (list_any (λ word. is_dashed (bytes word)) words ≡ true → IsOk r) → HasForm (map bytes words) OutOfMemory
form-memory bytes words r e is early = record {
  usage = λ same. let one : 6 ≡ 1 = ap status_of same in absurd (omega (arith, one));
  no_form = λ none. inr (inr refl);
  early = λ dashed memory. err_fails r e is (early (bytes_dashed bytes words true dashed));
}
