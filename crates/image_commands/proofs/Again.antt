-- What is written for the image of an input is its migrated text.
use Rattle.std.proofs.Common.{◌≡◌, ◌+◌, ◌∙◌, ◌∷◌, ◌++◌, [], ℕ, List, Bool, true, false, if◌then◌else◌, Option, None, Some, IfSome, Result, Ok, Err, refl, sym, ap, subst, length, ◌≤◌, append-nil}
use Rattle.std.specs.Prelude.{nat_le}
use Rattle.coy_io.specs.Lines.{Part, Line, LongLine, PastLimit, parts_of}
use Rattle.coy_io.specs.Reader.{Reader, new_reader, ahead}
use Rattle.coy_io.specs.Limits.{input_limit, line_limit}
use Rattle.coy_text.specs.Words.{words_of}
use Rattle.image_binary.specs.Image.{image_of, unpacked}
use Rattle.image_binary.specs.Laws.{ImagesAreRead, IsPacked}
use Rattle.listing_read.specs.Faults.{◌>>=◌, ensured}
use Rattle.coy_text.specs.Line.{is_skipped, is_visible_line}
use Rattle.listing_read.specs.Listing.{Good, IsListed, listing_of}
use Rattle.listing_read.specs.Schedule.{asked_by, eventless_line, schedule_line}
use Rattle.listing_read.specs.Statement.{ListingValue}
use Rattle.listing_read.specs.declared.fault.ScheduleFault.{ScheduleFault}
use Rattle.listing_read.specs.declared.fault.ScheduleFault.TheVariants.{LineTooLong, BadByte, EventInPack}
use Rattle.listing_read.specs.declared.place.Place.TheVariants.{Header}
use Rattle.listing_read.specs.declared.schedule.Timed.{Timed}
use Rattle.schedule_replay.specs.Asked.{asked, asks_first, asks_none, asks_with}
use Rattle.schedule_replay.specs.Scheduled.{AtEnd, AtFault, AtLimit, Ending}
use Rattle.schedule_replay.proofs.Reading.{on_each}
use Rattle.schedule_replay.proofs.Asked.{asked-end, asked-line}
use Rattle.statement_text.specs.Text.{listing_text}
use Rattle.courses.proofs.Bytes.{on_made}
use Rattle.courses.specs.Course.{ComesTo, cached, course_output}
use Rattle.courses.specs.Ending.{Output}
use Rattle.courses.specs.Listed.{listed_course, lines_course}
use Rattle.courses.specs.declared.exit.Exit.TheVariants.{Done}
use Rattle.courses.specs.Migrated.{migrate_course, migrated}
use Rattle.image_commands.specs.Packed.{pack_course, pack_output}
use Rattle.image_commands.specs.Passed.{passed, passed_with}
use Rattle.image_commands.specs.Same.{IsImageOf}
use Rattle.image_commands.specs.Unpacked.{image_course, unpack_course}
use Rattle.image_commands.proofs.Passing.{passed-line, passed-long, passed-past}

-- a line that is passed over asks for nothing
skipped-asks : (harts : ℕ) (line : List ℕ) (done : Unit {0}) → eventless_line line ≡ Ok done → schedule_line harts line ≡ Ok None
unfolding eventless_line schedule_line
skipped-asks harts line done is = by (nat_le (length line) line_limit) (is_visible_line line) (is_skipped (words_of line)) (asked_by harts (words_of line)) is
  where
    by : (short visible skipped : Bool) (other : Result (Option Timed) ScheduleFault)
        → (ensured short LineTooLong >>= λ _. ensured visible BadByte >>= λ _. ensured skipped EventInPack) ≡ Ok done
        → (ensured short LineTooLong >>= λ _. ensured visible BadByte >>= λ _. (if skipped then Ok None else other)) ≡ Ok None
    by true true true other is = refl
    by true true false other is = cc
    by true false skipped other is = cc
    by false visible skipped other is = cc

-- lines that are passed over ask for nothing
passed-asks : (harts n : ℕ) (parts : List Part) → passed n parts ≡ AtEnd → asked harts n parts ≡ asks_none AtEnd
passed-asks harts n [] is = asked-end harts n
passed-asks harts n (LongLine ∷ parts) is = let bad : AtFault (n + 1) LineTooLong ≡ AtEnd = sym (passed-long n parts) ∙ is in cc
passed-asks harts n (PastLimit ∷ parts) is = let bad : AtLimit ≡ AtEnd = sym (passed-past n parts) ∙ is in cc
passed-asks harts n (Line line ∷ parts) is = by (eventless_line line) refl (passed-asks harts (n + 1) parts) (sym (passed-line n line parts) ∙ is)
  where
    by : (told : Result (Unit {0}) ScheduleFault) → eventless_line line ≡ told → (passed (n + 1) parts ≡ AtEnd → asked harts (n + 1) parts ≡ asks_none AtEnd)
        → passed_with (n + 1) told (passed (n + 1) parts) ≡ AtEnd → asked harts n (Line line ∷ parts) ≡ asks_none AtEnd
    by (Ok done) tells others behind =
        asked-line harts n line parts ∙ ap (λ t. asks_with (n + 1) t (asked harts (n + 1) parts)) (skipped-asks harts line done tells)
        ∙ ap (asks_first []) (others behind)
    by (Err fault) tells others behind = let bad : AtFault (n + 1) fault ≡ AtEnd = behind in cc

-- the image of a listing behind which all lines were passed over is one of the input
is_image : (bytes : List ℕ) (listing : ListingValue) (last : ℕ) (rest : List Part) → ImagesAreRead → IsPacked listing → listing_of Header 1 (parts_of bytes) ≡ Good listing last rest
    → passed last rest ≡ AtEnd → IsImageOf bytes (course_output (lines_course pack_course (parts_of bytes))).text
is_image bytes listing last rest law packed listed passes =
    let image : (course_output (lines_course pack_course (parts_of bytes))).text ≡ image_of listing =
    ap (λ l. (course_output (listed_course pack_course l)).text) listed ∙ ap (λ e. (pack_output listing e).text) passes in
    let text : Output = record { text = listing_text listing; exit = Done } in
    let migrates : course_output (lines_course migrate_course (parts_of bytes)) ≡ text =
    ap (λ l. course_output (listed_course migrate_course l)) listed
    ∙ ap (λ a. course_output (migrated listing a)) (passed-asks listing.sizes.harts last rest passes)
    ∙ ap (λ t. let o : Output = record { text = t; exit = Done } in o) (append-nil (listing_text listing ++ []) ∙ append-nil (listing_text listing)) in
    λ fits.
    let read : unpacked (image_of listing) ≡ Ok listing = law listing packed (subst (λ i. length i ≤ input_limit) image fits) in
    ap (λ i. course_output (image_course i)) image ∙ ap (λ r. course_output (unpack_course r)) read ∙ sym migrates

-- an image was written only where all lines were passed over
output-done : (listing : ListingValue) (ending : Ending) → (pack_output listing ending).exit ≡ Done → ending ≡ AtEnd
output-done listing AtEnd done = refl
output-done listing (AtFault line fault) done = cc
output-done listing AtLimit done = cc

-- the same of the known bytes, where a call that was done wrote what they come to
pub bytes-image : (held mid : Option (List ℕ)) (first middle : Reader) (listing : ListingValue) → ImagesAreRead → IsPacked listing → first ≡ new_reader
    → IsListed Header (first.number + 1) (ahead first held) listing middle.number (ahead middle mid) → (taken taken' : Option (List ℕ)) (fetches fetches' : ℕ)
    → IfSome held (λ bytes. ComesTo taken taken' fetches fetches' Done cached (lines_course pack_course (parts_of bytes)))
    → IfSome held (λ bytes. IsImageOf bytes (course_output (lines_course pack_course (parts_of bytes))).text)
bytes-image None mid first middle listing law packed starts listed taken taken' fetches fetches' comes = tt
bytes-image (Some bytes) mid first middle listing law packed starts listed taken taken' fetches fetches' comes =
    let whole = comes.output.whole (record { read = λ bad. cc; write = λ bad. cc; memory = λ bad. cc }) in
    on_made (Some bytes) (ahead middle mid) listing middle.number (λ rest. Unit {0})
    (λ bytes. (lines_course pack_course (parts_of bytes)).last.exit ≡ Done → IsImageOf bytes (course_output (lines_course pack_course (parts_of bytes))).text)
    (λ bytes rest is all done.
    is_image bytes listing middle.number rest law packed is
    (output-done listing (passed middle.number rest) (sym (ap (λ l. (listed_course pack_course l).last.exit) is) ∙ done)))
    (subst (λ reader. IsListed Header (reader.number + 1) (ahead reader (Some bytes)) listing middle.number (ahead middle mid)) starts listed)
    (on_each (ahead middle mid) _ (λ parts known. tt)) (sym whole.0)
