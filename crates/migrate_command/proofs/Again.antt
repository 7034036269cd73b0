-- The migrated text is read as the same statements and events.
use Rattle.std.proofs.Common.{◌≡◌, ◌+◌, ◌∙◌, ◌∷◌, ◌++◌, [], ℕ, List, map, length, Option, IfSome, Result, Ok, refl, sym, ap, subst, ◌≤◌, append-nil}
use Rattle.std.specs.List.{All}
use Rattle.std.proofs.lemmas.List.Elements.{All-head, All-tail}
use Rattle.coy_io.specs.Lines.{Part, parts_of}
use Rattle.coy_io.specs.Reader.{Reader, new_reader, ahead}
use Rattle.coy_io.specs.Limits.{input_limit}
use Rattle.listing_read.specs.Listing.{Good, IsListed, listing_of}
use Rattle.listing_read.specs.declared.place.Place.TheVariants.{Header}
use Rattle.listing_read.specs.Schedule.{IsTimed}
use Rattle.listing_read.specs.Statement.{IsTyped, IsListing, ListingValue}
use Rattle.listing_read.specs.declared.schedule.Timed.{Timed}
use Rattle.statement_text.specs.Laws.{event_part, EventsAreRead, MigratedIsRead}
use Rattle.statement_text.specs.Text.{event_line, events_text, listing_text}
use Rattle.schedule_replay.specs.Asked.{asked, asks_first, asks_with}
use Rattle.schedule_replay.specs.Scheduled.{AtEnd, OnParts, scheduled}
use Rattle.schedule_replay.proofs.Asked.{asked-end, asked-line, events_of, scheduled-asked_for}
use Rattle.courses.proofs.Bytes.{on_made}
use Rattle.courses.specs.Course.{course_output}
use Rattle.courses.specs.Listed.{listed_course, lines_course}
use Rattle.courses.specs.Migrated.{migrate_course, migrated}
use Rattle.migrate_command.specs.Migrate.{Accords, PutsLines}
use Rattle.schedule_replay.proofs.Reading.{on_all}
use Rattle.listing_read.specs.declared.fault.ScheduleFault.{ScheduleFault}
use Rattle.judged_lines.specs.declared.stop.Stop.{Stop}
use Rattle.judged_lines.specs.declared.stop.Stop.TheVariants as stops
use Rattle.migrate_command.specs.Same.{IsMigrated, ReadsAgain, Says}

-- the lines of what is asked for ask for it
asked-parts : EventsAreRead → (harts : ℕ) → harts ≤ 8 → (lines : List Timed) → All (IsTimed harts) lines → (n : ℕ) → asked harts n (map event_part lines) ≡ record { lines = lines; ending = AtEnd }
asked-parts law harts few [] timed n = asked-end harts n
asked-parts law harts few (x ∷ xs) timed n =
    asked-line harts n (event_line x) (map event_part xs)
    ∙ ap (λ t. asks_with (n + 1) t (asked harts (n + 1) (map event_part xs))) (law harts x few (All-head (IsTimed harts) x xs timed))
    ∙ ap (asks_first (x ∷ [])) (asked-parts law harts few xs (All-tail (IsTimed harts) x xs timed) (n + 1))

-- what was asked for by lines behind a listing is asked for again by its text
pub reads_again : MigratedIsRead → EventsAreRead → (listing : ListingValue) → IsListing listing → All IsTyped listing.statements → (lines : List Timed) → All (IsTimed listing.sizes.harts) lines
    → (last : ℕ) (rest : List Part) → asked listing.sizes.harts last rest ≡ record { lines = lines; ending = AtEnd } → ReadsAgain listing last rest
reads_again law events listing is typed lines timed last rest asks =
    let harts : ℕ = listing.sizes.harts in
    let n : ℕ = 3 + length listing.statements in
    let one : scheduled harts last rest ≡ events_of harts (record { lines = lines; ending = AtEnd }) = scheduled-asked_for harts last rest ∙ ap (events_of harts) asks in
    let other : scheduled harts n (map event_part lines) ≡ events_of harts (record { lines = lines; ending = AtEnd }) =
    scheduled-asked_for harts n (map event_part lines) ∙ ap (events_of harts) (asked-parts events harts is.limits.harts lines timed n) in
    record {
      lines = lines;
      asks = asks;
      again = λ fits. record {
        last = n;
        rest = map event_part lines;
        listed = law listing lines is typed timed fits;
        asked = other ∙ sym one;
        whole = ap (λ all. all.ending) one;
      };
    }

-- where all lines were written, their text is read again
pub puts-again : {E : Type 0} (old new : Reader) (held held' taken taken' : Option (List ℕ)) (answer : Result (Stop ScheduleFault) E) (listing : ListingValue) → MigratedIsRead → EventsAreRead → IsListing listing
    → All IsTyped listing.statements → answer ≡ Ok stops.End → PutsLines listing.sizes.harts old new held held' taken taken' answer
    → OnParts (ahead old held) (λ parts. ReadsAgain listing old.number parts)
puts-again old new held held' taken taken' answer listing law events is typed end puts =
    on_all (ahead old held) _ _
    (λ parts accords. reads_again law events listing is typed puts.lines puts.timed old.number parts
    (subst (λ a. Accords a puts.lines (asked listing.sizes.harts old.number parts)) end accords)) puts.known

-- what an input says that makes this listing and these lines, its migrated text says
pub is_migrated : (bytes : List ℕ) (listing : ListingValue) (last : ℕ) (rest : List Part) → listing_of Header 1 (parts_of bytes) ≡ Good listing last rest → ReadsAgain listing last rest
    → IsMigrated bytes (course_output (lines_course migrate_course (parts_of bytes))).text
is_migrated bytes listing last rest listed again =
    let lines : List Timed = again.lines in
    let text : (course_output (lines_course migrate_course (parts_of bytes))).text ≡ listing_text listing ++ events_text lines =
    ap (λ l. (course_output (listed_course migrate_course l)).text) listed
    ∙ ap (λ a. (course_output (migrated listing a)).text) again.asks
    ∙ append-nil (listing_text listing ++ events_text lines) in
    λ fits.
    let told = again.again (subst (λ t. length t ≤ input_limit) text fits) in
    record {
      listing = listing;
      all = scheduled listing.sizes.harts last rest;
      one = record { last = last; rest = rest; listed = listed; asked = refl; whole = told.whole };
      other = subst (λ t. Says t listing (scheduled listing.sizes.harts last rest)) (sym text) told;
    }

-- the same of the known bytes
pub bytes-migrated : (held mid : Option (List ℕ)) (first middle : Reader) (listing : ListingValue) → first ≡ new_reader
    → IsListed Header (first.number + 1) (ahead first held) listing middle.number (ahead middle mid)
    → OnParts (ahead middle mid) (λ parts. ReadsAgain listing middle.number parts)
    → IfSome held (λ bytes. IsMigrated bytes (course_output (lines_course migrate_course (parts_of bytes))).text)
bytes-migrated held mid first middle listing starts listed again =
    on_made held (ahead middle mid) listing middle.number (λ parts. ReadsAgain listing middle.number parts) (λ bytes. IsMigrated bytes (course_output (lines_course migrate_course (parts_of bytes))).text)
    (λ bytes rest is all. is_migrated bytes listing middle.number rest is all)
    (subst (λ reader. IsListed Header (reader.number + 1) (ahead reader held) listing middle.number (ahead middle mid)) starts listed) again
