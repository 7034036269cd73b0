-- From the lines of the input to its bytes.
use Rattle.std.proofs.Common.{◌≡◌, ◌+◌, ◌++◌, [], ℕ, List, Option, None, Some, IfSome, false, length, sym, ap, subst, arith}
use Rattle.std.specs.Io.KnownBytes.{Appends}
use Rattle.coy_io.specs.Lines.{Part, IsFront, parts_of, whole_lines}
use Rattle.coy_io.specs.Reader.{Reader, new_reader, ahead, bytes_ahead, GivesLines}
use Rattle.coy_io.proofs.GivenLaws.{GivesLines-trans, GivesLines-taken}
use Rattle.kernel_core.specs.Outcome.{Touch}
use Rattle.listing_read.specs.Statement.{ListingValue}
use Rattle.listing_read.specs.Listing.{Listed, Good, listing_of, IsListed}
use Rattle.listing_read.specs.Reads.{GivesListing, GivesFront}
use Rattle.listing_read.specs.declared.place.Place.TheVariants.{Header}
use Rattle.schedule_replay.specs.Scheduled.{OnParts}
use Rattle.courses.specs.Course.{ComesTo, Course, course_output}
use Rattle.courses.specs.Ending.{AwaitsMore, EndsNothing, Outputs}
use Rattle.courses.specs.Listed.{Behind, listed_course, lines_course}
use Rattle.courses.specs.Sure.{StandsOn, StandsSure}
use Rattle.courses.specs.declared.exit.Exit.{Exit}
use Rattle.courses.specs.declared.exit.Exit.TheVariants.{ImageRefused, ListingRefused}

-- what lines behind a listing don't end, all lines don't
ends-nothing : (lines : ℕ) (exit : Exit) → AwaitsMore exit → EndsNothing lines exit
ends-nothing lines (ListingRefused line fault) done = cc
ends-nothing lines (ImageRefused offset fault) done = cc
ends-nothing lines _ done = done

module _ (behind : Behind) (held held' taken taken' : Option (List ℕ)) (fetches fetches' : ℕ) (count : List Touch → ℕ) where
  -- what bytes come to by their whole lines
  abbrev whole : List ℕ → Course
  whole bytes = lines_course behind (whole_lines [] bytes)

  -- what so many lines come to goes on behind them, and was written and fetched
  record IsDone (lines : ℕ) (course : Course) : Type 0 where
    goes_on : EndsNothing lines course.last.exit
    written : Appends taken taken' course.records
    fetched : fetches' ≡ fetches + count course.touches

  -- the same of a listing
  abbrev Stands : ℕ → Listed → Type 0
  Stands lines listed = IsDone lines (listed_course behind listed)

  -- a new reader gave these lines, and what they make sure was done
  stands-given : (reader : Reader) (given : List Part) → reader.ended ≡ false → IsFront reader.rest
      → GivesLines (bytes_ahead new_reader held) (bytes_ahead reader held') given
      → Stands (length given) (listing_of Header 1 given) → StandsSure held held' taken taken' fetches fetches' count whole
  stands-given reader given going rest gives stands =
      let read = GivesLines-taken reader held held' given going rest.unfinished gives in
      let stands = subst (λ parts. Stands (length parts) (listing_of Header 1 parts)) (sym read.2) stands in
      record { writes = record { bytes = read.0; read = read.1; goes_on = stands.goes_on; written = stands.written }; fetched = stands.fetched }

  -- reading failed in the listing
  pub sure-listing : (first reader : Reader) → first ≡ new_reader → GivesFront first reader held held' → Appends taken taken' []
      → fetches' ≡ fetches → count [] ≡ 0 → StandsSure held held' taken taken' fetches fetches' count whole
  sure-listing first reader new front written same none =
      let front = subst (λ r. GivesFront r reader held held') new front in
      let number : reader.number ≡ length front.given = omega (arith, front.counted) in
      stands-given reader front.given front.unended front.unfinished front.gives
      (subst (Stands (length front.given)) (sym front.ends_early)
      (record { goes_on = ap (λ n. n + 1) number; written = written; fetched = omega (arith, same, none) }))

  -- reading failed behind it, in whole lines that end nothing, however many they are
  pub sure-going : (mid : Option (List ℕ)) (first middle reader : Reader) (listing : ListingValue) (given : List Part) → first ≡ new_reader
      → GivesListing first middle held mid listing → reader.ended ≡ false → IsFront reader.rest
      → GivesLines (bytes_ahead middle mid) (bytes_ahead reader held') given
      → ((lines : ℕ) → EndsNothing lines (behind listing middle.number given).last.exit)
      → Appends taken taken' (behind listing middle.number given).records
      → fetches' ≡ fetches + count (behind listing middle.number given).touches
      → StandsSure held held' taken taken' fetches fetches' count whole
  sure-going mid first middle reader listing given new listed going unfinished gives goes_on written fetched =
      let front = subst (λ r. GivesListing r middle held mid listing) new listed in
      let lines : ℕ = length (front.given ++ given) in
      let stands : IsDone lines (behind listing middle.number given) = record { goes_on = goes_on lines; written = written; fetched = fetched } in
      stands-given reader (front.given ++ given) going unfinished
      (GivesLines-trans _ _ _ front.given given front.gives gives)
      (subst (Stands lines) (sym (front.makes given)) stands)

  -- the same where they come to all that was asked for
  pub sure-behind : (mid : Option (List ℕ)) (first middle reader : Reader) (listing : ListingValue) → first ≡ new_reader
      → (middle.ended ≡ false → GivesListing first middle held mid listing)
      → StandsOn middle reader mid held' taken taken' fetches fetches' count (behind listing middle.number)
      → StandsSure held held' taken taken' fetches fetches' count whole
  sure-behind mid first middle reader listing new listed s =
      sure-going mid first middle reader listing s.given new (listed s.before) s.going s.unfinished s.gives
      (λ lines. ends-nothing lines (behind listing middle.number s.given).last.exit s.goes_on) s.written s.fetched

-- what follows of bytes whose lines make a listing, from what is so of the lines behind it, is so of the known bytes
pub on_made : (held : Option (List ℕ)) (left : Option (List Part)) (listing : ListingValue) (last : ℕ) (Q : List Part → Type 0) (P : List ℕ → Type 0)
    → ((bytes : List ℕ) (rest : List Part) → listing_of Header 1 (parts_of bytes) ≡ Good listing last rest → Q rest → P bytes)
    → IsListed Header 1 (ahead new_reader held) listing last left → OnParts left Q → IfSome held P
on_made None left listing last Q P follows listed all = tt
on_made (Some bytes) None listing last Q P follows listed all = absurd listed
on_made (Some bytes) (Some rest) listing last Q P follows listed all = follows bytes rest listed all

-- what is so of the known lines behind a listing is so of the known bytes
pub on_listed : (held : Option (List ℕ)) (left : Option (List Part)) (listing : ListingValue) (last : ℕ) (P : Listed → Type 0) → IsListed Header 1 (ahead new_reader held) listing last left
    → OnParts left (λ parts. P (Good listing last parts)) → IfSome held (λ bytes. P (listing_of Header 1 (parts_of bytes)))
on_listed held left listing last P listed all =
    on_made held left listing last (λ parts. P (Good listing last parts)) (λ bytes. P (listing_of Header 1 (parts_of bytes)))
    (λ bytes rest is one. subst P (sym is) one) listed all

-- what is so of what is done with the known lines is so of what the known bytes come to
pub on_bytes : (behind : Behind) (held mid : Option (List ℕ)) (first middle : Reader) (listing : ListingValue) (Q : Course → Type 0)
    → first ≡ new_reader → IsListed Header (first.number + 1) (ahead first held) listing middle.number (ahead middle mid)
    → OnParts (ahead middle mid) (λ parts. Q (behind listing middle.number parts))
    → IfSome held (λ bytes. Q (lines_course behind (parts_of bytes)))
on_bytes behind held mid first middle listing Q starts listed all =
    on_listed held (ahead middle mid) listing middle.number (λ listed. Q (listed_course behind listed))
    (subst (λ reader. IsListed Header (reader.number + 1) (ahead reader held) listing middle.number (ahead middle mid)) starts listed) all

-- what stands by what lines come to stands so by another name of that
pub stands_on-same : (old new : Reader) (held held' taken taken' : Option (List ℕ)) (fetches fetches' : ℕ) (count : List Touch → ℕ) (course other : List Part → Course)
    → ((parts : List Part) → course parts ≡ other parts) → StandsOn old new held held' taken taken' fetches fetches' count course
    → StandsOn old new held held' taken taken' fetches fetches' count other
stands_on-same old new held held' taken taken' fetches fetches' count course other same s = record {
  before = s.before;
  going = s.going;
  unfinished = s.unfinished;
  given = s.given;
  gives = s.gives;
  goes_on = subst (λ (c : Course). AwaitsMore c.last.exit) (same s.given) s.goes_on;
  written = subst (λ (c : Course). Appends taken taken' c.records) (same s.given) s.written;
  fetched = subst (λ (c : Course). fetches' ≡ fetches + count c.touches) (same s.given) s.fetched;
}

-- what is so of what lines come to is so of it by another name
pub on_parts-same : (left : Option (List Part)) (course other : List Part → Course) (Q : Course → Type 0) → ((parts : List Part) → course parts ≡ other parts)
    → OnParts left (λ parts. Q (course parts)) → OnParts left (λ parts. Q (other parts))
on_parts-same None course other Q same all = tt
on_parts-same (Some parts) course other Q same all = subst Q (same parts) all

-- what a call came to, without the slots that it fetched
pub known-output : (held taken taken' : Option (List ℕ)) (fetches fetches' : ℕ) (exit : Exit) (count : List Touch → ℕ) (course : List ℕ → Course)
    → IfSome held (λ bytes. ComesTo taken taken' fetches fetches' exit count (course bytes)) → IfSome held (λ bytes. Outputs taken taken' exit (course_output (course bytes)))
known-output None taken taken' fetches fetches' exit count course comes = tt
known-output (Some bytes) taken taken' fetches fetches' exit count course comes = comes.output
