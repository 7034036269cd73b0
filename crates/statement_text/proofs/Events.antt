-- The line of an event is read as that event, and the lines of a schedule behind a listing as its events.
use Rattle.std.proofs.Common.{ℕ, ◌≡◌, ◌+◌, ◌-◌, ◌<◌, ◌≤◌, List, [], ◌∷◌, ◌++◌, length, decimal, refl, sym, ap, ◌∙◌, arith, append_assoc, length-append}
use Rattle.std.specs.Prelude.{Ok, codes, map}
use Rattle.std.specs.List.{All}
use Rattle.std.proofs.lemmas.Bool.{le-leb, lt-ltb}
use Rattle.std.proofs.lemmas.List.Elements.{All-tail}
use Rattle.coy_text.proofs.NumeralLaws.{dec_of-decimal}
use Rattle.coy_io.specs.Limits.{line_limit, input_limit}
use Rattle.coy_io.specs.Lines.{Line, line_feed, parts}
use Rattle.coy_io.proofs.LineLaws.{parts-line_in_front}
use Rattle.listing_read.specs.Statement.{ListingValue}
use Rattle.listing_read.specs.Listing.{Good, listing_of}
use Rattle.listing_read.specs.Schedule.{IsTimed, hart_of, times_of, step_line, tick_line, round_line, timed_of, asked_by, schedule_line}
use Rattle.listing_read.specs.declared.place.Place.TheVariants.{Header}
use Rattle.listing_read.specs.declared.schedule.Timed.{Timed}
use Rattle.listing_read.specs.declared.schedule.Timed.TheVariants.{Step, Tick, Round}
use Rattle.listing_read.specs.declared.terms.Version.TheVariants.{Two}
use Rattle.statement_text.specs.Words.{event_words}
use Rattle.statement_text.specs.Text.{event_line, event_text, events_text, format_text, machine_text, statements_text, end_text, listing_text}
use Rattle.statement_text.specs.Laws.{event_part, EventsAreRead, MigratedIsRead}
use Rattle.statement_text.proofs.Lines.{printed-decimal, IsLine, line_is}
use Rattle.statement_text.proofs.Listed.{all_listed, listing_listed}

-- the words of an event make a line
event_is_line : (harts : ℕ) (event : Timed) → harts ≤ 8 → IsTimed harts event → IsLine (event_words event)
event_is_line harts (Step hart times) few is =
    line_is 64 (codes "step") (decimal hart ∷ decimal times ∷ []) refl (omega arith) (omega arith) (printed-decimal hart (omega (arith, is.0)), (printed-decimal times (omega (arith, is.2)), tt))
event_is_line harts (Tick hart) few is = line_is 64 (codes "tick") (decimal hart ∷ []) refl (omega arith) (omega arith) (printed-decimal hart (omega (arith, is)), tt)
event_is_line harts (Round times) few is = line_is 64 (codes "round") (decimal times ∷ []) refl (omega arith) (omega arith) (printed-decimal times (omega (arith, is.1)), tt)

-- a hart and a number of times
hart_of-decimal : (harts hart : ℕ) → harts ≤ 8 → hart < harts → hart_of harts (decimal hart) ≡ Ok hart
unfolding hart_of
hart_of-decimal harts hart few below = rw (dec_of-decimal hart (omega arith), lt-ltb hart harts below) refl

times_of-decimal : (times : ℕ) → 1 ≤ times → times ≤ 1000000 → times_of (decimal times) ≡ Ok times
unfolding times_of
times_of-decimal times some most = rw (dec_of-decimal times (omega arith), le-leb 1 times some, le-leb times 1000000 most) refl

pub event_reads : EventsAreRead
unfolding schedule_line asked_by timed_of step_line tick_line round_line
event_reads harts (Step hart times) few is =
    let line = event_is_line harts (Step hart times) few is in
    rw (le-leb (length (event_line (Step hart times))) line_limit line.short, line.visible, line.words_are, hart_of-decimal harts hart few is.0, times_of-decimal times is.1 is.2) refl
event_reads harts (Tick hart) few is =
    let line = event_is_line harts (Tick hart) few is in
    rw (le-leb (length (event_line (Tick hart))) line_limit line.short, line.visible, line.words_are, hart_of-decimal harts hart few is) refl
event_reads harts (Round times) few is =
    let line = event_is_line harts (Round times) few is in
    rw (le-leb (length (event_line (Round times))) line_limit line.short, line.visible, line.words_are, times_of-decimal times is.0 is.1) refl

-- the lines of a schedule
events_parts : (harts : ℕ) (events : List Timed) (room : ℕ) → harts ≤ 8 → All (IsTimed harts) events → length (events_text events) ≤ room → parts [] room (events_text events) ≡ map event_part events
unfolding parts
events_parts harts [] room few are fits = refl
events_parts harts (event ∷ events) room few are fits =
    let line = event_is_line harts event few (are 0 event (omega arith)) in
    let all = length-append (event_text event) (events_text events) in
    let this = length-append (event_line event) line_feed in
    ap (parts [] room) (append_assoc (event_line event) line_feed (events_text events))
    ∙ parts-line_in_front (event_line event) (events_text events) room line.whole line.short (omega arith)
    ∙ ap (λ ps. Line (event_line event) ∷ ps) (events_parts harts events (room - (length (event_line event) + 1)) few (All-tail (IsTimed harts) event events are) (omega arith))

-- the migrated text in front of others
in_front : (listing : ListingValue) (rest : List ℕ) → listing_text listing ++ rest ≡ format_text Two ++ (machine_text listing.sizes ++ (statements_text listing.statements ++ (end_text ++ rest)))
unfolding listing_text
in_front listing rest =
    append_assoc (format_text Two) (machine_text listing.sizes ++ (statements_text listing.statements ++ end_text)) rest
    ∙ ap (λ text. format_text Two ++ text)
    (append_assoc (machine_text listing.sizes) (statements_text listing.statements ++ end_text) rest
    ∙ ap (λ text. machine_text listing.sizes ++ text) (append_assoc (statements_text listing.statements) end_text rest))

pub migrated : MigratedIsRead
migrated listing events is typed timed fits =
    let sizes = listing.sizes in
    let text : List ℕ = statements_text listing.statements in
    let rest : List ℕ = events_text events in
    let same = in_front listing rest in
    let whole : length (format_text Two ++ (machine_text sizes ++ (text ++ (end_text ++ rest)))) ≤ input_limit = rw (sym same) fits in
    let one = length-append (format_text Two) (machine_text sizes ++ (text ++ (end_text ++ rest))) in
    let two = length-append (machine_text sizes) (text ++ (end_text ++ rest)) in
    let three = length-append text (end_text ++ rest) in
    let four = length-append end_text rest in
    ap (λ bytes. listing_of Header 1 (parts [] input_limit bytes)) same
    ∙ listing_listed Two sizes text listing.statements rest is.limits (all_listed sizes listing.statements is.limits is.statements typed) whole
    ∙ ap (Good listing (3 + length listing.statements))
    (events_parts sizes.harts events (input_limit - (length (format_text Two) + (length (machine_text sizes) + (length text + length end_text)))) is.limits.harts timed (omega arith))
