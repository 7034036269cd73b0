-- From the lines that were written, to what the command did.
use Rattle.std.proofs.Common.{◌≡◌, ◌≢◌, ◌+◌, ◌∙◌, ◌++◌, [], ℕ, List, Option, true, Result, Ok, Err, refl, sym, ap, subst, append_assoc, arith}
use Rattle.std.proofs.lemmas.Grind.{flat_map-append}
use Rattle.std.specs.Io.KnownBytes.{Appends, IsAtEnd}
use Rattle.std.proofs.KnownBytes.{Appends-trans}
use Rattle.coy_io.specs.Causes.{HasCause, Rose}
use Rattle.coy_io.specs.Lines.{Part}
use Rattle.coy_io.specs.Pieces.{AppendsSome}
use Rattle.coy_io.specs.Reader.{Reader, ahead}
use Rattle.coy_io.proofs.Texts.{cut_before, cut_behind}
use Rattle.listing_read.specs.Statement.{ListingValue}
use Rattle.listing_read.specs.declared.fault.ScheduleFault.{ScheduleFault}
use Rattle.listing_read.specs.declared.schedule.Timed.{Timed}
use Rattle.statement_text.specs.Text.{event_text, events_text, listing_text}
use Rattle.judged_lines.specs.declared.stop.Stop.{Stop}
use Rattle.judged_lines.specs.declared.stop.Stop.TheVariants as stops
use Rattle.schedule_replay.specs.Asked.{Asked, asked}
use Rattle.schedule_replay.specs.Scheduled.{AtEnd, AtFault, AtLimit, Ending, OnParts}
use Rattle.schedule_replay.proofs.Reading.{on_all, on_each}
use Rattle.courses.specs.Course.{Course, cached, course_output}
use Rattle.courses.specs.Ending.{AwaitsMore}
use Rattle.courses.specs.Exit.{is_finished}
use Rattle.courses.specs.Migrated.{last_of, migrated}
use Rattle.courses.specs.declared.exit.Exit.{Exit}
use Rattle.courses.specs.declared.exit.Exit.TheVariants.{Done, OutOfMemory, WriteFault}
use Rattle.courses.proofs.Concluding.{Came, CameCut, CameUnread, CameWhole, Did, came-cut, came-unread, came-whole, takes-concluded}
use Rattle.migrate_command.specs.Migrate.{Accords, PutsLines, WritesLines, lines_exit}

-- where all was done, all lines were read
pub lines-done : {E : Type 0} (answer : Result (Stop ScheduleFault) E) → lines_exit answer ≡ Done → answer ≡ Ok stops.End
lines-done (Ok stops.End) done = refl
lines-done (Ok (stops.Refused line fault)) done = cc
lines-done (Ok stops.TooLong) done = cc
lines-done (Ok stops.ReadFault) done = cc
lines-done (Err fault) done = cc

-- and memory is never wanting for lines
pub lines-memory : {E : Type 0} (answer : Result (Stop ScheduleFault) E) → lines_exit answer ≢ OutOfMemory
lines-memory (Ok stops.End) same = cc
lines-memory (Ok (stops.Refused line fault)) same = cc
lines-memory (Ok stops.TooLong) same = cc
lines-memory (Ok stops.ReadFault) same = cc
lines-memory (Err fault) same = cc

module _ {S K : Type 0} (held : S → Option (List ℕ)) (source_faults : S → ℕ) (taken : K → Option (List ℕ)) (sink_faults : K → ℕ)
    (reader : Reader) (old : S) (start : K) (f : ℕ) (listing : ListingValue) where
  abbrev here : List Part → Course
  here parts = migrated listing (asked listing.sizes.harts reader.number parts)

  -- writing failed in the text of the listing
  pub takes-unlisted : (mid : K) → AppendsSome (taken start) (taken mid) (listing_text listing) → Rose (sink_faults start) (sink_faults mid)
      → Did held source_faults taken sink_faults reader reader old old start mid f f cached here mid f WriteFault
  takes-unlisted mid some rose =
      takes-concluded held source_faults taken sink_faults reader reader old old start mid f f cached here mid f WriteFault WriteFault
      (came-cut refl (record {
        front = on_each (ahead reader (held old)) _ (λ parts known.
            let all : Asked = asked listing.sizes.harts reader.number parts in (
              subst (AppendsSome (taken start) (taken mid)) (sym (append_assoc (listing_text listing) (events_text all.lines) (last_of all.ending).text))
                  (cut_before (taken start) (taken mid) (listing_text listing) (events_text all.lines ++ (last_of all.ending).text) some),
              omega arith,
            ));
        quiet = refl;
        rose = rose;
      })) (refl, refl) refl

  module _ {E : Type 0} (reader' : Reader) (new : S) (mid now : K) (answer : Result (Stop ScheduleFault) E) (listed : Appends (taken start) (taken mid) (listing_text listing))
      (puts : PutsLines listing.sizes.harts reader reader' (held old) (held new) (taken mid) (taken now) answer)
      (end : answer ≡ Ok stops.End → IsAtEnd (held new))
      (rose : answer ≡ Ok stops.ReadFault → Rose (source_faults old) (source_faults new)) (quiet : answer ≢ Ok stops.ReadFault → source_faults new ≡ source_faults old)
      (cause : HasCause (sink_faults start) (sink_faults now) answer) where
    abbrev Came_here : Exit → Type 0
    Came_here = Came held source_faults taken sink_faults reader reader' old new start now f f cached here

    none : cached [] ≡ 0
    none = refl

    abbrev LinesAccord : Result (Stop ScheduleFault) E → Type 0
    LinesAccord a = OnParts (ahead reader (held old)) (λ parts. Accords a puts.lines (asked listing.sizes.harts reader.number parts))

    -- all was written up to what is written last
    whole-at : (ending : Ending) → Appends (taken mid) (taken now) (events_text puts.lines)
        → OnParts (ahead reader (held old)) (λ parts. asked listing.sizes.harts reader.number parts ≡ record { lines = puts.lines; ending = ending })
        → (is_finished (last_of ending).exit ≡ true → IsAtEnd (held new)) → source_faults new ≡ source_faults old → sink_faults now ≡ sink_faults start
        → CameWhole held source_faults taken sink_faults reader reader' old new start now f f cached here (last_of ending) 0
    whole-at ending written known end quiet still = record {
      whole = on_all (ahead reader (held old)) _ _ (λ parts is. record {
        last = ap (λ (a : Asked). last_of a.ending) is;
        written = subst (λ (a : Asked). Appends (taken start) (taken now) (listing_text listing ++ events_text a.lines)) (sym is)
            (Appends-trans (taken start) (taken mid) (taken now) (listing_text listing) (events_text puts.lines) listed written);
        fetched = omega (arith, none);
        for_last = refl;
      }) known;
      end = end;
      quiet = quiet;
      still = still;
    }

    -- reading failed
    unread : Appends (taken mid) (taken now) (events_text puts.lines) → answer ≡ Ok stops.ReadFault → sink_faults now ≡ sink_faults start
        → CameUnread held source_faults taken sink_faults reader reader' old new start now f f cached here
    unread written is still =
        let fails = puts.fails is in
        record {
          stands = record {
            before = fails.before;
            going = fails.going;
            unfinished = fails.unfinished;
            given = fails.given;
            gives = fails.gives;
            goes_on = subst (λ (a : Asked). AwaitsMore (migrated listing a).last.exit) (sym fails.makes) refl;
            written = subst (λ (a : Asked). Appends (taken start) (taken now) (migrated listing a).records) (sym fails.makes)
                (Appends-trans (taken start) (taken mid) (taken now) (listing_text listing) (events_text puts.lines) listed written);
            fetched = subst (λ (a : Asked). f ≡ f + cached (migrated listing a).touches) (sym fails.makes) (omega (arith, none));
          };
          most = on_each (ahead reader (held old)) _ (λ parts known. omega arith);
          rose = rose is;
          still = still;
        }

    -- writing failed in the lines
    regroup : (a b c d : List ℕ) → (a ++ (b ++ c)) ++ d ≡ (a ++ b) ++ (c ++ d)
    regroup a b c d = simp append_assoc

    front-at : (all : Asked) (rest : List Timed) → all.lines ≡ puts.lines ++ rest → AppendsSome (taken mid) (taken now) (events_text puts.lines)
        → AppendsSome (taken start) (taken now) (course_output (migrated listing all)).text
    front-at all rest is some =
        subst (AppendsSome (taken start) (taken now))
        (sym (ap (λ l. (listing_text listing ++ events_text l) ++ (last_of all.ending).text) is
        ∙ ap (λ t. (listing_text listing ++ t) ++ (last_of all.ending).text) (flat_map-append event_text puts.lines rest)
        ∙ regroup (listing_text listing) (events_text puts.lines) (events_text rest) (last_of all.ending).text))
        (cut_before (taken start) (taken now) (listing_text listing ++ events_text puts.lines) (events_text rest ++ (last_of all.ending).text)
        (cut_behind (taken start) (taken mid) (taken now) (listing_text listing) (events_text puts.lines) listed some))

    -- what the lines came to, by the exit that they gave
    came-lines : (a : Result (Stop ScheduleFault) E) → answer ≡ a → LinesAccord a → WritesLines (taken mid) (taken now) a puts.lines → HasCause (sink_faults start) (sink_faults now) a
        → Came_here (lines_exit a)
    came-lines (Ok stops.End) is known written cause =
        came-whole (record { read = λ bad. cc; write = λ bad. cc; memory = λ bad. cc }) (λ bad. cc)
        (whole-at AtEnd written known (λ done. end is) (quiet (λ same. let bad = sym is ∙ same in cc)) cause.quiet)
    came-lines (Ok (stops.Refused line fault)) is known written cause =
        came-whole (record { read = λ bad. cc; write = λ bad. cc; memory = λ bad. cc }) (λ bad. cc)
        (whole-at (AtFault line fault) written known (λ done. cc) (quiet (λ same. let bad = sym is ∙ same in cc)) cause.quiet)
    came-lines (Ok stops.TooLong) is known written cause =
        came-whole (record { read = λ bad. cc; write = λ bad. cc; memory = λ bad. cc }) (λ bad. cc)
        (whole-at AtLimit written known (λ done. cc) (quiet (λ same. let bad = sym is ∙ same in cc)) cause.quiet)
    came-lines (Ok stops.ReadFault) is known written cause = came-unread refl (unread written is cause.quiet)
    came-lines (Err fault) is known written cause = came-cut refl (record {
      front = on_all (ahead reader (held old)) _ _ (λ parts more. (front-at (asked listing.sizes.harts reader.number parts) more.0 more.1 written, omega arith)) known;
      quiet = quiet (λ same. let bad = sym is ∙ same in cc);
      rose = cause.rose;
    })

    -- what the command did, which was concluded by that exit
    pub came-all : Came_here (lines_exit answer)
    came-all = came-lines answer refl puts.known puts.written cause
