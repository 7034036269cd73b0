-- Line by line, what was asked for and written.
use Rattle.std.proofs.Common.{◌≡◌, ◌∙◌, ◌∷◌, ◌++◌, [], ℕ, List, Option, Some, None, IfSome, Result, Ok, Err, refl, sym, ap, subst, append_assoc, append-nil}
use Rattle.std.specs.List.{All}
use Rattle.std.proofs.lemmas.Grind.{flat_map-append}
use Rattle.std.proofs.lemmas.List.Elements.{All-append, All-cons, All-nil}
use Rattle.std.specs.Io.KnownBytes.{Appends}
use Rattle.std.proofs.KnownBytes.{Appends-nil, Appends-trans}
use Rattle.coy_io.specs.Pieces.{AppendsSome}
use Rattle.coy_io.specs.Reader.{Reader, ahead}
use Rattle.listing_read.specs.Schedule.{IsTimed}
use Rattle.listing_read.specs.declared.schedule.Timed.{Timed}
use Rattle.coy_io.proofs.Texts.{cut_behind}
use Rattle.statement_text.specs.Text.{event_text, events_text}
use Rattle.schedule_replay.specs.Asked.{Asked, AskNone, AsksNext, asked, asks_first, asks_none, of_line}
use Rattle.schedule_replay.specs.Lines.{FailsOn, ReadsOn}
use Rattle.schedule_replay.specs.Scheduled.{AtEnd, AtFault, AtLimit, Ending, OnParts}
use Rattle.listing_read.specs.declared.fault.ScheduleFault.{ScheduleFault}
use Rattle.judged_lines.specs.declared.stop.Stop.{Stop}
use Rattle.judged_lines.specs.declared.stop.Stop.TheVariants as stops
use Rattle.schedule_replay.proofs.Asked.{asked-end}
use Rattle.schedule_replay.proofs.ReadOn.{fails_on, on_lines, reads_on-map, reads_on-none, reads_on-same, reads_on-trans}
use Rattle.schedule_replay.proofs.Reading.{on_all, on_each}
use Rattle.migrate_command.specs.Migrate.{PutsLines}

-- what lines asked for so far was written
pub record SoFar (harts : ℕ) (old now : Reader) (held held' taken taken' : Option (List ℕ)) : Type 0 where
  pub lines : List Timed
  pub timed : All (IsTimed harts) lines
  pub reads : ReadsOn (asked harts old.number) (λ rest. asks_first lines (asked harts now.number rest)) old now held held'
  pub written : Appends taken taken' (events_text lines)

-- what one line asks for is one of a machine's
all_of : (harts : ℕ) (lines : List Timed) (timed : Option Timed) → All (IsTimed harts) lines → IfSome timed (IsTimed harts) → All (IsTimed harts) (lines ++ of_line timed)
all_of harts lines None all one = All-append (IsTimed harts) lines [] all (All-nil (IsTimed harts))
all_of harts lines (Some t) all one = All-append (IsTimed harts) lines (t ∷ []) all (All-cons (IsTimed harts) t [] one (All-nil (IsTimed harts)))

module _ (harts : ℕ) (old : Reader) (held taken : Option (List ℕ)) where
  -- nothing was read yet
  pub so_far-start : SoFar harts old old held held taken taken
  so_far-start = record { lines = []; timed = All-nil (IsTimed harts); reads = reads_on-none (asked harts old.number) old held; written = Appends-nil taken }

  module _ (mid : Reader) (held' taken' : Option (List ℕ)) (s : SoFar harts old mid held held' taken taken') where
    -- one line more
    pub so_far-more : (new : Reader) (held'' taken'' : Option (List ℕ)) (timed : Option Timed) → AsksNext harts mid new held' held'' (Ok timed)
        → IfSome timed (IsTimed harts) → Appends taken' taken'' (events_text (of_line timed)) → SoFar harts old new held held'' taken taken''
    so_far-more new held'' taken'' timed next one more = record {
      lines = s.lines ++ of_line timed;
      timed = all_of harts s.lines timed s.timed one;
      reads =
          reads_on-same (asked harts old.number) _ (λ rest. asks_first (s.lines ++ of_line timed) (asked harts new.number rest)) old new held held''
          (λ rest. ap (λ lines. let a : Asked = record { lines = lines; ending = (asked harts new.number rest).ending } in a) (sym (append_assoc s.lines (of_line timed) (asked harts new.number rest).lines)))
          (reads_on-trans (asked harts old.number) (λ rest. asks_first s.lines (asked harts mid.number rest)) (λ rest. asks_first s.lines (asks_first (of_line timed) (asked harts new.number rest))) old mid new held held' held''
          s.reads (reads_on-map (asks_first s.lines) (asked harts mid.number) (λ rest. asks_first (of_line timed) (asked harts new.number rest)) mid new held' held'' next));
      written = subst (Appends taken taken'') (sym (flat_map-append event_text s.lines (of_line timed))) (Appends-trans taken taken' taken'' (events_text s.lines) (events_text (of_line timed)) s.written more);
    }

    -- writing failed in the next one
    pub puts-cut : {E : Type 0} (fault : E) (new : Reader) (held'' taken'' : Option (List ℕ)) (timed : Option Timed) → AsksNext harts mid new held' held'' (Ok timed)
        → IfSome timed (IsTimed harts) → AppendsSome taken' taken'' (events_text (of_line timed)) → PutsLines {E = E} harts old new held held'' taken taken'' (Err fault)
    puts-cut fault new held'' taken'' timed next one some =
        let lines : List Timed = s.lines ++ of_line timed in
        record {
          lines = lines;
          timed = all_of harts s.lines timed s.timed one;
          known =
              on_lines (asked harts old.number) (λ rest. asks_first s.lines (asked harts mid.number rest)) old mid held held' (λ all. (rest : List Timed) × (all.lines ≡ lines ++ rest)) s.reads
              (on_lines (λ parts. asks_first s.lines (asked harts mid.number parts)) (λ rest. asks_first s.lines (asks_first (of_line timed) (asked harts new.number rest))) mid new held' held''
              (λ all. (rest : List Timed) × (all.lines ≡ lines ++ rest))
              (reads_on-map (asks_first s.lines) (asked harts mid.number) (λ rest. asks_first (of_line timed) (asked harts new.number rest)) mid new held' held'' next)
              (on_each (ahead new held'') _ (λ rest known. ((asked harts new.number rest).lines, sym (append_assoc s.lines (of_line timed) (asked harts new.number rest).lines)))));
          written = subst (AppendsSome taken taken'') (sym (flat_map-append event_text s.lines (of_line timed))) (cut_behind taken taken' taken'' (events_text s.lines) (events_text (of_line timed)) s.written some);
          fails = λ read. cc;
        }

    -- the lines end with nothing more that is asked for
    ends_so : (ending : Ending) → AskNone harts mid held' ending → OnParts (ahead old held) (λ parts. asked harts old.number parts ≡ record { lines = s.lines; ending = ending })
    ends_so ending none =
        on_lines (asked harts old.number) (λ rest. asks_first s.lines (asked harts mid.number rest)) old mid held held' (λ all. all ≡ record { lines = s.lines; ending = ending }) s.reads
        (on_all (ahead mid held') (λ rest. asked harts mid.number rest ≡ asks_none ending) (λ rest. asks_first s.lines (asked harts mid.number rest) ≡ record { lines = s.lines; ending = ending })
        (λ rest is. ap (asks_first s.lines) is ∙ ap (λ lines. let a : Asked = record { lines = lines; ending = ending } in a) (append-nil s.lines)) none)

    -- there is no further line
    pub puts-stop : {E : Type 0} (stop : Stop ScheduleFault) (new : Reader) (held'' : Option (List ℕ)) → AsksNext harts mid new held' held'' (Err stop)
        → PutsLines {E = E} harts old new held held'' taken taken' (Ok stop)
    puts-stop stops.End new held'' next = record { lines = s.lines; timed = s.timed; known = ends_so AtEnd next; written = s.written; fails = λ read. cc }
    puts-stop (stops.Refused line fault) new held'' next = record { lines = s.lines; timed = s.timed; known = ends_so (AtFault line fault) next; written = s.written; fails = λ read. cc }
    puts-stop stops.TooLong new held'' next = record { lines = s.lines; timed = s.timed; known = ends_so AtLimit next; written = s.written; fails = λ read. cc }
    puts-stop stops.ReadFault new held'' next = record {
      lines = s.lines;
      timed = s.timed;
      known =
          on_lines (asked harts old.number) (λ rest. asks_first s.lines (asked harts mid.number rest)) old mid held held' (λ all. (rest : List Timed) × (all.lines ≡ s.lines ++ rest)) s.reads
          (on_each (ahead mid held') _ (λ rest known. ((asked harts mid.number rest).lines, refl)));
      written = s.written;
      fails = λ read.
          subst (λ made. FailsOn (asked harts old.number) made old new held held'')
          (ap (asks_first s.lines) (asked-end harts mid.number) ∙ ap (λ lines. let a : Asked = record { lines = lines; ending = AtEnd } in a) (append-nil s.lines))
          (fails_on (asked harts old.number) (λ rest. asks_first s.lines (asked harts mid.number rest)) old mid new held held' held'' s.reads next);
    }

-- by another name of the number of harts
pub puts-harts : {E : Type 0} (harts harts' : ℕ) (old new : Reader) (held held' taken taken' : Option (List ℕ)) (answer : Result (Stop ScheduleFault) E) → harts ≡ harts'
    → PutsLines harts old new held held' taken taken' answer → PutsLines harts' old new held held' taken taken' answer
puts-harts harts harts' old new held held' taken taken' answer same puts = subst (λ n. PutsLines n old new held held' taken taken' answer) same puts
