-- What one line more asks for, and the events of what is asked for.
use Rattle.std.proofs.Common.{◌≡◌, ◌+◌, ◌∙◌, ◌∷◌, [], ℕ, List, Option, Some, None, Result, Ok, Err, refl, sym, ap, inl, inr, flat_map}
use Rattle.std.proofs.lemmas.List.Concat.{flat_map-cons}
use Rattle.coy_io.specs.Lines.{Part, Line, LongLine, PastLimit}
use Rattle.coy_io.specs.Reader.{Reader, ahead}
use Rattle.listing_read.specs.Schedule.{schedule_line}
use Rattle.listing_read.specs.declared.fault.ScheduleFault.{ScheduleFault}
use Rattle.listing_read.specs.declared.fault.ScheduleFault.TheVariants.{LineTooLong}
use Rattle.listing_read.specs.declared.schedule.Timed.{Timed}
use Rattle.schedule_replay.specs.Asked.{Asked, AskNone, AsksNext, asked, asks_first, asks_none, asks_with, of_line}
use Rattle.schedule_replay.specs.Events.{line_events}
use Rattle.schedule_replay.specs.Scheduled.{AtEnd, AtFault, AtLimit, Scheduled, JudgesTimed, asked_with, scheduled}
use Rattle.judged_lines.specs.Judged.{JudgesNext, Refuses}
use Rattle.judged_lines.specs.declared.stop.Stop.{Stop}
use Rattle.judged_lines.specs.declared.stop.Stop.TheVariants as stops
use Rattle.schedule_replay.proofs.ReadOn.{reads_on-line}
use Rattle.schedule_replay.proofs.Reading.{on_begun, on_given, on_none}
use Rattle.schedule_replay.proofs.Scheduled.{scheduled-end, scheduled-long, scheduled-past, scheduled-line}

module _ (harts n : ℕ) where
  pub asked-end : asked harts n [] ≡ asks_none AtEnd
  unfolding asked
  asked-end = refl

  pub asked-long : (parts : List Part) → asked harts n (LongLine ∷ parts) ≡ asks_none (AtFault (n + 1) LineTooLong)
  unfolding asked
  asked-long parts = refl

  pub asked-past : (parts : List Part) → asked harts n (PastLimit ∷ parts) ≡ asks_none AtLimit
  unfolding asked
  asked-past parts = refl

  pub asked-line : (line : List ℕ) (parts : List Part) → asked harts n (Line line ∷ parts) ≡ asks_with (n + 1) (schedule_line harts line) (asked harts (n + 1) parts)
  unfolding asked
  asked-line line parts = refl

-- ---- the next line

-- whatever it asks for
pub asks-next : (harts : ℕ) (old new : Reader) (held held' : Option (List ℕ)) (answer : Result (Option Timed) (Stop ScheduleFault))
    → JudgesNext (JudgesTimed harts) LineTooLong tt tt old new held held' answer → AsksNext harts old new held held' answer
asks-next harts old new held held' (Ok timed) next =
    reads_on-line (asked harts old.number) (λ rest. asks_first (of_line timed) (asked harts new.number rest)) old new held held' next.0
    (λ rest.
    asked-line harts old.number new.line rest
    ∙ ap (λ told. asks_with (old.number + 1) told (asked harts (old.number + 1) rest)) (sym next.1.0)
    ∙ ap (λ n. asks_first (of_line timed) (asked harts n rest)) (sym next.0.counted))
asks-next harts old new held held' (Err stops.End) next =
    on_none (ahead old held) (λ parts. asked harts old.number parts ≡ asks_none AtEnd) next.0.none (asked-end harts old.number)
asks-next harts old new held held' (Err (stops.Refused line fault)) next = by_cause next.1
  where
    by_cause : Refuses (JudgesTimed harts) LineTooLong tt tt old new held held' fault → AskNone harts old held (AtFault line fault)
    by_cause (inl long) =
        on_begun (ahead old held) LongLine (λ parts. asked harts old.number parts ≡ asks_none (AtFault line fault)) long.0
        (λ rest. asked-long harts old.number rest ∙ ap (λ f. asks_none (AtFault (old.number + 1) f)) (sym long.1) ∙ ap (λ n. asks_none (AtFault n fault)) (sym next.0))
    by_cause (inr r) =
        on_given (ahead old held) (ahead new held') (Line new.line ∷ []) (λ parts. asked harts old.number parts ≡ asks_none (AtFault line fault)) r.reads.line
        (λ rest same.
        asked-line harts old.number new.line rest
        ∙ ap (λ told. asks_with (old.number + 1) told (asked harts (old.number + 1) rest)) (sym r.judges.0)
        ∙ ap (λ n. asks_none (AtFault n fault)) (sym next.0))
asks-next harts old new held held' (Err stops.TooLong) next =
    on_begun (ahead old held) PastLimit (λ parts. asked harts old.number parts ≡ asks_none AtLimit) next.0 (λ rest. asked-past harts old.number rest)
asks-next harts old new held held' (Err stops.ReadFault) next = next.0

-- ---- the events of what is asked for

-- what is asked for, with the events that it stands for
abbrev pub events_of : ℕ → Asked → Scheduled
events_of harts all = record { events = flat_map (line_events harts) all.lines; ending = all.ending }

-- the lines ask for these events, and end as they do
pub scheduled-asked_for : (harts n : ℕ) (parts : List Part) → scheduled harts n parts ≡ events_of harts (asked harts n parts)
scheduled-asked_for harts n [] = scheduled-end harts n ∙ ap (events_of harts) (sym (asked-end harts n))
scheduled-asked_for harts n (LongLine ∷ parts) = scheduled-long harts n parts ∙ ap (events_of harts) (sym (asked-long harts n parts))
scheduled-asked_for harts n (PastLimit ∷ parts) = scheduled-past harts n parts ∙ ap (events_of harts) (sym (asked-past harts n parts))
scheduled-asked_for harts n (Line line ∷ parts) =
    scheduled-line harts n line parts ∙ ap (asked_with harts (n + 1) (schedule_line harts line)) (scheduled-asked_for harts (n + 1) parts)
    ∙ by (schedule_line harts line) (asked harts (n + 1) parts) ∙ ap (events_of harts) (sym (asked-line harts n line parts))
  where
    by : (told : Result (Option Timed) ScheduleFault) (behind : Asked) → asked_with harts (n + 1) told (events_of harts behind) ≡ events_of harts (asks_with (n + 1) told behind)
    by (Ok None) behind = refl
    by (Ok (Some timed)) behind = ap (λ events. let s : Scheduled = record { events = events; ending = behind.ending } in s) (sym (flat_map-cons (line_events harts) timed behind.lines))
    by (Err fault) behind = refl
