-- Line by line, what the lines behind a listing ask for.
use Rattle.std.proofs.Common.{◌≡◌, ◌+◌, ◌∙◌, ◌∷◌, ◌++◌, [], ℕ, List, Option, Result, Ok, Err, refl, sym, ap, subst, inl, inr, IfOk, IfSome, append_assoc}
use Rattle.coy_io.specs.Lines.{Part, Line, LongLine, PastLimit}
use Rattle.coy_io.specs.Reader.{Reader, ahead}
use Rattle.machine_state.specs.declared.event.Event.{Event}
use Rattle.listing_read.specs.Schedule.{IsTimed, schedule_line}
use Rattle.listing_read.specs.declared.fault.ScheduleFault.{ScheduleFault}
use Rattle.listing_read.specs.declared.fault.ScheduleFault.TheVariants.{LineTooLong}
use Rattle.listing_read.specs.declared.schedule.Timed.{Timed}
use Rattle.judged_lines.specs.Judged.{JudgesNext, Refuses}
use Rattle.judged_lines.specs.declared.stop.Stop.{Stop}
use Rattle.judged_lines.specs.declared.stop.Stop.TheVariants as stops
use Rattle.schedule_replay.specs.Scheduled.{Scheduled, AtEnd, AtFault, AtLimit, ends, preceded, asked_events, asked_with, scheduled, Reads, EndHere, IsNextLine, JudgesTimed}
use Rattle.schedule_replay.proofs.ReadOn.{reads_on-line, reads_on-map, reads_on-same, reads_on-trans}
use Rattle.schedule_replay.proofs.Reading.{on_begun, on_given, on_none}

-- ---- what lines ask for

pub preceded-append : (first second : List Event) (all : Scheduled) → preceded first (preceded second all) ≡ preceded (first ++ second) all
preceded-append first second all = ap (λ events. record all { events = events }) (sym (append_assoc first second all.events))

module _ (harts n : ℕ) where
  pub scheduled-end : scheduled harts n [] ≡ ends AtEnd
  unfolding scheduled
  scheduled-end = refl

  pub scheduled-long : (parts : List Part) → scheduled harts n (LongLine ∷ parts) ≡ ends (AtFault (n + 1) LineTooLong)
  unfolding scheduled
  scheduled-long parts = refl

  pub scheduled-past : (parts : List Part) → scheduled harts n (PastLimit ∷ parts) ≡ ends AtLimit
  unfolding scheduled
  scheduled-past parts = refl

  pub scheduled-line : (line : List ℕ) (parts : List Part) → scheduled harts n (Line line ∷ parts) ≡ asked_with harts (n + 1) (schedule_line harts line) (scheduled harts (n + 1) parts)
  unfolding scheduled
  scheduled-line line parts = refl

  -- a line that is no fault
  pub scheduled-asked : (n1 : ℕ) (line : List ℕ) (asked : Option Timed) (parts : List Part) → schedule_line harts line ≡ Ok asked → n1 ≡ n + 1
      → scheduled harts n (Line line ∷ parts) ≡ preceded (asked_events harts asked) (scheduled harts n1 parts)
  scheduled-asked n1 line asked parts is next =
      scheduled-line line parts ∙ ap (λ a. asked_with harts (n + 1) a (scheduled harts (n + 1) parts)) is
      ∙ ap (λ k. preceded (asked_events harts asked) (scheduled harts k parts)) (sym next)

  -- and one that is
  pub scheduled-refused : (line : List ℕ) (fault : ScheduleFault) (parts : List Part) → schedule_line harts line ≡ Err fault
      → scheduled harts n (Line line ∷ parts) ≡ ends (AtFault (n + 1) fault)
  scheduled-refused line fault parts is =
      scheduled-line line parts ∙ ap (λ a. asked_with harts (n + 1) a (scheduled harts (n + 1) parts)) is

-- ---- lines that were read

-- the next line, whatever it asks for
pub next-line : (harts : ℕ) (old new : Reader) (held held' : Option (List ℕ)) (answer : Result (Option Timed) (Stop ScheduleFault))
    → JudgesNext (JudgesTimed harts) LineTooLong tt tt old new held held' answer → IsNextLine harts old new held held' answer
next-line harts old new held held' (Ok asked) next =
    reads_on-line (scheduled harts old.number) (λ rest. preceded (asked_events harts asked) (scheduled harts new.number rest)) old new held held' next.0
    (λ rest. scheduled-asked harts old.number new.number new.line asked rest (sym next.1.0) next.0.counted)
next-line harts old new held held' (Err stops.End) next =
    on_none (ahead old held) (λ parts. scheduled harts old.number parts ≡ ends AtEnd) next.0.none (scheduled-end harts old.number)
next-line harts old new held held' (Err (stops.Refused line fault)) next = by_cause next.1
  where
    by_cause : Refuses (JudgesTimed harts) LineTooLong tt tt old new held held' fault → EndHere harts old held (AtFault line fault)
    by_cause (inl long) =
        on_begun (ahead old held) LongLine (λ parts. scheduled harts old.number parts ≡ ends (AtFault line fault)) long.0
        (λ rest. scheduled-long harts old.number rest ∙ ap (λ f. ends (AtFault (old.number + 1) f)) (sym long.1) ∙ ap (λ n. ends (AtFault n fault)) (sym next.0))
    by_cause (inr r) =
        on_given (ahead old held) (ahead new held') (Line new.line ∷ []) (λ parts. scheduled harts old.number parts ≡ ends (AtFault line fault)) r.reads.line
        (λ rest same. scheduled-refused harts old.number new.line fault rest (sym r.judges.0) ∙ ap (λ n. ends (AtFault n fault)) (sym next.0))
next-line harts old new held held' (Err stops.TooLong) next =
    on_begun (ahead old held) PastLimit (λ parts. scheduled harts old.number parts ≡ ends AtLimit) next.0 (λ rest. scheduled-past harts old.number rest)
next-line harts old new held held' (Err stops.ReadFault) next = next.0

-- what is asked for is in the ranges of a machine with so many harts
pub next-timed : (harts : ℕ) (old new : Reader) (held held' : Option (List ℕ)) (answer : Result (Option Timed) (Stop ScheduleFault))
    → JudgesNext (JudgesTimed harts) LineTooLong tt tt old new held held' answer → IfOk answer (λ asked. IfSome asked (IsTimed harts))
next-timed harts old new held held' (Ok asked) next = next.1.1
next-timed harts old new held held' (Err stop) next = tt

-- lines, and then others
pub reads-trans : (harts : ℕ) (old mid new : Reader) (held held' held'' : Option (List ℕ)) (first second : List Event)
    → Reads harts old mid held held' first → Reads harts mid new held' held'' second → Reads harts old new held held'' (first ++ second)
reads-trans harts old mid new held held' held'' first second a b =
    reads_on-same (scheduled harts old.number) _ (λ rest. preceded (first ++ second) (scheduled harts new.number rest)) old new held held''
    (λ rest. preceded-append first second (scheduled harts new.number rest))
    (reads_on-trans (scheduled harts old.number) (λ rest. preceded first (scheduled harts mid.number rest)) (λ rest. preceded first (preceded second (scheduled harts new.number rest))) old mid new held held' held''
    a (reads_on-map (preceded first) (scheduled harts mid.number) (λ rest. preceded second (scheduled harts new.number rest)) mid new held' held'' b))

-- by another name of their events
pub reads-same : (harts : ℕ) (old new : Reader) (held held' : Option (List ℕ)) (events others : List Event) → events ≡ others
    → Reads harts old new held held' events → Reads harts old new held held' others
reads-same harts old new held held' events others same r = subst (Reads harts old new held held') same r
