-- The lines of records, by parts.
use Rattle.std.proofs.Common.{◌≡◌, ◌≢◌, ◌<◌, ◌+◌, ℕ, suc, Bool, true, false, not, cond, if◌then◌else◌, List, [], ◌∷◌, ◌++◌, length, get_or, drop, refl, sym, ap, ◌∙◌, append_assoc, append-nil, arith}
use Rattle.std.proofs.lemmas.Bool.{and_parts, false≢true}
use Rattle.std.specs.List.{list_all}
use Rattle.std.proofs.Math.Seq.{drop-cons}
use Rattle.machine_state.specs.declared.event.Event.{Event}
use Rattle.machine_state.specs.declared.record.Record.{Record}
use Rattle.kernel_core.specs.Event.{event_of}
use Rattle.kernel_core.proofs.Ran.{run_records-nil, run_records-cons, run_records-append}
use Rattle.kernel_core.specs.Run.{run_state, run_records}
use Rattle.kernel_core.specs.State.{State}
use Rattle.schedule_replay.specs.declared.mode.Mode.{Mode}
use Rattle.schedule_replay.specs.declared.mode.Mode.TheVariants.{Silent, Records, Trace}
use Rattle.run_text.specs.Record.{record_text}
use Rattle.kernel_core.specs.Noted.{is_detail, untraced}
use Rattle.schedule_replay.specs.Told.{are_untold, line_of, lines_of, lines_told}

pub lines_of-nil : (mode : Mode) → lines_of mode [] ≡ []
unfolding lines_of
lines_of-nil mode = refl

pub lines_of-cons : (mode : Mode) (entry : Record) (entries : List Record) → lines_of mode (entry ∷ entries) ≡ line_of mode entry ++ lines_of mode entries
unfolding lines_of
lines_of-cons mode entry entries = refl

pub lines_of-append : (mode : Mode) (first second : List Record) → lines_of mode (first ++ second) ≡ lines_of mode first ++ lines_of mode second
unfolding lines_of
lines_of-append mode [] second = refl
lines_of-append mode (entry ∷ first) second =
    ap (λ rest. line_of mode entry ++ rest) (lines_of-append mode first second)
    ∙ sym (append_assoc (line_of mode entry) (lines_of mode first) (lines_of mode second))

-- the records from one on
pub records_at : (entries : List Record) (i : ℕ) (entry : Record) → i < length entries → entry ≡ get_or entries i entry
    → drop i entries ≡ entry ∷ drop (i + 1) entries
records_at entries i entry within same =
    let next : suc i ≡ i + 1 = omega arith in
    drop-cons entries i entry within ∙ ap (λ e. e ∷ drop (suc i) entries) (sym same) ∙ ap (λ k. entry ∷ drop k entries) next

-- the lines of the records from one on are its own line and those behind it
pub lines_at : (mode : Mode) (entries : List Record) (i : ℕ) (entry : Record) → i < length entries → entry ≡ get_or entries i entry
    → lines_of mode (drop i entries) ≡ line_of mode entry ++ lines_of mode (drop (i + 1) entries)
lines_at mode entries i entry within same = ap (lines_of mode) (records_at entries i entry within same) ∙ lines_of-cons mode entry (drop (i + 1) entries)

-- a silent run tells nothing
pub silent_untold : (entries : List Record) → lines_of Silent entries ≡ []
unfolding lines_of
silent_untold [] = refl
silent_untold (entry ∷ entries) = silent_untold entries

-- of accesses and instructions a run tells nothing
details_untold : (entries : List Record) → list_all is_detail entries ≡ true → lines_of Records entries ≡ []
unfolding lines_of
details_untold [] all = refl
details_untold (entry ∷ entries) all =
    let parts = and_parts (is_detail entry) (list_all is_detail entries) all in
    ap (λ b. (if not b then record_text entry else []) ++ lines_of Records entries) parts.0
    ∙ details_untold entries parts.1

-- of these records nothing is told
pub untold : (mode : Mode) (entries : List Record) → are_untold mode entries ≡ true → lines_of mode entries ≡ []
untold Silent entries all = silent_untold entries
untold Records entries all = details_untold entries all
untold Trace entries all = absurd (false≢true all)

-- where no trace is written the lines are those of the other records
pub untraced_lines : (mode : Mode) → mode ≢ Trace → (entries : List Record) → lines_of mode (untraced entries) ≡ lines_of mode entries
untraced_lines Trace other entries = absurd (other refl)
untraced_lines Silent other entries = silent_untold (untraced entries) ∙ sym (silent_untold entries)
untraced_lines Records other [] = refl
untraced_lines Records other (entry ∷ entries) = by (untraced_lines Records other entries) (is_detail entry) refl
  where
    by : lines_of Records (untraced entries) ≡ lines_of Records entries → (b : Bool) → is_detail entry ≡ b
        → lines_of Records (cond (not b) (entry ∷ untraced entries) (untraced entries)) ≡ lines_of Records (entry ∷ entries)
    by rest true is = rest ∙ sym (lines_of-cons Records entry entries ∙ ap (λ b. (if not b then record_text entry else []) ++ lines_of Records entries) is)
    by rest false is = lines_of-cons Records entry (untraced entries) ∙ (ap (λ more. line_of Records entry ++ more) rest ∙ sym (lines_of-cons Records entry entries))

-- ---- the lines of events

pub told-nil : (mode : Mode) (s : State) → lines_told mode s [] ≡ []
told-nil mode s = ap (lines_of mode) (run_records-nil s) ∙ lines_of-nil mode

pub told-append : (mode : Mode) (s : State) (first second : List Event) → lines_told mode s (first ++ second) ≡ lines_told mode s first ++ lines_told mode (run_state s first) second
told-append mode s first second =
    ap (lines_of mode) (run_records-append s first second) ∙ lines_of-append mode (run_records s first) (run_records (run_state s first) second)

-- one event's records are those of its run
pub records-one : (s : State) (event : Event) → run_records s (event ∷ []) ≡ (event_of s event).records
records-one s event =
    run_records-cons s event [] ∙ ap (λ more. (event_of s event).records ++ more) (run_records-nil (event_of s event).state)
    ∙ append-nil (event_of s event).records
