-- Counts of records, by parts.
use Rattle.std.proofs.Common.{◌≡◌, ◌<◌, ◌≤◌, ◌+◌, ◌∙◌, ℕ, Bool, true, false, List, [], ◌∷◌, ◌++◌, length, get_or, drop, not, cond, if◌then◌else◌, refl, sym, ap, arith}
use Rattle.machine_state.specs.declared.event.Event.{Event}
use Rattle.machine_state.specs.declared.record.Record.{Record}
use Rattle.machine_state.specs.declared.record.Record.TheVariants.{Access, Insn, Message, Fault, Log, Destroy, Halt}
use Rattle.std.proofs.lemmas.Bool.{false≢true}
use Rattle.kernel_core.specs.Noted.{is_detail, untraced}
use Rattle.kernel_core.proofs.Ran.{run_records-nil, run_records-append}
use Rattle.kernel_core.specs.Run.{run_state, run_records}
use Rattle.kernel_core.specs.State.{State}
use Rattle.std.proofs.lemmas.List.{length-append}
use Rattle.schedule_replay.specs.Counts.{how_many, and_more, events_alone, counts_of, is_message, is_fault, is_log, is_destroy, AreAtMost}
use Rattle.schedule_replay.specs.declared.counts.Counts.{Counts}
use Rattle.schedule_replay.proofs.Told.{records_at}

pub how_many-nil : (test : Record → Bool) → how_many test [] ≡ 0
unfolding how_many
how_many-nil test = refl

pub how_many-cons : (test : Record → Bool) (entry : Record) (entries : List Record) → how_many test (entry ∷ entries) ≡ (if test entry then 1 else 0) + how_many test entries
unfolding how_many
how_many-cons test entry entries = refl

pub how_many-append : (test : Record → Bool) (first second : List Record) → how_many test (first ++ second) ≡ how_many test first + how_many test second
unfolding how_many
how_many-append test [] second = omega arith
how_many-append test (entry ∷ first) second = let rest = how_many-append test first second in omega (arith, rest)

-- counts that are the same number by number
counts-same : (a b : Counts) → a.events ≡ b.events → a.messages ≡ b.messages → a.faults ≡ b.faults → a.logs ≡ b.logs → a.destroys ≡ b.destroys → a ≡ b
counts-same a b e m f l d = rw (e, m, f, l, d) refl

-- nothing more
pub and_more-none : (counts : Counts) (told : List Record) → told ≡ [] → and_more counts 0 told ≡ counts
and_more-none counts told none =
    let zero : (test : Record → Bool) → how_many test told ≡ 0 = λ test. ap (how_many test) none ∙ how_many-nil test in
    let m = zero is_message in let f = zero is_fault in let l = zero is_log in let d = zero is_destroy in
    counts-same (and_more counts 0 told) counts (omega arith) (omega (arith, m)) (omega (arith, f)) (omega (arith, l)) (omega (arith, d))

-- an access or an instruction is of none of the four kinds
no_kind : (entry : Record) → is_detail entry ≡ true → (is_message entry ≡ false) × ((is_fault entry ≡ false) × ((is_log entry ≡ false) × (is_destroy entry ≡ false)))
no_kind (Access _ _ _ _) detail = (refl, (refl, (refl, refl)))
no_kind (Insn _ _ _) detail = (refl, (refl, (refl, refl)))
no_kind (Message _ _ _ _ _ _ _) detail = absurd (false≢true detail)
no_kind (Fault _ _ _ _) detail = absurd (false≢true detail)
no_kind (Log _ _) detail = absurd (false≢true detail)
no_kind (Destroy _ _) detail = absurd (false≢true detail)
no_kind (Halt _) detail = absurd (false≢true detail)

-- a kind that no access and no instruction is of is counted by the other records
how_many-untraced : (test : Record → Bool) → ((entry : Record) → is_detail entry ≡ true → test entry ≡ false) → (entries : List Record) → how_many test (untraced entries) ≡ how_many test entries
how_many-untraced test passes [] = refl
how_many-untraced test passes (entry ∷ entries) = by (how_many-untraced test passes entries) (is_detail entry) refl
  where
    by : how_many test (untraced entries) ≡ how_many test entries → (b : Bool) → is_detail entry ≡ b
        → how_many test (cond (not b) (entry ∷ untraced entries) (untraced entries)) ≡ how_many test (entry ∷ entries)
    by rest true is =
        let all = how_many-cons test entry entries ∙ ap (λ b. (if b then 1 else 0) + how_many test entries) (passes entry is) in
        omega (arith, rest, all)
    by rest false is = how_many-cons test entry (untraced entries) ∙ (ap (λ n. (if test entry then 1 else 0) + n) rest ∙ sym (how_many-cons test entry entries))

-- so the other records count as all do
pub and_more-untraced : (counts : Counts) (events : ℕ) (entries : List Record) → and_more counts events (untraced entries) ≡ and_more counts events entries
and_more-untraced counts events entries =
    let alike : (test : Record → Bool) → ((entry : Record) → is_detail entry ≡ true → test entry ≡ false) → how_many test (untraced entries) ≡ how_many test entries =
    λ test passes. how_many-untraced test passes entries in
    let m = alike is_message (λ e d. (no_kind e d).0) in let f = alike is_fault (λ e d. (no_kind e d).1.0) in
    let l = alike is_log (λ e d. (no_kind e d).1.1.0) in let d = alike is_destroy (λ e d. (no_kind e d).1.1.1) in
    counts-same _ (and_more counts events entries) refl (omega (arith, m)) (omega (arith, f)) (omega (arith, l)) (omega (arith, d))

-- some, and then more
pub and_more-append : (counts : Counts) (n k : ℕ) (first second : List Record) → and_more (and_more counts n first) k second ≡ and_more counts (n + k) (first ++ second)
and_more-append counts n k first second =
    let m = how_many-append is_message first second in let f = how_many-append is_fault first second in
    let l = how_many-append is_log first second in let d = how_many-append is_destroy first second in
    counts-same (and_more (and_more counts n first) k second) (and_more counts (n + k) (first ++ second))
    (omega arith) (omega (arith, m)) (omega (arith, f)) (omega (arith, l)) (omega (arith, d))

-- those from one on are its own and those behind it
pub and_more-at : (counts : Counts) (entries : List Record) (i : ℕ) (entry : Record) → i < length entries → entry ≡ get_or entries i entry
    → and_more (and_more counts 0 (entry ∷ [])) 0 (drop (i + 1) entries) ≡ and_more counts 0 (drop i entries)
and_more-at counts entries i entry within same =
    and_more-append counts 0 0 (entry ∷ []) (drop (i + 1) entries) ∙ ap (and_more counts 0) (sym (records_at entries i entry within same))

-- ---- the counts of a run

pub counts_of-nil : (s : State) → counts_of s [] ≡ events_alone 0
counts_of-nil s = and_more-none (events_alone 0) (run_records s []) (run_records-nil s)

pub counts_of-append : (s : State) (first second : List Event) → and_more (counts_of s first) (length second) (run_records (run_state s first) second) ≡ counts_of s (first ++ second)
counts_of-append s first second =
    and_more-append (events_alone 0) (length first) (length second) (run_records s first) (run_records (run_state s first) second)
    ∙ ap (λ n. and_more (events_alone 0) n (run_records s first ++ run_records (run_state s first) second)) (sym (length-append first second))
    ∙ ap (and_more (events_alone 0) (length (first ++ second))) (sym (run_records-append s first second))

-- a smaller bound is a bound
pub at_most-trans : (a b : ℕ) (counts : Counts) → a ≤ b → AreAtMost a counts → AreAtMost b counts
at_most-trans a b counts less most = record {
  events = let e = most.events in omega (arith, e, less);
  messages = let e = most.messages in omega (arith, e, less);
  faults = let e = most.faults in omega (arith, e, less);
  logs = let e = most.logs in omega (arith, e, less);
  destroys = let e = most.destroys in omega (arith, e, less);
}
