-- States and places agree once a process was stopped, written or destroyed.
use Rattle.std.proofs.Common.{◌≡◌, ◌≢◌, ◌⊎◌, inl, inr, ℕ, ◌+◌, ◌<◌, ◌==◌, eqb, cond, true, false, List, [], ◌∷◌, length, get_or, set, refl, sym, ap, ◌∙◌, arith}
use Rattle.std.proofs.Math.ListN.{length-set}
use Rattle.std.proofs.lemmas.List.{get_or-set_same, get_or-set_other}
use Rattle.std.proofs.lemmas.Bool.Decides.{eqb_tells}
use Rattle.cap_format.specs.declared.kind.CapKind.TheVariants.{Process}
use Rattle.process_objects.specs.Process.{ProcessValue, empty_process}
use Rattle.object_store.specs.Store.{Store, process_at, with_process, emptied}
use Rattle.object_store.proofs.Lists.{get_or-set}
use Rattle.object_store.specs.Object.{ObjectValue, IsAmong, Stays}
use Rattle.object_store.specs.Object.ObjectValue.{OfPage, OfCapPage, OfGpt, OfProcess, OfEndpoint, OfNone}
use Rattle.schedules.specs.Queues.{QueuesValue, sleepers_of}
use Rattle.schedules.specs.Standing.{standing, times_in}
use Rattle.schedules.specs.Ready.{Runs, runs, runs_of, process_in, places_due, process_names, Agrees, AgreesBut}
use Rattle.schedules.proofs.Kept.{standing-unslept}

-- another process with the state of the one before
state_same : (ps : List ProcessValue) (p x : ℕ) (v : ProcessValue) → v.state ≡ (get_or ps p empty_process).state → (get_or (set ps p v) x empty_process).state ≡ (get_or ps x empty_process).state
state_same ps p x v same = elim (get_or-set ps p x v empty_process) [
  | inl here ↦ ap (λ (z : ProcessValue). z.state) here.1 ∙ (same ∙ ap (λ n. (get_or ps n empty_process).state) (sym here.0))
  | inr other ↦ ap (λ (z : ProcessValue). z.state) other
]

-- a process that is written and keeps its state stands where it stood
pub agrees_written : (s : Store) (q : QueuesValue) (p : ℕ) (v : ProcessValue) → v.state ≡ (process_at s p).state → Agrees (runs_of s q) → Agrees (runs_of (with_process s p v) q)
agrees_written s q p v same agrees = record {
  sizes = length-set s.contents.processes p v ∙ agrees.sizes;
  each = λ x h. agrees.each x (rw length-set at h) ∙ ap places_due (sym (state_same s.contents.processes p x v same));
}

-- a process that stands nowhere and gets a state that asks for no place
pub agrees_stopped : (s : Store) (q : QueuesValue) (p : ℕ) (v : ProcessValue) → p < length s.contents.processes → places_due v.state ≡ 0 → AgreesBut p (runs_of s q) → Agrees (runs_of (with_process s p v) q)
agrees_stopped s q p v there due but = record {
  sizes = length-set s.contents.processes p v ∙ but.sizes;
  each = λ x h. at x (rw length-set at h) (eqb_tells p x);
}
  where
    at : (x : ℕ) → x < length s.contents.processes → ((eqb p x ≡ true) × (p ≡ x)) ⊎ ((eqb p x ≡ false) × (p ≢ x)) → standing q x ≡ places_due (get_or (set s.contents.processes p v) x empty_process).state
    at x h (inl (t, e)) = rw (← e) (but.nowhere ∙ (sym due ∙ ap (λ (z : ProcessValue). places_due z.state) (sym (get_or-set_same s.contents.processes p v empty_process there))))
    at x h (inr (t, other)) = but.each x h (λ e. other (sym e)) ∙ ap (λ (z : ProcessValue). places_due z.state) (sym (get_or-set_other s.contents.processes p x v empty_process (λ e. other (sym e))))

-- one that asks for no place stands nowhere
pub nowhere_stopped : (r : Runs) (p : ℕ) → Agrees r → p < length r.processes → places_due (process_in r p).state ≡ 0 → standing r.queues p ≡ 0
nowhere_stopped r p agrees there due = agrees.each p there ∙ due

-- where all agree, all others do
pub agrees_but : (r : Runs) (p : ℕ) → Agrees r → standing r.queues p ≡ 0 → AgreesBut p r
agrees_but r p agrees nowhere = record { sizes = agrees.sizes; nowhere = nowhere; each = λ x h other. agrees.each x h }

-- a process that stands nowhere is destroyed
pub agrees_emptied : (s : Store) (q : QueuesValue) (p : ℕ) → p < length s.contents.processes → standing q p ≡ 0 → Agrees (runs_of s q) → Agrees (runs_of (emptied Process p s) q)
agrees_emptied s q p there nowhere agrees = agrees_stopped s q p empty_process there refl (agrees_but (runs_of s q) p agrees nowhere)

-- ---- a process that is not among those that are woken

-- one that stands nowhere sleeps on nobody
sleeps_nowhere : (q : QueuesValue) (p on : ℕ) → on < length q.sleepers → standing q p ≡ 0 → times_in p (sleepers_of q on) ≡ 0
sleeps_nowhere q p on there nowhere = omega (arith, standing-unslept q on p there, nowhere)

-- one that is in a list is in it at least once
among_times : (p : ℕ) (xs : List ℕ) → times_in p xs ≡ 0 → IsAmong Process p (process_names xs) → ⊥
among_times p [] none here = elim here [ ]
among_times p (x ∷ xs) none (inl here) = at (eqb_tells x p) none
  where
    at : ((eqb x p ≡ true) × (x ≡ p)) ⊎ ((eqb x p ≡ false) × (x ≢ p)) → cond (x == p) 1 0 + times_in p xs ≡ 0 → ⊥
    at (inl (t, e)) h = let more : 1 + times_in p xs ≡ 0 = rw t at h in absurd (omega (arith, more))
    at (inr (t, other)) h = other (sym here.1)
among_times p (x ∷ xs) none (inr later) = among_times p xs (omega (arith, none)) later

process_of : ObjectValue → ProcessValue
process_of (OfProcess count process) = process
process_of (OfPage count page) = empty_process
process_of (OfCapPage count page) = empty_process
process_of (OfGpt count gpt) = empty_process
process_of (OfEndpoint count endpoint) = empty_process
process_of OfNone = empty_process

-- so it stays as it was
pub process_stays : (s t : Store) (q : QueuesValue) (p on : ℕ) → on < length q.sleepers → standing q p ≡ 0 → Stays (process_names (sleepers_of q on)) s t → process_at t p ≡ process_at s p
unfolding process_of
process_stays s t q p on there nowhere stays = elim (stays.same Process p) [
  | inl here ↦ absurd (among_times p (sleepers_of q on) (sleeps_nowhere q p on there nowhere) here)
  | inr same ↦ sym (ap process_of same)
]
