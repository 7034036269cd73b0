-- The events of a line: of which harts they are, and how many.
use Rattle.std.proofs.Common.{◌≡◌, ◌<◌, ◌≤◌, ◌+◌, ℕ, zero, suc, List, [], ◌∷◌, Option, None, Some, IfSome, ◌++◌, ◌*◌, length, replicate, refl, sym, ap, ◌∙◌, arith}
use Rattle.std.proofs.Math.Nat.{add_comm, suc-mul}
use Rattle.std.proofs.lemmas.Nat.{mul-le}
use Rattle.std.proofs.lemmas.List.{length-append, length-replicate}
use Rattle.machine_state.specs.declared.event.Event.{Event}
use Rattle.machine_state.specs.declared.event.Event.TheVariants.{Step}
use Rattle.listing_read.specs.Schedule.{IsTimed}
use Rattle.listing_read.specs.declared.schedule.Timed.{Timed}
use Rattle.listing_read.specs.declared.schedule.Timed.TheVariants.{Step as Steps, Tick as TimerTick, Round}
use Rattle.schedule_replay.specs.Scheduled.{asked_events}
use Rattle.schedule_replay.specs.Events.{line_events, rounds, OfHarts}
use Rattle.untraced_steps.specs.HartSteps.{steps_from}

-- ---- all events of a line are of harts that are there

steps_of_harts : (harts hart times : ℕ) → hart < harts → OfHarts harts (replicate times (Step hart))
steps_of_harts harts hart zero h = tt
steps_of_harts harts hart (suc times) h = (h, steps_of_harts harts hart times h)

of_harts-append : (harts : ℕ) (first second : List Event) → OfHarts harts first → OfHarts harts second → OfHarts harts (first ++ second)
of_harts-append harts [] second f s = s
of_harts-append harts (event ∷ first) second f s = (f.0, of_harts-append harts first second f.1 s)

pub of_harts-behind : (harts : ℕ) (first second : List Event) → OfHarts harts (first ++ second) → OfHarts harts second
of_harts-behind harts [] second all = all
of_harts-behind harts (event ∷ first) second all = of_harts-behind harts first second all.1

round_of_harts : (harts hart n : ℕ) → hart + n ≤ harts → OfHarts harts (steps_from hart n)
round_of_harts harts hart zero h = tt
round_of_harts harts hart (suc n) h = (omega arith, round_of_harts harts (suc hart) n (omega arith))

rounds_of_harts : (harts times : ℕ) → OfHarts harts (rounds harts times)
rounds_of_harts harts zero = tt
rounds_of_harts harts (suc times) = of_harts-append harts (steps_from 0 harts) (rounds harts times) (round_of_harts harts 0 harts (omega arith)) (rounds_of_harts harts times)

pub line_events_of_harts : (harts : ℕ) (timed : Timed) → IsTimed harts timed → OfHarts harts (line_events harts timed)
line_events_of_harts harts (Steps hart times) h = steps_of_harts harts hart times h.0
line_events_of_harts harts (TimerTick hart) h = (h, tt)
line_events_of_harts harts (Round times) h = rounds_of_harts harts times

pub asked_of_harts : (harts : ℕ) (asked : Option Timed) → IfSome asked (IsTimed harts) → OfHarts harts (asked_events harts asked)
asked_of_harts harts None h = tt
asked_of_harts harts (Some timed) h = line_events_of_harts harts timed h

-- ---- how many events a line stands for

pub length_steps : (times : ℕ) (event : Event) → length (replicate times event) ≡ times
length_steps times event = length-replicate times event

length_round : (hart n : ℕ) → length (steps_from hart n) ≡ n
length_round hart zero = refl
length_round hart (suc n) = ap suc (length_round (suc hart) n)

pub length_rounds : (harts times : ℕ) → length (rounds harts times) ≡ times * harts
length_rounds harts zero = omega arith
length_rounds harts (suc times) =
    length-append (steps_from 0 harts) (rounds harts times)
    ∙ ap (λ n. n + length (rounds harts times)) (length_round 0 harts)
    ∙ ap (λ n. harts + n) (length_rounds harts times)
    ∙ (add_comm harts (times * harts) ∙ sym (suc-mul times harts))

-- a line asks for few enough events to count them
pub few_events : (harts : ℕ) (timed : Timed) → harts ≤ 255 → IsTimed harts timed → length (line_events harts timed) ≤ 255000000
few_events harts (Steps hart times) h t = let size = length_steps times (Step hart) in let most = t.2 in omega (arith, size, most)
few_events harts (TimerTick hart) h t = omega arith
few_events harts (Round times) h t =
    let size = length_rounds harts times in
    let most : times * harts ≤ 1000000 * 255 = mul-le times harts 1000000 255 t.1 h in
    omega (arith, size, most)
