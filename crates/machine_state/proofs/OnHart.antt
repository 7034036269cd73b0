-- A process stands on one hart alone.
use Rattle.std.proofs.Common.{◌≡◌, ◌≢◌, ◌⊎◌, inl, inr, ℕ, ◌<◌, ◌≤◌, eqb, zero, suc, true, false, List, [], ◌∷◌, set, slice_index_or, length, sym, ◌∙◌, arith, Option, Some, None}
use Rattle.std.specs.List.{sum_by}
use Rattle.std.proofs.lemmas.List.{get_or-set_other}
use Rattle.std.proofs.lemmas.List.Sums.{sum_by-set}
use Rattle.std.proofs.lemmas.Bool.Decides.{eqb_tells}
use Rattle.process_objects.specs.declared.state.State.{State}
use Rattle.process_objects.specs.declared.state.State.TheVariants.{Running, Receiving, Faulted}
use Rattle.schedules.specs.Queues.{QueuesValue, hart_of}
use Rattle.schedules.specs.Standing.{standing, times_on}
use Rattle.schedules.specs.Ready.{Runs, Agrees, process_in, places_due}
use Rattle.schedules.proofs.Agreement.{one-at}
use Rattle.schedules.proofs.OnHart.{on_hart}

-- a process is due one place at most
due-most : (state : State) → places_due state ≤ 1
due-most Running = omega arith
due-most (Receiving accept) = omega arith
due-most (Faulted code address) = omega arith

-- a hart that has a process is there
within-harts : (harts : List (Option ℕ)) (h p : ℕ) → slice_index_or harts h None ≡ Some p → h < length harts
within-harts [] h p e = cc
within-harts (x ∷ xs) zero p e = omega arith
within-harts (x ∷ xs) (suc h) p e = let rest = within-harts xs h p e in omega (arith, rest)

-- so no two harts have the same process
pub one_hart : (r : Runs) (p g h : ℕ) → Agrees r → p < length r.processes → hart_of r.queues g ≡ Some p → hart_of r.queues h ≡ Some p → g ≡ h
one_hart r p g h agrees there eg eh = on (eqb_tells g h)
  where
    on : ((eqb g h ≡ true) × (g ≡ h)) ⊎ ((eqb g h ≡ false) × (g ≢ h)) → g ≡ h
    on (inl (t, e)) = e
    on (inr (t, other)) = absurd
        (let harts = r.queues.harts in
        let without = sum_by-set (times_on p) harts g None None (within-harts harts g p eg) in
        let one : times_on p (slice_index_or harts g None) ≡ 1 = rw eg (one-at p 1) in
        let still : slice_index_or (set harts g None) h None ≡ Some p = get_or-set_other harts g h None None (λ e. other (sym e)) ∙ eh in
        let rest = on_hart p h (set harts g None) still in
        let due = agrees.each p there in
        let most = due-most (process_in r p).state in
        omega (arith, without, one, rest, due, most))
