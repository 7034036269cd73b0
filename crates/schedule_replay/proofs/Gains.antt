-- Which harts' caches gain by events behind others.
use Rattle.std.proofs.Common.{ℕ, List, [], ◌∷◌, ◌++◌}
use Rattle.machine_state.specs.declared.event.Event.{Event}
use Rattle.kernel_core.specs.Machine.{MachineValue}
use Rattle.untraced_steps.specs.Spared.{GainsNothing, IsIdleIn}

-- a hart that performs none of them performs none of the first, and none of the others
idle-parts : (hart : ℕ) (first second : List Event) → IsIdleIn hart (first ++ second) → IsIdleIn hart first × IsIdleIn hart second
idle-parts hart [] second idle = (tt, idle)
idle-parts hart (e ∷ es) second idle =
    let parts = idle-parts hart es second idle.1 in
    ((idle.0, parts.0), parts.1)

-- where neither by some nor by those behind them, by none of both
pub gains-then : {T C : Type 0} (cache : T → ℕ → C) (less : C → C → Type 0) → ((a b c : C) → less a b → less b c → less a c)
    → (first second : List Event) (l m n : MachineValue T) → GainsNothing cache less first l m → GainsNothing cache less second m n → GainsNothing cache less (first ++ second) l n
gains-then cache less less_then first second l m n one two = λ hart idle.
    let parts = idle-parts hart first second idle in
    less_then (cache n.translator hart) (cache m.translator hart) (cache l.translator hart) (two hart parts.1) (one hart parts.0)
