-- Steps of one hart. (Own.)
use Rattle.std.specs.Prelude.{ℕ, replicate}
use Rattle.machine_state.specs.declared.event.Event.TheVariants.{Step}
use Rattle.machine_state.specs.State.{State}
use Rattle.kernel_core.specs.Run.{run_state}

-- the state after so many steps of a hart
abbrev pub after_steps : ℕ → ℕ → State → State
after_steps hart times s = run_state s (replicate times (Step hart))
