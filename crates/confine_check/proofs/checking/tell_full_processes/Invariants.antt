use Rattle.std.proofs.Common.{ℕ, ◌<◌}
use Rattle.cap_format.specs.declared.kind.CapKind.TheVariants.{Process}
use Rattle.confine_check.specs.Full.{IsFull}
use Rattle.confine_check.proofs.checking.tell_full_processes.Given as goal

abbrev pub invariant-each : goal.invariant-each
invariant-each l = (j : ℕ) → j < l.n → IsFull l.objects Process j
