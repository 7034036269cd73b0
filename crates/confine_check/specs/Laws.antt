-- The law of verdicts, as a statement.
use Rattle.std.specs.Prelude.{◌≡◌, ◌↔◌}
use Rattle.object_store.specs.Store.{Store}
use Rattle.object_store.specs.Meaning.{state_map}
use Rattle.schedules.specs.Queues.{QueuesValue}
use Rattle.operations.specs.System.{system}
use Rattle.confinement.specs.Cut.{Cut, IsClosed, Holds}
use Rattle.confine_check.specs.declared.verdict.Verdict.TheVariants.{Yes}
use Rattle.confine_check.specs.Breach.{verdict_of}
use Rattle.confine_check.specs.Full.{AreFull}

-- Nothing breaks a cut over which nobody calls exactly where it holds, of what the objects mean.
abbrev pub VerdictLaw : Type 0
VerdictLaw = (cut : Cut) (s : Store) (q : QueuesValue)
    → IsClosed cut
    → AreFull s
    → (verdict_of cut s q ≡ Yes) ↔ Holds cut (system (state_map s) q)
