use Rattle.std.proofs.Common.{◌≡◌, ◌≤◌, ◌+◌, ◌*◌}
use Rattle.reverse_run.specs.History.{history_of}
use Rattle.reverse_run.specs.Reads.{an_undo}
use Rattle.back_command.specs.Runs.{undos}
use Rattle.back_command.proofs.undoing.undo_last.Given as goal

-- so many events were undone
abbrev pub invariant-each : goal.invariant-each
invariant-each g l = record {
  after : history_of l.reversible ≡ undos l.n (history_of l.fn.reversible);
  least : l.fn.fetches ≤ l.fetches;
  most : l.fetches ≤ l.fn.fetches + an_undo * l.n;
}
