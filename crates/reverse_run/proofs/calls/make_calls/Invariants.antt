use Rattle.std.proofs.Common.{◌≡◌, ◌≤◌, ◌+◌, drop}
use Rattle.reverse_run.specs.History.{history_of}
use Rattle.reverse_run.specs.Calls.{history_after}
use Rattle.event_reach.specs.FreshWalks.{WalksAtMost}
use Rattle.reverse_run.specs.Reads.{most_in}
use Rattle.reverse_run.proofs.calls.make_calls.Given as goal

-- the rest of the calls makes what all make
abbrev pub invariant-each : goal.invariant-each
invariant-each g l = record {
  history : history_after l.fn.reversible.depth (history_of l.reversible) (drop l.i l.calls) ≡ history_after l.fn.reversible.depth (history_of l.fn.reversible) l.calls;
  depth : l.reversible.depth ≡ l.fn.reversible.depth;
  harts : l.reversible.machine.objects.harts ≡ l.fn.reversible.machine.objects.harts;
  least : l.fn.fetches ≤ l.fetches;
  most : WalksAtMost g.T.Translator.cost → l.fetches + most_in l.fn.reversible.depth (history_of l.reversible) (drop l.i l.calls) ≤ l.fn.fetches + most_in l.fn.reversible.depth (history_of l.fn.reversible) l.calls;
}
