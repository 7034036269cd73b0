use Rattle.std.proofs.Common.{◌-◌, ◌≤◌, length, take, flat_map}
use Rattle.run_text.specs.Standing.{member_text, members}
use Rattle.coy_io.proofs.Texts.{Written}
use Rattle.run_text.proofs.standing.put_members.Given as goal

abbrev pub invariant-each : goal.invariant-each
invariant-each g l = record {
  written : Written (g.K.Sink.taken l.fn.output) (g.K.Sink.taken l.output) (g.K.Sink.faults l.fn.output) (g.K.Sink.faults l.output) (flat_map member_text (take l.place (members l.queues l.queue)));
  within : l.place ≤ length (members l.queues l.queue);
}

abbrev pub decreases-each : goal.decreases-each
decreases-each g l = length (members l.queues l.queue) - l.place
