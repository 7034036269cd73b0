use Rattle.std.proofs.Common.{◌≡◌, ◌≤◌, ◌+◌, ◌-◌, length, take}
use Rattle.std.specs.Io.KnownBytes.{Appends}
use Rattle.coy_io.proofs.writing.put_all.Given as goal

-- the bytes done are what the sink took, with no fault and in no more calls than bytes
abbrev pub invariant-loop-done : goal.invariant-loop-done
invariant-loop-done g l = record {
  within : l.done ≤ length l.bytes;
  taken : Appends (g.K.Sink.taken l.fn.sink) (g.K.Sink.taken l.sink) (take l.done l.bytes);
  faults : g.K.Sink.faults l.sink ≡ g.K.Sink.faults l.fn.sink;
  calls : g.K.Sink.calls l.sink ≤ g.K.Sink.calls l.fn.sink + l.done;
}

abbrev pub decreases-loop-done : goal.decreases-loop-done
decreases-loop-done g l = length l.bytes - l.done
