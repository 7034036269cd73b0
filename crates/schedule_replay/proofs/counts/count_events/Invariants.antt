use Rattle.std.proofs.Common.{◌≡◌, ◌+◌, ℕ, drop}
use Rattle.schedule_replay.specs.Counts.{and_more, AreAtMost}
use Rattle.schedule_replay.proofs.counts.count_events.Given as goal

-- the records that were looked at are counted
abbrev pub invariant-each : goal.invariant-each
invariant-each l = record {
  counted : and_more l.counts 0 (drop l.i l.records) ≡ and_more l.fn.counts l.events l.records;
  most : (most : ℕ) → AreAtMost most l.fn.counts → AreAtMost (most + l.events + l.i) l.counts;
}
