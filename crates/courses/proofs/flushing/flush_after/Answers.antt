use Rattle.courses.proofs.flushing.flush_after.Goals as goal

pub returns : goal.returns
returns g c = record {
  flushed = c.flush-flushed.result;
  ends = c.exit_after.ensures;
  out = c.flush-flushed.ensures.out;
  kept = c.flush-flushed.ensures.kept;
  cause = c.flush-flushed.ensures.cause;
}
