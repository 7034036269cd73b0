use Rattle.std.proofs.Common.{◌∙◌, ap, arith}
use Rattle.schedule_replay.proofs.Counted.{counts-line, counts-stop}
use Rattle.schedule_replay.specs.Replay.{stop_answer}
use Rattle.schedule_replay.proofs.counting.count_lines.Goals as goal

pub lines-preserved : goal.lines-preserved
lines-preserved g c =
    let e = c.in-Ok.ensures in
    let bound = e.bound in
    record {
      counted = counts-line c.args.harts _ _ _ _ _ _ _ c.lines.invariant.counted _ _ e.next c.events_in-events.ensures.count c.events_in-events.ensures.most e.number;
      bound = omega (arith, bound);
      going = e.going;
      told = λ told. e.told (c.lines.invariant.told told);
      read = e.quiet (λ same. cc) ∙ c.lines.invariant.read;
    }

pub returns-in-Err-clause-counted : goal.returns-in-Err-clause-counted
returns-in-Err-clause-counted g c =
    counts-stop c.args.harts _ _ _ _ _ _ _ c.lines.invariant.counted c.in-Err.stop _ c.in-Err.ensures.next
    (c.stop_answer.ensures ∙ ap (λ counts. stop_answer counts c.in-Err.stop) c.of_events.ensures)
