use Rattle.schedule_replay.proofs.Asked.{asks-next}
use Rattle.schedule_replay.proofs.Scheduled.{next-line, next-timed}
use Rattle.schedule_replay.proofs.lines.next_line.Goals as goal

pub returns-clause-next : goal.returns-clause-next
returns-clause-next g c = next-line c.args.harts c.args.lines.now _ _ _ _ c.judge_next.ensures.next

pub returns-clause-asked : goal.returns-clause-asked
returns-clause-asked g c = asks-next c.args.harts c.args.lines.now _ _ _ _ c.judge_next.ensures.next

pub returns-clause-timed : goal.returns-clause-timed
returns-clause-timed g c = next-timed c.args.harts c.args.lines.now _ _ _ _ c.judge_next.ensures.next
