use Rattle.std.proofs.Common.{rules}
use Rattle.coy_io.proofs.GivenLaws.{GivesLines-line}
use Rattle.judged_lines.proofs.Made.{judges-line}
use Rattle.judged_lines.proofs.judging.judge_next.Goals as goal

pub returns-in-Ok-Some-clause-next : goal.returns-in-Ok-Some-clause-next
returns-in-Ok-Some-clause-next g c =
    let e = rw c.in-Ok-Some.field-0-is at c.in-Ok-Some.ensures in
    judges-line (g.J.Judge.judged c.args.judge.now) (g.J.Judge.long c.args.judge.now) c.args.made.now c.answer.new.made _ c.args.lines.now c.next.new.self _ _ _ _ c.number-number.ensures.value c.line.ensures.value c.answer.ensures
    (record {
      counted = e.number;
      before = search rules;
      line = e.next;
      given = λ unended. GivesLines-line c.in-Ok-Some.field-0-0 c.next.new.self _ _ unended e.line e.bytes;
      near = e.near;
    })
    e.failed
