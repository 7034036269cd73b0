use Rattle.std.proofs.Common.{◌∙◌, refl}
use Rattle.judged_lines.proofs.Made.{takes-none, takes-step}
use Rattle.judged_lines.proofs.judging.judge_all.Goals as goal

pub lines-init : goal.lines-init
lines-init g c = record {
  takes = takes-none (g.J.Judge.judged c.args.judge.now) c.args.made.now c.args.lines.now _;
  going = c.requires;
  told = λ told. told;
  read = refl;
}

pub lines-preserved : goal.lines-preserved
lines-preserved g c =
    let e = c.in-Ok.ensures in
    record {
      takes =
          takes-step (g.J.Judge.judged c.args.judge.now) c.args.made.now c.lines.made c.judge_next.new.made c.args.lines.now c.lines.lines c.judge_next.new.lines _ _ _ tt
          c.lines.invariant.takes e.next.0 e.next.1;
      going = e.going;
      told = λ told. e.told (c.lines.invariant.told told);
      read = e.quiet (λ same. cc) ∙ c.lines.invariant.read;
    }

pub returns-in-Err-clause-judged : goal.returns-in-Err-clause-judged
returns-in-Err-clause-judged g c = record {
  made = c.lines.made;
  reader = c.lines.lines;
  left = g.S.Source.held c.lines.source;
  takes = c.lines.invariant.takes;
  stops = c.in-Err.ensures.next;
}
