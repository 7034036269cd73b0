use Rattle.std.proofs.Common.{◌∙◌, ap, refl, subst, sym}
use Rattle.separation_program.specs.Stated.{StatesRest, stated, without_end}
use Rattle.schedule_replay.proofs.ReadOn.{reads_on-none, reads_on-trans}
use Rattle.separation_program.proofs.Stating.{reads-line, states-over, states-rest}
use Rattle.separation_program.proofs.lines.read_policies.Goals as goal

pub lines-init : goal.lines-init
lines-init g c = record {
  reads = reads_on-none (stated c.args.policy.now c.args.lines.now.number) c.args.lines.now _;
  going = c.requires;
  told = λ told. told;
  read = refl;
}

pub lines-preserved : goal.lines-preserved
lines-preserved g c =
    let e = rw c.in-Ok-Policy.field-0-is at c.in-Ok-Policy.ensures in
    record {
      reads =
          reads_on-trans (stated c.args.policy.now c.args.lines.now.number) (stated c.lines.policy c.lines.lines.number) (stated c.judge_next.new.made c.judge_next.new.lines.number)
          c.args.lines.now c.lines.lines c.judge_next.new.lines _ _ _ c.lines.invariant.reads (reads-line c.lines.policy c.judge_next.new.made c.lines.lines c.judge_next.new.lines _ _ e.next);
      going = e.going;
      told = λ told. e.told (c.lines.invariant.told told);
      read = e.quiet (λ same. cc) ∙ c.lines.invariant.read;
    }

pub returns-in-Ok-Schedule-clause-states : goal.returns-in-Ok-Schedule-clause-states
returns-in-Ok-Schedule-clause-states g c =
    let e = rw c.in-Ok-Schedule.field-0-is at c.in-Ok-Schedule.ensures in
    states-over c.args.policy.now c.lines.policy c.judge_next.new.made c.args.lines.now c.lines.lines c.judge_next.new.lines _ _ _ c.lines.invariant.reads e.next

pub returns-in-Err-clause-states : goal.returns-in-Err-clause-states
returns-in-Err-clause-states g c =
    subst (StatesRest c.args.policy.now c.judge_next.new.made c.args.lines.now c.judge_next.new.lines _ _)
    (sym (c.without_end.ensures.value ∙ ap (λ n. without_end n c.in-Err.stop) c.number.ensures.value))
    (states-rest c.args.policy.now c.lines.policy c.judge_next.new.made c.args.lines.now c.lines.lines c.judge_next.new.lines _ _ _ c.lines.invariant.reads c.in-Err.stop c.in-Err.ensures.next)
