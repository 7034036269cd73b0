use Rattle.std.proofs.Common.{◌∙◌, sym}
use Rattle.kernel_core.specs.Outcome.{spent}
use Rattle.kernel_core.specs.State.{state_of}
use Rattle.courses.specs.declared.exit.Exit.TheVariants.{PolicyRefused}
use Rattle.courses.proofs.Concluding.{concludes-open}
use Rattle.courses.proofs.Lacking.{concludes-memory, stop-memory}
use Rattle.courses.proofs.Rests.{stop-end}
use Rattle.separation_program.specs.Judged.{HasJudged, judged_by}
use Rattle.separation_program.specs.Slots.{LacksStated, judged_slots}
use Rattle.separation_program.specs.Stated.{Stated}
use Rattle.separation_program.specs.Theorem.{TellsOf}
use Rattle.separation_program.proofs.Judges.{on_stated, over-at, policy-open, policy-over, policy-stopped}
use Rattle.separation_program.proofs.Slots.{slots-over, slots-unstated}
use Rattle.separation_program.proofs.input.judge_lines.Goals as goal

-- the policy is over
pub returns-in-None-clause-course : goal.returns-in-None-clause-course
returns-in-None-clause-course g c =
    let e = c.read_policies-stop.ensures in
    let is = stop-end PolicyRefused c.read_policies-stop.result (sym c.policy_exit.ensures ∙ c.in-None.is) in
    let over = over-at c.args.policy.now c.read_policies-stop.new.policy c.args.lines.now c.read_policies-stop.new.lines _ _ c.read_policies-stop.result is e.states in
    policy-over g.S.Source.held g.S.Source.faults g.K.Sink.taken g.K.Sink.faults c.args.aim c.args.policy.now c.read_policies-stop.new.policy (state_of c.args.machine.now) c.args.machine.now.objects.harts
    c.args.lines.now c.judge.new.lines _ _ c.read_policies-stop.new.lines _ _ _ _ over (e.quiet (λ same. let bad = sym is ∙ same in cc)) c.judge.ensures.course

pub returns-in-None-clause-judged : goal.returns-in-None-clause-judged
returns-in-None-clause-judged g c = λ done.
    let e = c.read_policies-stop.ensures in
    let m = c.args.machine.now in
    let is = stop-end PolicyRefused c.read_policies-stop.result (sym c.policy_exit.ensures ∙ c.in-None.is) in
    let over = over-at c.args.policy.now c.read_policies-stop.new.policy c.args.lines.now c.read_policies-stop.new.lines _ _ c.read_policies-stop.result is e.states in
    on_stated c.args.policy.now c.read_policies-stop.new.policy c.args.lines.now.number c.read_policies-stop.new.lines.number _ _
    (λ (st : Stated). HasJudged (TellsOf c.args.aim c.judge.result) (judged_by (state_of m) m.objects.harts st)) over.known (c.judge.ensures.judged done)

pub returns-in-None-clause-fetched : goal.returns-in-None-clause-fetched
returns-in-None-clause-fetched g c =
    let e = c.read_policies-stop.ensures in
    let m = c.args.machine.now in
    let is = stop-end PolicyRefused c.read_policies-stop.result (sym c.policy_exit.ensures ∙ c.in-None.is) in
    let over = over-at c.args.policy.now c.read_policies-stop.new.policy c.args.lines.now c.read_policies-stop.new.lines _ _ c.read_policies-stop.result is e.states in
    slots-over (λ touches. spent g.T.Translator.cost g.T.Translator.after g.T.Translator.without (g.T.Translator.kept m.translator) touches) (judged_slots c.args.aim) c.args.policy.now c.read_policies-stop.new.policy (state_of m) m.objects.harts
    c.args.lines.now.number c.read_policies-stop.new.lines.number _ _ _ _ c.judge.result over.known c.judge.ensures.fetched

-- or it was not read to its end
pub returns-in-Some-clause-course : goal.returns-in-Some-clause-course
returns-in-Some-clause-course g c =
    let e = c.read_policies-stop.ensures in
    policy-stopped g.S.Source.held g.S.Source.faults g.K.Sink.taken g.K.Sink.faults c.args.aim c.args.policy.now c.read_policies-stop.new.policy (state_of c.args.machine.now) c.args.machine.now.objects.harts
    c.args.lines.now c.read_policies-stop.new.lines _ _ _ _ _ c.in-Some.exit c.read_policies-stop.result e.states (sym c.policy_exit.ensures ∙ c.in-Some.is) e.read e.quiet c.conclude.ensures

pub returns-in-Some-clause-judged : goal.returns-in-Some-clause-judged
returns-in-Some-clause-judged g c = λ done.
    absurd (concludes-open g.K.Sink.taken g.K.Sink.faults _ _ _ c.in-Some.exit (policy-open c.in-Some.exit c.read_policies-stop.result (sym c.policy_exit.ensures ∙ c.in-Some.is)) c.conclude.ensures done)

pub returns-in-Some-clause-fetched : goal.returns-in-Some-clause-fetched
returns-in-Some-clause-fetched g c =
    let m = c.args.machine.now in
    slots-unstated (λ touches. spent g.T.Translator.cost g.T.Translator.after g.T.Translator.without (g.T.Translator.kept m.translator) touches) (judged_slots c.args.aim) g.K.Sink.taken g.K.Sink.faults
    c.args.policy.now c.read_policies-stop.new.policy (state_of m) m.objects.harts c.args.lines.now c.read_policies-stop.new.lines _ _ _ _ _ c.in-Some.exit _ c.read_policies-stop.result
    c.read_policies-stop.ensures.states (sym c.policy_exit.ensures ∙ c.in-Some.is) c.conclude.ensures

-- ---- where memory is wanting

pub returns-in-Some-clause-end : goal.returns-in-Some-clause-end
returns-in-Some-clause-end g c = λ lacks.
    absurd (concludes-memory g.K.Sink.taken g.K.Sink.faults _ _ _ c.in-Some.exit
    (stop-memory PolicyRefused (λ line fault bad. cc) c.read_policies-stop.result c.in-Some.exit (sym c.policy_exit.ensures ∙ c.in-Some.is)) c.conclude.ensures lacks)

pub returns-in-None-clause-wanting : goal.returns-in-None-clause-wanting
returns-in-None-clause-wanting g c = λ lacks.
    let e = c.read_policies-stop.ensures in
    let m = c.args.machine.now in
    let is = stop-end PolicyRefused c.read_policies-stop.result (sym c.policy_exit.ensures ∙ c.in-None.is) in
    let over = over-at c.args.policy.now c.read_policies-stop.new.policy c.args.lines.now c.read_policies-stop.new.lines _ _ c.read_policies-stop.result is e.states in
    on_stated c.args.policy.now c.read_policies-stop.new.policy c.args.lines.now.number c.read_policies-stop.new.lines.number _ _
    (λ (st : Stated). LacksStated (λ touches. spent g.T.Translator.cost g.T.Translator.after g.T.Translator.without (g.T.Translator.kept m.translator) touches) c.args.aim
    (state_of m) m.objects.harts st c.args.fetches.now c.judge.new.fetches) over.known (c.judge.ensures.wanting lacks)

pub returns-in-Some-clause-wanting : goal.returns-in-Some-clause-wanting
returns-in-Some-clause-wanting g c = λ lacks.
    absurd (concludes-memory g.K.Sink.taken g.K.Sink.faults _ _ _ c.in-Some.exit
    (stop-memory PolicyRefused (λ line fault bad. cc) c.read_policies-stop.result c.in-Some.exit (sym c.policy_exit.ensures ∙ c.in-Some.is)) c.conclude.ensures lacks)
