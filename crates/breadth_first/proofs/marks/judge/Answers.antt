use Rattle.std.proofs.Common.{◌+◌, ◌*◌, length, get_or, ap, ◌∙◌, subst, arith}
use Rattle.std.proofs.lemmas.List.{length-set}
use Rattle.breadth_first.specs.declared.asked.Test.{Test}
use Rattle.breadth_first.specs.declared.asked.Test.TheVariants.{Passes}
use Rattle.breadth_first.proofs.Keys.{keeps-refl, keeps-trans}
use Rattle.breadth_first.specs.Spending.{SpendsAtMost}
use Rattle.breadth_first.proofs.Spending.{spends-nothing, spends-step, spends-within}
use Rattle.breadth_first.proofs.Judging.{marked-step, marked-all, mark-is}
use Rattle.breadth_first.proofs.marks.judge.Goals as goal

pub loop-place-init : goal.loop-place-init
loop-place-init g c =
    let s = c.args.space.now in
    record { keeps = keeps-refl (g.S.Space.system s) (g.S.Space.held s) (g.S.Space.means s); many = c.requires.many; marks = λ states are. are; spends = spends-nothing (0 * (g.S.Space.system s).look) c.args.spent.now }

pub is_so-requires-clause-held : goal.is_so-requires-clause-held
is_so-requires-clause-held g c = c.loop-place.invariant.keeps.still c.args.key.now c.requires.held

pub is_so-requires-clause-test : goal.is_so-requires-clause-test
is_so-requires-clause-test g c = omega (arith, c.requires.tests c.loop-place.place (Passes 0) c.loop-place-test.true, ap (λ t. t.tests) c.loop-place.invariant.keeps.system)

pub note-requires : goal.note-requires
note-requires g c = omega (arith, c.loop-place.invariant.many, c.loop-place-test.true)

pub loop-place-preserved : goal.loop-place-preserved
loop-place-preserved g c =
    let l = c.loop-place in
    let s = c.args.space.now in
    let test : Test = get_or c.args.tests.now l.place (Passes 0) in
    let is = mark-is l.invariant.keeps test c.args.key.now c.requires.held c.in_ok-so.so c.in_ok-so.ensures.value in
    record {
      keeps = keeps-trans l.invariant.keeps c.in_ok-so.ensures.keeps;
      many = ap length c.in_ok-note.ensures ∙ length-set l.lists.items l.place _ ∙ l.invariant.many;
      marks = λ states are. marked-step (g.S.Space.system s) c.args.tests.now states (g.S.Space.means s c.args.key.now) l.place (Passes 0) l.lists.items c.note.new.lists.items c.in_ok-so.so c.loop-place-test.true (l.invariant.marks states are) is c.in_ok-note.ensures;
      spends = spends-step (g.S.Space.system s).look l.place l.invariant.spends (subst (λ t. SpendsAtMost t.look l.spent c.is_so.new.spent) l.invariant.keeps.system c.is_so.ensures.spends);
    }

pub returns-clause-keeps : goal.returns-clause-keeps
returns-clause-keeps g c = c.loop-place.invariant.keeps

pub returns-clause-marks : goal.returns-clause-marks
returns-clause-marks g c states are =
    let s = c.args.space.now in
    c.loop-place.invariant.marks states are ∙ marked-all (g.S.Space.system s) c.args.tests.now states (g.S.Space.means s c.args.key.now) c.loop-place.place (omega (arith, c.loop-place-test.false))

pub returns-in_err-so-clause-spends : goal.returns-in_err-so-clause-spends
returns-in_err-so-clause-spends g c =
    let l = c.loop-place in
    let look = (g.S.Space.system c.args.space.now).look in
    spends-within look (l.place + 1) (length c.args.tests.now) (omega (arith, c.loop-place-test.true))
    (spends-step look l.place l.invariant.spends (subst (λ t. SpendsAtMost t.look l.spent c.is_so.new.spent) l.invariant.keeps.system c.is_so.ensures.spends))

pub returns-in_err-note-clause-spends : goal.returns-in_err-note-clause-spends
returns-in_err-note-clause-spends g c =
    let l = c.loop-place in
    let look = (g.S.Space.system c.args.space.now).look in
    spends-within look (l.place + 1) (length c.args.tests.now) (omega (arith, c.loop-place-test.true))
    (spends-step look l.place l.invariant.spends (subst (λ t. SpendsAtMost t.look l.spent c.is_so.new.spent) l.invariant.keeps.system c.is_so.ensures.spends))

pub returns-clause-spends : goal.returns-clause-spends
returns-clause-spends g c =
    spends-within (g.S.Space.system c.args.space.now).look c.loop-place.place (length c.args.tests.now) (omega (arith, c.loop-place.auto.place-end)) c.loop-place.invariant.spends
