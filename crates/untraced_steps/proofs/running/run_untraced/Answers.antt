use Rattle.std.proofs.Common.{◌≡◌, ◌<◌, ◌+◌, ◌-◌, ◌∙◌, ◌∷◌, List, [], length, take, refl, sym, ap, subst, arith}
use Rattle.machine_state.specs.declared.event.Event.TheVariants.{Step}
use Rattle.machine_state.specs.declared.record.Record.{Record}
use Rattle.machine_state.specs.Noted.{untraced}
use Rattle.machine_state.specs.State.{state_of}
use Rattle.kernel_core.specs.Run.{run_records}
use Rattle.untraced_steps.specs.HartSteps.{OfHarts, steps_left}
use Rattle.untraced_steps.specs.Untraced.{RanUntraced}
use Rattle.untraced_steps.proofs.Ran.{drop-next, harts-behind, left-behind, ran-ahead, ran-next, ran-none}
use Rattle.untraced_steps.proofs.Spared.{spares-none, spares-next, gains-next}
use Rattle.untraced_steps.proofs.running.run_untraced.Goals as goal

pub steps-init : goal.steps-init
steps-init g c =
    let t = g.T.Translator in
    record {
      ran = ran-none t.kept t.cost t.after t.without c.args.machine.now c.args.fetches.now;
      less = λ hart idle. g.met.T.Translator.less_same _;
      others = spares-none t.after t.without t.spared t.purged t.kept t.cache c.args.machine.now;
      none = c.clear.ensures;
      rest = refl;
      size = omega arith;
      hart = c.requires.harts.0;
      there = c.requires.harts.1;
    }

pub step_untraced-requires-clause-hart : goal.step_untraced-requires-clause-hart
step_untraced-requires-clause-hart g c =
    let here = c.steps.invariant.hart in
    let same = (c.run_ahead-done.ensures.ran 0).harts in
    omega (arith, here, same)

pub returns-then-not-plain-clause-before : goal.returns-then-not-plain-clause-before
returns-then-not-plain-clause-before g c =
    let t = g.T.Translator in
    let i = c.steps.invariant in
    let all = Step c.args.hart ∷ steps_left c.args.left.now in
    let more = c.run_ahead-done.result in
    let e = c.run_ahead-done.ensures in
    let at = ran-ahead t.kept t.cost t.after t.without all c.steps.done more c.steps.next _ _ _ _ _ _ c.steps.fetches i.ran i.rest (e.ran c.steps.fetches) e.behind in
    let size : c.steps.done + more + 1 - 1 ≡ c.steps.done + more = omega arith in
    ap (λ n. untraced (run_records (state_of c.args.machine.now) (take n all))) size ∙ sym at.ran.records

pub returns-then-not-plain-clause-ran : goal.returns-then-not-plain-clause-ran
returns-then-not-plain-clause-ran g c =
    let t = g.T.Translator in
    let i = c.steps.invariant in
    let size = i.size in
    let all = Step c.args.hart ∷ steps_left c.args.left.now in
    let more = c.run_ahead-done.result in
    let e = c.run_ahead-done.ensures in
    let most = e.most in
    let at = ran-ahead t.kept t.cost t.after t.without all c.steps.done more c.steps.next _ _ _ _ _ _ c.steps.fetches i.ran i.rest (e.ran c.steps.fetches) e.behind in
    ran-next t.kept t.cost t.after t.without all (c.steps.done + more) (Step c.steps.next) _ _ _ _ _ _ _ _ (omega (arith, size, most)) at.rest at.ran c.step_untraced.ensures.came

pub returns-then-not-plain-clause-behind : goal.returns-then-not-plain-clause-behind
returns-then-not-plain-clause-behind g c =
    let t = g.T.Translator in
    let i = c.steps.invariant in
    let size = i.size in
    let all = Step c.args.hart ∷ steps_left c.args.left.now in
    let more = c.run_ahead-done.result in
    let e = c.run_ahead-done.ensures in
    let most = e.most in
    let at = ran-ahead t.kept t.cost t.after t.without all c.steps.done more c.steps.next _ _ _ _ _ _ c.steps.fetches i.ran i.rest (e.ran c.steps.fetches) e.behind in
    sym (drop-next all (c.steps.done + more) (Step c.steps.next) _ (omega (arith, size, most)) at.rest)

pub returns-in-None-clause-before : goal.returns-in-None-clause-before
returns-in-None-clause-before g c =
    let t = g.T.Translator in
    let i = c.steps.invariant in
    let all = Step c.args.hart ∷ steps_left c.args.left.now in
    let more = c.run_ahead-done.result in
    let e = c.run_ahead-done.ensures in
    let at = ran-ahead t.kept t.cost t.after t.without all c.steps.done more c.steps.next _ _ _ _ _ _ c.steps.fetches i.ran i.rest (e.ran c.steps.fetches) e.behind in
    let size : c.steps.done + more + 1 - 1 ≡ c.steps.done + more = omega arith in
    ap (λ n. untraced (run_records (state_of c.args.machine.now) (take n all))) size ∙ sym at.ran.records

pub returns-in-None-clause-ran : goal.returns-in-None-clause-ran
returns-in-None-clause-ran g c =
    let t = g.T.Translator in
    let i = c.steps.invariant in
    let size = i.size in
    let all = Step c.args.hart ∷ steps_left c.args.left.now in
    let more = c.run_ahead-done.result in
    let e = c.run_ahead-done.ensures in
    let most = e.most in
    let at = ran-ahead t.kept t.cost t.after t.without all c.steps.done more c.steps.next _ _ _ _ _ _ c.steps.fetches i.ran i.rest (e.ran c.steps.fetches) e.behind in
    ran-next t.kept t.cost t.after t.without all (c.steps.done + more) (Step c.steps.next) _ _ _ _ _ _ _ _ (omega (arith, size, most)) at.rest at.ran c.step_untraced.ensures.came

pub returns-in-None-clause-behind : goal.returns-in-None-clause-behind
returns-in-None-clause-behind g c =
    let t = g.T.Translator in
    let i = c.steps.invariant in
    let size = i.size in
    let all = Step c.args.hart ∷ steps_left c.args.left.now in
    let more = c.run_ahead-done.result in
    let e = c.run_ahead-done.ensures in
    let most = e.most in
    let at = ran-ahead t.kept t.cost t.after t.without all c.steps.done more c.steps.next _ _ _ _ _ _ c.steps.fetches i.ran i.rest (e.ran c.steps.fetches) e.behind in
    c.in-None.ensures.1 ∙ sym (drop-next all (c.steps.done + more) (Step c.steps.next) _ (omega (arith, size, most)) at.rest ∙ c.in-None.ensures.0)

pub steps-smaller : goal.steps-smaller
steps-smaller g c =
    let e = c.run_ahead-done.ensures in
    let shorter = left-behind c.run_ahead-done.result (Step c.steps.next) (Step c.steps.next) _ _ e.most e.behind in
    let more = ap length c.in-Some.ensures in
    let less : length (steps_left c.take.new.self) < length (steps_left c.steps.left) = omega (arith, shorter, more) in
    less

pub steps-preserved : goal.steps-preserved
steps-preserved g c =
    let t = g.T.Translator in
    let i = c.steps.invariant in
    let size = i.size in
    let all = Step c.args.hart ∷ steps_left c.args.left.now in
    let ahead = c.run_ahead-done.result in
    let e = c.run_ahead-done.ensures in
    let most = e.most in
    let at = ran-ahead t.kept t.cost t.after t.without all c.steps.done ahead c.steps.next _ _ _ _ _ _ c.steps.fetches i.ran i.rest (e.ran c.steps.fetches) e.behind in
    let within : c.steps.done + ahead < length all = omega (arith, size, most) in
    let none : c.step_untraced.new.observer.records ≡ [] = c.is_empty-plain.ensures.0 c.if-not-plain.false in
    let split = c.in-Some.ensures in
    let more = ap length split in
    let shorter = left-behind ahead (Step c.steps.next) (Step c.steps.next) _ _ most e.behind in
    let here = i.hart in
    let same = i.ran.harts in
    let now : c.steps.next < c.args.machine.now.objects.harts = omega (arith, here, same) in
    let ahead_there = subst (OfHarts c.args.machine.now.objects.harts) (sym e.behind) (harts-behind c.args.machine.now.objects.harts ahead (Step c.steps.next ∷ steps_left c.steps.left) (now, i.there)) in
    let there = subst (OfHarts c.args.machine.now.objects.harts) split ahead_there.1 in
    let next = ran-next t.kept t.cost t.after t.without all (c.steps.done + ahead) (Step c.steps.next) _ _ _ _ _ _ _ _ within at.rest at.ran c.step_untraced.ensures.came in
    let hart = there.0 in
    let harts = next.harts in
    record {
      ran = subst (λ (told : List Record). RanUntraced t.kept t.cost t.after t.without (take (c.steps.done + ahead + 1) all) c.args.machine.now c.args.fetches.now c.step_untraced.new.machine told c.step_untraced.new.fetches) none next;
      less = gains-next t.cache t.less g.met.T.Translator.less_then all c.steps.done ahead (Step c.steps.next) _ c.args.machine.now c.steps.machine c.run_ahead-done.new.machine c.step_untraced.new.machine within at.rest i.less e.caches c.step_untraced.ensures.less;
      others = spares-next t.after t.without t.spared t.purged t.kept t.cache all c.steps.done ahead (Step c.steps.next) _ _ _ _ _ within at.rest i.others e.caches at.ran.state c.step_untraced.ensures.others;
      none = none;
      rest = drop-next all (c.steps.done + ahead) (Step c.steps.next) _ within at.rest ∙ split;
      size = omega (arith, size, more, shorter);
      hart = omega (arith, hart, harts);
      there = there.1;
    }

pub returns-then-not-plain-clause-others : goal.returns-then-not-plain-clause-others
returns-then-not-plain-clause-others g c =
    let t = g.T.Translator in
    let i = c.steps.invariant in
    let size = i.size in
    let all = Step c.args.hart ∷ steps_left c.args.left.now in
    let more = c.run_ahead-done.result in
    let e = c.run_ahead-done.ensures in
    let most = e.most in
    let at = ran-ahead t.kept t.cost t.after t.without all c.steps.done more c.steps.next _ _ _ _ _ _ c.steps.fetches i.ran i.rest (e.ran c.steps.fetches) e.behind in
    spares-next t.after t.without t.spared t.purged t.kept t.cache all c.steps.done more (Step c.steps.next) _ _ _ _ _ (omega (arith, size, most)) at.rest i.others e.caches at.ran.state c.step_untraced.ensures.others

pub returns-in-None-clause-others : goal.returns-in-None-clause-others
returns-in-None-clause-others g c =
    let t = g.T.Translator in
    let i = c.steps.invariant in
    let size = i.size in
    let all = Step c.args.hart ∷ steps_left c.args.left.now in
    let more = c.run_ahead-done.result in
    let e = c.run_ahead-done.ensures in
    let most = e.most in
    let at = ran-ahead t.kept t.cost t.after t.without all c.steps.done more c.steps.next _ _ _ _ _ _ c.steps.fetches i.ran i.rest (e.ran c.steps.fetches) e.behind in
    spares-next t.after t.without t.spared t.purged t.kept t.cache all c.steps.done more (Step c.steps.next) _ _ _ _ _ (omega (arith, size, most)) at.rest i.others e.caches at.ran.state c.step_untraced.ensures.others

pub returns-then-not-plain-clause-less : goal.returns-then-not-plain-clause-less
returns-then-not-plain-clause-less g c =
    let t = g.T.Translator in
    let i = c.steps.invariant in
    let size = i.size in
    let all = Step c.args.hart ∷ steps_left c.args.left.now in
    let more = c.run_ahead-done.result in
    let e = c.run_ahead-done.ensures in
    let most = e.most in
    let at = ran-ahead t.kept t.cost t.after t.without all c.steps.done more c.steps.next _ _ _ _ _ _ c.steps.fetches i.ran i.rest (e.ran c.steps.fetches) e.behind in
    gains-next t.cache t.less g.met.T.Translator.less_then all c.steps.done more (Step c.steps.next) _ c.args.machine.now c.steps.machine c.run_ahead-done.new.machine c.step_untraced.new.machine (omega (arith, size, most)) at.rest i.less e.caches c.step_untraced.ensures.less

pub returns-in-None-clause-less : goal.returns-in-None-clause-less
returns-in-None-clause-less g c =
    let t = g.T.Translator in
    let i = c.steps.invariant in
    let size = i.size in
    let all = Step c.args.hart ∷ steps_left c.args.left.now in
    let more = c.run_ahead-done.result in
    let e = c.run_ahead-done.ensures in
    let most = e.most in
    let at = ran-ahead t.kept t.cost t.after t.without all c.steps.done more c.steps.next _ _ _ _ _ _ c.steps.fetches i.ran i.rest (e.ran c.steps.fetches) e.behind in
    gains-next t.cache t.less g.met.T.Translator.less_then all c.steps.done more (Step c.steps.next) _ c.args.machine.now c.steps.machine c.run_ahead-done.new.machine c.step_untraced.new.machine (omega (arith, size, most)) at.rest i.less e.caches c.step_untraced.ensures.less
