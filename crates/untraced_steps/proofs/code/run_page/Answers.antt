use Rattle.std.proofs.Common.{◌<◌, ◌∙◌, Bool, replicate, refl, sym, ap, subst, arith}
use Rattle.cap_format.specs.declared.kind.CapKind.TheVariants.{Process}
use Rattle.object_store.specs.Store.{Items, size_of}
use Rattle.schedules.specs.Queues.{QueuesValue, hart_of}
use Rattle.machine_state.specs.declared.event.Event.TheVariants.{Step}
use Rattle.machine_state.specs.State.{state_of}
use Rattle.kernel_core.specs.Event.{event_of}
use Rattle.untraced_steps.specs.KeptSteps.{CameIf, CameKept, IsLeft}
use Rattle.untraced_steps.proofs.KeptSteps.{code_after}
use Rattle.untraced_steps.proofs.Ran.{ran-kept, ran-left, ran-none}
use Rattle.untraced_steps.proofs.code.run_page.Goals as goal

pub steps-init : goal.steps-init
steps-init g c =
    let t = g.T.Translator in
    record {
      ran = λ fetches. ran-none t.kept t.cost t.after t.without c.args.machine.now fetches;
      caches = λ k other. refl;
      most = omega arith;
      there = c.requires.there;
      hart = c.requires.hart;
      here = c.requires.here;
      running = c.requires.running;
      code = c.requires.code;
    }

pub returns-then-not-is_kept-clause-ran : goal.returns-then-not-is_kept-clause-ran
returns-then-not-is_kept-clause-ran g c =
    let t = g.T.Translator in
    let left : IsLeft t.kept t.cost t.after t.without c.steps.machine c.step_kept-is_kept.new.machine =
    subst (λ (b : Bool). CameIf t.kept t.cost t.after t.without b c.args.p (event_of (state_of c.steps.machine) (Step c.args.hart)) c.steps.machine c.step_kept-is_kept.new.machine) c.if-not-is_kept.true c.step_kept-is_kept.ensures.came in
    λ fetches. ran-left t.kept t.cost t.after t.without (replicate c.steps.done (Step c.args.hart)) fetches fetches c.args.machine.now c.steps.machine c.step_kept-is_kept.new.machine _ (c.steps.invariant.ran fetches) left

pub steps-preserved : goal.steps-preserved
steps-preserved g c =
    let t = g.T.Translator in
    let i = c.steps.invariant in
    let came : CameKept t.kept t.cost t.after t.without c.args.p (event_of (state_of c.steps.machine) (Step c.args.hart)) c.steps.machine c.step_kept-is_kept.new.machine =
    subst (λ (b : Bool). CameIf t.kept t.cost t.after t.without b c.args.p (event_of (state_of c.steps.machine) (Step c.args.hart)) c.steps.machine c.step_kept-is_kept.new.machine) c.if-not-is_kept.false c.step_kept-is_kept.ensures.came in
    let alike = came.alike in
    let less = c.steps-test.true in
    record {
      ran = λ fetches. ran-kept t.kept t.cost t.after t.without c.args.hart c.args.p c.steps.done fetches c.args.machine.now c.steps.machine c.step_kept-is_kept.new.machine (i.ran fetches) came;
      caches = λ k other. c.step_kept-is_kept.ensures.caches k other ∙ i.caches k other;
      most = omega (arith, less);
      there = subst (λ (o : Items). c.args.p < size_of o Process) (sym alike.items) i.there;
      hart = subst (λ harts. c.args.hart < harts) (sym alike.harts) i.hart;
      here = ap (λ (q : QueuesValue). hart_of q c.args.hart) alike.queues ∙ i.here;
      running = alike.halted ∙ i.running;
      code = code_after t.cost t.after _ _ _ _ _ _ c.args.code.page c.args.code.frame came.keeps alike.items alike.space i.code;
    }
