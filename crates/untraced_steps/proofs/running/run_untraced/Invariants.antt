use Rattle.std.proofs.Common.{◌≡◌, ◌<◌, ◌+◌, ◌∷◌, [], length, take, drop}
use Rattle.machine_state.specs.declared.event.Event.TheVariants.{Step}
use Rattle.untraced_steps.specs.HartSteps.{OfHarts, steps_left}
use Rattle.untraced_steps.specs.Spared.{SparesOthers, GainsNothing}
use Rattle.untraced_steps.specs.Untraced.{RanUntraced}
use Rattle.untraced_steps.proofs.running.run_untraced.Given as goal

-- the steps so far told nothing
abbrev pub invariant-steps : goal.invariant-steps
invariant-steps g l = record {
  ran : RanUntraced g.T.Translator.kept g.T.Translator.cost g.T.Translator.after g.T.Translator.without (take l.done (Step l.hart ∷ steps_left l.fn.left)) l.fn.machine l.fn.fetches l.machine [] l.fetches;
  less : GainsNothing g.T.Translator.cache g.T.Translator.less (take l.done (Step l.hart ∷ steps_left l.fn.left)) l.fn.machine l.machine;
  others : SparesOthers g.T.Translator.cache g.T.Translator.spared (take l.done (Step l.hart ∷ steps_left l.fn.left)) l.fn.machine l.machine;
  none : l.observer.records ≡ [];
  rest : drop l.done (Step l.hart ∷ steps_left l.fn.left) ≡ Step l.next ∷ steps_left l.left;
  size : l.done + length (steps_left l.left) ≡ length (steps_left l.fn.left);
  hart : l.next < l.machine.objects.harts;
  there : OfHarts l.fn.machine.objects.harts (steps_left l.left);
}

abbrev pub decreases-steps : goal.decreases-steps
decreases-steps g l = length (steps_left l.left)
