use Rattle.std.proofs.Common.{◌-◌, ◌≡◌, ◌≢◌, ◌<◌, ◌≤◌, ℕ, [], false, Some, replicate}
use Rattle.cap_format.specs.declared.kind.CapKind.TheVariants.{Process}
use Rattle.object_store.specs.Store.{size_of}
use Rattle.schedules.specs.Queues.{hart_of}
use Rattle.machine_state.specs.declared.event.Event.TheVariants.{Step}
use Rattle.machine_state.specs.State.{state_of, space_of}
use Rattle.untraced_steps.specs.KeptSteps.{IsCode}
use Rattle.untraced_steps.specs.Untraced.{RanUntraced}
use Rattle.untraced_steps.proofs.code.run_page.Given as goal

-- what was done so far, that the caches of other harts are as they were, and that the page of code is still kept
abbrev pub invariant-steps : goal.invariant-steps
invariant-steps g l = record {
  ran : (fetches : ℕ) → RanUntraced g.T.Translator.kept g.T.Translator.cost g.T.Translator.after g.T.Translator.without (replicate l.done (Step l.hart)) l.fn.machine fetches l.machine [] fetches;
  caches : (k : ℕ) → k ≢ l.hart → g.T.Translator.cache l.machine.translator k ≡ g.T.Translator.cache l.fn.machine.translator k;
  most : l.done ≤ l.limit;
  there : l.p < size_of l.machine.objects.items Process;
  hart : l.hart < l.machine.objects.harts;
  here : hart_of l.machine.queues l.hart ≡ Some l.p;
  running : l.machine.halted ≡ false;
  code : IsCode g.T.Translator.cost g.T.Translator.after (g.T.Translator.kept l.machine.translator) (state_of l.machine).store.items (space_of (state_of l.machine) l.p) l.code.page l.code.frame;
}

abbrev pub decreases-steps : goal.decreases-steps
decreases-steps g l = l.limit - l.done
