use Rattle.std.proofs.Common.{List, [], ◌∷◌, ◌++◌, ap, ◌∙◌}
use Rattle.machine_state.specs.declared.event.Event.TheVariants.{Step}
use Rattle.machine_state.specs.declared.record.Record.{Record}
use Rattle.machine_state.specs.State.{state_of}
use Rattle.machine_state.specs.Noted.{noted, untraced}
use Rattle.machine_state.proofs.Changed.{sizes_left}
use Rattle.machine_state.proofs.Noted.{noted-untraced}
use Rattle.kernel_core.specs.Event.{event_of}
use Rattle.untraced_steps.proofs.running.step_untraced.Goals as goal

pub returns-clause-came : goal.returns-clause-came
returns-clause-came g c =
    let e = c.event_for.ensures in
    let records = (event_of (state_of c.args.machine.now) (Step c.args.hart)).records in
    record {
      state = e.state;
      records = e.told ∙ (ap (λ (before : List Record). before ++ noted (λ entry. untraced (entry ∷ [])) records) c.requires.none ∙ noted-untraced records);
      counted = e.counted;
      keeps = e.kept;
      harts = e.leaves.harts;
      sizes = sizes_left _ _ _ e.leaves;
    }
