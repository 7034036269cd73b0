use Rattle.std.proofs.Common.{◌∙◌, ◌∷◌, ap}
use Rattle.machine_state.specs.declared.event.Event.TheVariants.{Step}
use Rattle.schedule_replay.specs.Counts.{and_more}
use Rattle.schedule_replay.specs.Events.{steps_left}
use Rattle.schedule_replay.proofs.First.{first-untraced}
use Rattle.schedule_replay.proofs.performing.perform_steps.Goals as goal

pub returns : goal.returns
returns g c =
    let t = g.T.Translator in
    let step = Step c.args.hart in
    let ran = c.run_untraced-done.ensures in
    λ mode other.
    first-untraced t.kept t.cost t.after t.without t.cache t.less mode other c.run_untraced-done.result step (step ∷ steps_left c.args.steps.now) _ _ _ _ _ _ _ _
    ran.some ran.most ran.behind ran.ran ran.less ran.before
    (c.count_events.ensures.value ∙ ap (and_more c.args.counts.now c.run_untraced-done.result) c.as_slice.ensures.value) c.count_events.ensures.most
