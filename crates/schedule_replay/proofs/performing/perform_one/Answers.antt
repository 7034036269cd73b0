use Rattle.std.proofs.Common.{◌∙◌, ap}
use Rattle.schedule_replay.specs.Counts.{and_more}
use Rattle.schedule_replay.proofs.First.{first-one}
use Rattle.schedule_replay.proofs.Ran.{ran-one}
use Rattle.schedule_replay.proofs.performing.perform_one.Goals as goal

pub returns : goal.returns
returns g c =
    let t = g.T.Translator in
    let e = c.event_into.ensures in
    λ mode behind.
    first-one t.kept t.cost t.after t.without t.cache t.less mode c.args.event behind _ _ _ _ _ _ _
    (ran-one t.kept t.cost t.after t.without _ _ _ _ c.args.event e.state e.counted e.kept e.harts e.sizes)
    (λ hart idle. e.less hart idle.0) e.records (c.count_events.ensures.value ∙ ap (and_more c.args.counts.now 1) c.as_slice.ensures.value) c.count_events.ensures.most
