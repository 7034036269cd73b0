use Rattle.std.proofs.Common.{List, [], ◌∷◌, ◌++◌, ap, ◌∙◌}
use Rattle.machine_state.specs.declared.record.Record.{Record}
use Rattle.machine_state.specs.State.{state_of}
use Rattle.machine_state.specs.Noted.{noted}
use Rattle.machine_state.proofs.Noted.{noted-all}
use Rattle.machine_state.proofs.Less.{less_left}
use Rattle.kernel_core.specs.Event.{event_of}
use Rattle.kernel_core.proofs.events.event_into.Goals as goal

pub returns-clause-records : goal.returns-clause-records
returns-clause-records g c =
    let records = (event_of (state_of c.args.machine.now) c.args.e).records in
    c.event_for.ensures.told ∙ (ap (λ (before : List Record). before ++ noted (λ entry. entry ∷ []) records) c.clear.ensures ∙ noted-all records)

pub returns-clause-less : goal.returns-clause-less
returns-clause-less g c =
    let t = g.T.Translator in
    let laws = g.met.T.Translator in
    let outcome = event_of (state_of c.args.machine.now) c.args.e in
    λ k other. less_left t.after t.without t.spared t.purged t.less laws.less_same laws.less_then laws.spared_less laws.purged_less
    (t.kept c.args.machine.now.translator) outcome.touches _ _ (c.event_for.ensures.others k other)
