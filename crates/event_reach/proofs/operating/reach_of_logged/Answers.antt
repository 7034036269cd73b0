use Rattle.std.proofs.Common.{sym, ap, ◌∙◌, subst, Option}
use Rattle.walk_meaning.specs.declared.kind.Kind.TheVariants.{Load}
use Rattle.string_move.specs.Spans.{spans}
use Rattle.machine_state.specs.State.{State, state_of}
use Rattle.machine_state.specs.Setters.{set_queues}
use Rattle.messages.specs.declared.string_fault.StringFault.{StringFault}
use Rattle.messages.specs.Strings.{Side}
use Rattle.kernel_core.specs.KernelOperation.{logged_side, logged, log_string}
use Rattle.event_reach.specs.Reach.{names_of, Covers}
use Rattle.event_reach.proofs.Walked.{side_anywhere}
use Rattle.event_reach.proofs.operating.reach_of_logged.Goals as goal

pub returns-clause-covers : goal.returns-clause-covers
unfolding log_string
returns-clause-covers g c = λ q.
    let s = state_of c.args.machine.now in
    let inv = c.args.inv.now in
    let there : State = set_queues s q in
    let string : Side = logged_side there c.args.p inv in
    let walked = rw (c.at.ensures.value, c.length.ensures.value) at c.walk_string-string.ensures.fault in
    let is = walked ∙ ap (λ (x : Side). x.fault) (sym (side_anywhere s q c.args.p Load (spans inv.at inv.length))) in
    let Behind : Option StringFault → Type 0 = λ f. Covers (names_of c.reach_behind_log.result) (logged there c.args.p inv string.pieces f).changed in
    subst Behind is (c.reach_behind_log.ensures q string.pieces)
