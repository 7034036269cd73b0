use Rattle.std.proofs.Common.{sym, ap, ◌∙◌, subst, Option}
use Rattle.walk_meaning.specs.declared.kind.Kind.TheVariants.{Load}
use Rattle.string_move.specs.Spans.{spans}
use Rattle.machine_state.specs.State.{State, state_of}
use Rattle.machine_state.specs.Setters.{set_queues}
use Rattle.messages.specs.declared.string_fault.StringFault.{StringFault}
use Rattle.messages.specs.Strings.{Side}
use Rattle.messages.specs.Message.{sent_side, sent_by_fault, send_open}
use Rattle.event_reach.specs.Reach.{names_of, Covers}
use Rattle.event_reach.proofs.Walked.{side_anywhere}
use Rattle.event_reach.proofs.sending.reach_of_message.Goals as goal

pub returns-clause-covers : goal.returns-clause-covers
unfolding send_open
returns-clause-covers g c = λ q.
    let s = state_of c.args.machine.now in
    let inv = c.args.inv.now in
    let there : State = set_queues s q in
    let from : Side = sent_side there c.args.p inv in
    let walked = rw (c.at.ensures.value, c.length.ensures.value) at c.walk_string-sent.ensures.fault in
    let is = walked ∙ ap (λ (x : Side). x.fault) (sym (side_anywhere s q c.args.p Load (spans inv.at inv.length))) in
    let Behind : Option StringFault → Type 0 = λ f. Covers (names_of c.reach_behind.result) (sent_by_fault there c.args.p c.args.endpoint c.args.to inv from.pieces f).changed in
    subst Behind is (c.reach_behind.ensures.covers q from.pieces)
