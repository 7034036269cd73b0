use Rattle.std.proofs.Common.{sym, ap, ◌∙◌}
use Rattle.object_store.specs.Store.{process_at}
use Rattle.invocation.specs.Answerer.{answered_by}
use Rattle.invocation.specs.Target.{called_by}
use Rattle.invocation.proofs.Entered.{entered_nobody, entered_process}
use Rattle.invocation.proofs.answering.entered.Goals as goal

pub returns-in-Process-clause-value : goal.returns-in-Process-clause-value
returns-in-Process-clause-value c =
    let s = c.args.objects.now in
    let e = c.args.endpoint in
    let to = c.endpoint-to.result.now in
    let r = c.live-recipient.result in
    let process = entered_process s e c.args.payload to r c.endpoint-to.ensures (sym c.refuses.ensures ∙ c.if-refuses.false) c.live-recipient.ensures.value (sym c.kind.ensures.value ∙ c.in-Process.is) in
    c.answered_by.ensures.value ∙ (ap (λ q. called_by (answered_by (process_at s q).state to.id e q)) c.object.ensures.value ∙ ap called_by process)

pub returns-in_default : goal.returns-in_default
returns-in_default c =
    let s = c.args.objects.now in
    let to = c.endpoint-to.result.now in
    let r = c.live-recipient.result in
    let nobody = entered_nobody s c.args.endpoint c.args.payload to r c.endpoint-to.ensures (sym c.refuses.ensures ∙ c.if-refuses.false) c.live-recipient.ensures.value (λ k. c.in_default.not-Process (c.kind.ensures.value ∙ k)) in
    record { value = ap called_by nobody; there = tt }
