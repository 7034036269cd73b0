use Rattle.std.proofs.Common.{◌≡◌, Option, true, sym, ap, ◌∙◌, subst, arith}
use Rattle.cap_format.specs.declared.item.Item.{Item}
use Rattle.cap_format.specs.declared.request.Reply.{Reply}
use Rattle.cap_format.specs.Capability.{bare}
use Rattle.object_store.specs.Meaning.{is_live, state_map}
use Rattle.operations.specs.System.{Meant}
use Rattle.operations.specs.Change.{item_in}
use Rattle.operations.specs.Row.{Settled}
use Rattle.operations.specs.Request.{request_map}
use Rattle.operations.specs.Control.{control_operation}
use Rattle.machine_state.specs.Machine.{MachineValue}
use Rattle.machine_state.specs.Outcome.{spared_by}
use Rattle.machine_state.specs.Operation.{change_touches}
use Rattle.machine_state.proofs.Changed.{leaves_sizes}
use Rattle.machine_state.proofs.Controlled.{kept_control, control_stays}
use Rattle.machine_state.proofs.machine.Machine.control.Goals as goal

pub invariant_of-self : goal.invariant_of-self
invariant_of-self g c =
    let i = c.self.inside in
    let done = c.invoke-reply.ensures in
    let harts = done.kept.object_harts in
    let served = c.tell_changed.ensures.harts in
    let most = c.self.invariant.1 in (
      c.tell_changed.ensures.coherent _ _ done.differ c.self.invariant.0,
      omega (arith, harts, served, most),
      kept_control i.objects c.invoke-reply.new.objects i.queues c.invoke-reply.new.queues done.kept c.self.invariant.2,
    )

pub returns-clause-leaves : goal.returns-clause-leaves
returns-clause-leaves g c =
    let i = c.self.inside in
    let done = c.invoke-reply.ensures in
    let Live : MachineValue g.row.T.Denot → Type 0 = λ m. is_live m.objects.items c.args.cap ≡ true in
    let Sent : MachineValue g.row.T.Denot → Type 0 = λ m. is_live m.objects.items c.args.request.sent ≡ true in
    let stays = control_stays i.objects c.invoke-reply.new.objects i.queues c.args.cap c.args.request (subst Live (sym c.self.view_is) c.requires.live) (subst Sent (sym c.self.view_is) c.requires.sent) done.stays in
    rw (← c.self.view_is) (leaves_sizes _ _ _ done.kept.sizes done.kept.object_harts stays)

pub returns-clause-caches : goal.returns-clause-caches
returns-clause-caches g c =
    let t = g.T.Translator in
    let i = c.self.inside in
    let settled : Settled = control_operation Meant (state_map i.objects) (bare c.args.cap) (request_map bare c.args.request) in
    let item : c.invoke-reply.result.changed ≡ item_in settled.answer.changes = ap (λ (r : Reply). r.changed) c.invoke-reply.ensures.reply_means in
    rw (← c.self.view_is) (λ k.
    c.tell_changed.ensures.caches k
    ∙ ap (λ (changed : Option Item). spared_by t.after t.without t.spared t.purged (t.kept i.translator) (change_touches changed) (t.cache i.translator k)) item)

pub returns-clause-same : goal.returns-clause-same
returns-clause-same g c =
    let settled : Settled = control_operation Meant (state_map c.self.inside.objects) (bare c.args.cap) (request_map bare c.args.request) in
    let item : c.invoke-reply.result.changed ≡ item_in settled.answer.changes = ap (λ (r : Reply). r.changed) c.invoke-reply.ensures.reply_means in
    rw (← c.self.view_is) (λ no. c.tell_changed.ensures.same (item ∙ no))
