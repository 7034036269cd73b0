use Rattle.std.proofs.Common.{◌≡◌, ◌+◌, [], ◌∷◌, Option, sym, ap, ◌∙◌, subst, arith}
use Rattle.cap_format.specs.declared.code.Code.{Code}
use Rattle.cap_format.specs.declared.item.Item.{Item}
use Rattle.cap_format.specs.declared.request.Reply.{Reply}
use Rattle.cap_format.specs.Capability.{bare}
use Rattle.object_store.specs.Meaning.{state_map}
use Rattle.object_store.specs.Object.{object_name}
use Rattle.operations.specs.System.{System, system}
use Rattle.operations.specs.Change.{item_in}
use Rattle.operations.specs.Row.{Settled}
use Rattle.operations.specs.Request.{request_map, w1}
use Rattle.operations.specs.Memory.{memory_operation, reads}
use Rattle.machine_state.specs.Machine.{MachineValue}
use Rattle.machine_state.specs.Outcome.{kept_after, spared_by}
use Rattle.machine_state.specs.Came.{Leaves}
use Rattle.machine_state.specs.Operation.{change_touches}
use Rattle.machine_state.proofs.Operated.{spent_reads, kept_reads, spared_reads, applied_harts, kept_memory, leaves_counts}
use Rattle.machine_state.proofs.machine.Machine.operate.Goals as goal

pub invariant_of-self : goal.invariant_of-self
invariant_of-self g c =
    let i = c.self.inside in
    let done = c.invoke-reply.ensures in
    let harts : c.invoke-reply.new.objects.harts ≡ i.objects.harts = ap (λ (w : System). w.store.harts) (sym (done.objects i.queues)) ∙ applied_harts (system i.objects i.queues) (memory_operation i.objects c.args.cap c.args.request).answer.changes in
    let served = c.tell_changed.ensures.harts in
    let most = c.self.invariant.1 in (
      c.tell_changed.ensures.coherent _ _ done.differ c.self.invariant.0,
      omega (arith, harts, served, most),
      kept_memory i.objects c.invoke-reply.new.objects i.queues c.args.cap.kind c.args.cap.object c.requires.kind done.stays done.counts harts c.in_ranges-2.ensures.sized.processes c.in_ranges.ensures.sized.processes (done.behind c.self.invariant.2.behind).0 c.self.invariant.2,
    )

pub returns-clause-counted : goal.returns-clause-counted
returns-clause-counted g c =
    let i = c.self.inside in
    let settled : Settled = memory_operation (state_map i.objects) (bare c.args.cap) (request_map bare c.args.request) in
    let code : c.invoke-reply.result.code ≡ settled.code = ap (λ (r : Reply). r.code) c.invoke-reply.ensures.reply_means in
    let most = spent_reads g.T.Translator.cost g.T.Translator.after g.T.Translator.without (g.T.Translator.kept i.translator) c.args.cap.kind (w1 c.args.request) settled.code (item_in settled.answer.changes) in
    rw (← c.self.view_is)
    (c.invoke-reply.ensures.counted
    ∙ (ap (λ (code : Code). c.args.fetches.now + reads c.args.cap.kind (w1 c.args.request) code) code
    ∙ ap (λ n. c.args.fetches.now + n) (sym most)))

pub returns-clause-kept : goal.returns-clause-kept
returns-clause-kept g c =
    let i = c.self.inside in
    let settled : Settled = memory_operation (state_map i.objects) (bare c.args.cap) (request_map bare c.args.request) in
    let item : c.invoke-reply.result.changed ≡ item_in settled.answer.changes = ap (λ (r : Reply). r.changed) c.invoke-reply.ensures.reply_means in
    let same = kept_reads g.T.Translator.cost g.T.Translator.after g.T.Translator.without (g.T.Translator.kept i.translator) c.args.cap.kind (w1 c.args.request) settled.code (item_in settled.answer.changes) in
    rw (← c.self.view_is)
    (c.tell_changed.ensures.kept
    ∙ (ap (λ (changed : Option Item). kept_after g.T.Translator.cost g.T.Translator.after g.T.Translator.without (g.T.Translator.kept i.translator) (change_touches changed)) item
    ∙ sym same))

pub returns-clause-caches : goal.returns-clause-caches
returns-clause-caches g c =
    let t = g.T.Translator in
    let i = c.self.inside in
    let settled : Settled = memory_operation (state_map i.objects) (bare c.args.cap) (request_map bare c.args.request) in
    let item : c.invoke-reply.result.changed ≡ item_in settled.answer.changes = ap (λ (r : Reply). r.changed) c.invoke-reply.ensures.reply_means in
    rw (← c.self.view_is) (λ k.
    c.tell_changed.ensures.caches k
    ∙ (ap (λ (changed : Option Item). spared_by t.after t.without t.spared t.purged (t.kept i.translator) (change_touches changed) (t.cache i.translator k)) item
    ∙ sym (spared_reads t.after t.without t.spared t.purged (t.kept i.translator) c.args.cap.kind (w1 c.args.request) settled.code (item_in settled.answer.changes) (t.cache i.translator k))))

pub returns-clause-leaves : goal.returns-clause-leaves
returns-clause-leaves g c =
    let i = c.self.inside in
    let done = c.invoke-reply.ensures in
    let names = object_name c.args.cap.kind c.args.cap.object ∷ [] in
    let harts : c.invoke-reply.new.objects.harts ≡ i.objects.harts = ap (λ (w : System). w.store.harts) (sym (done.objects i.queues)) ∙ applied_harts (system i.objects i.queues) (memory_operation i.objects c.args.cap c.args.request).answer.changes in
    let old : MachineValue g.row.T.Denot = record { objects = i.objects; queues = i.queues; halted = i.halted; translator = i.translator } in
    let new : MachineValue g.row.T.Denot = record { objects = c.invoke-reply.new.objects; queues = i.queues; halted = i.halted; translator = c.tell_changed.new.translator } in
    let Left : MachineValue g.row.T.Denot → Type 0 = λ m. Leaves names m new in
    subst Left c.self.view_is (leaves_counts names old new done.counts harts done.stays)

pub returns-clause-same : goal.returns-clause-same
returns-clause-same g c =
    let settled : Settled = memory_operation (state_map c.self.inside.objects) (bare c.args.cap) (request_map bare c.args.request) in
    let item : c.invoke-reply.result.changed ≡ item_in settled.answer.changes = ap (λ (r : Reply). r.changed) c.invoke-reply.ensures.reply_means in
    rw (← c.self.view_is) (λ no. c.tell_changed.ensures.same (item ∙ no))
