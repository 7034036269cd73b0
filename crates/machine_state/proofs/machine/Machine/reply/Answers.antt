use Rattle.std.proofs.Common.{refl, subst, sym, IfSome}
use Rattle.object_store.specs.Store.{process_at}
use Rattle.object_store.specs.Meaning.{meaning}
use Rattle.object_store.specs.Ahead.{IsBehind}
use Rattle.object_store.proofs.Writes.{put_process}
use Rattle.operations.specs.Meaning.{reply_map}
use Rattle.machine_state.specs.Machine.{MachineValue}
use Rattle.machine_state.specs.Reply.{replied}
use Rattle.machine_state.proofs.Changed.{same_state}
use Rattle.machine_state.proofs.Replied.{replied_map}
use Rattle.machine_state.proofs.Kept.{kept_reply}
use Rattle.machine_state.proofs.machine.Machine.reply.Goals as goal

pub returns-clause-state : goal.returns-clause-state
returns-clause-state g c =
    let i = c.self.inside in
    let f = meaning i.objects.items in
    rw (← c.self.view_is, c.write_reply.ensures, c.process_mut.ensures.value) (same_state _ _ i.queues i.queues i.halted (put_process i.objects c.args.p (replied (process_at i.objects c.args.p) c.args.accept c.args.reply) (λ q. replied q c.args.accept (reply_map f c.args.reply)) (replied_map f refl (process_at i.objects c.args.p) c.args.accept c.args.reply)) refl)

pub invariant_of-self : goal.invariant_of-self
invariant_of-self g c =
    let i = c.self.inside in
    let Behind : MachineValue g.row.T.Denot → Type 0 = λ m. IfSome c.args.reply.cap (IsBehind m.objects.items) in
    rw (c.write_reply.ensures, c.process_mut.ensures.value) (c.self.invariant.0, c.self.invariant.1, kept_reply i.objects i.queues c.args.p c.args.accept c.args.reply (subst Behind (sym c.self.view_is) c.requires.behind) c.self.invariant.2)
