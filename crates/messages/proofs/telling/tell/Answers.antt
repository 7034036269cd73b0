use Rattle.std.proofs.Common.{sym, subst}
use Rattle.schedules.specs.Queues.{QueuesValue}
use Rattle.object_store.specs.Meaning.{meaning}
use Rattle.invocation.specs.Delivery.{message_map}
use Rattle.machine_state.specs.State.{state_of, IsOnHart}
use Rattle.messages.proofs.Told.{told_on_hart}
use Rattle.messages.proofs.telling.tell.Goals as goal

pub returns-clause-on_hart : goal.returns-clause-on_hart
returns-clause-on_hart g c =
    let m = c.args.machine.now in
    let Stands : QueuesValue → Type 0 = λ q. IsOnHart q c.args.p in
    subst Stands (sym c.send_off.ensures.queues)
    (told_on_hart (state_of m) (state_of c.tell-2.new.self) c.args.endpoint c.args.to (message_map (meaning m.objects.items) c.message_of-message.result) c.args.p c.tell-2.ensures.state c.requires.on_hart)
