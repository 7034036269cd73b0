use Rattle.std.proofs.Common.{◌≡◌, ◌<◌, length, arith, refl, sym, subst}
use Rattle.process_objects.specs.Process.{with_state, stopped}
use Rattle.object_store.specs.Store.{Store, process_at, with_process}
use Rattle.object_store.specs.Object.{Stays}
use Rattle.schedules.specs.Queues.{sleepers_of}
use Rattle.schedules.specs.Ready.{runs_of, process_names, Agrees}
use Rattle.control_caps.proofs.Done.{ended}
use Rattle.control_caps.proofs.destruction.end_process.Goals as goal

pub returns-clause-agrees : goal.returns-clause-agrees
returns-clause-agrees c =
    let s = c.args.objects.now in
    let p = c.args.p in
    let q = c.put_away.new.queues in
    let t = c.wake.new.objects in
    let n = c.wake.new.self in
    let v = with_state (process_at s p) stopped in
    let agrees = c.wake.ensures.agrees c.put_away.ensures.agrees in
    let there : p < length s.contents.processes = omega (arith, c.requires.there, c.requires.sizes, c.requires.agrees.sizes) in
    let listed : p < length q.sleepers = omega (arith, c.requires.there, c.requires.sizes, c.put_away.ensures.sizes) in
    let after : p < length t.contents.processes = omega (arith, listed, c.wake.ensures.processes, agrees.sizes) in
    let stays : Stays (process_names (sleepers_of q p)) (with_process s p v) t = subst (λ (o : Store). Stays (process_names (sleepers_of q p)) o t) c.put_away.ensures.objects c.wake.ensures.stays in
    subst (λ (o : Store). Agrees (runs_of o n)) (sym c.renew.ensures.after) (ended s p v q t n refl there listed after c.put_away.ensures.nowhere stays agrees)
