use Rattle.std.proofs.Common.{rules, ◌≡◌, false}
use Rattle.object_store.specs.Store.{process_at}
use Rattle.operations.specs.Control.{is_faulted}
use Rattle.control_caps.proofs.Done.{stop_done, stop_reply}
use Rattle.control_caps.proofs.processes.stop.Goals as goal

pub returns-clause-fulfils : goal.returns-clause-fulfils
returns-clause-fulfils c =
    let running : is_faulted (process_at c.args.objects.now c.args.cap.object).state ≡ false = search rules in
    let told = stop_reply c.args.objects.now c.args.cap running in
    record {
      reply = search (rules, told);
      changes = stop_done c.args.objects.now c.args.queues.now c.args.cap c.put_away.new.objects c.put_away.new.queues running (search rules) (search rules);
    }
