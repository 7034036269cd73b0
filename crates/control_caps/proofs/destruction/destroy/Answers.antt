use Rattle.std.proofs.Common.{rules, ◌≡◌, ◌==◌, ap, List, true, false}
use Rattle.cap_format.specs.Kind.{is_object}
use Rattle.object_store.specs.Store.{count_of}
use Rattle.operations.specs.System.{system, Stored}
use Rattle.operations.specs.Change.{Change, applied_all}
use Rattle.control_caps.proofs.Done.{destroy_reply, destroy_changes}
use Rattle.control_caps.proofs.destruction.destroy.Goals as goal

pub returns-clause-fulfils : goal.returns-clause-fulfils
returns-clause-fulfils c =
    let s = c.args.objects.now in
    let object : is_object c.args.sent.kind ≡ true = search rules in
    let count : (count_of s.items c.args.sent.kind c.args.sent.object == 1048575) ≡ false = search rules in
    let told = destroy_reply s c.args.sent object count in
    let same = ap (λ (changes : List Change). applied_all Stored (system s c.args.queues.now) changes) (destroy_changes s c.args.sent object count) in
    record { reply = search (rules, told); changes = search (rules, same) }
