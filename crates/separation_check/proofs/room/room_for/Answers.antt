use Rattle.std.proofs.Common.{arith}
use Rattle.std.proofs.lemmas.List.{length-append}
use Rattle.separation_check.specs.Crossings.{stored_cap, capability_crossings, sleeper_crossings}
use Rattle.separation_check.proofs.Lengths.{length-capabilities}
use Rattle.separation_check.proofs.room.room_for.Goals as goal

pub returns-clause-enough : goal.returns-clause-enough
returns-clause-enough c =
    let s = c.args.objects.now in
    let held = stored_cap s in
    let both = length-append (capability_crossings c.args.policy.now held s) (sleeper_crossings c.args.policy.now c.args.queues.now) in
    omega (arith, both, length-capabilities c.args.policy.now held s)
