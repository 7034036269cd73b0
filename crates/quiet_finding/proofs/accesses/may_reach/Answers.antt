use Rattle.std.proofs.Common.{sym, ◌∙◌}
use Rattle.machine_state.specs.State.{state_of}
use Rattle.quiet_finding.proofs.Accessing.{may-read}
use Rattle.quiet_finding.proofs.accesses.may_reach.Goals as goal

pub returns : goal.returns
returns g c =
    let own = sym c.is_own.ensures ∙ c.if-is_own.false in
    let only = sym c.only_reads.ensures ∙ c.if-not-only_reads.false in
    may-read (state_of c.args.machine.now) c.args.reaching.now c.requires c.args.p c.args.n c.args.kind c.args.trail.now.items c.is_settled_by.result
    own only c.is_settled_by.ensures
