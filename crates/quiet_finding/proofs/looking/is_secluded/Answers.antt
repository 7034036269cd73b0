use Rattle.std.proofs.Common.{◌<◌, Bool, not, ◌&&◌, length, ap, ap₂, sym, ◌∙◌, arith}
use Rattle.cap_format.specs.declared.kind.CapKind.TheVariants.{Process}
use Rattle.object_store.specs.Store.{Store, size_of}
use Rattle.machine_state.specs.State.{state_of}
use Rattle.quiet_finding.proofs.Secluded.{it-runs, only-there, secluded-is}
use Rattle.quiet_finding.proofs.looking.is_secluded.Goals as goal

pub returns : goal.returns
returns g c =
    let m = c.args.machine.now in
    let sized = c.in_ranges.ensures.sized.processes in
    let long = ap (λ (s : Store). length s.contents.processes) c.objects.ensures in
    let size = ap (λ (s : Store). size_of s.items Process) c.objects.ensures in
    let there : c.args.p < length m.objects.contents.processes = omega (arith, sized, long, size, c.requires.there) in
    let run = it-runs m.objects m.queues c.args.p c.args.hart c.tell_kept.ensures.agrees there c.requires.on_hart c.tell_alone.ensures in
    let only = only-there m.objects m.queues c.args.p c.args.hart c.tell_kept.ensures.agrees there c.requires.on_hart c.tell_alone.ensures in
    let named = sym c.names_process.ensures ∙ c.if-names_process.false in
    sym (secluded-is (state_of m) c.args.p c.args.hart c.args.reaching.now.comers c.requires.reaching.comers run only
    ∙ ap₂ (λ (a b : Bool). not a && not b) named (sym c.is_far_reaching.ensures))
