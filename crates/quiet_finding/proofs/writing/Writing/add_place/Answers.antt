use Rattle.std.proofs.Common.{ap, sym, ◌∙◌}
use Rattle.cap_format.specs.Capability.{Capability}
use Rattle.object_store.specs.Meaning.{meaning}
use Rattle.confine_check.proofs.Found.{cap_in-state_map}
use Rattle.quiet_finding.specs.Writing.{after_writing}
use Rattle.quiet_finding.proofs.writing.Writing.add_place.Goals as goal

pub returns-clause-value : goal.returns-clause-value
returns-clause-value g c =
    let s = c.args.objects.now in
    let meant = c.live-cap.ensures.means ∙ (ap (meaning s.items) c.cap_in.ensures.value ∙ sym (cap_in-state_map s c.args.kind c.args.n c.args.i)) in
    c.add_cap.ensures ∙ ap (λ (cap : Capability). after_writing cap c.args.self.now) meant
