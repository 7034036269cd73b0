use Rattle.std.proofs.Common.{◌∙◌, ap, sym}
use Rattle.cap_format.specs.Capability.{Capability}
use Rattle.object_store.specs.Meaning.{meaning}
use Rattle.confine_check.proofs.Found.{cap_in-state_map}
use Rattle.questions.specs.Atom.{is_held}
use Rattle.questions.proofs.Held.{is_held-bare}
use Rattle.questions.proofs.object_holds.place_holds.Goals as goal

pub returns-clause-value : goal.returns-clause-value
returns-clause-value g c =
    c.is_held.ensures ∙ is_held-bare c.args.holding c.live.result
    ∙ ap (λ (cap : Capability). is_held c.args.holding cap)
    (c.live.ensures.means ∙ ap (meaning c.args.objects.now.items) c.cap_in.ensures.value ∙ sym (cap_in-state_map c.args.objects.now c.args.kind c.args.n c.args.i))
