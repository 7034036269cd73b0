use Rattle.std.proofs.Common.{◌≡◌, true, sym, subst}
use Rattle.cap_format.specs.Kind.{is_memory}
use Rattle.cap_format.specs.Capability.{Capability}
use Rattle.cap_format.proofs.Ranges.{IsCapability-reduced}
use Rattle.cap_format.proofs.cap.Cap.restricted.Goals as goal

pub invariant_of-result : goal.invariant_of-result
invariant_of-result c =
    let memory = subst (λ (v : Capability). is_memory v.kind ≡ true) (sym c.self.view_is) c.requires.memory in
    rw c.joined.ensures (IsCapability-reduced _ _ memory c.requires.five c.self.invariant)
