use Rattle.std.proofs.Common.{◌∙◌}
use Rattle.std.proofs.lemmas.List.{length-set}
use Rattle.std.proofs.lemmas.List.Elements.{All-set}
use Rattle.cap_format.specs.Capability.{IsCapability}
use Rattle.process_objects.proofs.process.Process.set_slot.Goals as goal

pub returns-clause-range : goal.returns-clause-range
returns-clause-range c =
    let is = c.self.invariant in
    record {
      aligned = is.aligned;
      registers = is.registers;
      x0 = is.x0;
      cap_registers = is.cap_registers;
      c0 = is.c0;
      capregs = is.capregs;
      three = length-set c.self.inside.slots _ _ ∙ is.three;
      slots = All-set IsCapability c.self.inside.slots _ _ c.kind-kind.ensures.range is.slots;
      state = is.state;
    }
