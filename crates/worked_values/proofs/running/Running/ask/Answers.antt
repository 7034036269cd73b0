use Rattle.std.proofs.Common.{◌∙◌, sym}
use Rattle.cap_format.specs.declared.kind.CapKind.TheVariants.{Process}
use Rattle.worked_values.proofs.running.Running.ask.Goals as goal

pub invariant_of-self : goal.invariant_of-self
invariant_of-self g c =
    let kept = c.invoke.ensures.kept in
    let machine = c.args.self.now in
    record {
      behind = kept.behind;
      sizes = kept.sleepers ∙ (machine.sizes ∙ sym (kept.sizes Process));
      agrees = kept.agrees;
      harts = kept.harts ∙ machine.harts;
    }
