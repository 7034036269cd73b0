use Rattle.std.proofs.Common.{◌∙◌}
use Rattle.image_builder.proofs.Ready.{made_ready_further}
use Rattle.image_builder.proofs.start.start_all.Goals as goal

pub each-preserved : goal.each-preserved
each-preserved g c =
    let before = c.each.invariant in
    let done = c.start_if.ensures in
    record {
      state = made_ready_further c.args.running.now c.each.p _ _ _ before.state done.state;
      translator = done.translator ∙ before.translator;
      sizes = done.sizes ∙ before.sizes;
      stopped = done.stopped;
    }
