use Rattle.std.proofs.Common.{◌∙◌, ap, drop}
use Rattle.coy_io.proofs.Windows.{drop-window}
use Rattle.coy_io.proofs.window.Window.drop_front.Goals as goal

pub returns : goal.returns
returns c =
    let w = c.self.inside in
    drop-window w.bytes w.from w.end c.args.count ∙ ap (drop c.args.count) c.self.view_is
