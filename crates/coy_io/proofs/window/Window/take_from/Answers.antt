use Rattle.std.proofs.Common.{◌-◌, ◌∙◌}
use Rattle.coy_io.proofs.Windows.{Keeps-taken, take-grown}
use Rattle.coy_io.proofs.window.Window.take_from.Goals as goal

pub returns-clause-ahead : goal.returns-clause-ahead
returns-clause-ahead g c =
    let w = c.self.inside in
    let e = c.in_ok-count.ensures in
    let held = e.front ∙ c.to_front.ensures ∙ c.self.view_is in
    Keeps-taken _ _ _ _ _ e.bytes.0 (take-grown c.take_behind.new.bytes _ (w.end - w.from) c.in_ok-count.count held)
