use Rattle.std.proofs.Common.{◌≡◌, sym, ◌∙◌, ap}
use Rattle.cap_format.specs.Kind.{is_window}
use Rattle.cap_format.specs.declared.kind.CapKind.TheVariants.{Window, LocalWindow}
use Rattle.walk_engine.proofs.WindowCases.{window_law}
use Rattle.walk_engine.proofs.met.at_kind.Goals as goal

pub returns-in-Window : goal.returns-in-Window
returns-in-Window c =
    let kind : c.args.cap.kind ≡ Window = cc in
    c.at_window.ensures ∙ sym (window_law c.args.objects.now.items c.args.kind c.args.cap c.args.at (ap is_window kind))

pub returns-in-LocalWindow : goal.returns-in-LocalWindow
returns-in-LocalWindow c =
    let kind : c.args.cap.kind ≡ LocalWindow = cc in
    c.at_window-in-LocalWindow.ensures ∙ sym (window_law c.args.objects.now.items c.args.kind c.args.cap c.args.at (ap is_window kind))
