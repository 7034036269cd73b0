use Rattle.std.proofs.Common.{Ok, refl, ap, subst, arith}
use Rattle.image_binary.specs.Laws.{AreBytes}
use Rattle.image_binary.specs.Reader.{Reader, IsFilled}
use Rattle.image_binary.proofs.Windows.{filled, unfilled}
use Rattle.image_binary.proofs.reader.ImageReader.fill.Goals as goal

pub returns-clause-filled : goal.returns-clause-filled
returns-clause-filled g c =
    let r = c.self.inside in
    let e = c.in_ok-count.ensures in
    let from : Reader = record { at = r.at; held = r.window } in
    let to : Reader = record { at = r.at; held = c.take_from.new.self } in
    let are = subst AreBytes c.as_slice.ensures.value c.are_bytes.ensures in
    subst (λ (x : Reader). IsFilled (Ok c.in_ok-count.count) x to (g.S.Source.held c.args.source.now) (g.S.Source.held c.take_from.new.source)) c.self.view_is
    (filled from to _ _ refl e.front e.ahead c.in_ok-count.count e.length are (λ none. e.end (ap (λ n. Ok n) none)))

pub returns-in_err-count-clause-filled : goal.returns-in_err-count-clause-filled
returns-in_err-count-clause-filled g c =
    let r = c.self.inside in
    let e = c.in_err-count.ensures in
    let from : Reader = record { at = r.at; held = r.window } in
    let to : Reader = record { at = r.at; held = c.take_from.new.self } in
    subst (λ (x : Reader). IsFilled c.from_residual.result x to (g.S.Source.held c.args.source.now) (g.S.Source.held c.take_from.new.source)) c.self.view_is
    (unfilled from to _ _ refl e.front e.ahead c.from_residual.result c.from_residual.ensures.0 (omega (arith, e.length)))
