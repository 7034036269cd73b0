use Rattle.std.proofs.Common.{◌∙◌, sym, ap, arith}
use Rattle.reverse_run.specs.History.{after_undo, history_of}
use Rattle.back_command.proofs.Histories.{undos-more, undos-none}
use Rattle.back_command.proofs.undoing.undo_last.Goals as goal

pub each-init : goal.each-init
each-init g c = record { after = sym (undos-none (history_of c.args.reversible.now)); least = omega arith; most = omega arith }

pub each-preserved : goal.each-preserved
each-preserved g c =
    let i = c.each.invariant in
    let least = i.least in
    let most = i.most in
    let more = c.undo.ensures.least in
    let few = c.undo.ensures.most in
    record {
      after = c.undo.ensures.history ∙ ap after_undo i.after ∙ sym (undos-more c.each.n (history_of c.args.reversible.now));
      least = omega (arith, least, more);
      most = omega (arith, most, few);
    }
