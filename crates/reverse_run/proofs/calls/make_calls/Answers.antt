use Rattle.std.proofs.Common.{◌≡◌, ℕ, ◌+◌, drop, get_or, sym, ap, ◌∙◌, arith}
use Rattle.machine_state.specs.declared.event.Event.TheVariants.{Step}
use Rattle.reverse_run.specs.declared.call.Call.{Call}
use Rattle.reverse_run.specs.declared.call.Call.TheVariants.{Perform}
use Rattle.reverse_run.specs.History.{History, history_of}
use Rattle.reverse_run.specs.Calls.{after_call, history_after}
use Rattle.reverse_run.specs.Reads.{most_in}
use Rattle.reverse_run.proofs.Called.{history_next, history_end, most_next}
use Rattle.reverse_run.proofs.calls.make_calls.Goals as goal

pub each-preserved : goal.each-preserved
each-preserved g c =
    let l = c.each in
    let calls = c.args.calls.now in
    let depth = c.args.reversible.now.depth in
    let h : History = history_of l.reversible in
    let none : Call = Perform (Step 0) in
    let next : Call = get_or calls l.i none in
    let done = c.make_call.ensures in
    let after : history_of c.make_call.new.reversible ≡ after_call depth h next = done.history ∙ ap (λ (n : ℕ). after_call n h next) l.invariant.depth in
    record {
      history = ap (λ (x : History). history_after depth x (drop (l.i + 1) calls)) after ∙ (sym (history_next depth h calls l.i none c.each-test.true) ∙ l.invariant.history);
      depth = done.depth ∙ l.invariant.depth;
      harts = done.harts ∙ l.invariant.harts;
      least = let before = l.invariant.least in let more = done.least in omega (arith, before, more);
      most = λ walks.
          let before = l.invariant.most walks in
          let more = done.most walks in
          let split = most_next depth h calls l.i none c.each-test.true in
          let same = ap (λ (x : History). most_in depth x (drop (l.i + 1) calls)) after in
          omega (arith, before, more, split, same);
    }

pub returns-clause-history : goal.returns-clause-history
returns-clause-history g c =
    let l = c.each in
    sym (history_end c.args.reversible.now.depth (history_of l.reversible) c.args.calls.now l.i c.each-test.false) ∙ l.invariant.history

pub returns-clause-most : goal.returns-clause-most
returns-clause-most g c = λ walks. let most = c.each.invariant.most walks in omega (arith, most)
