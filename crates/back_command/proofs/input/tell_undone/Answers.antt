use Rattle.std.proofs.Common.{◌≡◌, ◌∙◌, ◌*◌, ap, arith}
use Rattle.cap_format.specs.declared.kind.CapKind.TheVariants.{Gpt}
use Rattle.object_store.specs.Store.{size_of}
use Rattle.machine_state.specs.State.{State, state_of}
use Rattle.reverse_run.specs.History.{History, history_of}
use Rattle.reverse_run.specs.Reads.{an_undo}
use Rattle.courses.proofs.Endings.{ends_text}
use Rattle.back_command.specs.Back.{back_text}
use Rattle.back_command.specs.Runs.{text_of, undos}
use Rattle.back_command.proofs.input.tell_undone.Goals as goal

pub returns-clause-ends : goal.returns-clause-ends
returns-clause-ends g c =
    let h : History = history_of c.args.reversible.now in
    let n = c.undo_last-count.result in
    let same : back_text n (state_of c.machine.result.now) ≡ text_of c.args.number h =
    ap (λ m. back_text n (state_of m)) c.machine.ensures ∙ ap (λ (x : History). back_text n x.present) c.undo_last-count.ensures.after ∙ ap (λ k. back_text k (undos k h).present) c.undo_last-count.ensures.count in
    ends_text _ _ _ _ _ _ _ _ same c.tell_state.ensures.ends

pub returns-clause-fetched : goal.returns-clause-fetched
returns-clause-fetched g c =
    let h : History = history_of c.args.reversible.now in
    let n = c.undo_last-count.result in
    let state : state_of c.machine.result.now ≡ (undos c.undo_last-count.result h).present = ap (λ m. state_of m) c.machine.ensures ∙ ap (λ (x : History). x.present) c.undo_last-count.ensures.after in
    let gpts = ap (λ (t : State). size_of t.store.items Gpt) (state ∙ ap (λ k. (undos k h).present) c.undo_last-count.ensures.count) in
    let undos = ap (λ k. an_undo * k) c.undo_last-count.ensures.count in
    let least = c.undo_last-count.ensures.least in
    let most = c.undo_last-count.ensures.most in
    let last = c.tell_state.ensures.fetched.most in
    record {
      least = λ given. let whole = c.tell_state.ensures.fetched.whole given in omega (arith, gpts, least, whole);
      most = omega (arith, gpts, undos, most, last);
    }
