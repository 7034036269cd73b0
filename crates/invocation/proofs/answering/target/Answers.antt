use Rattle.std.proofs.Common.{◌≢◌, sym, ◌∙◌}
use Rattle.cap_format.specs.declared.kind.CapKind.TheVariants.{Entry}
use Rattle.object_store.specs.Meaning.{state_map}
use Rattle.invocation.proofs.Called.{kernel_value, kernel_means, nobody_answers, entry_value, entry_means, entry_answer}
use Rattle.invocation.proofs.answering.target.Goals as goal

pub returns-in-Entry-clause-value : goal.returns-in-Entry-clause-value
returns-in-Entry-clause-value c =
    entry_value (state_map c.args.objects.now) c.args.objects.now.items c.args.cap c.live-cap.result c.live-cap.ensures.value c.entered.result (sym c.kind.ensures.value ∙ c.in-Entry.is)
    (rw (← c.object.ensures.value, ← c.payload.ensures.value) c.entered.ensures.value)

pub returns-in-Entry-clause-means : goal.returns-in-Entry-clause-means
returns-in-Entry-clause-means c =
    entry_means (state_map c.args.objects.now) c.args.objects.now.items c.args.cap c.live-cap.result c.live-cap.ensures.value c.entered.result (sym c.kind.ensures.value ∙ c.in-Entry.is)
    (rw (← c.object.ensures.value, ← c.payload.ensures.value) c.entered.ensures.value)

pub returns-in-Entry-clause-answer : goal.returns-in-Entry-clause-answer
returns-in-Entry-clause-answer c =
    entry_answer (state_map c.args.objects.now) c.args.objects.now.items c.args.cap c.live-cap.result c.live-cap.ensures.value c.entered.result (sym c.kind.ensures.value ∙ c.in-Entry.is)
    (rw (← c.object.ensures.value, ← c.payload.ensures.value) c.entered.ensures.value)

pub returns-in_default : goal.returns-in_default
returns-in_default c =
    let r = c.live-cap.result in
    let other : r.kind ≢ Entry = λ k. c.in_default.not-Entry (c.kind.ensures.value ∙ k) in
    record {
      value = kernel_value (state_map c.args.objects.now) c.args.objects.now.items c.args.cap r c.live-cap.ensures.value other;
      means = kernel_means (state_map c.args.objects.now) c.args.objects.now.items c.args.cap r c.live-cap.ensures.value other;
      answer = nobody_answers (state_map c.args.objects.now) c.args.objects.now.items c.args.cap r c.live-cap.ensures.value other;
      there = (other, c.live-cap.ensures.is_live, c.live-cap.ensures.behind);
    }
