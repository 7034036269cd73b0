use Rattle.std.proofs.Common.{map, sym, ap, ◌∙◌, subst, arith}
use Rattle.std.specs.List.{All}
use Rattle.std.proofs.lemmas.List.{take_all}
use Rattle.process_objects.specs.Process.{ProcessValue, capreg_of}
use Rattle.object_store.specs.Meaning.{meaning}
use Rattle.object_store.specs.Ahead.{IsBehind}
use Rattle.invocation.proofs.Sent.{sent_means, sent_behind}
use Rattle.invocation.proofs.sending.sent_by.Goals as goal

pub returns-clause-value : goal.returns-clause-value
returns-clause-value c =
    let all = take_all c.loop-register.register-index c.as_slice-list.result.now (omega (arith, c.loop-register-test.false)) in
    c.loop-register.invariant
    ∙ (ap (map (capreg_of c.process-sender.result.now)) (all ∙ c.as_slice-list.ensures.value)
    ∙ ap (λ (sender : ProcessValue). map (capreg_of sender) c.args.registers.now) c.process-sender.ensures.value)

pub returns-clause-means : goal.returns-clause-means
returns-clause-means c = ap (map (meaning c.args.objects.now.items)) (returns-clause-value c) ∙ sent_means c.args.objects.now c.args.process c.args.registers.now

pub returns-clause-behind : goal.returns-clause-behind
returns-clause-behind c = λ none. subst (All (IsBehind c.args.objects.now.items)) (sym (returns-clause-value c)) (sent_behind c.args.objects.now c.args.process c.args.registers.now none)
