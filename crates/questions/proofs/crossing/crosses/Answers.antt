use Rattle.std.proofs.Common.{◌≡◌, ◌∙◌, sym, ap, ap₂, subst, arith}
use Rattle.cap_format.specs.declared.kind.CapKind.TheVariants.{Gpt}
use Rattle.object_store.specs.Store.{Store, size_of}
use Rattle.schedules.specs.Queues.{QueuesValue}
use Rattle.machine_state.specs.State.{State, state_of}
use Rattle.confine_check.specs.Full.{AreFull}
use Rattle.separation_check.specs.Crossings.{crossings_in, crossings_of, meant_crossing}
use Rattle.separation_check.proofs.Exactly.{crossings-exactly}
use Rattle.separation_check.proofs.Meant.{all-meant}
use Rattle.questions.specs.Atom.{is_any}
use Rattle.questions.proofs.Any.{any-map, any-none, none-any}
use Rattle.questions.proofs.crossing.crosses.Goals as goal

pub returns : goal.returns
returns g c =
    let m = c.args.machine.now in
    let policy = c.args.policy.now in
    let s : State = state_of m in
    let value : c.any_crosses.result ≡ is_any (crossings_in policy s) =
    c.any_crosses.ensures.value ∙ ap₂ (λ (o : Store) (q : QueuesValue). is_any (crossings_of policy o q)) c.objects-2.ensures c.queues.ensures.value
    ∙ sym (any-map meant_crossing (crossings_of policy m.objects m.queues)) ∙ ap is_any (sym (all-meant policy m.objects m.queues)) in
    let exactly = crossings-exactly policy m.objects m.queues (subst AreFull c.objects.ensures c.tell_full.ensures) in
    let gpts = ap (λ (o : Store). size_of o.items Gpt) c.objects-2.ensures in
    record {
      value = value;
      exactly = (λ none. exactly.0 (any-none (crossings_in policy s) (sym value ∙ none)), λ holds. value ∙ none-any (crossings_in policy s) (exactly.1 holds));
      counted = λ none. (let counted = c.any_crosses.ensures.counted none in omega (arith, gpts, counted));
      least = c.any_crosses.ensures.least;
      most = omega (arith, gpts, c.any_crosses.ensures.most);
    }
