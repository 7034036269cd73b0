use Rattle.std.proofs.Common.{refl, sym, ap, ◌∙◌, subst}
use Rattle.object_store.specs.Meaning.{state_map}
use Rattle.object_store.specs.Ahead.{NoneAhead}
use Rattle.object_store.specs.Object.{Stays}
use Rattle.invocation.specs.Delivery.{delivered, changed_by_message}
use Rattle.invocation.proofs.Delivered.{delivered_means, delivered_behind, delivered_stays}
use Rattle.invocation.proofs.delivering.deliver.Goals as goal

pub returns-clause-after : goal.returns-clause-after
unfolding delivered
returns-clause-after c = rw (c.receive.ensures, c.process_mut.ensures.value, c.pass-id.ensures.after, c.pass-id.ensures.id) refl

pub returns-clause-means : goal.returns-clause-means
returns-clause-means c = ap state_map (returns-clause-after c) ∙ delivered_means c.args.objects.now c.args.endpoint c.args.process c.args.message

pub returns-clause-none_ahead : goal.returns-clause-none_ahead
returns-clause-none_ahead c = λ new none. subst NoneAhead (sym (returns-clause-after c)) (delivered_behind c.args.objects.now c.args.endpoint c.args.process c.args.message new none)

pub returns-clause-stays : goal.returns-clause-stays
returns-clause-stays c = subst (Stays (changed_by_message c.args.endpoint c.args.process) c.args.objects.now) (sym (returns-clause-after c)) (delivered_stays c.args.objects.now c.args.endpoint c.args.process c.args.message)
