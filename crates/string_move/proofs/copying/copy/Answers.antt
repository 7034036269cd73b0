use Rattle.std.proofs.Common.{sym, ap, ◌∙◌, subst}
use Rattle.object_store.specs.Store.{Store}
use Rattle.object_store.specs.Meaning.{state_map}
use Rattle.object_store.specs.Ahead.{NoneAhead}
use Rattle.object_store.specs.Object.{Stays}
use Rattle.string_move.specs.Move.{page_names}
use Rattle.string_move.proofs.Moves.{copied-items, copied_means, copied_behind, copied_stays}
use Rattle.string_move.proofs.copying.copy.Goals as goal

pub returns-clause-items : goal.returns-clause-items
returns-clause-items c = ap (λ (s : Store). s.items) c.carry.ensures ∙ (copied-items c.args.objects.now c.args.from.now c.args.to.now).0

pub returns-clause-harts : goal.returns-clause-harts
returns-clause-harts c = ap (λ (s : Store). s.harts) c.carry.ensures ∙ (copied-items c.args.objects.now c.args.from.now c.args.to.now).1

pub returns-clause-stays : goal.returns-clause-stays
returns-clause-stays c = subst (Stays (page_names c.args.to.now) c.args.objects.now) (sym c.carry.ensures) (copied_stays c.args.objects.now c.args.from.now c.args.to.now)

pub returns-clause-means : goal.returns-clause-means
returns-clause-means c = ap state_map c.carry.ensures ∙ copied_means c.args.objects.now c.args.from.now c.args.to.now

pub returns-clause-none_ahead : goal.returns-clause-none_ahead
returns-clause-none_ahead c = λ none. subst NoneAhead (sym c.carry.ensures) (copied_behind c.args.objects.now c.args.from.now c.args.to.now none)
