use Rattle.std.proofs.Common.{sym, subst}
use Rattle.std.specs.List.{All}
use Rattle.object_store.specs.Store.{sizes_of}
use Rattle.questions.specs.Atom.{IsAtomOf}
use Rattle.questions.proofs.Groups.{groups-range}
use Rattle.questions.proofs.judging.fails.Goals as goal

pub any_holds-requires : goal.any_holds-requires
any_holds-requires g c =
    let sizes = sizes_of c.args.machine.now.objects in
    subst (All (All (IsAtomOf sizes))) (sym c.groups.ensures) (groups-range sizes c.args.property.now c.requires)
