use Rattle.std.proofs.Common.{map, refl, subst}
use Rattle.breadth_first.specs.Progress.{IsFirstStuck}
use Rattle.breadth_first.proofs.Evers.{always, is-lost}
use Rattle.breadth_first.proofs.search.Search.lost.Goals as goal

pub returns-in_default : goal.returns-in_default
returns-in_default g c t marked =
    let s = c.args.space.now in
    let states = map (g.S.Space.means s) c.args.self.now.seen.keys in
    always (g.S.Space.system s) (g.met.S.Space.decides s) states c.requires.all t (subst (IsFirstStuck (g.S.Space.system s) states t) c.in_default.is (c.in_ok-index.ensures.first t marked))

pub returns : goal.returns
returns g c t marked =
    let s = c.args.space.now in
    let states = map (g.S.Space.means s) c.args.self.now.seen.keys in
    let first = subst (IsFirstStuck (g.S.Space.system s) states t) c.in-Some.is (c.in_ok-index.ensures.first t marked) in
    (refl, is-lost (g.S.Space.system s) (g.met.S.Space.decides s) states c.requires.opened t c.in-Some.index first c.in_ok-path.path.items c.in_ok-path.ensures.path)
