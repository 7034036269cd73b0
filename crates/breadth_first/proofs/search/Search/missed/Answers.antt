use Rattle.std.proofs.Common.{◌≡◌, ◌+◌, length, map, get_or, slice_get, Some, ap, ◌∙◌, subst, arith}
use Rattle.std.proofs.lemmas.Option.{slice_get-get_or}
use Rattle.breadth_first.specs.Progress.{MayMiss}
use Rattle.breadth_first.specs.declared.answer.Want.{Want}
use Rattle.breadth_first.specs.declared.answer.Want.TheVariants.{Ever}
use Rattle.breadth_first.proofs.Evers.{holds-more}
use Rattle.breadth_first.proofs.Judging.{place-first, place-next, goals-in, firsts-in}
use Rattle.breadth_first.proofs.Musts.{is-first}
use Rattle.breadth_first.proofs.search.Search.missed.Goals as goal

pub loop-number-init : goal.loop-number-init
loop-number-init g c = record { place = place-first c.args.wants.now; few = omega arith; earlier = λ i w l at. absurd (omega (arith, l)) }

pub missed_by-requires-clause-goals : goal.missed_by-requires-clause-goals
missed_by-requires-clause-goals g c =
    let s = c.args.space.now in
    let system = g.S.Space.system s in
    let keys = c.args.self.now.seen.keys in
    let states = map (g.S.Space.means s) keys in
    let l = c.loop-number in
    let want : Want = get_or c.args.wants.now l.number (Ever 0) in
    let at : slice_get c.args.wants.now l.number ≡ Some want = slice_get-get_or c.args.wants.now l.number (Ever 0) c.loop-number-test.true in
    goals-in system c.args.wants.now states c.args.lists.now c.requires.marks l.number want at

pub missed_by-requires-clause-firsts : goal.missed_by-requires-clause-firsts
missed_by-requires-clause-firsts g c t is =
    let s = c.args.space.now in
    let system = g.S.Space.system s in
    let keys = c.args.self.now.seen.keys in
    let states = map (g.S.Space.means s) keys in
    let l = c.loop-number in
    let want : Want = get_or c.args.wants.now l.number (Ever 0) in
    let at : slice_get c.args.wants.now l.number ≡ Some want = slice_get-get_or c.args.wants.now l.number (Ever 0) c.loop-number-test.true in
    firsts-in system c.args.wants.now states c.args.lists.now c.requires.marks l.number l.place t (at ∙ ap Some is) l.invariant.place

pub returns-in-Some : goal.returns-in-Some
returns-in-Some g c =
    let s = c.args.space.now in
    let system = g.S.Space.system s in
    let keys = c.args.self.now.seen.keys in
    let states = map (g.S.Space.means s) keys in
    let l = c.loop-number in
    let want : Want = get_or c.args.wants.now l.number (Ever 0) in
    let at : slice_get c.args.wants.now l.number ≡ Some want = slice_get-get_or c.args.wants.now l.number (Ever 0) c.loop-number-test.true in
    is-first system states (length keys) c.args.wants.now l.number want at c.in-Some.missed (subst (MayMiss system states (length keys) want l.number) c.in-Some.is c.in_ok-missed.ensures) l.invariant.earlier

pub loop-number-preserved : goal.loop-number-preserved
loop-number-preserved g c =
    let s = c.args.space.now in
    let system = g.S.Space.system s in
    let keys = c.args.self.now.seen.keys in
    let states = map (g.S.Space.means s) keys in
    let l = c.loop-number in
    let want : Want = get_or c.args.wants.now l.number (Ever 0) in
    let at : slice_get c.args.wants.now l.number ≡ Some want = slice_get-get_or c.args.wants.now l.number (Ever 0) c.loop-number-test.true in
    record {
      place = ap (λ n. l.place + n) c.firsts-place.ensures.value ∙ place-next c.args.wants.now l.number l.place want at l.invariant.place;
      few = omega (arith, l.invariant.few, c.firsts-place.ensures.few);
      earlier = holds-more system (length keys) c.args.wants.now l.number want at l.invariant.earlier (subst (MayMiss system states (length keys) want l.number) c.in_default.is c.in_ok-missed.ensures);
    }

pub returns : goal.returns
returns g c k d l = c.loop-number.invariant.earlier k (get_or c.args.wants.now k d) (omega (arith, l, c.loop-number-test.false)) (slice_get-get_or c.args.wants.now k d l)
