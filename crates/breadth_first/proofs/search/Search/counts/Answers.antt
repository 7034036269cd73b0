use Rattle.std.proofs.Common.{◌≡◌, ◌+◌, ℕ, map, length, slice_get, Some, get_or, ap, ◌∙◌, subst, arith}
use Rattle.std.proofs.lemmas.List.{length-map, length_push}
use Rattle.std.proofs.lemmas.Option.{slice_get-get_or, slice_get_within}
use Rattle.breadth_first.proofs.Counts.{counts-more}
use Rattle.breadth_first.proofs.Judging.{list-in}
use Rattle.breadth_first.proofs.search.Search.counts.Goals as goal

pub loop-place-init : goal.loop-place-init
loop-place-init g c =
    record {
      many = ap length c.new-counts.ensures.items;
      each = λ i t count at told. absurd (omega (arith, slice_get_within c.new-counts.result.items i count told, ap length c.new-counts.ensures.items));
    }

pub count-requires-clause-many : goal.count-requires-clause-many
count-requires-clause-many g c =
    let s = c.args.space.now in
    let keys = c.args.self.now.seen.keys in
    let states = map (g.S.Space.means s) keys in
    let l = c.loop-place in
    let is = list-in (g.S.Space.system s) c.args.tests.now states c.args.lists.now l.place c.index-lists-place.result c.requires.marks c.loop-place-test.true c.index-lists-place.is in
    ap length (c.as_slice.ensures ∙ is) ∙ length-map states ((g.S.Space.system s).test (get_or c.args.tests.now l.place 0)) ∙ length-map keys (g.S.Space.means s)

pub loop-place-preserved : goal.loop-place-preserved
loop-place-preserved g c =
    let s = c.args.space.now in
    let keys = c.args.self.now.seen.keys in
    let states = map (g.S.Space.means s) keys in
    let l = c.loop-place in
    let inv = l.invariant in
    let test : ℕ = get_or c.args.tests.now l.place 0 in
    let there : slice_get c.args.tests.now l.place ≡ Some test = slice_get-get_or c.args.tests.now l.place 0 c.loop-place-test.true in
    let marks = c.as_slice.ensures ∙ list-in (g.S.Space.system s) c.args.tests.now states c.args.lists.now l.place c.index-lists-place.result c.requires.marks c.loop-place-test.true c.index-lists-place.is in
    let is = c.in_ok-count.ensures test marks in
    let all = counts-more (g.S.Space.system s) states c.args.tests.now l.counts.items l.place test c.in_ok-count.count inv.each inv.many there is in
    record {
      many = ap length c.in_ok-push.ensures.items ∙ length_push l.counts.items c.in_ok-count.count ∙ ap (λ n. n + 1) inv.many;
      each = λ i t count at told. all i t count at (subst (λ l. slice_get l i ≡ Some count) c.in_ok-push.ensures.items told);
    }

pub returns : goal.returns
returns g c = record {
  many = omega (arith, c.loop-place.invariant.many, c.loop-place-test.false, c.loop-place.auto.place-end);
  each = c.loop-place.invariant.each;
}
