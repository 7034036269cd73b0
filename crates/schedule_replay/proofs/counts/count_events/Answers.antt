use Rattle.std.proofs.Common.{◌≤◌, ◌+◌, ◌∙◌, ◌^◌, sym, ap, drop, arith}
use Rattle.std.proofs.lemmas.List.{drop_all}
use Rattle.schedule_replay.specs.Counts.{and_more}
use Rattle.schedule_replay.proofs.Tallies.{and_more-at, and_more-none, at_most-trans}
use Rattle.schedule_replay.proofs.counts.count_events.Goals as goal

pub count_record-counts-requires : goal.count_record-counts-requires
count_record-counts-requires c =
    let inside = c.each-test.true in
    let few = c.requires.few in
    let fits = c.ranges.events.fits in
    record { room = at_most-trans (2 ^ 62 + c.args.events + c.each.i) (2 ^ 63) _ (omega (arith, inside, few, fits)) (c.each.invariant.most (2 ^ 62) c.requires.room) }

pub each-preserved : goal.each-preserved
each-preserved c = record {
  counted =
      ap (λ k. and_more k 0 (drop (c.each.i + 1) c.args.records.now)) c.count_record-counts.ensures.value
      ∙ and_more-at c.each.counts c.args.records.now c.each.i _ c.each-test.true c.index-records-i.is
      ∙ c.each.invariant.counted;
  most = λ most all. at_most-trans (most + c.args.events + c.each.i + 1) (most + c.args.events + (c.each.i + 1)) _ (omega arith) (c.count_record-counts.ensures.most (most + c.args.events + c.each.i) (c.each.invariant.most most all));
}

pub returns-clause-value : goal.returns-clause-value
returns-clause-value c =
    sym (and_more-none c.each.counts (drop c.each.i c.args.records.now) (drop_all c.each.i c.args.records.now c.each-test.false)) ∙ c.each.invariant.counted

pub returns-clause-most : goal.returns-clause-most
returns-clause-most c =
    let few = c.requires.few in
    let last : c.each.i ≤ 64 = omega (arith, few) in
    λ most all. at_most-trans (most + c.args.events + c.each.i) (most + c.args.events + 64) _ (omega (arith, last)) (c.each.invariant.most most all)
