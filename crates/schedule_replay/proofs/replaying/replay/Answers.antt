use Rattle.std.proofs.Common.{◌∙◌, ◌∷◌, ◌++◌, [], length, refl, sym, ap, subst, arith}
use Rattle.std.proofs.lemmas.List.{length-append}
use Rattle.schedule_replay.specs.Events.{left, OfHarts}
use Rattle.schedule_replay.proofs.Rounds.{asked_of_harts, of_harts-behind}
use Rattle.schedule_replay.proofs.SoFar.{replays-cut, replays-stop, so_far-performed, so_far-read, so_far-start}
use Rattle.schedule_replay.proofs.replaying.replay.Goals as goal

pub each-init : goal.each-init
each-init g c =
    let t = g.T.Translator in
    record {
      so_far = so_far-start t.kept t.cost t.after t.without t.cache t.less _ _ _ _ _ _ g.met.T.Translator.less_same _ c.of_events-counts.ensures;
      harts = ap (λ sizes. sizes.harts) c.sizes-harts.ensures.value ∙ ap (λ objects. objects.harts) c.objects.ensures;
      there = tt;
      few = omega arith;
      bound = omega arith;
      going = c.requires;
      told = λ told. told;
      read = refl;
      write = refl;
      silent = λ mode. refl;
    }

pub each-preserved-in-Ok : goal.each-preserved-in-Ok
each-preserved-in-Ok g c =
    let t = g.T.Translator in
    let split = c.in-Some.ensures in
    let first = c.perform.ensures in
    let i = c.each.invariant in
    let few = i.few in
    let more = ap length split in
    let size = ap length first.split ∙ length-append (first.before ++ first.last ∷ []) (left c.perform.new.events) in
    record {
      so_far = so_far-performed t.kept t.cost t.after t.without t.cache t.less _ _ _ _ _ _ _ _ _ _ _ _ g.met.T.Translator.less_then _ _ _ _ _ _ _ _ split first i.so_far c.in-Ok.ensures.text;
      harts = i.harts;
      there = of_harts-behind c.sizes-harts.result.harts (first.before ++ first.last ∷ []) (left c.perform.new.events) (subst (OfHarts c.sizes-harts.result.harts) (split ∙ first.split) i.there);
      few = omega (arith, few, more, size);
      bound = i.bound;
      going = i.going;
      told = i.told;
      read = i.read;
      write = c.in-Ok.ensures.cause.quiet ∙ i.write;
      silent = λ mode. c.in-Ok.ensures.silent mode ∙ i.silent mode;
    }

pub returns-in-Err-clause-replays : goal.returns-in-Err-clause-replays
returns-in-Err-clause-replays g c =
    let t = g.T.Translator in
    replays-cut t.kept t.cost t.after t.without t.cache t.less _ _ _ _ _ _ _ _ _ _ _ _ g.met.T.Translator.less_then _ _ _ _ _ _ _ _ c.in-Some.ensures c.perform.ensures c.each.invariant.so_far c.in-Err.ensures.text

pub each-preserved : goal.each-preserved
each-preserved g c =
    let t = g.T.Translator in
    let i = c.each.invariant in
    let e = c.in-Ok-next_line.ensures in
    let bound = e.bound in
    let same = c.new-left.ensures.value in
    record {
      so_far = so_far-read t.kept t.cost t.after t.without t.cache t.less _ _ _ _ _ _ _ _ _ _ _ _ _ _ c.sizes-harts.result.harts _ _ _ c.in-None.ensures.0 i.harts i.so_far e.next same c.new-left.ensures.few e.number;
      harts = i.harts;
      there = subst (OfHarts c.sizes-harts.result.harts) (sym same) (asked_of_harts c.sizes-harts.result.harts c.in-Ok-next_line.asked e.timed);
      few = c.new-left.ensures.few;
      bound = omega (arith, bound);
      going = e.going;
      told = λ told. e.told (i.told told);
      read = e.quiet (λ same. cc) ∙ i.read;
      write = i.write;
      silent = i.silent;
    }

pub returns-in-Err-next_line-clause-replays : goal.returns-in-Err-next_line-clause-replays
returns-in-Err-next_line-clause-replays g c =
    let t = g.T.Translator in
    replays-stop t.kept t.cost t.after t.without t.cache t.less _ _ _ _ _ _ _ _ _ _ _ _ _ _ c.sizes-harts.result.harts c.in-Err-next_line.stop _ _ c.in-None.ensures.0 c.each.invariant.harts c.each.invariant.so_far c.in-Err-next_line.ensures.next c.stop_answer.ensures
