use Rattle.std.proofs.Common.{◌∙◌, length, refl, ap, subst, arith}
use Rattle.schedule_replay.specs.Events.{OfHarts}
use Rattle.schedule_replay.proofs.Rounds.{asked_of_harts}
use Rattle.back_command.proofs.Remembering.{runs-stop, so_far-event, so_far-read, so_far-start}
use Rattle.back_command.proofs.running.run_lines.Goals as goal

pub each-init : goal.each-init
each-init g c = record {
  so_far = so_far-start g.T.Translator.cost g.T.Translator.after g.T.Translator.without _ _ _ _ _ _ _ refl c.requires.none;
  harts = ap (λ sizes. sizes.harts) c.sizes-harts.ensures.value ∙ ap (λ objects. objects.harts) c.objects.ensures ∙ ap (λ machine. machine.objects.harts) c.machine.ensures;
  same = refl;
  depth = c.requires.depth;
  there = tt;
  few = omega arith;
  going = c.requires.reader;
  told = λ told. told;
  read = refl;
}

pub each-preserved-in-Some : goal.each-preserved-in-Some
each-preserved-in-Some g c =
    let split = c.in-Some.ensures in
    let i = c.each.invariant in
    let few = i.few in
    let size = ap length split in
    record {
      so_far = so_far-event g.T.Translator.cost g.T.Translator.after g.T.Translator.without _ _ _ _ _ _ _ _ _ _ _ _ _ c.in-Some.event _ _ _ _ _ i.depth split i.so_far c.event_into.ensures.history refl c.event_into.ensures.kept c.event_into.ensures.fetched;
      harts = i.harts;
      same = c.event_into.ensures.harts ∙ i.same;
      depth = c.event_into.ensures.depth ∙ i.depth;
      there = (subst (OfHarts c.sizes-harts.result.harts) split i.there).1;
      few = omega (arith, few, size);
      going = i.going;
      told = i.told;
      read = i.read;
    }

pub each-preserved : goal.each-preserved
each-preserved g c =
    let i = c.each.invariant in
    let e = c.in-Ok.ensures in
    let same = c.new-left.ensures.value in
    record {
      so_far = so_far-read g.T.Translator.cost g.T.Translator.after g.T.Translator.without _ _ _ _ _ _ _ _ _ _ _ _ _ c.sizes-harts.result.harts _ _ _ c.in-None.ensures.0 i.harts i.so_far e.next same;
      harts = i.harts;
      same = i.same;
      depth = i.depth;
      there = rw same (asked_of_harts c.sizes-harts.result.harts c.in-Ok.asked e.timed);
      few = c.new-left.ensures.few;
      going = e.going;
      told = λ told. e.told (i.told told);
      read = e.quiet (λ same. cc) ∙ i.read;
    }

pub returns-in-Err-clause-runs : goal.returns-in-Err-clause-runs
returns-in-Err-clause-runs g c =
    runs-stop g.T.Translator.cost g.T.Translator.after g.T.Translator.without _ _ _ _ _ _ _ _ _ _ _ _ _ c.sizes-harts.result.harts c.in-Err.stop _ c.in-None.ensures.0 c.each.invariant.harts c.each.invariant.so_far c.in-Err.ensures.next
