use Rattle.fair_rounds.proofs.Flooding.{reaches-on}
use Rattle.fair_rounds.proofs.arrivals.flood.Goals as goal

pub loop-at-preserved : goal.loop-at-preserved
loop-at-preserved c =
    let inv = c.loop-at.invariant in
    record {
      sound = λ i h. reaches-on c.args.width c.args.ends.now c.args.marks.now c.loop-at.marks inv.sound i (c.in_ok-add_arrivals.ensures.sound i h);
      kept = λ i h. c.in_ok-add_arrivals.ensures.kept i (inv.kept i h);
      list = c.in_ok-add_arrivals.ensures.list;
    }
