use Rattle.breadth_first.proofs.Numbers.{first-unreached}
use Rattle.breadth_first.proofs.ever.first_unreached.Goals as goal

pub returns : goal.returns
returns c = first-unreached c.args.width c.args.ends.now c.args.marks.now c.reach_back.new.marks c.reach_back.auto.marks c.reach_back.ensures.marks c.first_mark.result c.first_mark.ensures
