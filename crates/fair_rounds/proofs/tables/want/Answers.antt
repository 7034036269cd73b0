use Rattle.std.proofs.Common.{true, false, map, ◌++◌, ap, ◌∙◌}
use Rattle.fair_rounds.specs.Table.{wanting_end}
use Rattle.fair_rounds.proofs.tables.want.Goals as goal

pub returns : goal.returns
returns c =
    let half = wanting_end c.args.goals.now c.args.firsts.now in
    c.in_ok-want_half-2.ensures ∙ ap (λ l. l ++ map (half true) c.args.ends.now) (c.in_ok-want_half.ensures ∙ ap (λ l. l ++ map (half false) c.args.ends.now) c.new-table.ensures.items)
