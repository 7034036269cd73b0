use Rattle.std.proofs.Common.{◌≡◌, map, length, ap, ◌∙◌, subst, arith, true}
use Rattle.std.specs.List.{count_by}
use Rattle.breadth_first.specs.Progress.{IsFirstMark}
use Rattle.breadth_first.specs.Answer.{IsFirst}
use Rattle.breadth_first.proofs.Counts.{count-map, none-passes, first-passes}
use Rattle.breadth_first.proofs.search.Search.count.Goals as goal

pub path-requires-clause-index : goal.path-requires-clause-index
path-requires-clause-index g c = omega (arith, c.in-Some.ensures.0, c.requires.many)

pub returns : goal.returns
returns g c t are =
    let s = c.args.space.now in
    let states = map (g.S.Space.means s) c.args.self.now.seen.keys in
    let test = (g.S.Space.system s).test t in
    let first = first-passes (g.S.Space.system s) (g.met.S.Space.decides s) t states c.args.marks.now are c.requires.opened c.in-Some.index c.in-Some.ensures.1 c.in-Some.ensures.2 c.in_ok-path.path.items c.in_ok-path.ensures.path in
    let long : length c.in_ok-path.path.items ≡ c.len.result = omega (arith, c.len.ensures, c.in_ok-path.path.ok) in
    record {
      number = c.count_marks-states.ensures ∙ ap (count_by (λ mark. mark)) are ∙ count-map test states;
      first = subst (IsFirst (g.S.Space.system s) states t) long first;
    }

pub returns-in_default : goal.returns-in_default
returns-in_default g c t are =
    let s = c.args.space.now in
    let states = map (g.S.Space.means s) c.args.self.now.seen.keys in
    let test = (g.S.Space.system s).test t in
    let none = subst (IsFirstMark c.args.marks.now true) c.in_default.is c.first_mark.ensures in
    record {
      number = c.count_marks-states.ensures ∙ ap (count_by (λ mark. mark)) are ∙ count-map test states;
      first = none-passes test states c.args.marks.now are none;
    }
