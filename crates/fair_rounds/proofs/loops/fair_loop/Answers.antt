use Rattle.std.proofs.Common.{◌≡◌, length, sym, ap, ◌∙◌, subst, arith}
use Rattle.std.proofs.lemmas.Result.{IfOk-weaker}
use Rattle.fair_rounds.specs.Table.{IsTable, is_marked, IsLoop, ComesTo}
use Rattle.fair_rounds.specs.Loops.{GoesOn, Returns, IsLoopless}
use Rattle.fair_rounds.proofs.Looping.{IsUnderWay, under-start, under-more, under-stuck, under-home, under-back, match-weaker}
use Rattle.fair_rounds.proofs.loops.fair_loop.Goals as goal

pub loop-choice-init : goal.loop-choice-init
loop-choice-init c =
    let a = c.args in
    let marks = c.in_ok-marks.marks.items in
    subst (IsUnderWay a.width a.ends.now a.nodes a.at marks 0 a.at) (sym c.new-taken.ensures.items)
    (under-start a.width a.ends.now a.nodes a.at marks c.requires.table.edges c.requires.at c.in_ok-marks.ensures)

pub go_on-requires : goal.go_on-requires
go_on-requires c =
    let a = c.args in
    let long : length c.deref.result.now ≡ a.nodes = ap length c.deref.ensures.value ∙ c.in_ok-marks.ensures.many in
    record {
      table = subst (IsTable a.width a.ends.now) (sym long) c.requires.table;
      choice = c.loop-choice-test.true;
      from = omega (arith, long, c.loop-choice.invariant.inside);
      marked = ap (λ ms. is_marked ms c.loop-choice.here) c.deref.ensures.value ∙ c.loop-choice.invariant.marked;
    }

pub loop-choice-preserved : goal.loop-choice-preserved
loop-choice-preserved c =
    let a = c.args in
    let l = c.loop-choice in
    let marks = c.in_ok-marks.marks.items in
    let goes = subst (λ ms. GoesOn a.width a.ends.now ms l.choice l.here l.taken.items c.go_on.new.taken.items c.in_ok-next.field-0) c.deref.ensures.value c.in_ok-next.ensures.goes_on in
    let adds = subst (GoesOn a.width a.ends.now marks l.choice l.here l.taken.items c.go_on.new.taken.items) c.in-Some.is goes in
    under-more a.width a.ends.now a.nodes a.at marks c.requires.table.edges c.requires.at c.in_ok-marks.ensures l.choice l.here c.in-Some.next l.taken.items c.go_on.new.taken.items l.invariant adds

pub returns-in_default : goal.returns-in_default
returns-in_default c =
    let a = c.args in
    let l = c.loop-choice in
    let marks = c.in_ok-marks.marks.items in
    let goes = subst (λ ms. GoesOn a.width a.ends.now ms l.choice l.here l.taken.items c.go_on.new.taken.items c.in_ok-next.field-0) c.deref.ensures.value c.in_ok-next.ensures.goes_on in
    let none = subst (GoesOn a.width a.ends.now marks l.choice l.here l.taken.items c.go_on.new.taken.items) c.in_default.is goes in
    under-stuck a.width a.ends.now a.nodes a.at marks c.requires.table.edges c.requires.at c.in_ok-marks.ensures l.choice l.here l.taken.items l.invariant c.loop-choice-test.true none

pub go_back-requires : goal.go_back-requires
go_back-requires c = record { table = c.requires.table; from = c.loop-choice.invariant.inside; to = c.requires.at }

pub returns : goal.returns
returns c =
    let a = c.args in
    let l = c.loop-choice in
    let marks = c.in_ok-marks.marks.items in
    let all : l.choice ≡ a.width = omega arith in
    let way : IsUnderWay a.width a.ends.now a.nodes a.at marks a.width l.here l.taken.items = subst (λ n. IsUnderWay a.width a.ends.now a.nodes a.at marks n l.here l.taken.items) all l.invariant in
    let home = under-home a.width a.ends.now a.nodes a.at marks c.requires.table.edges c.requires.at c.in_ok-marks.ensures l.choice l.here l.taken.items l.invariant in
    IfOk-weaker c.go_back.result _ _
    (λ back h. match-weaker back (ComesTo a.width a.ends.now l.here a.at → ⊥) (IsLoopless a.width a.ends.now a.at)
    (λ b. Returns a.width a.ends.now l.here a.at l.taken.items b.items) (λ b. IsLoop a.width a.ends.now a.at b.items)
    (λ none. absurd (none home))
    (λ b r. under-back a.width a.ends.now a.nodes a.at marks c.requires.table.edges c.requires.at c.in_ok-marks.ensures l.here l.taken.items b.items way r) h)
    c.go_back.ensures
