use Rattle.std.proofs.Common.{ap, arith}
use Rattle.object_store.specs.Meaning.{state_map}
use Rattle.run_text.specs.State.{kind_text}
use Rattle.run_text.proofs.ByKind.{at_place, kinds_all, reads_none, reads_more, reads_most, reads_done}
use Rattle.coy_io.proofs.Texts.{same}
use Rattle.run_text.proofs.Texts.{none_yet, one_more, one_stops, all_done}
use Rattle.run_text.proofs.objects.put_objects.Goals as goal

pub each-init : goal.each-init
each-init g c = record { written = none_yet _ _ _; same = c.kinds-kinds.ensures; fetches = reads_none _ _ }

pub each-preserved : goal.each-preserved
each-preserved g c =
    let is = at_place _ c.each.place c.kinds-kinds.ensures in
    record {
      written = one_more _ _ _ _ _ _ _ _ _ c.each.invariant.written (same _ _ _ _ _ _ _ (ap (kind_text (state_map c.args.objects.now)) is) c.in_ok-put_kind.ensures.wrote);
      same = c.kinds-kinds.ensures;
      fetches = reads_more _ _ _ is _ _ c.each.invariant.fetches _ c.in_ok-put_kind.ensures.counted;
    }

pub returns-in_err-put_kind-clause-wrote : goal.returns-in_err-put_kind-clause-wrote
returns-in_err-put_kind-clause-wrote g c =
    let is = at_place _ c.each.place c.kinds-kinds.ensures in
    same _ _ _ _ _ _ _ (kinds_all (state_map c.args.objects.now))
    (one_stops _ _ _ _ _ _ _ _ _ _ _ c.each-test.true c.from_residual.ensures.0 c.each.invariant.written
    (same _ _ _ _ _ _ _ (ap (kind_text (state_map c.args.objects.now)) is) c.in_err-put_kind.ensures.wrote))

pub returns-in_err-put_kind-clause-most : goal.returns-in_err-put_kind-clause-most
returns-in_err-put_kind-clause-most g c =
    let is = at_place _ c.each.place c.kinds-kinds.ensures in
    reads_most _ _ _ is _ _ c.each.invariant.fetches _ c.each-test.true c.in_err-put_kind.ensures.most

pub returns-clause-wrote : goal.returns-clause-wrote
returns-clause-wrote g c =
    same _ _ _ _ _ _ _ (kinds_all (state_map c.args.objects.now))
    (all_done _ _ _ _ _ _ _ _ c.each-test.false c.each.auto.place-end c.each.invariant.written)

pub returns-clause-counted : goal.returns-clause-counted
returns-clause-counted g c = reads_done _ _ _ _ c.each-test.false c.each.auto.place-end c.each.invariant.fetches

pub returns-clause-most : goal.returns-clause-most
returns-clause-most g c =
    let all = reads_done _ _ _ _ c.each-test.false c.each.auto.place-end c.each.invariant.fetches in
    omega arith
