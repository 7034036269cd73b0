use Rattle.std.proofs.Common.{◌<◌, ◌≤◌, arith}
use Rattle.object_store.specs.Store.{size_of}
use Rattle.object_store.specs.Meaning.{state_map}
use Rattle.run_text.specs.Objects.{object_text}
use Rattle.run_text.proofs.Texts.{none_yet, one_more, one_stops, all_done}
use Rattle.run_text.proofs.objects.put_kind.Goals as goal

pub each-init : goal.each-init
each-init g c = record { written = none_yet _ _ _; fetches = omega arith }

pub each-preserved : goal.each-preserved
each-preserved g c = record { written = one_more _ _ _ _ _ _ _ _ _ c.each.invariant.written c.in_ok-put_object.ensures.wrote; fetches = omega (arith, c.in_ok-put_object.ensures.counted) }

pub returns-in_err-put_object-clause-wrote : goal.returns-in_err-put_object-clause-wrote
returns-in_err-put_object-clause-wrote g c =
    let inside : c.each.n < size_of c.args.objects.now.items c.args.kind = omega arith in
    one_stops (object_text (state_map c.args.objects.now) c.args.kind) _ _ _ (size_of c.args.objects.now.items c.args.kind) _ _ _ _ _ _ inside c.from_residual.ensures.0 c.each.invariant.written c.in_err-put_object.ensures.wrote

pub returns-clause-wrote : goal.returns-clause-wrote
returns-clause-wrote g c =
    let past : size_of c.args.objects.now.items c.args.kind ≤ c.each.n = omega arith in
    let within : c.each.n ≤ size_of c.args.objects.now.items c.args.kind = omega arith in
    all_done (object_text (state_map c.args.objects.now) c.args.kind) _ _ (size_of c.args.objects.now.items c.args.kind) _ _ _ _ past within c.each.invariant.written
