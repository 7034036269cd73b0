use Rattle.std.proofs.Common.{◌+◌, List, drop, length, get_or, sym, ap, ◌∙◌, subst, arith}
use Rattle.std.proofs.lemmas.List.{drop_more, drop_all, length_push}
use Rattle.object_store.specs.Meaning.{meaning}
use Rattle.walk_meaning.proofs.SlotsLaw.{slots_law}
use Rattle.string_move.specs.declared.span.Span.{Span}
use Rattle.machine_state.specs.State.{state_of, space_of}
use Rattle.machine_state.specs.Faulting.{fault_map}
use Rattle.messages.specs.Strings.{side, piece_of}
use Rattle.event_reach.proofs.Walked.{IsOnWay, on_way_more, on_way_end, on_way_fault}
use Rattle.event_reach.proofs.strings.walk_spans.Goals as goal

pub each-preserved : goal.each-preserved
each-preserved g c =
    let l = c.each in
    let s = state_of c.args.machine.now in
    let list = c.as_slice-list.result.now in
    let none : Span = record { address = 0; size = 0 } in
    let span : Span = get_or list l.span-index none in
    let Rest : List Span → Type 0 = λ rest. IsOnWay (side s c.args.q c.args.kind list) (side s c.args.q c.args.kind rest) l.pieces in
    let way = subst Rest (drop_more list l.span-index none c.each-test.true) l.invariant.way in
    let walk = slots_law s.store.items (space_of s c.args.q) span.address c.args.kind in
    let more = on_way_more (side s c.args.q c.args.kind list) s c.args.q c.args.kind span (drop (l.span-index + 1) list) c.in-Ok.hit l.pieces way (sym c.in-Ok.ensures.means) in
    record {
      way = rw c.push.ensures more;
      number = rw c.push.ensures (let one = length_push l.pieces (piece_of c.in-Ok.hit span.size) in let before = l.invariant.number in omega (arith, one, before));
      within = let test = c.each-test.true in omega (arith, test);
      least = let before = l.invariant.least in let counted = c.in-Ok.ensures.counted in omega (arith, before, counted);
      most = let before = l.invariant.most in let counted = c.in-Ok.ensures.counted in omega (arith, before, counted, walk);
    }

pub returns-in-Err : goal.returns-in-Err
returns-in-Err g c =
    let l = c.each in
    let s = state_of c.args.machine.now in
    let list = c.as_slice-list.result.now in
    let none : Span = record { address = 0; size = 0 } in
    let span : Span = get_or list l.span-index none in
    let why = fault_map (meaning c.args.machine.now.objects.items) c.in-Err.why in
    let Rest : List Span → Type 0 = λ rest. IsOnWay (side s c.args.q c.args.kind list) (side s c.args.q c.args.kind rest) l.pieces in
    let way = subst Rest (drop_more list l.span-index none c.each-test.true) l.invariant.way in
    let ended = on_way_fault (side s c.args.q c.args.kind list) s c.args.q c.args.kind span (drop (l.span-index + 1) list) why l.pieces way (sym c.in-Err.ensures.means) in
    let spans = c.as_slice-list.ensures.value in
    let walk = slots_law s.store.items (space_of s c.args.q) span.address c.args.kind in
    let counted = c.in-Err.ensures.counted in
    let test = c.each-test.true in
    let number = ap (λ (x : List Span). length x) spans in
    record {
      pieces = ended.0 ∙ ap (λ (x : List Span). (side s c.args.q c.args.kind x).pieces) spans;
      fault = ended.1 ∙ ap (λ (x : List Span). (side s c.args.q c.args.kind x).fault) spans;
      least = let before = l.invariant.least in omega (arith, before, counted);
      most = let before = l.invariant.most in omega (arith, before, counted, walk, test, number);
    }

pub returns : goal.returns
returns g c =
    let l = c.each in
    let s = state_of c.args.machine.now in
    let list = c.as_slice-list.result.now in
    let Rest : List Span → Type 0 = λ rest. IsOnWay (side s c.args.q c.args.kind list) (side s c.args.q c.args.kind rest) l.pieces in
    let way = subst Rest (drop_all l.span-index list c.each-test.false) l.invariant.way in
    let ended = on_way_end (side s c.args.q c.args.kind list) s c.args.q c.args.kind l.pieces way in
    let spans = c.as_slice-list.ensures.value in
    let number = ap (λ (x : List Span). length x) spans in
    record {
      pieces = ended.0 ∙ ap (λ (x : List Span). (side s c.args.q c.args.kind x).pieces) spans;
      fault = ended.1 ∙ ap (λ (x : List Span). (side s c.args.q c.args.kind x).fault) spans;
      least = l.invariant.least;
      most = let before = l.invariant.most in let within = l.invariant.within in omega (arith, before, within, number);
    }
