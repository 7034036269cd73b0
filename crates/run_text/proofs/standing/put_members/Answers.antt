use Rattle.std.proofs.Common.{◌≡◌, ◌<◌, length, slice_get, None, [], sym, arith}
use Rattle.std.proofs.lemmas.Option.{slice_get_within}
use Rattle.run_text.specs.Standing.{member_text, members}
use Rattle.run_text.proofs.Texts.{member_more, member_stops, members_within, members_done}
use Rattle.run_text.proofs.standing.put_members.Goals as goal

pub each-smaller : goal.each-smaller
each-smaller g c =
    let inside : c.each.place < length (members c.args.queues.now c.args.queue) = slice_get_within _ _ _ (sym c.in-Some.ensures.value) in
    omega arith

pub each-preserved : goal.each-preserved
each-preserved g c = record {
  written = member_more member_text (members c.args.queues.now c.args.queue) _ _ (sym c.in-Some.ensures.value) _ _ _ _ _ _ c.each.invariant.written _ c.in_ok-put_member.ensures;
  within = members_within (λ _. []) _ _ _ (sym c.in-Some.ensures.value);
}

pub returns-in_err-put_member : goal.returns-in_err-put_member
returns-in_err-put_member g c =
    member_stops member_text (members c.args.queues.now c.args.queue) _ _ (sym c.in-Some.ensures.value) _ _ _ _ _ _ c.each.invariant.written _ _ c.from_residual.ensures.0 c.in_err-put_member.ensures

pub returns : goal.returns
returns g c =
    let none : slice_get (members c.args.queues.now c.args.queue) c.each.place ≡ None = cc in
    members_done member_text (members c.args.queues.now c.args.queue) _ c.each.place _ _ _ _ none c.each.invariant.within c.each.invariant.written
