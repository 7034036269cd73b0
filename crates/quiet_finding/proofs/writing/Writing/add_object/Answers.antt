use Rattle.std.proofs.Common.{◌≡◌, ℕ, ◌+◌, ◌*◌, suc, subst, sym, ap, ◌∙◌, arith}
use Rattle.object_store.specs.Meaning.{state_map}
use Rattle.object_store.specs.Places.{cap_in, reads_in}
use Rattle.quiet_finding.specs.Passing.{in_places}
use Rattle.quiet_finding.specs.Writing.{WritesAfter, WritingValue, after_writing}
use Rattle.quiet_finding.proofs.Writes.{writes-cap, writes-more, writes-none}
use Rattle.quiet_finding.proofs.Places.{all-reads}
use Rattle.quiet_finding.proofs.writing.Writing.add_object.Goals as goal

pub each-init : goal.each-init
each-init g c = record {
  after = let s = state_map c.args.objects.now in writes-none (λ test i. test (cap_in s c.args.kind c.args.n i)) c.args.self.now;
  fetches = omega arith;
}

pub each-preserved : goal.each-preserved
each-preserved g c =
    let s = state_map c.args.objects.now in
    let i = c.each.i in
    let next : i + 1 ≡ suc i = omega arith in
    let cap = cap_in s c.args.kind c.args.n i in
    let one : WritesAfter (λ test. test cap) c.each.self (after_writing cap c.each.self) = writes-cap c.each.self cap in
    record {
      after = writes-more (λ test i. test (cap_in s c.args.kind c.args.n i)) i (i + 1) c.args.self.now c.each.self c.add_place.new.self next c.each.invariant.after
          (subst (λ (w : WritingValue). WritesAfter (λ test. test cap) c.each.self w) (sym c.add_place.ensures.value) one);
      fetches = omega (arith, c.add_place.ensures.counted, c.each.invariant.fetches);
    }

pub returns-clause-value : goal.returns-clause-value
returns-clause-value g c =
    let s = state_map c.args.objects.now in
    let end : c.each.i ≡ c.places-i-end.result = omega arith in
    subst (λ (i : ℕ). WritesAfter (in_places s c.args.kind c.args.n i) c.args.self.now c.each.self) (end ∙ c.places-i-end.ensures) c.each.invariant.after

pub returns-clause-counted : goal.returns-clause-counted
returns-clause-counted g c =
    let end : c.each.i ≡ c.places-i-end.result = omega arith in
    let reads = ap (λ (i : ℕ). reads_in c.args.kind * i) (end ∙ c.places-i-end.ensures) ∙ all-reads c.args.kind in
    omega (arith, c.each.invariant.fetches, reads)
