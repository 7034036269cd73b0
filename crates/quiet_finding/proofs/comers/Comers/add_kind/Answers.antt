use Rattle.std.proofs.Common.{◌≡◌, ℕ, ◌+◌, ◌*◌, suc, ap, ◌∙◌, subst, arith}
use Rattle.object_store.specs.Meaning.{state_map}
use Rattle.object_store.specs.Places.{object_reads, places_in}
use Rattle.quiet_runs.specs.declared.reached_by.ReachedBy.{ReachedBy}
use Rattle.quiet_finding.specs.Passing.{IsAfter, by_objects, by_places, holder_of, in_objects, in_places}
use Rattle.quiet_finding.proofs.After.{after-more, after-none}
use Rattle.quiet_finding.proofs.comers.Comers.add_kind.Goals as goal

pub each-init : goal.each-init
each-init g c =
    let s = state_map c.args.objects.now in
    let holder = c.args.kind in
    record {
      after = after-none (λ kind n o. by_places s (holder_of c.args.last.now holder o) holder o (places_in holder) kind n) (λ test o. in_places s holder o (places_in holder) test) c.args.self.now;
      fetches = omega arith;
    }

pub each-preserved : goal.each-preserved
each-preserved g c =
    let s = state_map c.args.objects.now in
    let holder = c.args.kind in
    let n = c.each.n in
    let next : n + 1 ≡ suc n = omega arith in
    record {
      after = after-more (λ kind x o. by_places s (holder_of c.args.last.now holder o) holder o (places_in holder) kind x) (λ test o. in_places s holder o (places_in holder) test) n (n + 1) c.args.self.now c.each.self c.add_object.new.self next c.each.invariant.after
          (subst (λ (by : ReachedBy). IsAfter (by_places s by holder n (places_in holder)) (in_places s holder n (places_in holder)) c.each.self c.add_object.new.self) c.holder.ensures c.add_object.ensures.value);
      fetches = omega (arith, c.add_object.ensures.counted, c.each.invariant.fetches);
    }

pub returns-clause-value : goal.returns-clause-value
returns-clause-value g c =
    let s = state_map c.args.objects.now in
    let end : c.each.n ≡ c.size-n-end.result = omega arith in
    subst (λ (n : ℕ). IsAfter (by_objects s c.args.last.now c.args.kind n) (in_objects s c.args.kind n) c.args.self.now c.each.self)
    (end ∙ c.size-n-end.ensures) c.each.invariant.after

pub returns-clause-counted : goal.returns-clause-counted
returns-clause-counted g c =
    let end : c.each.n ≡ c.size-n-end.result = omega arith in
    let reads = ap (λ (n : ℕ). object_reads c.args.kind * n) (end ∙ c.size-n-end.ensures) in
    omega (arith, c.each.invariant.fetches, reads)
