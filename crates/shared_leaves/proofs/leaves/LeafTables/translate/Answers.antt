use Rattle.std.proofs.Common.{◌+◌, ◌/◌, refl, sym, ap, ◌∙◌, arith}
use Rattle.object_store.specs.Meaning.{map_of, meaning}
use Rattle.shared_leaves.specs.Kept.{SharedKept, cost_of, kept_after, tlb_after}
use Rattle.shared_leaves.specs.Effects.{value_of}
use Rattle.shared_leaves.proofs.Served.{changes-leaf}
use Rattle.shared_leaves.proofs.leaves.LeafTables.translate.Goals as goal

pub returns-in-Some-clause-counted : goal.returns-in-Some-clause-counted
returns-in-Some-clause-counted g c = omega (arith, c.in-Some.ensures.free)

pub walk_anew-requires-clause-none : goal.walk_anew-requires-clause-none
walk_anew-requires-clause-none g c = λ leaf there.
    c.in_default.ensures.none refl leaf (sym (changes-leaf (value_of c.args.self.now) (value_of c.find_kept.new.self) c.args.hart c.args.space (c.args.address / 4096) c.find_kept.ensures.changes) ∙ there)

pub returns-clause-counted : goal.returns-clause-counted
returns-clause-counted g c =
    c.walk_anew.ensures.counted
    ∙ ap (λ (k : SharedKept). c.args.fetches.now + cost_of k (map_of c.args.objects.now.items) (meaning c.args.objects.now.items c.args.space) c.args.address c.args.kind) c.find_kept.ensures.same

pub returns-clause-after : goal.returns-clause-after
returns-clause-after g c =
    c.walk_anew.ensures.after
    ∙ ap (λ (k : SharedKept). kept_after k (map_of c.args.objects.now.items) (meaning c.args.objects.now.items c.args.space) c.args.address c.args.kind) c.find_kept.ensures.same

pub returns-clause-others : goal.returns-clause-others
returns-clause-others g c = λ k differs.
    c.walk_anew.ensures.others k differs
    ∙ (λ i. tlb_after (c.find_kept.ensures.same i) (map_of c.args.objects.now.items) (meaning c.args.objects.now.items c.args.space) c.args.address c.args.kind (c.find_kept.ensures.changes.others k differs i))
