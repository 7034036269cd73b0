use Rattle.std.proofs.Common.{◌≡◌, ◌+◌, ◌<◌, ◌≤◌, ◌⊎◌, inl, inr, ℕ, ap, arith, subst, sym, ◌∙◌}
use Rattle.std.proofs.lemmas.Bool.{cases_lt}
use Rattle.object_store.specs.Meaning.{live}
use Rattle.process_objects.specs.Process.{capreg_of}
use Rattle.object_parts.proofs.compare.eight_live_same.Goals as goal

pub loop-i-preserved : goal.loop-i-preserved
loop-i-preserved c = λ i from below. by i from below (cases_lt i c.loop-i.i)
  where
    here : live c.args.objects.now.items (capreg_of c.args.a.now c.loop-i.i) ≡ capreg_of c.args.b.now c.loop-i.i
    here = ap (live c.args.objects.now.items) (sym c.capreg.ensures.value) ∙ (c.same_live.ensures.0 c.if-not-same_live.false ∙ c.capreg-in-loop-i.ensures.value)

    by : (i : ℕ) → c.args.first ≤ i → i < c.loop-i.i + 1 → (i < c.loop-i.i) ⊎ (c.loop-i.i ≤ i) → live c.args.objects.now.items (capreg_of c.args.a.now i) ≡ capreg_of c.args.b.now i
    by i from below (inl before) = c.loop-i.invariant i from before
    by i from below (inr at) = subst (λ (k : ℕ). live c.args.objects.now.items (capreg_of c.args.a.now k) ≡ capreg_of c.args.b.now k) (omega (arith, below, at)) here
