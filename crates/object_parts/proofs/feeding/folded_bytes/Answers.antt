use Rattle.std.proofs.Common.{◌≡◌, ℕ, ◌+◌, suc, refl, sym, ap, ◌∙◌, arith}
use Rattle.object_parts.specs.Part.{mixed, eight_at, folded_bytes}
use Rattle.object_parts.proofs.feeding.folded_bytes.Goals as goal

pub loop-i-init : goal.loop-i-init
unfolding folded_bytes
loop-i-init c = refl

pub loop-i-preserved : goal.loop-i-preserved
unfolding folded_bytes
loop-i-preserved c =
    let l = c.loop-i in
    let next : l.i + 1 ≡ suc l.i = omega arith in
    c.mixed-sum.ensures
    ∙ ap (λ x. mixed l.sum x) c.eight_at.ensures
    ∙ ap (λ h. mixed h (eight_at c.args.bytes.now l.i)) l.invariant
    ∙ ap (λ (n : ℕ). folded_bytes c.args.start c.args.bytes.now n) (sym next)
