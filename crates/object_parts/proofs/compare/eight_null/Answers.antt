use Rattle.std.proofs.Common.{◌≡◌, arith, eqb-true}
use Rattle.cap_format.specs.Capability.{null}
use Rattle.process_objects.specs.Process.{capreg_of}
use Rattle.object_parts.proofs.Compared.{each_of_eight}
use Rattle.object_parts.proofs.compare.eight_null.Goals as goal

-- eight numbers of which the sum is 0 are 0
pub returns : goal.returns
returns c = λ is.
    let none = eqb-true _ 0 is in
    each_of_eight (λ i. (capreg_of c.args.a.now i ≡ null) × (capreg_of c.args.b.now i ≡ null)) c.args.first
    (c.kinds_at.ensures.null (omega (arith, none)))
    (c.kinds_at-2.ensures.null (omega (arith, none)))
    (c.kinds_at-3.ensures.null (omega (arith, none)))
    (c.kinds_at-4.ensures.null (omega (arith, none)))
    (c.kinds_at-5.ensures.null (omega (arith, none)))
    (c.kinds_at-6.ensures.null (omega (arith, none)))
    (c.kinds_at-7.ensures.null (omega (arith, none)))
    (c.kinds_at-8.ensures.null (omega (arith, none)))
