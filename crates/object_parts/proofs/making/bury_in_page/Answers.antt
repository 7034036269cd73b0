use Rattle.std.proofs.Common.{◌<◌, length, ◌∙◌, arith}
use Rattle.cap_format.specs.Capability.{null}
use Rattle.object_store.specs.Meaning.{live}
use Rattle.object_parts.proofs.Mapped.{mapped_more, mapped_all}
use Rattle.object_parts.proofs.making.bury_in_page.Goals as goal

pub loop-i-preserved : goal.loop-i-preserved
loop-i-preserved c =
    let l = c.loop-i in
    let size = c.tell_range.ensures.size in
    let more = c.loop-i-test.true in
    let within : l.i < length c.args.page.now = omega (arith, size, more) in
    c.set.ensures.slot ∙ rw (c.live.ensures.value, c.get.ensures.value, l.invariant) (mapped_more (live c.args.objects.now.items) l.i c.args.page.now null within)

pub returns : goal.returns
returns c =
    let l = c.loop-i in
    let size = c.tell_range.ensures.size in
    let end = c.loop-i-test.false in
    l.invariant ∙ mapped_all (live c.args.objects.now.items) l.i c.args.page.now (omega (arith, size, end))
