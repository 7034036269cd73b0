use Rattle.std.proofs.Common.{◌<◌, length, List, ap, ◌∙◌, arith}
use Rattle.cap_format.specs.Capability.{Capability, null}
use Rattle.process_objects.specs.Process.{process_of}
use Rattle.object_store.specs.Meaning.{live}
use Rattle.object_parts.proofs.Mapped.{mapped_more, mapped_all}
use Rattle.object_parts.proofs.making.bury_in_slots.Goals as goal

pub loop-i-preserved : goal.loop-i-preserved
loop-i-preserved c =
    let l = c.loop-i in
    let old = c.args.process.now in
    let size = c.tell_range.ensures.three in
    let more = c.loop-i-test.true in
    let within : l.i < length old.slots = omega (arith, size, more) in
    c.set_slot.ensures.slot ∙ rw (c.live.ensures.value, c.slot.ensures.value, l.invariant) (ap (λ (caps : List Capability). process_of old.pc old.regs old.capregs caps old.state) (mapped_more (live c.args.objects.now.items) l.i old.slots null within))

pub returns : goal.returns
returns c =
    let l = c.loop-i in
    let old = c.args.process.now in
    let size = c.tell_range.ensures.three in
    let end = c.loop-i-test.false in
    l.invariant ∙ ap (λ (caps : List Capability). process_of old.pc old.regs old.capregs caps old.state) (mapped_all (live c.args.objects.now.items) l.i old.slots (omega (arith, size, end)))
