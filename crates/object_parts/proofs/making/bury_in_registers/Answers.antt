use Rattle.std.proofs.Common.{◌<◌, length, List, refl, ap, ◌∙◌, arith}
use Rattle.cap_format.specs.Capability.{Capability}
use Rattle.process_objects.specs.Process.{process_of}
use Rattle.object_store.specs.Meaning.{live}
use Rattle.object_parts.proofs.Mapped.{mapped_register, mapped_all}
use Rattle.object_parts.proofs.making.bury_in_registers.Goals as goal

pub loop-i-preserved : goal.loop-i-preserved
loop-i-preserved c =
    let l = c.loop-i in
    let old = c.args.process.now in
    let is = c.tell_range.ensures in
    let size = is.cap_registers in
    let more = c.loop-i-test.true in
    let within : l.i < length old.capregs = omega (arith, size, more) in
    c.set_capreg.ensures.capreg ∙ rw (c.live.ensures.value, c.capreg.ensures.value, l.invariant) (ap (λ (caps : List Capability). process_of old.pc old.regs caps old.slots old.state) (mapped_register (live c.args.objects.now.items) l.i old.capregs refl is.c0 within))

pub returns : goal.returns
returns c =
    let l = c.loop-i in
    let old = c.args.process.now in
    let size = c.tell_range.ensures.cap_registers in
    let end = c.loop-i-test.false in
    l.invariant ∙ ap (λ (caps : List Capability). process_of old.pc old.regs caps old.slots old.state) (mapped_all (live c.args.objects.now.items) l.i old.capregs (omega (arith, size, end)))
