use Rattle.std.proofs.Common.{◌≡◌, ap, arith}
use Rattle.cap_format.specs.declared.kind.CapKind.TheVariants.{Page, Process}
use Rattle.object_store.specs.declared.sizes.Sizes.{Sizes}
use Rattle.object_store.specs.Store.{size_of, sizes_of}
use Rattle.machine_state.specs.Past.{used}
use Rattle.reverse_run.proofs.remembering.keep_plain.Goals as goal

pub keep-requires-clause-room : goal.keep-requires-clause-room
keep-requires-clause-room g c =
    let z = sizes_of c.args.machine.now.objects in
    let sizes = c.forget_objects.ensures.sizes z c.requires.sizes in
    let room : size_of c.forget_objects.new.self.copies.items Process ≡ size_of c.args.machine.now.objects.items Process = ap (λ (z : Sizes). z.processes) sizes.copies in
    omega (arith, room, c.requires.there.process)

pub keep-requires-in-Some-clause-room : goal.keep-requires-in-Some-clause-room
keep-requires-in-Some-clause-room g c =
    let z = sizes_of c.args.machine.now.objects in
    let sizes = c.keep.ensures.sizes z (c.forget_objects.ensures.sizes z c.requires.sizes) in
    let room : size_of c.keep.new.self.copies.items Page ≡ 18 = ap (λ (z : Sizes). z.pages) sizes.copies in
    let none : used Page c.forget_objects.new.self.places ≡ 0 = ap (used Page) c.forget_objects.ensures.nothing in
    let more = c.keep.ensures.used Page in
    omega (arith, room, none, more)

pub returns-in-None-clause-sizes : goal.returns-in-None-clause-sizes
returns-in-None-clause-sizes g c =
    let sizes = sizes_of c.args.machine.now.objects in
    c.keep.ensures.sizes sizes (c.forget_objects.ensures.sizes sizes c.requires.sizes)

pub returns-in-Some-clause-sizes : goal.returns-in-Some-clause-sizes
returns-in-Some-clause-sizes g c =
    let sizes = sizes_of c.args.machine.now.objects in
    c.keep-in-Some.ensures.sizes sizes (c.keep.ensures.sizes sizes (c.forget_objects.ensures.sizes sizes c.requires.sizes))
