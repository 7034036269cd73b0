use Rattle.std.proofs.Common.{refl}
use Rattle.object_store.specs.Store.{sizes_of}
use Rattle.object_store.specs.Object.{object_name}
use Rattle.reverse_run.proofs.Keeping.{stands_more, among_more, remembers_one}
use Rattle.reverse_run.proofs.remembering.keep_object.Goals as goal

pub returns-in-Ok-clause-stands : goal.returns-in-Ok-clause-stands
returns-in-Ok-clause-stands g c =
    let kept = c.keep.ensures in
    let there = rw c.objects-objects.ensures at (c.in-Ok.ensures.exactly.0 refl) in
    stands_more c.args.past.now c.keep.new.self c.args.machine.now c.args.kind c.args.number there c.requires.stands (kept.sizes (sizes_of c.args.machine.now.objects) c.requires.stands.sizes) kept.holds kept.names kept.queues kept.halted

pub returns-in-Ok-clause-more : goal.returns-in-Ok-clause-more
returns-in-Ok-clause-more g c = λ k n among. among_more c.args.past.now c.keep.new.self (object_name c.args.kind c.args.number) k n c.keep.ensures.names among

pub returns-in-Ok-clause-kept : goal.returns-in-Ok-clause-kept
returns-in-Ok-clause-kept g c = remembers_one c.args.past.now c.keep.new.self c.args.machine.now.objects c.args.kind c.args.number c.keep.ensures.names
