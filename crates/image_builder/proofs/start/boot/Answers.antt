use Rattle.std.proofs.Common.{length, sym, ap, subst, ◌∙◌, arith}
use Rattle.object_store.specs.declared.sizes.Sizes.{Sizes}
use Rattle.object_store.specs.Store.{sizes_of}
use Rattle.object_store.specs.Ahead.{NoneAhead}
use Rattle.image_builder.specs.Boot.{StoppedFrom}
use Rattle.image_builder.proofs.Listed.{length-listed}
use Rattle.image_builder.proofs.AtRest.{behind-objects_of, stopped-objects_of, sizes-objects_of}
use Rattle.image_builder.proofs.Booted.{booted_is}
use Rattle.image_builder.proofs.start.boot.Goals as goal

pub new-requires-2-clause-stopped : goal.new-requires-2-clause-stopped
new-requires-2-clause-stopped g c = λ p there. subst (StoppedFrom 0) (sym c.assign_all.ensures) (stopped-objects_of c.args.listing.now) p (omega arith)

pub new-requires-2-clause-behind : goal.new-requires-2-clause-behind
new-requires-2-clause-behind g c = subst NoneAhead (sym c.assign_all.ensures) (behind-objects_of c.args.listing.now)

pub start_all-requires-clause-running : goal.start_all-requires-clause-running
start_all-requires-clause-running g c =
    ap length (c.as_slice.ensures.value ∙ c.in_ok-running.ensures)
    ∙ (length-listed _ _ ∙ sym (ap (λ (sizes : Sizes). sizes.processes) (ap sizes_of (c.in_ok-machine.ensures.objects ∙ c.assign_all.ensures) ∙ sizes-objects_of c.args.listing.now)))

pub start_all-requires-clause-stopped : goal.start_all-requires-clause-stopped
start_all-requires-clause-stopped g c = subst (StoppedFrom 0) (sym (c.in_ok-machine.ensures.objects ∙ c.assign_all.ensures)) (stopped-objects_of c.args.listing.now)

pub returns-clause-sizes : goal.returns-clause-sizes
returns-clause-sizes g c = c.start_all.ensures.sizes ∙ (ap sizes_of (c.in_ok-machine.ensures.objects ∙ c.assign_all.ensures) ∙ sizes-objects_of c.args.listing.now)

pub returns-clause-state : goal.returns-clause-state
returns-clause-state g c =
    let made = c.in_ok-machine.ensures in
    booted_is c.args.listing.now c.assign_all.new.objects c.as_slice.result.now c.in_ok-machine.machine c.start_all.new.machine
    c.assign_all.ensures (c.as_slice.ensures.value ∙ c.in_ok-running.ensures) made.objects made.queues made.halted c.start_all.ensures.state
