-- The machine that is started is the one of the listing.
use Rattle.std.proofs.Common.{◌≡◌, ℕ, List, Bool, false, length, get_or, refl, ap, ◌∙◌}
use Rattle.cap_format.specs.declared.kind.CapKind.TheVariants.{Process}
use Rattle.object_store.specs.Store.{Store, size_of}
use Rattle.schedules.specs.Standing.{empty_queues}
use Rattle.machine_state.specs.Machine.{MachineValue}
use Rattle.machine_state.specs.State.{state_of}
use Rattle.listing_read.specs.Statement.{ListingValue}
use Rattle.image_builder.specs.Given.{listed}
use Rattle.image_builder.specs.Boot.{objects_of, is_running, at_rest, made_ready, booted}
use Rattle.image_builder.proofs.Listed.{length-listed, get_or-listed}
use Rattle.image_builder.proofs.Ready.{made_ready-same}

pub booted_is : {T : Type 0} (listing : ListingValue) (b : Store) (flags : List Bool) (machine new : MachineValue T)
    → b ≡ objects_of listing → flags ≡ listed listing.sizes.processes (λ p. is_running listing p)
    → machine.objects ≡ b → machine.queues ≡ empty_queues (size_of b.items Process) b.harts → machine.halted ≡ false
    → state_of new ≡ made_ready (λ p. get_or flags p false) (length flags) (state_of machine) → state_of new ≡ booted listing
booted_is listing b flags machine new all running objects queues halted done =
    let n = listing.sizes.processes in
    let runs = λ (p : ℕ). is_running listing p in
    let s = at_rest (objects_of listing) in
    let rest : state_of machine ≡ s = rw (objects, queues, halted, all) refl in
    done
    ∙ (ap (made_ready (λ p. get_or flags p false) (length flags)) rest
    ∙ (ap (λ fs. made_ready (λ p. get_or fs p false) (length fs) s) running
    ∙ (ap (λ m. made_ready (λ p. get_or (listed n runs) p false) m s) (length-listed n runs)
    ∙ made_ready-same (λ p. get_or (listed n runs) p false) runs n s (λ k h. get_or-listed n runs k false h))))
