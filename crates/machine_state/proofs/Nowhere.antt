-- A process that stands nowhere leaves no place.
use Rattle.std.proofs.Common.{◌≡◌, ℕ, ◌<◌, length, ◌∙◌, arith}
use Rattle.cap_format.specs.declared.kind.CapKind.TheVariants.{Process}
use Rattle.object_store.specs.Store.{Store, size_of, process_at}
use Rattle.schedules.specs.Queues.{QueuesValue, left}
use Rattle.schedules.specs.Ready.{places_due}
use Rattle.schedules.proofs.Nowhere.{left-nowhere}
use Rattle.machine_state.specs.Machine.{IsMachine}

-- a process of a machine that does not run
pub left_stopped : (o : Store) (q : QueuesValue) (p : ℕ) → IsMachine o q → p < size_of o.items Process → places_due (process_at o p).state ≡ 0 → left q p ≡ q
left_stopped o q p is there stopped =
    let within : p < length o.contents.processes = omega (arith, there, is.agrees.sizes, is.fits.processes) in
    left-nowhere q p (is.agrees.each p within ∙ stopped)
