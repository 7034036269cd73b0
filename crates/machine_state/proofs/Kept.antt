-- Each change of a machine keeps what a machine keeps.
use Rattle.std.proofs.Common.{◌≡◌, ℕ, zero, suc, ◌<◌, [], replicate, length, refl, sym, ◌∙◌, subst, arith, None, IfSome}
use Rattle.std.specs.List.{All, sum_by}
use Rattle.std.proofs.lemmas.List.{length-replicate}
use Rattle.cap_format.specs.declared.kind.CapKind.TheVariants.{Process}
use Rattle.cap_format.specs.Capability.{Capability}
use Rattle.page_store.specs.CapPage.{with_cap}
use Rattle.process_objects.specs.Process.{with_capreg}
use Rattle.object_store.specs.Store.{Store, with_process, with_cappage, process_at, cappage_at, size_of}
use Rattle.object_store.specs.Ahead.{IsBehind, NoneAhead}
use Rattle.object_store.proofs.Each.{capregs-each, process_slots-each}
use Rattle.object_store.proofs.Behind.{NoneAhead-with_process}
use Rattle.object_store.proofs.WritesBehind.{null_behind, put_capreg_behind, put_cap_behind}
use Rattle.schedules.specs.Queues.{QueuesValue, priorities}
use Rattle.schedules.specs.Standing.{standing, times_in, times_on, empty_queues}
use Rattle.cap_format.specs.declared.request.Reply.{Reply}
use Rattle.process_objects.specs.Accept.{AcceptValue}
use Rattle.operations.proofs.Placed.{agrees_written}
use Rattle.machine_state.specs.Machine.{IsMachine, NoneRuns}
use Rattle.machine_state.specs.Reply.{replied}
use Rattle.machine_state.proofs.Replied.{replied_keeps}

-- a process with another capability in a register
pub kept_capreg : (o : Store) (q : QueuesValue) (p to : ℕ) (cap : Capability) → IsBehind o.items cap → IsMachine o q → IsMachine (with_process o p (with_capreg (process_at o p) to cap)) q
kept_capreg o q p to cap behind is = record {
  fits = record { processes = is.fits.processes; harts = is.fits.harts };
  agrees = agrees_written o q p _ refl is.agrees;
  behind = put_capreg_behind o is.behind p to cap behind;
}

-- a capability page with another slot
pub kept_cap : (o : Store) (q : QueuesValue) (n slot : ℕ) (cap : Capability) → IsBehind o.items cap → IsMachine o q → IsMachine (with_cappage o n (with_cap (cappage_at o n) slot cap)) q
kept_cap o q n slot cap behind is = record {
  fits = record { processes = is.fits.processes; harts = is.fits.harts };
  agrees = record { sizes = is.agrees.sizes; each = is.agrees.each };
  behind = put_cap_behind o is.behind n slot cap behind;
}

-- nobody stands in empty queues
none_in : (p n : ℕ) → sum_by (times_in p) (replicate n []) ≡ 0
none_in p zero = refl
none_in p (suc n) = none_in p n

none_on : (p n : ℕ) → sum_by (times_on p) (replicate n None) ≡ 0
none_on p zero = refl
none_on p (suc n) = none_on p n

-- a new machine
pub kept_new : (o : Store) → NoneRuns o → NoneAhead o → length o.contents.processes ≡ size_of o.items Process → IsMachine o (empty_queues (size_of o.items Process) o.harts)
kept_new o stopped behind sizes = record {
  fits = record { processes = length-replicate (size_of o.items Process) []; harts = length-replicate o.harts None };
  agrees = record {
    sizes = sizes ∙ sym (length-replicate (size_of o.items Process) []);
    each = λ p h. nowhere p ∙ sym (stopped p (subst (λ n. p < n) sizes h));
  };
  behind = behind;
}
  where
    nowhere : (p : ℕ) → standing (empty_queues (size_of o.items Process) o.harts) p ≡ 0
    nowhere p =
        let ready = none_in p priorities in
        let asleep = none_in p (size_of o.items Process) in
        let harts = none_on p o.harts in
        omega (arith, ready, asleep, harts)

-- a process with a reply
pub kept_reply : (o : Store) (q : QueuesValue) (p : ℕ) (accept : AcceptValue) (reply : Reply) → IfSome reply.cap (IsBehind o.items) → IsMachine o q → IsMachine (with_process o p (replied (process_at o p) accept reply)) q
kept_reply o q p accept reply given is =
    let P = IsBehind o.items in
    let keeps = replied_keeps P (null_behind o) (process_at o p) accept reply (capregs-each P (null_behind o) o is.behind p) given in
    record {
      fits = record { processes = is.fits.processes; harts = is.fits.harts };
      agrees = agrees_written o q p _ keeps.state is.agrees;
      behind = NoneAhead-with_process o is.behind p _ keeps.capregs (subst (All P) (sym keeps.slots) (process_slots-each P (null_behind o) o is.behind p));
    }
