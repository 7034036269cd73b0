-- The machine of a listing starts with all that its objects hold in its ranges.
use Rattle.std.proofs.Common.{ℕ, zero, suc, Bool, true, false, if◌then◌else◌, sym, subst, arith}
use Rattle.std.specs.List.{All}
use Rattle.process_objects.specs.Process.{ProcessValue}
use Rattle.object_store.specs.Store.{Store}
use Rattle.object_store.specs.Meaning.{meaning, process_map, state_map}
use Rattle.kernel_core.specs.State.{State, schedule_slot}
use Rattle.kernel_core.specs.Setters.{ready}
use Rattle.image_builder.specs.Given.{final_process}
use Rattle.image_builder.specs.Boot.{objects_of, is_running, at_rest, made_ready}
use Rattle.read_back.specs.Listable.{IsListable}
use Rattle.run_ranges.specs.Ranges.{IsRangedState, AreInRanges}
use Rattle.run_ranges.proofs.Messages.{readied_at-in}
use Rattle.boot_again.specs.Ranges.{BootedIsInRanges}
use Rattle.boot_again.proofs.AtRest.{mapped_each, listable-at_rest}
use Rattle.boot_again.proofs.Ready.{made_more}

-- objects that a listing can say are in their ranges, if the states of their processes are
listable-in : (s : Store) → IsListable s
    → All (λ (process : ProcessValue). IsRangedState process.state) s.contents.processes → AreInRanges s
listable-in s is states =
    let ranged = is.store.ranged in
    let table = ranged.counts.processes.size in
    let counted = is.store.sized.processes in
    let stated = is.stated in
    record {
      items = ranged;
      gpts = λ g d there i e slot. ((ranged.gpts g d there).slots i e slot, (stated.slots g d there i e slot).uncounted);
      pages = is.bytes;
      cappages = λ n d there i e slot.
          ((is.cappages n d there).slots i e slot, (stated.cappages n d there i e slot).uncounted);
      processes = λ p d there. record {
        pc = is.pcs p d there;
        regs = is.registers p d there;
        capregs = λ i e register.
            ((is.processes p d there).capregs i e register, (stated.capregs p d there i e register).uncounted);
        slots = λ i e slot.
            ((is.processes p d there).slots i e slot, (stated.process_slots p d there i e slot).uncounted);
        state = states p d there;
      };
      few = omega (arith, table, counted);
      endpoints = λ n d there. record {
        id = is.ids n d there;
        payload = is.payloads n d there;
        recipient = (is.recipients n d there, (stated.recipients n d there).uncounted);
      };
    }

-- making processes ready keeps objects in their ranges
ready-in : (s : State) → AreInRanges s.store → (p : ℕ) → AreInRanges (ready s p).store
ready-in s r p = readied_at-in s.store r (schedule_slot s p) p s.queues

made_ready-in : (runs : ℕ → Bool) (n : ℕ) (s : State) → AreInRanges s.store → AreInRanges (made_ready runs n s).store
made_ready-in runs zero s r = r
made_ready-in runs (suc n) s r =
    subst (λ (t : State). AreInRanges t.store) (sym (made_more runs n s)) (on (runs n) (made_ready-in runs n s r))
  where
    before : State
    before = made_ready runs n s

    on : (b : Bool) → AreInRanges before.store → AreInRanges (if b then ready before n else before).store
    on true kept = ready-in before kept n
    on false kept = kept

-- the objects of a listing, each process stopped, and then those of its machine
pub booted_is_in_ranges : BootedIsInRanges
booted_is_in_ranges listing is typed =
    let o = objects_of listing in
    let stops : All (λ (process : ProcessValue). IsRangedState process.state) (state_map o).contents.processes =
    mapped_each (λ (process : ProcessValue). IsRangedState process.state) (process_map (meaning o.items))
    listing.sizes.processes (final_process o.items.counts listing.statements) (λ p. omega arith) in
    made_ready-in (is_running listing) listing.sizes.processes (at_rest o)
    (listable-in (state_map o) (listable-at_rest listing is typed) stops)
