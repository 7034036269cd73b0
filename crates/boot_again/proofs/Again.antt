-- A machine that is booted from a listing can be said by a listing, which makes it again.
use Rattle.std.proofs.Common.{ℕ, ◌≡◌, ◌<◌, ◌^◌, Bool, true, false, List, map, length, get_or, refl, sym, ap, subst, ◌∙◌, arith}
use Rattle.std.specs.Prelude.{Some}
use Rattle.std.specs.List.{All, range_with_len}
use Rattle.std.specs.Option.{is_some}
use Rattle.std.proofs.Math.ListN.{get_or-map}
use Rattle.std.proofs.lemmas.List.{length-map}
use Rattle.cap_format.specs.declared.kind.CapKind.TheVariants.{Process}
use Rattle.process_objects.specs.declared.state.State.{State as RunState}
use Rattle.process_objects.specs.declared.state.State.TheVariants.{Running, Receiving, Faulted}
use Rattle.process_objects.specs.State.{IsState}
use Rattle.process_objects.specs.Process.{ProcessValue, IsProcess, with_state, stopped, empty_process}
use Rattle.object_store.specs.Store.{Store, sizes_of, size_of, process_at, with_contents}
use Rattle.object_store.specs.Meaning.{meaning, process_map, state_map}
use Rattle.object_store.proofs.Lists.{map-map}
use Rattle.schedules.specs.Standing.{empty_queues}
use Rattle.kernel_core.specs.State.{State}
use Rattle.listing_read.specs.CapWord.{IsStated}
use Rattle.listing_read.specs.Statement.{ListingValue}
use Rattle.image_builder.specs.Given.{listed, final_process}
use Rattle.image_builder.specs.Boot.{objects_of, is_running, at_rest, made_ready, booted}
use Rattle.read_back.specs.Laws.{runs_of}
use Rattle.read_back.specs.Listable.{IsListable}
use Rattle.boot_again.specs.Boots.{printed_listing, all_stopped}
use Rattle.boot_again.specs.Again.{IsAccepted, BootedIsListable, BootedAgain}
use Rattle.boot_again.proofs.AtRest.{mapped_each, length-mapped, sizes-objects_of, listable-at_rest}
use Rattle.boot_again.proofs.Ready.{made_same, stopped_same, kept, made_told}
use Rattle.boot_again.proofs.Boots.{boots}

-- ---- the states of processes alone

-- a fact of elements to which a function was applied
unmapped : {A B : Type 0} (P : B → Type 0) (h : A → B) (xs : List A) → All P (map h xs) → All (λ x. P (h x)) xs
unmapped P h xs all i d there =
    let long = length-map xs h in
    subst P (get_or-map h xs i d) (all i (h d) (omega arith))

abbrev stopped_one : ProcessValue → ProcessValue
stopped_one process = with_state process stopped

-- where objects with each process stopped can be said, and it is known of each whether it runs, they can be said
state_kept : (state : RunState) → is_some (runs_of state) ≡ true → IsState state
state_kept Running known = tt
state_kept (Faulted code address) known = tt
state_kept (Receiving accept) known = absurd (cc)

listable_again : (s : Store) → IsListable (all_stopped s) → All (λ process. is_some (runs_of process.state) ≡ true) s.contents.processes → IsListable s
listable_again s is known =
    let processes = unmapped IsProcess stopped_one s.contents.processes is.processes in
    record {
      store = record {
        ranged = is.store.ranged;
        sized = record {
          some_hart = is.store.sized.some_hart;
          most_harts = is.store.sized.most_harts;
          pages = is.store.sized.pages;
          cappages = is.store.sized.cappages;
          processes = sym (length-map s.contents.processes stopped_one) ∙ is.store.sized.processes;
          endpoints = is.store.sized.endpoints;
        };
      };
      pages = is.pages;
      cappages = is.cappages;
      processes = λ i d there.
          let process = processes i d there in
          record {
            aligned = process.aligned;
            registers = process.registers;
            x0 = process.x0;
            cap_registers = process.cap_registers;
            c0 = process.c0;
            capregs = process.capregs;
            three = process.three;
            slots = process.slots;
            state = state_kept (get_or s.contents.processes i d).state (known i d there);
          };
      bytes = is.bytes;
      pcs = unmapped (λ (process : ProcessValue). process.pc < 2 ^ 32) stopped_one s.contents.processes is.pcs;
      registers = unmapped (λ (process : ProcessValue). All (λ value. value < 2 ^ 32) process.regs) stopped_one s.contents.processes is.registers;
      ids = is.ids;
      payloads = is.payloads;
      recipients = is.recipients;
      receive = is.receive;
      stated = record {
        slots = is.stated.slots;
        cappages = is.stated.cappages;
        capregs = unmapped (λ (process : ProcessValue). All (IsStated (sizes_of s)) process.capregs) stopped_one s.contents.processes is.stated.capregs;
        process_slots = unmapped (λ (process : ProcessValue). All (IsStated (sizes_of s)) process.slots) stopped_one s.contents.processes is.stated.process_slots;
        recipients = is.stated.recipients;
      };
      running = known;
    }

-- ---- the machine of a listing

module _ (listing : ListingValue) where
  -- its objects, before and after processes are made ready
  abbrev rest : Store
  rest = state_map (objects_of listing)

  abbrev now : Store
  now = (booted listing).store

  -- before, each process is stopped
  rest_stopped : all_stopped rest ≡ rest
  unfolding listed
  rest_stopped =
      let o = objects_of listing in
      let f = final_process o.items.counts listing.statements in
      let n = listing.sizes.processes in
      ap (λ processes. with_contents rest (record rest.contents { processes = processes }))
      (map-map stopped_one (process_map (meaning o.items)) (listed n f)
      ∙ map-map (λ p. stopped_one (process_map (meaning o.items) p)) f (range_with_len 0 n)
      ∙ sym (map-map (process_map (meaning o.items)) f (range_with_len 0 n)))

  -- after, too, if each is stopped
  now_stopped : all_stopped now ≡ rest
  now_stopped = stopped_same (is_running listing) (at_rest (objects_of listing)) listing.sizes.processes ∙ rest_stopped

  module _ (is : IsAccepted listing) where
    pub listable : IsListable now
    listable =
        listable_again now (subst IsListable (sym now_stopped) (listable-at_rest listing is.listing_is is.typed)) is.accepted

    -- as many processes as the listing says
    size_is : size_of now.items Process ≡ listing.sizes.processes
    size_is = ap (λ (s : Store). size_of s.items Process) now_stopped ∙ ap (λ sizes. sizes.processes) (sizes-objects_of listing)

    -- a process runs where the listing says so, and was stopped elsewhere
    runs_as : (p : ℕ) → p < listing.sizes.processes → runs_of (process_at now p).state ≡ Some (is_running listing p)
    runs_as p below = on (is_running listing p) refl
      where
        o : State
        o = at_rest (objects_of listing)

        there : p < length rest.contents.processes
        there = let long = length-mapped (process_map (meaning (objects_of listing).items)) listing.sizes.processes (final_process (objects_of listing).items.counts listing.statements) in omega arith

        known : is_some (runs_of (process_at now p).state) ≡ true
        known = is.accepted p empty_process (let size = size_is in let sized = listable.store.sized.processes in omega arith)

        resting : (process_at rest p).state ≡ stopped
        resting =
            mapped_each (λ (q : ProcessValue). q.state ≡ stopped) (process_map (meaning (objects_of listing).items)) listing.sizes.processes
            (final_process (objects_of listing).items.counts listing.statements) (λ k. refl) p empty_process there

        on : (b : Bool) → is_running listing p ≡ b → runs_of (process_at now p).state ≡ Some b
        on true e = ap runs_of (made_told (is_running listing) (at_rest (objects_of listing)) listing.sizes.processes p below e there known)
        on false e = ap runs_of (ap (λ (q : ProcessValue). q.state) (kept (is_running listing) (at_rest (objects_of listing)) listing.sizes.processes p (λ _. e)) ∙ resting)

    -- what is printed of it makes it again
    pub again : booted (printed_listing now) ≡ booted listing
    again =
        let made = boots now listable in
        ap (λ s. made_ready (is_running (printed_listing now)) (size_of now.items Process) (let t : State = record { store = s; queues = empty_queues (size_of s.items Process) s.harts; halted = false } in t)) (made.objects ∙ now_stopped)
        ∙ ap (λ n. made_ready (is_running (printed_listing now)) n (at_rest (objects_of listing))) size_is
        ∙ made_same (is_running (printed_listing now)) (is_running listing) listing.sizes.processes (at_rest (objects_of listing))
        (λ p below. let running = made.running p (let size = size_is in omega arith) ∙ runs_as p below in cc)

pub booted_is_listable : BootedIsListable
booted_is_listable = listable

pub booted_again : BootedAgain
booted_again = again
