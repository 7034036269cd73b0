-- What a part of an event does to the objects of a machine it does to those of one with more
-- harts, and the queues of both keep what each change of queues keeps.
use Rattle.std.proofs.Common.{◌≡◌, ℕ, List, [], ◌∷◌, take, drop, slice_set, slice_index_or, ◌++◌, refl, sym, ap, ◌∙◌, subst}
use Rattle.cap_format.specs.declared.fault.FaultCode.{FaultCode}
use Rattle.cap_format.specs.declared.kind.CapKind.{CapKind}
use Rattle.cap_format.specs.declared.kind.CapKind.TheVariants.{Schedule, Process}
use Rattle.cap_format.specs.Capability.{Capability, to_object}
use Rattle.process_objects.specs.Accept.{AcceptValue}
use Rattle.process_objects.specs.Process.{empty_process}
use Rattle.object_store.specs.Store.{Store, process_at}
use Rattle.schedules.specs.Queues.{QueuesValue, sleepers_of, enqueued, asleep, left}
use Rattle.schedules.specs.Ready.{Runs, runs_of, with_processes, readied_process, readied_queues, readied, readied_all, unslept, woken}
use Rattle.operations.specs.System.{System, Meant, system, with_store, with_runs, schedule_by, count_in}
use Rattle.operations.specs.Change.{Change, PageIs, CapPageIs, SlotIs, HeaderIs, EndpointIs, ProcessIs, Left, Readied, Woken, Destroyed, applied, applied_all}
use Rattle.invocation.specs.declared.message.Message.{Message}
use Rattle.invocation.specs.Answerer.{Answer}
use Rattle.invocation.specs.Answerer.Answer.{Dead as NobodyAnswers, Open as Answers, Busy as IsBusy}
use Rattle.invocation.specs.Delivery.{delivered}
use Rattle.string_move.specs.declared.piece.Piece.{Piece}
use Rattle.string_move.specs.Move.{piece_bytes, with_piece, gathered, scattered, size_of_pieces, copied}
use Rattle.fault_path.specs.message_path.Messages.{told_system, waiting, receiving, listening}
use Rattle.fault_path.specs.Fault.{answered, fault_message, faulted}
use Rattle.object_store.specs.Store.{with_harts}

-- a relation between the queues of two machines, of which the same sleep, holds after the same
-- change of both
pub record AreKept (R : QueuesValue → QueuesValue → Type 0) : Type 0 where
  pub same_sleepers : (q r : QueuesValue) → R q r → q.sleepers ≡ r.sleepers
  pub when_ready : (q r : QueuesValue) (priority p : ℕ) → R q r
      → R (enqueued q priority p) (enqueued r priority p)
  pub when_asleep : (q r : QueuesValue) (p on : ℕ) → R q r → R (asleep q p on) (asleep r p on)
  pub when_left : (q r : QueuesValue) (p : ℕ) → R q r → R (left q p) (left r p)
  pub when_woken : (q r : QueuesValue) (on : ℕ) → R q r → R (unslept q on) (unslept r on)

module _ (many : ℕ) (R : QueuesValue → QueuesValue → Type 0) (k : AreKept R) where
  -- ---- making ready

  -- the same processes, with such queues
  pub record RunsAlike (a b : Runs) : Type 0 where
    pub processes : a.processes ≡ b.processes
    pub queues : R a.queues b.queues

  queues-readied : (kind : CapKind) (priority p : ℕ) (q r : QueuesValue) → R q r
      → R (readied_queues kind priority q p) (readied_queues kind priority r p)
  queues-readied Schedule priority p q r related = k.when_ready q r priority p related
  queues-readied kind priority p q r related = related

  pub readied-alike : (c : Capability) (p : ℕ) (a b : Runs) → RunsAlike a b
      → RunsAlike (readied c p a) (readied c p b)
  readied-alike c p a b alike = record {
    processes = ap (λ xs. slice_set xs p
        (readied_process c.kind (slice_index_or xs p empty_process))) alike.processes;
    queues = queues-readied c.kind c.object p a.queues b.queues alike.queues;
  }

  readied_all-alike : (c : ℕ → Capability) (ps : List ℕ) (a b : Runs) → RunsAlike a b
      → RunsAlike (readied_all c ps a) (readied_all c ps b)
  unfolding readied_all
  readied_all-alike c [] a b alike = alike
  readied_all-alike c (p ∷ ps) a b alike =
      readied_all-alike c ps (readied (c p) p a) (readied (c p) p b)
      (readied-alike (c p) p a b alike)

  pub woken-alike : (c : ℕ → Capability) (on : ℕ) (a b : Runs) → RunsAlike a b
      → RunsAlike (woken c on a) (woken c on b)
  woken-alike c on a b alike =
      subst (λ ps. RunsAlike (woken c on a)
      (readied_all c ps (record { processes = b.processes; queues = unslept b.queues on })))
      (ap (λ (sleepers : List (List ℕ)). slice_index_or sleepers on [])
      (k.same_sleepers a.queues b.queues alike.queues))
      (readied_all-alike c (sleepers_of a.queues on)
      (record { processes = a.processes; queues = unslept a.queues on })
      (record { processes = b.processes; queues = unslept b.queues on })
      (record {
        processes = alike.processes;
        queues = k.when_woken a.queues b.queues on alike.queues;
      }))

  -- ---- systems

  -- the same objects, with other queues
  abbrev pub wide_system : System → QueuesValue → System
  wide_system w queues = system (with_harts w.store many) queues

  pub record Aside (w v : System) : Type 0 where
    pub same : v ≡ wide_system w v.queues
    pub queues : R w.queues v.queues

  -- a function of systems may be looked at where the second has the first's objects
  pub aside-each : (f : System → System)
      → ((w : System) (r : QueuesValue) → R w.queues r → Aside (f w) (f (wide_system w r)))
      → (w v : System) → Aside w v → Aside (f w) (f v)
  aside-each f each w v aside = subst (λ u. Aside (f w) (f u)) (sym aside.same)
      (each w v.queues aside.queues)

  runs-aside : (w : System) (r : QueuesValue) (a b : Runs) → RunsAlike a b
      → Aside (with_runs w a) (with_runs (wide_system w r) b)
  runs-aside w r a b alike = record {
    same = ap (λ xs. system (with_harts (with_processes w.store xs) many) b.queues)
        (sym alike.processes);
    queues = alike.queues;
  }

  -- a process is made ready
  pub readied-aside : (c : Capability) (p : ℕ) (w : System) (r : QueuesValue) → R w.queues r
      → Aside (with_runs w (readied c p (runs_of w.store w.queues)))
      (with_runs (wide_system w r) (readied c p (runs_of w.store r)))
  readied-aside c p w r related = runs-aside w r (readied c p (runs_of w.store w.queues))
      (readied c p (runs_of w.store r))
      (readied-alike c p (runs_of w.store w.queues) (runs_of w.store r)
      (record { processes = refl; queues = related }))

  -- all sleepers are
  woken-aside : (c : ℕ → Capability) (on : ℕ) (w : System) (r : QueuesValue) → R w.queues r
      → Aside (with_runs w (woken c on (runs_of w.store w.queues)))
      (with_runs (wide_system w r) (woken c on (runs_of w.store r)))
  woken-aside c on w r related = runs-aside w r (woken c on (runs_of w.store w.queues))
      (woken c on (runs_of w.store r))
      (woken-alike c on (runs_of w.store w.queues) (runs_of w.store r)
      (record { processes = refl; queues = related }))

  -- ---- changes

  applied-aside : (change : Change) (w : System) (r : QueuesValue) → R w.queues r
      → Aside (applied Meant w change) (applied Meant (wide_system w r) change)
  applied-aside (PageIs n page) w r related = record { same = refl; queues = related }
  applied-aside (CapPageIs n page) w r related = record { same = refl; queues = related }
  applied-aside (SlotIs g i c) w r related = record { same = refl; queues = related }
  applied-aside (HeaderIs g header) w r related = record { same = refl; queues = related }
  applied-aside (EndpointIs e endpoint) w r related = record { same = refl; queues = related }
  applied-aside (ProcessIs p process) w r related = record { same = refl; queues = related }
  applied-aside (Left p) w r related =
      record { same = refl; queues = k.when_left w.queues r p related }
  applied-aside (Readied p) w r related = readied-aside (schedule_by Meant w.store p) p w r related
  applied-aside (Woken p) w r related = woken-aside (schedule_by Meant w.store) p w r related
  applied-aside (Destroyed kind n) w r related = record { same = refl; queues = related }

  pub applied_all-aside : (changes : List Change) (w v : System) → Aside w v
      → Aside (applied_all Meant w changes) (applied_all Meant v changes)
  applied_all-aside [] w v aside = aside
  applied_all-aside (change ∷ changes) w v aside =
      applied_all-aside changes (applied Meant w change) (applied Meant v change)
      (aside-each (λ u. applied Meant u change) (applied-aside change) w v aside)

  -- ---- messages and faults

  -- a process is told
  pub told-aside : (e p : ℕ) (message : Message) (w : System) (r : QueuesValue) → R w.queues r
      → Aside (told_system Meant w e p message) (told_system Meant (wide_system w r) e p message)
  unfolding told_system delivered
  told-aside e p message w r related =
      let s = delivered w.store e p message in
      readied-aside (schedule_by Meant s p) p (with_store w s) r related

  -- it waits for another
  pub waiting-aside : (p on : ℕ) (w : System) (r : QueuesValue) → R w.queues r
      → Aside (waiting w p on) (waiting (wide_system w r) p on)
  unfolding waiting
  waiting-aside p on w r related = record {
    same = refl;
    queues = k.when_asleep (left w.queues p) (left r p) p on (k.when_left w.queues r p related);
  }

  -- it listens
  pub listening-aside : (p : ℕ) (accept : AcceptValue) (w : System) (r : QueuesValue)
      → R w.queues r
      → Aside (listening Meant w p accept) (listening Meant (wide_system w r) p accept)
  unfolding listening
  listening-aside p accept w r related =
      let v = receiving w p accept in
      woken-aside (schedule_by Meant v.store) p v (left r p) (k.when_left w.queues r p related)

  faulted-aside : (p : ℕ) (code : FaultCode) (address : ℕ) (w : System) (r : QueuesValue)
      → R w.queues r
      → Aside (faulted w p code address) (faulted (wide_system w r) p code address)
  unfolding faulted
  faulted-aside p code address w r related =
      record { same = refl; queues = k.when_left w.queues r p related }

  -- it faults, and somebody hears it or nobody
  pub answered-aside : (p : ℕ) (code : FaultCode) (address payload : ℕ) (answer : Answer)
      (w : System) (r : QueuesValue) → R w.queues r
      → Aside (answered Meant w p code address payload answer)
      (answered Meant (wide_system w r) p code address payload answer)
  unfolding answered
  answered-aside p code address payload NobodyAnswers w r related =
      faulted-aside p code address w r related
  answered-aside p code address payload (IsBusy q) w r related = waiting-aside p q w r related
  answered-aside p code address payload (Answers e q) w r related =
      let message = fault_message (to_object Process p (count_in Meant w.store.items Process p))
      (process_at w.store p) code address payload in
      aside-each (λ u. told_system Meant u e q message) (told-aside e q message)
      (faulted w p code address) (faulted (wide_system w r) p code address)
      (faulted-aside p code address w r related)

-- ---- bytes

-- the bytes of pieces depend on no harts
pub gathered-wide : (s : Store) (harts : ℕ) (pieces : List Piece)
    → gathered (with_harts s harts) pieces ≡ gathered s pieces
unfolding gathered
gathered-wide s harts [] = refl
gathered-wide s harts (piece ∷ pieces) =
    ap (λ bytes. piece_bytes s piece ++ bytes) (gathered-wide s harts pieces)

scattered-wide : (s : Store) (harts : ℕ) (pieces : List Piece) (bytes : List ℕ)
    → scattered (with_harts s harts) pieces bytes ≡ with_harts (scattered s pieces bytes) harts
unfolding scattered
scattered-wide s harts [] bytes = refl
scattered-wide s harts (piece ∷ pieces) bytes =
    scattered-wide (with_piece s piece (take piece.len bytes)) harts pieces (drop piece.len bytes)

-- and so what is written to them
pub copied-wide : (s : Store) (harts : ℕ) (from to : List Piece)
    → copied (with_harts s harts) from to ≡ with_harts (copied s from to) harts
unfolding copied
copied-wide s harts from to =
    ap (λ bytes. scattered (with_harts s harts) to (take (size_of_pieces to) bytes))
    (gathered-wide s harts from)
    ∙ scattered-wide s harts to (take (size_of_pieces to) (gathered s from))
