-- Every instruction tells the same in states side by side, and leaves states side by side.
use Rattle.std.proofs.Common.{◌≡◌, ℕ, min, Bool, true, false, List, ◌∷◌, refl, sym, ap, ◌∙◌, subst₂}
use Rattle.cap_format.specs.Capability.{Capability}
use Rattle.process_objects.specs.Accept.{AcceptValue}
use Rattle.walk_meaning.specs.declared.kind.Kind.TheVariants.{Load, Store as Put}
use Rattle.schedules.specs.Queues.{QueuesValue}
use Rattle.invocation.specs.Invocation.{InvocationValue}
use Rattle.invocation.specs.Target.{callee}
use Rattle.string_move.specs.declared.piece.Piece.{Piece}
use Rattle.string_move.specs.Spans.{spans}
use Rattle.string_move.specs.Move.{gathered}
use Rattle.machine_state.specs.declared.record.Record.{Record}
use Rattle.machine_state.specs.State.{State, process}
use Rattle.machine_state.specs.Setters.{halted, set_pc, set_registers, set_capreg}
use Rattle.machine_state.specs.Outcome.{done}
use Rattle.machine_state.specs.DataAccess.{data_access, number_at, written}
use Rattle.machine_state.specs.CapAccess.{cap_access, cap_found, cap_stored}
use Rattle.machine_state.specs.Reply.{set_reply}
use Rattle.messages.specs.Strings.{Side, side}
use Rattle.messages.specs.Message.{accept_in, sent_side, received_side, delivered}
use Rattle.kernel_core.specs.Event.{instruction}
use Rattle.kernel_core.specs.Induction.{wants_nothing, Together, Reads, Parts, Cases}
use Rattle.kernel_core.proofs.Induction.{of_instructions, wants_nothing-origins}
use Rattle.machine_state.specs.Home.{widened}
use Rattle.preemption.proofs.Systems.{AreKept, gathered-wide}
use Rattle.preemption.proofs.States.{Beside, Alike, same-read, still, done-alike, ticked-beside, fault-alike, wait_on-alike, listen-alike, same-side, delivered-alike, followed-alike, memory-alike, control-alike}

-- two states
abbrev pub pair : {A : Type 0} → A → A → Bool → A
pair a b false = a
pair a b true = b

-- what is the same in the second is so in each
either-same : {A : Type 0} (f : Bool → A) → f false ≡ f true → (i : Bool) → f false ≡ f i
either-same f e false = refl
either-same f e true = e

module _ (many : ℕ) (R : QueuesValue → QueuesValue → Type 0) (k : AreKept R) where
  abbrev two : Together Bool wants_nothing
  two = record {
    first = false;
    kept = λ s. Beside many R k (s false) (s true);
    makes = λ s o. Alike many R k (o false) (o true);
    each = λ s b. tt;
  }

  -- ---- what is read

  same-sent : (p : ℕ) (inv : InvocationValue) (s w : State) → Beside many R k s w
      → sent_side s p inv ≡ sent_side w p inv
  same-sent p inv s w b = same-side many R k p Load (spans inv.at inv.length) s w b

  same-received : (p : ℕ) (inv : InvocationValue) (s w : State) → Beside many R k s w
      → received_side s p inv.length ≡ received_side w p inv.length
  same-received p inv s w b =
      let accept = same-read many R k (λ u. accept_in u p) s w b (λ q. refl) in
      same-side many R k p Put (spans (accept_in s p).at (min inv.length (accept_in s p).bound))
      s w b
      ∙ ap (λ (taken : AcceptValue). side w p Put (spans taken.at (min inv.length taken.bound)))
      accept

  same-bytes : (p : ℕ) (inv : InvocationValue) (s w : State) → Beside many R k s w
      → gathered s.store (sent_side s p inv).pieces ≡ gathered w.store (sent_side w p inv).pieces
  same-bytes p inv s w b =
      let pieces = (sent_side s p inv).pieces in
      same-read many R k (λ u. gathered u.store pieces) s w b
      (λ q. gathered-wide s.store many pieces)
      ∙ ap (λ (string : Side). gathered w.store string.pieces) (same-sent p inv s w b)

  same-answers : (c : Capability) (s w : State) → Beside many R k s w
      → callee s.store c ≡ callee w.store c
  unfolding callee
  same-answers c s w b = same-read many R k (λ u. callee u.store c) s w b (λ q. refl)

  reads : Reads Bool wants_nothing two
  reads = record {
    itself = λ s p b own. either-same (λ i. process (s i) p)
        (same-read many R k (λ u. process u p) (s false) (s true) b (λ q. refl));
    hit = λ s p at kind b own. either-same (λ i. data_access (s i) p at kind)
        (same-read many R k (λ u. data_access u p at kind) (s false) (s true) b (λ q. refl));
    number = λ s p at kind hit size b own is e. either-same (λ i. number_at (s i) hit size)
        (same-read many R k (λ u. number_at u hit size) (s false) (s true) b (λ q. refl));
    place = λ s p at kind b own. either-same (λ i. cap_access (s i) p at kind)
        (same-read many R k (λ u. cap_access u p at kind) (s false) (s true) b (λ q. refl));
    found = λ s p at place b own e. either-same (λ i. cap_found (s i) place)
        (same-read many R k (λ u. cap_found u place) (s false) (s true) b (λ q. refl));
    answers = λ s c b may. either-same (λ i. callee (s i).store c)
        (same-answers c (s false) (s true) b);
    faulted = λ s p inv b own asks. either-same (λ i. (sent_side (s i) p inv).fault)
        (ap (λ (string : Side). string.fault) (same-sent p inv (s false) (s true) b));
    bytes = λ s p inv b own asks. either-same
        (λ i. gathered (s i).store (sent_side (s i) p inv).pieces)
        (same-bytes p inv (s false) (s true) b);
  }

  -- ---- the parts

  parts : Parts Bool wants_nothing two
  parts = record {
    left = λ s o a. a.state;
    idle = λ s b. done-alike many R k (s false) (s true) b;
    told = λ s r o a. record {
      records = ap (λ (rs : List Record). r ∷ rs) a.records;
      state = a.state;
    };
    named = λ s name o a. record { records = a.records; state = a.state };
    walked = λ s p at kind o b own word is a. record { records = a.records; state = a.state };
    cap_walked = λ s p at kind o b own a. record { records = a.records; state = a.state };
    behind = λ s o u first second. followed-alike many R k (o false) (o true) (u false) (u true)
        first.records second;
  }

  -- a change of the objects, and nothing besides
  changes : (f : State → State) (s w : State) → Beside many R k s w
      → ((q : QueuesValue) → f (widened many s q) ≡ widened many (f s) q) → (f s).queues ≡ s.queues
      → Alike many R k (done (f s)) (done (f w))
  changes f s w b same stays = done-alike many R k (f s) (f w) (still many R k f s w b same stays)

  halts-alike : (s w : State) → Beside many R k s w
      → Alike many R k (done (halted s)) (done (halted w))
  halts-alike s w b = changes halted s w b (λ q. refl) refl

  delivery-alike : (p e r : ℕ) (inv : InvocationValue) (s w : State) → Beside many R k s w
      → Alike many R k (delivered s p e r inv (sent_side s p inv).pieces
      (received_side s r inv.length).pieces)
      (delivered w p e r inv (sent_side w p inv).pieces (received_side w r inv.length).pieces)
  delivery-alike p e r inv s w b =
      let from = (sent_side s p inv).pieces in
      let to = (received_side s r inv.length).pieces in
      subst₂ (λ (xs ys : List Piece). Alike many R k (delivered s p e r inv from to)
      (delivered w p e r inv xs ys))
      (ap (λ (string : Side). string.pieces) (same-sent p inv s w b))
      (ap (λ (string : Side). string.pieces) (same-received r inv s w b))
      (delivered-alike many R k p e r inv from to s w b)

  cases : Cases Bool wants_nothing two
  cases = record {
    pc_is = λ s p pc b own word. changes (λ u. set_pc u p pc) (s false) (s true) b (λ q. refl)
        refl;
    regs_are = λ s p registers b own are. changes (λ u. set_registers u p registers) (s false)
        (s true) b (λ q. refl) refl;
    capreg_is = λ s p j c b own may. changes (λ u. set_capreg u p j c) (s false) (s true) b
        (λ q. refl) refl;
    replied = λ s p accept reply b own may. changes (λ u. set_reply u p accept reply) (s false)
        (s true) b (λ q. refl) refl;
    page_is = λ s p at hit size value b own e. changes (λ u. written u hit size value) (s false)
        (s true) b (λ q. refl) refl;
    cappage_is = λ s p at place c b own may e. changes (λ u. cap_stored u place c) (s false)
        (s true) b (λ q. refl) refl;
    ready_again = λ s p b own. record {
      records = refl;
      state = ticked-beside many R k p (s false) (s true) b;
    };
    halts = λ s b. halts-alike (s false) (s true) b;
    faults = λ s p code address handler b own word may. fault-alike many R k p code address handler
        (s false) (s true) b;
    waits = λ s p q b own other. wait_on-alike many R k p q (s false) (s true) b;
    listens = λ s p inv b own asks. listen-alike many R k p inv (s false) (s true) b;
    sends = λ s p inv b own asks. record {
      records =
          ap (λ (string : Side). string.records) (sym (same-sent p inv (s false) (s true) b));
      state = b;
    };
    receives = λ s e q inv b heard asks. record {
      records =
          ap (λ (string : Side). string.records) (sym (same-received q inv (s false) (s true) b));
      state = b;
    };
    delivers = λ s p e q inv b own heard asks. delivery-alike p e q inv (s false) (s true) b;
    memory = λ s p inv cap b own asks may memory. memory-alike many R k p inv cap (s false)
        (s true) b;
    control = λ s p inv cap b own asks may. control-alike many R k p inv cap (s false) (s true) b;
  }

  -- one instruction
  pub instruction-alike : (p : ℕ) (s w : State) → Beside many R k s w
      → Alike many R k (instruction s p) (instruction w p)
  instruction-alike p s w b = of_instructions Bool wants_nothing two wants_nothing-origins reads
      parts cases p tt (pair s w) b
