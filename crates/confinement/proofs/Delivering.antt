-- Messages, waits and faults stay on the side of those that take part, but for who is told where that calls.
use Rattle.std.proofs.Common.{◌≡◌, ◌≢◌, ℕ, zero, suc, ◌⊎◌, inl, inr, Bool, true, false, ◌==◌, if◌then◌else◌, List, [], ◌∷◌, map, get_or, set, take, Option, Some, None, refl, sym, ◌∙◌, ap, subst}
use Rattle.cap_format.specs.declared.fault.FaultCode.{FaultCode}
use Rattle.cap_format.specs.declared.kind.CapKind.TheVariants.{Endpoint, Process}
use Rattle.cap_format.specs.Capability.{Capability, null, to_object}
use Rattle.process_objects.specs.declared.state.State.{State}
use Rattle.process_objects.specs.declared.state.State.TheVariants.{Running, Receiving, Faulted}
use Rattle.process_objects.specs.Accept.{AcceptValue}
use Rattle.process_objects.specs.Process.{ProcessValue, capreg_of, slot_of, with_capreg, with_slot, with_state}
use Rattle.endpoint_objects.specs.declared.endpoint.Endpoint.{Endpoint as EndpointValue}
use Rattle.endpoint_objects.specs.Endpoint.{raised}
use Rattle.object_store.specs.Store.{Store, process_at, endpoint_at, with_process}
use Rattle.schedules.specs.Queues.{left, asleep}
use Rattle.schedules.specs.Ready.{readied, woken, runs_of}
use Rattle.invocation.specs.declared.message.Message.{Message}
use Rattle.invocation.specs.Answerer.{Answer, answerer}
use Rattle.invocation.specs.Answerer.Answer.{Dead, Open, Busy}
use Rattle.invocation.specs.Delivery.{passed, passed_at, accepted, accepting, number_given, told_process, given, received, delivered}
use Rattle.invocation.specs.Target.{is_receiving}
use Rattle.operations.specs.System.{System, Reading, system, with_store, with_runs, schedule_by, count_in}
use Rattle.fault_path.specs.message_path.Messages.{told_system, waiting, receiving, listening}
use Rattle.fault_path.specs.Fault.{is_answer, handler_of, fault_message, faulted, answered, heard_by, fault_of}
use Rattle.confinement.specs.declared.cut_side.CutSide.{CutSide}
use Rattle.confinement.specs.Cut.{Cut, side_of, MayHold, MaySleep, TakesFrom, EachHeldBy, HoldsFor}
use Rattle.confinement.specs.Acts.{Told, Given, ProcessMoves, Moves, Acts, ProcessHeld, MayHoldIf, Hears, MayAwait}
use Rattle.confinement.proofs.Own.{AllMayHold, AnswersOwn}
use Rattle.confinement.proofs.Held.{may-own}
use Rattle.confinement.proofs.Sleeping.{each_set}
use Rattle.confinement.proofs.Giving.{AllAre, passed-recipient, received-rest, gains-received}
use Rattle.confinement.proofs.Acting.{taker-heard, moves-then, acts-then, acts-process, acts-endpoint, moves-process, moves-endpoint, held-process, acts-left, acts-asleep, acts-readied, moves-readied, acts-woken}
use Rattle.confinement.proofs.Answering.{answerer-own}

module _ (cut : Cut) (side : CutSide) where
  -- ---- what a process holds

  -- another state
  pub held-state : (v : ProcessValue) (state : State) → ProcessHeld cut side v → ProcessHeld cut side (with_state v state)
  held-state v state held = record { capregs = held.capregs; slots = held.slots }

  -- a capability register is written
  pub held-capreg : (v : ProcessValue) (i : ℕ) (c : Capability) → MayHold cut side c → ProcessHeld cut side v → ProcessHeld cut side (with_capreg v i c)
  held-capreg v i c may held = record { capregs = by (i == 0); slots = held.slots }
    where
      by : (b : Bool) (j : ℕ) → MayHold cut side (get_or (if b then v.capregs else set v.capregs i c) j null)
      by true j = held.capregs j
      by false j = each_set (λ j (c : Capability). MayHold cut side c) v.capregs i c null may held.capregs j

  -- a slot is written
  pub held-slot : (v : ProcessValue) (i : ℕ) (c : Capability) → MayHold cut side c → ProcessHeld cut side v → ProcessHeld cut side (with_slot v i c)
  held-slot v i c may held = record { capregs = held.capregs; slots = each_set (λ j (c : Capability). MayHold cut side c) v.slots i c null may held.slots }

  held-told : (v : ProcessValue) (id number : ℕ) (message : Message) → ProcessHeld cut side v → ProcessHeld cut side (told_process v id number message)
  unfolding told_process
  held-told v id number message held = record { capregs = held.capregs; slots = held.slots }

  held-given : (v : ProcessValue) (is : List ℕ) (caps : List Capability) → AllMayHold cut side caps → ProcessHeld cut side v → ProcessHeld cut side (given v is caps)
  unfolding given
  held-given v [] caps all held = held
  held-given v (i ∷ is) [] all held = held
  held-given v (i ∷ is) (c ∷ caps) all held = held-given (with_capreg v i c) is caps all.1 (held-capreg v i c all.0 held)

  -- a message is received
  pub held-received : (v : ProcessValue) (id : ℕ) (message : Message) → AllMayHold cut side message.caps → ProcessHeld cut side v → ProcessHeld cut side (received v id message)
  unfolding received
  held-received v id message all held =
      let accept = accepted v.state in
      held-given (told_process v id (number_given accept message.caps) message) (accepting accept) message.caps all (held-told v id (number_given accept message.caps) message held)

  -- what a process sends it may hold
  pub all-sent : (v : ProcessValue) (registers : List ℕ) → ProcessHeld cut side v → AllMayHold cut side (map (capreg_of v) registers)
  all-sent v [] held = tt
  all-sent v (i ∷ is) held = (held.capregs i, all-sent v is held)

  -- ---- messages

  acts-passed : (w : System) (e : ℕ) → side_of cut Endpoint e ≡ side → HoldsFor cut side w → Acts cut side w (with_store w (passed_at w.store e))
  acts-passed w e own holds =
      acts-endpoint cut side w e (passed (endpoint_at w.store e)) own
      (subst (λ (c : Capability). MayHold cut side c) (sym (passed-recipient (endpoint_at w.store e))) (holds.each.recipients e own)) holds

  acts-delivered : (w : System) (e q : ℕ) (message : Message) → side_of cut Endpoint e ≡ side → side_of cut Process q ≡ side → AllMayHold cut side message.caps → HoldsFor cut side w
      → Acts cut side w (with_store w (delivered w.store e q message))
  unfolding delivered
  acts-delivered w e q message endpoint process all holds =
      let v = with_store w (passed_at w.store e) in
      let value = received (process_at w.store q) (endpoint_at w.store e).id message in
      acts-then cut side w v (with_store v (with_process v.store q value))
      (acts-passed w e endpoint holds)
      (λ h. acts-process cut side v q value process (held-received (process_at w.store q) (endpoint_at w.store e).id message all (held-process cut side w q process holds)) h)

  -- a message through an endpoint of this side to a process of this side
  acts-told_own : (reading : Reading) (w : System) (e q : ℕ) (message : Message) → side_of cut Endpoint e ≡ side → side_of cut Process q ≡ side → AllMayHold cut side message.caps → HoldsFor cut side w
      → Acts cut side w (told_system reading w e q message)
  unfolding told_system
  acts-told_own reading w e q message endpoint process all holds =
      let v = with_store w (delivered w.store e q message) in
      acts-then cut side w v (with_runs v (readied (schedule_by reading v.store q) q (runs_of v.store v.queues)))
      (acts-delivered w e q message endpoint process all holds)
      (λ h. acts-readied cut side v (schedule_by reading v.store q) q process h)

  -- ---- messages across

  passed-id : (v : EndpointValue) → (v.id ≡ (passed v).id) × (v.matching ≡ (passed v).matching)
  passed-id v = by v.matching
    where
      by : (b : Bool) → (v.id ≡ (if b then raised v else v).id) × (v.matching ≡ (if b then raised v else v).matching)
      by true = (refl, refl)
      by false = (refl, refl)

  take-none : (is : List ℕ) → take 0 is ≡ []
  take-none [] = refl
  take-none (i ∷ is) = refl

  given-none : (v : ProcessValue) (caps : List Capability) → given v [] caps ≡ v
  unfolding given
  given-none v caps = refl

  -- who accepts nothing is given words and no capability
  received-deaf : (v : ProcessValue) (id : ℕ) (message : Message) → (accepted v.state).caps ≡ 0 → received v id message ≡ told_process v id (number_given (accepted v.state) message.caps) message
  unfolding received
  received-deaf v id message none =
      let x = told_process v id (number_given (accepted v.state) message.caps) message in
      ap (λ (n : ℕ). given x (take n (accepted v.state).regs) message.caps) none
      ∙ (ap (λ (is : List ℕ). given x is message.caps) (take-none (accepted v.state).regs) ∙ given-none x message.caps)

  told-capregs : (v : ProcessValue) (id number : ℕ) (message : Message) → v.capregs ≡ (told_process v id number message).capregs
  unfolding told_process
  told-capregs v id number message = refl

  all-are : (caps : List Capability) → AllMayHold cut side caps → AllAre (MayHold cut side) caps
  all-are [] all = tt
  all-are (c ∷ cs) all = (all.0, all-are cs all.1)

  none-or-some : (n : ℕ) → (n ≡ 0) ⊎ (n ≢ 0)
  none-or-some zero = inl refl
  none-or-some (suc n) = inr (λ e. cc (e))

  none-idle : (state : State) → is_receiving state ≡ false → (accepted state).caps ≡ 0
  none-idle (Receiving accept) idle = absurd (cc (idle))
  none-idle Running idle = refl
  none-idle (Faulted code address) idle = refl

  -- where this side calls, and the recipient received in system `base`
  module _ (base w : System) (holds : HoldsFor cut side base) (first : Acts cut side base w) (e q : ℕ) (calls : cut.calls side e ≡ true) (takes : TakesFrom base.store e q) where
    told-there : Told cut side base q
    told-there = record { through = e; calls = calls; takes = takes }

    taker-other : side_of cut Process q ≢ side
    taker-other = holds.beyond.others q (taker-heard cut side base.store e q holds.beyond calls takes)

    -- where it accepts a capability now, it did so in system `base`
    given-there : (accepted (process_at w.store q).state).caps ≢ 0 → Given cut side base q
    given-there accepts = let process = first.objects Process q taker-other in record {
      told = told-there;
      accepts = λ none. accepts (elim process.state [
        | inl same ↦ subst (λ (state : State). (accepted state).caps ≡ 0) same none
        | inr met ↦ none-idle (process_at w.store q).state met.0
      ]);
    }

    -- it is given capabilities only where it accepts them, and such as this side may hold
    moves-received : (id : ℕ) (message : Message) → AllMayHold cut side message.caps
        → ProcessMoves cut side base q (process_at w.store q) (received (process_at w.store q) id message)
    moves-received id message all =
        let x = process_at w.store q in
        let rest = received-rest x id message in
        record {
          pc = rest.pc;
          slots = rest.slots;
          capregs = elim (none-or-some (accepted x.state).caps) [
            | inl none ↦ inl (told-capregs x id (number_given (accepted x.state) message.caps) message
                ∙ ap (λ (y : ProcessValue). y.capregs) (sym (received-deaf x id message none)))
            | inr some ↦ inr (given-there some)
          ];
          given = gains-received (MayHold cut side) x id message (all-are message.caps all);
          regs = inr told-there;
          state = inl rest.state;
        }

    moves-passed : (h : HoldsFor cut side w) → Moves cut side base w (with_store w (passed_at w.store e))
    moves-passed h =
        let v = endpoint_at w.store e in
        let kept = passed-id v in
        moves-endpoint cut side base w e (passed v) (holds.beyond.away e calls)
        (record { recipient = sym (passed-recipient v); id = kept.0; matching = kept.1; payload = inr (record { taker = q; calls = calls; takes = takes }) }) h

    moves-delivered : (message : Message) → AllMayHold cut side message.caps → (h : HoldsFor cut side w) → Moves cut side base w (with_store w (delivered w.store e q message))
    unfolding delivered
    moves-delivered message all h =
        let v = with_store w (passed_at w.store e) in
        let id = (endpoint_at w.store e).id in
        let value = received (process_at w.store q) id message in
        moves-then cut side base w v (with_store v (with_process v.store q value)) (moves-passed h)
        (λ g. moves-process cut side base v q value taker-other (moves-received id message all) g)

    moves-told : (reading : Reading) (message : Message) → AllMayHold cut side message.caps → (h : HoldsFor cut side w) → Moves cut side base w (told_system reading w e q message)
    unfolding told_system
    moves-told reading message all h =
        let v = with_store w (delivered w.store e q message) in
        moves-then cut side base w v (with_runs v (readied (schedule_by reading v.store q) q (runs_of v.store v.queues)))
        (moves-delivered message all h)
        (λ g. moves-readied cut side base v (schedule_by reading v.store q) q taker-other (inl told-there) g)

  -- a message to one who takes it in system `base`
  pub acts-told : (reading : Reading) (base w : System) (e q : ℕ) (message : Message) → Hears cut side base.store e q → ((HoldsFor cut side w) → AllMayHold cut side message.caps) → HoldsFor cut side base → Acts cut side base w
      → Acts cut side base (told_system reading w e q message)
  acts-told reading base w e q message (inl own) all holds first =
      acts-then cut side base w (told_system reading w e q message) first (λ h. acts-told_own reading w e q message own.0 own.1 (all h) h)
  acts-told reading base w e q message (inr call) all holds first =
      moves-then cut side base base w (told_system reading w e q message) first (λ h. moves-told base w holds first e q call.0 call.1 reading message (all h) h)

  may-sleep : (p q : ℕ) → side_of cut Process p ≡ side → MayAwait cut side q → MaySleep cut p q
  may-sleep p q own (inl on) = inl (own ∙ sym on)
  may-sleep p q own (inr hears) = inr (subst (λ (s : CutSide). cut.hears s q ≡ true) (sym own) hears)

  -- a process sleeps on another
  pub acts-waiting : (w : System) (p q : ℕ) → side_of cut Process p ≡ side → MayAwait cut side q → HoldsFor cut side w → Acts cut side w (waiting w p q)
  unfolding waiting
  acts-waiting w p q own may holds =
      let v = system w.store (left w.queues p) in
      acts-then cut side w v (system v.store (asleep v.queues p q))
      (acts-left cut side w p own holds)
      (λ h. acts-asleep cut side v p q own (may-sleep p q own may) h)

  -- a process gets another state and leaves its place
  acts-state_left : (w : System) (p : ℕ) (state : State) → side_of cut Process p ≡ side → HoldsFor cut side w
      → Acts cut side w (system (with_process w.store p (with_state (process_at w.store p) state)) (left w.queues p))
  acts-state_left w p state own holds =
      let value = with_state (process_at w.store p) state in
      let v = with_store w (with_process w.store p value) in
      acts-then cut side w v (system v.store (left v.queues p))
      (acts-process cut side w p value own (held-state (process_at w.store p) state (held-process cut side w p own holds)) holds)
      (λ h. acts-left cut side v p own h)

  -- a process receives
  pub acts-receiving : (w : System) (p : ℕ) (accept : AcceptValue) → side_of cut Process p ≡ side → HoldsFor cut side w → Acts cut side w (receiving w p accept)
  acts-receiving w p accept own holds = acts-state_left w p (Receiving accept) own holds

  -- and all that slept on it are woken
  pub acts-listening : (reading : Reading) (w : System) (p : ℕ) (accept : AcceptValue) → side_of cut Process p ≡ side → HoldsFor cut side w → Acts cut side w (listening reading w p accept)
  unfolding listening
  acts-listening reading w p accept own holds =
      let v = receiving w p accept in
      acts-then cut side w v (with_runs v (woken (schedule_by reading v.store) p (runs_of v.store v.queues)))
      (acts-receiving w p accept own holds)
      (λ h. acts-woken cut side v (schedule_by reading v.store) p own h)

  -- ---- faults

  -- the handler that is asked may be held
  pub may-handler : (s : Store) (p : ℕ) (handler : Option Capability) → EachHeldBy cut side s → side_of cut Process p ≡ side → MayHoldIf cut side handler → MayHold cut side (handler_of s p handler)
  unfolding handler_of
  may-handler s p None each own may = each.process_slots p 2 own
  may-handler s p (Some c) each own may = by (is_answer (answerer s c))
    where
      by : (b : Bool) → MayHold cut side (if b then c else slot_of (process_at s p) 2)
      by true = may
      by false = each.process_slots p 2 own

  acts-faulted : (w : System) (p : ℕ) (code : FaultCode) (address : ℕ) → side_of cut Process p ≡ side → HoldsFor cut side w → Acts cut side w (faulted w p code address)
  unfolding faulted
  acts-faulted w p code address own holds = acts-state_left w p (Faulted code address) own holds

  acts-answered : (reading : Reading) (w : System) (p : ℕ) (code : FaultCode) (address payload : ℕ) (answer : Answer) → side_of cut Process p ≡ side → AnswersOwn cut side w.store answer → HoldsFor cut side w
      → Acts cut side w (answered reading w p code address payload answer)
  unfolding answered
  acts-answered reading w p code address payload Dead own answers holds = acts-faulted w p code address own holds
  acts-answered reading w p code address payload (Busy q) own answers holds = acts-waiting w p q own answers holds
  acts-answered reading w p code address payload (Open e q) own answers holds =
      let cap = to_object Process p (count_in reading w.store.items Process p) in
      let v = faulted w p code address in
      let message = fault_message cap (process_at w.store p) code address payload in
      acts-told reading w v e q message answers (λ h. (may-own cut side cap refl own, tt)) holds (acts-faulted w p code address own holds)

  -- a fault of a process, with a handler that this side may hold
  pub acts-fault : (reading : Reading) (w : System) (p : ℕ) (code : FaultCode) (address : ℕ) (handler : Option Capability) → side_of cut Process p ≡ side → MayHoldIf cut side handler → HoldsFor cut side w
      → Acts cut side w (fault_of reading w w.store p code address handler)
  acts-fault reading w p code address handler own may holds =
      acts-answered reading w p code address (handler_of w.store p handler).payload (heard_by w.store p handler) own
      (answerer-own cut side w.store holds.each holds.beyond (handler_of w.store p handler) (may-handler w.store p handler holds.each own may)) holds
