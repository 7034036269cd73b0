-- What a process of the right performs: in two states side by side the same instruction tells the same and leaves states side by
-- side.
use Rattle.std.proofs.Common.{◌≡◌, ℕ, Bool, true, false, List, ◌∷◌, Result, Ok, Err, refl, ◌∙◌, ap, subst, subst₂}
use Rattle.cap_format.specs.declared.kind.CapKind.TheVariants.{Page, Endpoint, Process}
use Rattle.cap_format.specs.Capability.{Capability}
use Rattle.walk_meaning.specs.declared.kind.Kind.{Kind}
use Rattle.walk_meaning.specs.declared.kind.Kind.TheVariants.{Load, Store as Put, CapStore}
use Rattle.walk_meaning.specs.declared.place.Place.{Place}
use Rattle.walk_meaning.specs.declared.place.WalkFault.{WalkFault}
use Rattle.walk_meaning.specs.Laws.{serving}
use Rattle.walk_meaning.specs.Walk.{is_data}
use Rattle.walk_engine.specs.declared.hit.Hit.{Hit}
use Rattle.walk_engine.specs.Answer.{hit_of}
use Rattle.invocation.specs.Invocation.{InvocationValue}
use Rattle.invocation.specs.declared.callee.Callee.{Callee}
use Rattle.invocation.specs.declared.callee.Callee.TheVariants.{Kernel, Open}
use Rattle.invocation.specs.Target.{callee}
use Rattle.string_move.specs.declared.piece.Piece.{Piece}
use Rattle.string_move.specs.Spans.{spans}
use Rattle.string_move.specs.Move.{gathered}
use Rattle.operations.specs.System.{System}
use Rattle.page_store.specs.CapPage.{cap_at}
use Rattle.object_store.specs.Store.{cappage_at}
use Rattle.machine_state.specs.declared.record.Record.{Record}
use Rattle.machine_state.specs.State.{State, process}
use Rattle.machine_state.specs.DataAccess.{data_access, number_at}
use Rattle.machine_state.specs.CapAccess.{cap_access, cap_found, slot_in}
use Rattle.messages.specs.Message.{sent_side, received_side, delivered}
use Rattle.kernel_core.specs.Event.{instruction}
use Rattle.kernel_core.specs.Induction.{Notions, Together, Origins, Reads, Parts, Cases}
use Rattle.kernel_core.proofs.Induction.{of_instructions}
use Rattle.confinement.specs.declared.cut_side.CutSide.TheVariants.{Right}
use Rattle.confinement.specs.Cut.{Cut, side_of, MayHold}
use Rattle.confinement.specs.Acts.{MayHoldIf, system_of}
use Rattle.confinement.proofs.Held.{may-read_own}
use Rattle.confinement.proofs.Messaging.{StringFaultOwn}
use Rattle.confinement.proofs.Events.{kind-may}
use Rattle.confinement.proofs.Isolating.States.{EndsOwn, HitOwn}
use Rattle.confinement.proofs.Isolating.Messaging.{SameString}
use Rattle.confinement.proofs.Isolating.Events.{beside, in-both, serves-page}
use Rattle.independence.proofs.Overlay.{Overlay}
use Rattle.independence.proofs.Answering.{Run, CalleeRight, callee-right, run-now, same-callee}
use Rattle.independence.proofs.States.{Both, same-number_at, same-found, same-gathered, both-written, both-cap_stored, same-here, held-here, both-set_pc, both-set_registers, both-set_capreg, both-ticked, same-cap_access, same-data_access, place-here, hit-here}
use Rattle.independence.proofs.Messaging.{Alike, alike-followed, alike-fault, alike-wait_on, alike-listen, alike-delivered, same-side, same-received}
use Rattle.independence.proofs.Kernel.{both-reply, alike-memory_op, alike-control_op}

module _ (cut : Cut) (f : Overlay cut) (start : System) (run : Run cut start.store) where
  -- a state that has another beside it
  pub record Has (s : State) : Type 0 where
    pub other : State
    pub both : Both cut f start s other

  -- states that have one beside them, processes and endpoints of the right, and what the right may hold; it may wait for anybody
  abbrev of_right : Notions
  of_right = record {
    holds = λ s. Has s;
    by = λ p. side_of cut Process p ≡ Right;
    heard = λ s e q. (side_of cut Endpoint e ≡ Right) × (side_of cut Process q ≡ Right);
    awaited = λ q. Unit {0};
    word = λ number. Unit {0};
    regs = λ registers. Unit {0};
    has = λ c. MayHold cut Right c;
    handler = λ s p c. MayHoldIf cut Right c;
    reply = λ reply. MayHoldIf cut Right reply.cap;
    does = λ effect. Unit {0};
    asks = λ inv. Unit {0};
  }

  -- two states side by side, and what an instruction makes of them
  abbrev two : Together Bool of_right
  two = record {
    first = true;
    kept = λ s. Both cut f start (s true) (s false);
    makes = λ s o. Alike cut f start (o true) (o false);
    each = λ s b. record { other = s false; both = b };
  }

  -- ---- where accesses end

  page-here : (s t : State) (p at : ℕ) (kind : Kind) (hit : Hit) → Both cut f start s t → side_of cut Process p ≡ Right → is_data kind ≡ true → data_access s p at kind ≡ Ok hit
      → side_of cut Page hit.page ≡ Right
  page-here s t p at kind hit b own is e = subst (HitOwn cut Right) e (hit-here cut f start p own s t b at kind (serves-page kind is))

  slot-here : (s t : State) (p at : ℕ) (kind : Kind) (place : Place) → Both cut f start s t → side_of cut Process p ≡ Right → cap_access s p at kind ≡ Ok place
      → side_of cut (serving kind) place.number ≡ Right
  slot-here s t p at kind place b own e = subst (EndsOwn cut Right (serving kind)) e (place-here cut f start p own s t b at kind)

  string-here : (s t : State) (p : ℕ) (inv : InvocationValue) → Both cut f start s t → side_of cut Process p ≡ Right → SameString cut Right (sent_side s p inv) (sent_side t p inv)
  string-here s t p inv b own = same-side cut f start p own s t b Load refl (spans inv.at inv.length)

  same-bytes : (s t : State) (p : ℕ) (inv : InvocationValue) → Both cut f start s t → side_of cut Process p ≡ Right
      → gathered s.store (sent_side s p inv).pieces ≡ gathered t.store (sent_side t p inv).pieces
  same-bytes s t p inv b own =
      let string = string-here s t p inv b own in
      same-gathered cut f start s t b (sent_side s p inv).pieces string.own ∙ ap (λ (pieces : List Piece). gathered t.store pieces) string.pieces

  -- ---- where what is read comes from

  hit-handled : (s t : State) (p at : ℕ) (kind : Kind) (fault : WalkFault) → Both cut f start s t → side_of cut Process p ≡ Right → data_access s p at kind ≡ Err fault → MayHoldIf cut Right fault.handler
  hit-handled s t p at kind fault b own e = cap-ends (cap_access s p at kind) (place-here cut f start p own s t b at kind) e
    where
      cap-ends : (r : Result Place WalkFault) → EndsOwn cut Right (serving kind) r → hit_of r ≡ Err fault → MayHoldIf cut Right fault.handler
      cap-ends (Err g) ends is = let same : g ≡ fault = cc (is) in subst (λ (g : WalkFault). MayHoldIf cut Right g.handler) same ends
      cap-ends (Ok place) ends is = absurd (cc (is))

  found-right : (s t : State) (p at : ℕ) (place : Place) → Both cut f start s t → MayHold cut Right (cap_found s place)
  found-right s t p at place b = let systems = b.systems in let apart = systems.apart in
      may-read_own cut Right place.restr.0 (cap_at (cappage_at s.store place.number) (slot_in place)) (apart.cappages place.number (slot_in place))

  called-right : (s t : State) (c : Capability) (to : Callee) → Both cut f start s t → MayHold cut Right c → callee s.store c ≡ to → CalleeRight cut to
  called-right s t c to b may e = let systems = b.systems in let apart = systems.apart in
      subst (CalleeRight cut) e (callee-right cut apart.closed s.store (run-now cut f start (system_of s) (system_of t) b.systems run) c may)

  origins : Origins of_right
  origins = record {
    register = λ s p i h own. tt;
    capreg = λ s p i h own. let held = held-here cut f start p own s h.other h.both in held.capregs i;
    pc = λ s p h own. tt;
    next = λ pc. tt;
    effect = λ s p word insn h own e. tt;
    computed = λ s p word insn h own e. tt;
    target = λ pc does. tt;
    load = λ at size signed rd does. tt;
    store = λ at size value does. tt;
    misaligned = λ target does. tt;
    loads = λ s p at size signed rd hit h own does e. tt;
    found = λ s p at place h own e. found-right s h.other p at place h.both;
    unhandled = λ s p. tt;
    handled = λ s p at kind fault h own e. hit-handled s h.other p at kind fault h.both own e;
    cap_handled = λ s p at kind fault h own e. subst (EndsOwn cut Right (serving kind)) e (place-here cut f start p own s h.other h.both at kind);
    asked = λ s p inv h own e. tt;
    kernel = λ s c cap h may e. called-right s h.other c (Kernel cap) h.both may e;
    busy = λ s c q h may e. tt;
    opens = λ s c e q h may is. called-right s h.other c (Open e q) h.both may is;
    sent_at = λ s p inv fault h own asks e. tt;
    sent_handled = λ s p inv fault h own asks e. let string = string-here s h.other p inv h.both own in subst (StringFaultOwn cut Right) e string.may;
    refusal = λ code. tt;
    grant = tt;
    kind = λ cap number may. kind-may cut Right number cap;
  }

  -- ---- the parts

  reads : Reads Bool of_right two
  reads = record {
    itself = λ s p b own. in-both (λ i. process (s i) p) (same-here cut f start p own (s true) (s false) b);
    hit = λ s p at kind b own. in-both (λ i. data_access (s i) p at kind) (same-data_access cut f start p own (s true) (s false) b at kind);
    number = λ s p at kind hit size b own is e. in-both (λ i. number_at (s i) hit size) (same-number_at cut f start (s true) (s false) b hit size (page-here (s true) (s false) p at kind hit b own is e));
    place = λ s p at kind b own. in-both (λ i. cap_access (s i) p at kind) (same-cap_access cut f start p own (s true) (s false) b at kind);
    found = λ s p at place b own e. in-both (λ i. cap_found (s i) place) (same-found cut f start (s true) (s false) b place);
    answers = λ s c b may. in-both (λ i. callee (s i).store c) (same-callee cut f start (system_of (s true)) (system_of (s false)) b.systems run c);
    faulted = λ s p inv b own asks. in-both (λ i. (sent_side (s i) p inv).fault) (string-here (s true) (s false) p inv b own).fault;
    bytes = λ s p inv b own asks. in-both (λ i. gathered (s i).store (sent_side (s i) p inv).pieces) (same-bytes (s true) (s false) p inv b own);
  }

  parts : Parts Bool of_right two
  parts = record {
    left = λ s o a. a.state;
    idle = λ s b. record { records = refl; state = b };
    told = λ s r o a. record { records = ap (λ (rs : List Record). r ∷ rs) a.records; state = a.state };
    named = λ s name o a. record { records = a.records; state = a.state };
    walked = λ s p at kind o b own word is a. record { records = a.records; state = a.state };
    cap_walked = λ s p at kind o b own a. record { records = a.records; state = a.state };
    behind = λ s o u first second. alike-followed cut f start (o true) (o false) (u true) (u false) first.records second;
  }

  alike-delivery : (s t : State) (p e q : ℕ) (inv : InvocationValue) → Both cut f start s t → side_of cut Process p ≡ Right → side_of cut Endpoint e ≡ Right → side_of cut Process q ≡ Right
      → Alike cut f start (delivered s p e q inv (sent_side s p inv).pieces (received_side s q inv.length).pieces) (delivered t p e q inv (sent_side t p inv).pieces (received_side t q inv.length).pieces)
  alike-delivery s t p e q inv b own over other =
      let from = string-here s t p inv b own in
      let to = same-received cut f start q other s t b inv.length in
      subst₂ (λ (xs ys : List Piece). Alike cut f start (delivered s p e q inv (sent_side s p inv).pieces (received_side s q inv.length).pieces) (delivered t p e q inv xs ys)) from.pieces to.pieces
      (alike-delivered cut f start p own e q over other inv s t b (sent_side s p inv).pieces (received_side s q inv.length).pieces from.own to.own)

  cases : Cases Bool of_right two
  cases = record {
    pc_is = λ s p pc b own word. record { records = refl; state = both-set_pc cut f start p own (s true) (s false) b pc pc refl };
    regs_are = λ s p registers b own are. record { records = refl; state = both-set_registers cut f start p own (s true) (s false) b registers registers refl };
    capreg_is = λ s p j c b own may. record { records = refl; state = both-set_capreg cut f start p own (s true) (s false) b j c may };
    replied = λ s p accept reply b own may. record { records = refl; state = both-reply cut f start p own (s true) (s false) b accept reply may };
    page_is = λ s p at hit size value b own e. record { records = refl; state = both-written cut f start (s true) (s false) b hit size value (page-here (s true) (s false) p at Put hit b own refl e) };
    cappage_is = λ s p at place c b own may e. record { records = refl; state = both-cap_stored cut f start (s true) (s false) b place c (slot-here (s true) (s false) p at CapStore place b own e) may };
    ready_again = λ s p b own. record { records = refl; state = both-ticked cut f start p own (s true) (s false) b };
    halts = λ s b. record { records = refl; state = record { systems = b.systems; halted = refl } };
    faults = λ s p code address handler b own word may. alike-fault cut f start p own run (s true) (s false) b code address handler may;
    waits = λ s p q b own other. alike-wait_on cut f start p own (s true) (s false) b q;
    listens = λ s p inv b own asks. alike-listen cut f start p own (s true) (s false) b inv;
    sends = λ s p inv b own asks. record { records = (string-here (s true) (s false) p inv b own).records; state = b };
    receives = λ s e q inv b heard asks. record { records = (same-received cut f start q heard.1 (s true) (s false) b inv.length).records; state = b };
    delivers = λ s p e q inv b own heard asks. alike-delivery (s true) (s false) p e q inv b own heard.0 heard.1;
    memory = λ s p inv cap b own asks may memory. alike-memory_op cut f start p own (s true) (s false) b inv cap may memory;
    control = λ s p inv cap b own asks may. alike-control_op cut f start p own (s true) (s false) b inv cap may;
  }

  -- one instruction
  pub alike-instruction : (p : ℕ) → side_of cut Process p ≡ Right → (s t : State) → Both cut f start s t → Alike cut f start (instruction s p) (instruction t p)
  alike-instruction p own s t b = of_instructions Bool of_right two origins reads parts cases p own (beside s t) b
