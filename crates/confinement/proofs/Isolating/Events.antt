-- What a process of this side performs: in two states that match, the same instruction tells the same and leaves states
-- that match.
use Rattle.std.proofs.Common.{◌≡◌, ℕ, Bool, true, false, true≢false, List, ◌∷◌, Ok, refl, sym, ◌∙◌, ap, subst, subst₂}
use Rattle.cap_format.specs.declared.kind.CapKind.TheVariants.{Page, Endpoint, Process}
use Rattle.walk_meaning.specs.declared.kind.Kind.{Kind}
use Rattle.walk_meaning.specs.declared.kind.Kind.TheVariants.{Fetch, Load, Store as Put, CapLoad, CapStore}
use Rattle.walk_meaning.specs.declared.place.Place.{Place}
use Rattle.walk_meaning.specs.Laws.{serving}
use Rattle.walk_meaning.specs.Walk.{is_data}
use Rattle.walk_engine.specs.declared.hit.Hit.{Hit}
use Rattle.invocation.specs.Invocation.{InvocationValue}
use Rattle.invocation.specs.Target.{callee}
use Rattle.string_move.specs.declared.piece.Piece.{Piece}
use Rattle.string_move.specs.Spans.{spans}
use Rattle.string_move.specs.Move.{gathered}
use Rattle.machine_state.specs.declared.record.Record.{Record}
use Rattle.machine_state.specs.State.{State, process}
use Rattle.machine_state.specs.DataAccess.{data_access, number_at}
use Rattle.machine_state.specs.CapAccess.{cap_access, cap_found}
use Rattle.messages.specs.Message.{sent_side, received_side, delivered}
use Rattle.kernel_core.specs.Event.{instruction}
use Rattle.kernel_core.specs.Induction.{Together, Reads, Parts, Cases}
use Rattle.kernel_core.proofs.Induction.{of_instructions}
use Rattle.confinement.specs.declared.cut_side.CutSide.{CutSide}
use Rattle.confinement.specs.Cut.{Cut, side_of}
use Rattle.confinement.specs.Acts.{system_of}
use Rattle.confinement.proofs.Events.{on_side, on_side-origins}
use Rattle.confinement.proofs.Own.{own-hears, own-await}
use Rattle.confinement.proofs.Isolating.Answering.{same-callee}
use Rattle.confinement.proofs.Isolating.States.{Matches, EndsOwn, HitOwn, same-number_at, same-found, same-gathered, match-written, match-cap_stored, same-here, same-cap_access, same-data_access, place-here, hit-here, match-set_pc, match-set_registers, match-set_capreg, match-ticked}
use Rattle.confinement.proofs.Isolating.Messaging.{Alike, SameString, alike-followed, alike-fault, alike-wait_on, alike-listen, alike-delivered, same-side, same-received}
use Rattle.confinement.proofs.Isolating.Kernel.{match-reply, alike-memory_op, alike-control_op}

-- a value of the first of two states, and one of the second
abbrev pub beside : {A : Type 0} → A → A → Bool → A
beside a b true = a
beside a b false = b

-- what is the same in the second is so in each
pub in-both : {A : Type 0} (f : Bool → A) → f true ≡ f false → (i : Bool) → f true ≡ f i
in-both f e true = refl
in-both f e false = e

-- a page serves accesses of data
pub serves-page : (kind : Kind) → is_data kind ≡ true → serving kind ≡ Page
serves-page Fetch e = refl
serves-page Load e = refl
serves-page Put e = refl
serves-page CapLoad e = absurd (true≢false (sym e))
serves-page CapStore e = absurd (true≢false (sym e))

module _ (cut : Cut) (on : CutSide) (alone : cut.weakly on ≡ false) where
  -- two states that match, and what an instruction makes of them
  abbrev two : Together Bool (on_side cut on)
  two = record {
    first = true;
    kept = λ s. Matches cut on (s true) (s false);
    makes = λ s o. Alike cut on (o true) (o false);
    each = λ s m. m.holds;
  }

  -- where accesses end
  page-here : (s t : State) (p at : ℕ) (kind : Kind) (hit : Hit) → Matches cut on s t → side_of cut Process p ≡ on → is_data kind ≡ true → data_access s p at kind ≡ Ok hit
      → side_of cut Page hit.page ≡ on
  page-here s t p at kind hit m own is e = subst (HitOwn cut on) e (hit-here cut on alone p own s t m at kind (serves-page kind is))

  slot-here : (s t : State) (p at : ℕ) (kind : Kind) (place : Place) → Matches cut on s t → side_of cut Process p ≡ on → cap_access s p at kind ≡ Ok place
      → side_of cut (serving kind) place.number ≡ on
  slot-here s t p at kind place m own e = subst (EndsOwn cut on (serving kind)) e (place-here cut on alone p own s t m at kind)

  string-here : (s t : State) (p : ℕ) (inv : InvocationValue) → Matches cut on s t → side_of cut Process p ≡ on → SameString cut on (sent_side s p inv) (sent_side t p inv)
  string-here s t p inv m own = same-side cut on alone p own s t m Load refl (spans inv.at inv.length)

  same-bytes : (s t : State) (p : ℕ) (inv : InvocationValue) → Matches cut on s t → side_of cut Process p ≡ on
      → gathered s.store (sent_side s p inv).pieces ≡ gathered t.store (sent_side t p inv).pieces
  same-bytes s t p inv m own =
      let string = string-here s t p inv m own in
      same-gathered cut on s t m (sent_side s p inv).pieces string.own ∙ ap (λ (pieces : List Piece). gathered t.store pieces) string.pieces

  reads : Reads Bool (on_side cut on) two
  reads = record {
    itself = λ s p m own. in-both (λ i. process (s i) p) (same-here cut on p own (s true) (s false) m);
    hit = λ s p at kind m own. in-both (λ i. data_access (s i) p at kind) (same-data_access cut on alone p own (s true) (s false) m at kind);
    number = λ s p at kind hit size m own is e. in-both (λ i. number_at (s i) hit size) (same-number_at cut on (s true) (s false) m hit size (page-here (s true) (s false) p at kind hit m own is e));
    place = λ s p at kind m own. in-both (λ i. cap_access (s i) p at kind) (same-cap_access cut on alone p own (s true) (s false) m at kind);
    found = λ s p at place m own e. in-both (λ i. cap_found (s i) place) (same-found cut on (s true) (s false) m place (slot-here (s true) (s false) p at CapLoad place m own e));
    answers = λ s c m may. in-both (λ i. callee (s i).store c) (same-callee cut on (system_of (s true)) (system_of (s false)) m.closed m.holds.each m.agree c may);
    faulted = λ s p inv m own asks. in-both (λ i. (sent_side (s i) p inv).fault) (string-here (s true) (s false) p inv m own).fault;
    bytes = λ s p inv m own asks. in-both (λ i. gathered (s i).store (sent_side (s i) p inv).pieces) (same-bytes (s true) (s false) p inv m own);
  }

  parts : Parts Bool (on_side cut on) two
  parts = record {
    left = λ s o a. a.state;
    idle = λ s m. record { records = refl; state = m };
    told = λ s r o a. record { records = ap (λ (rs : List Record). r ∷ rs) a.records; state = a.state };
    named = λ s name o a. record { records = a.records; state = a.state };
    walked = λ s p at kind o m own word is a. record { records = a.records; state = a.state };
    cap_walked = λ s p at kind o m own a. record { records = a.records; state = a.state };
    behind = λ s o u first second. alike-followed cut on (o true) (o false) (u true) (u false) first.records second;
  }

  alike-delivery : (s t : State) (p e q : ℕ) (inv : InvocationValue) → Matches cut on s t → side_of cut Process p ≡ on → side_of cut Endpoint e ≡ on → side_of cut Process q ≡ on
      → Alike cut on (delivered s p e q inv (sent_side s p inv).pieces (received_side s q inv.length).pieces) (delivered t p e q inv (sent_side t p inv).pieces (received_side t q inv.length).pieces)
  alike-delivery s t p e q inv m own over other =
      let from = string-here s t p inv m own in
      let to = same-received cut on alone q other s t m inv.length in
      subst₂ (λ (xs ys : List Piece). Alike cut on (delivered s p e q inv (sent_side s p inv).pieces (received_side s q inv.length).pieces) (delivered t p e q inv xs ys)) from.pieces to.pieces
      (alike-delivered cut on p own e q over other inv s t m (sent_side s p inv).pieces (received_side s q inv.length).pieces from.own to.own)

  cases : Cases Bool (on_side cut on) two
  cases = record {
    pc_is = λ s p pc m own word. record { records = refl; state = match-set_pc cut on p own (s true) (s false) m pc pc refl };
    regs_are = λ s p registers m own are. record { records = refl; state = match-set_registers cut on p own (s true) (s false) m registers registers refl };
    capreg_is = λ s p j c m own may. record { records = refl; state = match-set_capreg cut on p own (s true) (s false) m j c may };
    replied = λ s p accept reply m own may. record { records = refl; state = match-reply cut on p own (s true) (s false) m accept reply may };
    page_is = λ s p at hit size value m own e. record { records = refl; state = match-written cut on (s true) (s false) m hit size value (page-here (s true) (s false) p at Put hit m own refl e) };
    cappage_is = λ s p at place c m own may e. record { records = refl; state = match-cap_stored cut on (s true) (s false) m place c (slot-here (s true) (s false) p at CapStore place m own e) may };
    ready_again = λ s p m own. record { records = refl; state = match-ticked cut on p own (s true) (s false) m };
    halts = λ s m. record { records = refl; state = record { closed = m.closed; holds = m.holds; agree = m.agree } };
    faults = λ s p code address handler m own word may. alike-fault cut on p own (s true) (s false) m code address handler may;
    waits = λ s p q m own other. alike-wait_on cut on p own (s true) (s false) m q (own-await cut m.closed on q other);
    listens = λ s p inv m own asks. alike-listen cut on p own (s true) (s false) m inv;
    sends = λ s p inv m own asks. record { records = (string-here (s true) (s false) p inv m own).records; state = m };
    receives = λ s e q inv m heard asks. record { records = (same-received cut on alone q (own-hears cut m.closed on (s true).store e q heard).1 (s true) (s false) m inv.length).records; state = m };
    delivers = λ s p e q inv m own heard asks. let both = own-hears cut m.closed on (s true).store e q heard in
        alike-delivery (s true) (s false) p e q inv m own both.0 both.1;
    memory = λ s p inv cap m own asks may memory. alike-memory_op cut on alone p own (s true) (s false) m inv cap may;
    control = λ s p inv cap m own asks may. alike-control_op cut on alone p own (s true) (s false) m inv cap may;
  }

  -- one instruction
  pub alike-instruction : (p : ℕ) → side_of cut Process p ≡ on → (s t : State) → Matches cut on s t → Alike cut on (instruction s p) (instruction t p)
  alike-instruction p own s t m = of_instructions Bool (on_side cut on) two (on_side-origins cut on) reads parts cases p own (beside s t) m
