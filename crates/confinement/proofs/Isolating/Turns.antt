-- Events as one side has them: those that no process of it performs, and the same turn of one of its processes.
use Rattle.std.proofs.Common.{◌≡◌, ◌≢◌, ℕ, ◌⊎◌, inl, inr, Bool, true, false, if◌then◌else◌, List, [], length, get_or, Option, Some, None, refl, sym, ◌∙◌, ap, subst, subst₂}
use Rattle.cap_format.specs.declared.kind.CapKind.TheVariants.{Process}
use Rattle.object_store.specs.Store.{Store}
use Rattle.object_store.specs.Object.{object_at}
use Rattle.operations.specs.System.{System}
use Rattle.machine_state.specs.declared.event.Event.{Event}
use Rattle.machine_state.specs.declared.event.Event.TheVariants.{Step, Tick}
use Rattle.machine_state.specs.State.{State}
use Rattle.machine_state.specs.Setters.{dispatch}
use Rattle.machine_state.specs.Outcome.{Outcome, done}
use Rattle.kernel_core.specs.Event.{instruction, stepped, tick_of, performer_by, performer, event_by, event_of}
use Rattle.confinement.specs.declared.cut_side.CutSide.{CutSide}
use Rattle.confinement.specs.Cut.{Cut, side_of, same_side, Holds}
use Rattle.confinement.specs.Acts.{system_of}
use Rattle.confinement.proofs.Runs.{Does, event_does}
use Rattle.confinement.proofs.Sides.{same_side-tells, same_side-not}
use Rattle.confinement.specs.isolation.Agree.{Agree}
use Rattle.confinement.specs.isolation.Turns.{turn_of, of_side}
use Rattle.confinement.proofs.Isolating.States.{Matches, match-dispatch, match-ticked}
use Rattle.confinement.proofs.Isolating.Messaging.{Alike}
use Rattle.confinement.proofs.Isolating.Events.{alike-instruction}

-- ---- agreement goes round and on

module _ (cut : Cut) (side : CutSide) where
  -- from the second to the first
  pub agree-sym : (w v : System) → Agree cut side w v → Agree cut side v w
  agree-sym w v a = let sizes = a.sizes in record {
    same = λ kind n own. sym (a.same kind n own);
    sleepers = λ p own. sym (a.sleepers p own);
    sizes = record { pages = sym sizes.pages; cappages = sym sizes.cappages; gpts = sym sizes.gpts; processes = sym sizes.processes; endpoints = sym sizes.endpoints; sleepers = sym sizes.sleepers };
  }

  -- from one system by a second to a third
  pub agree-then : (w v u : System) → Agree cut side w v → Agree cut side v u → Agree cut side w u
  agree-then w v u a b = let first = a.sizes in let second = b.sizes in record {
    same = λ kind n own. a.same kind n own ∙ b.same kind n own;
    sleepers = λ p own. a.sleepers p own ∙ b.sleepers p own;
    sizes = record {
      pages = first.pages ∙ second.pages;
      cappages = first.cappages ∙ second.cappages;
      gpts = first.gpts ∙ second.gpts;
      processes = first.processes ∙ second.processes;
      endpoints = first.endpoints ∙ second.endpoints;
      sleepers = first.sleepers ∙ second.sleepers;
    };
  }

  -- ---- an event of the other side, or of nobody

  -- nobody of this side performs it
  abbrev pub NotMine : Option ℕ → Type 0
  NotMine by = (p : ℕ) → by ≡ Some p → side_of cut Process p ≢ side

  unseen-by : (s : State) (by : Option ℕ) (t : State) → Does cut s by t → NotMine by → Agree cut side (system_of s) (system_of t)
  unseen-by s None t does other = let idle = does.1 in record {
    same = λ kind n own. ap (λ (o : Store). object_at o kind n) (sym idle.store);
    sleepers = λ p own. ap (λ (xs : List (List ℕ)). get_or xs p []) (sym idle.sleepers);
    sizes = record {
      pages = ap (λ (o : Store). length o.contents.pages) (sym idle.store);
      cappages = ap (λ (o : Store). length o.contents.cappages) (sym idle.store);
      gpts = ap (λ (o : Store). length o.items.gpts) (sym idle.store);
      processes = ap (λ (o : Store). length o.contents.processes) (sym idle.store);
      endpoints = ap (λ (o : Store). length o.contents.endpoints) (sym idle.store);
      sleepers = ap (λ (xs : List (List ℕ)). length xs) (sym idle.sleepers);
    };
  }
  unseen-by s (Some p) t does other = let acts = does.1 in record {
    same = λ kind n own. acts.spares kind n (λ e. other p refl (sym e ∙ own));
    sleepers = λ n own. acts.sleepers n (λ e. other p refl (sym e ∙ own));
    sizes = acts.sizes;
  }

  -- isn't seen
  pub unseen : (s : State) (e : Event) → Holds cut (system_of s) → NotMine (performer s e) → Agree cut side (system_of s) (system_of (event_of s e).state)
  unseen s e holds other = unseen-by s (performer s e) (event_of s e).state (event_does cut s e holds) other

-- ---- an event that a process performs

unless-halted : (b : Bool) (by : Option ℕ) (p : ℕ) → (if b then None else by) ≡ Some p → (b ≡ false) × (by ≡ Some p)
unless-halted true by p e = absurd (cc (e))
unless-halted false by p e = (refl, e)

event-performed : (s : State) (e : Event) (p : ℕ) → performer s e ≡ Some p → (event_of s e ≡ event_by s e) × (performer_by s e ≡ Some p)
event-performed s e p performs =
    let is = unless-halted s.halted (performer_by s e) p performs in
    (ap (λ (b : Bool). if b then done s else event_by s e) is.0, is.1)

event-stepped : (s : State) (hart p : ℕ) → performer s (Step hart) ≡ Some p → event_of s (Step hart) ≡ instruction (dispatch s hart) p
unfolding event_by
event-stepped s hart p performs = let is = event-performed s (Step hart) p performs in is.0 ∙ ap (stepped (dispatch s hart)) is.1

event-ticked : (s : State) (hart p : ℕ) → performer s (Tick hart) ≡ Some p → event_of s (Tick hart) ≡ tick_of s (Some p)
unfolding event_by
event-ticked s hart p performs = let is = event-performed s (Tick hart) p performs in is.0 ∙ ap (tick_of s) is.1

module _ (cut : Cut) (side : CutSide) (alone : cut.weakly side ≡ false) (p : ℕ) (own : side_of cut Process p ≡ side) where
  -- the same turn of a process of this side
  pub alike-turn : (s t : State) → Matches cut side s t → (e f : Event) → performer s e ≡ Some p → performer t f ≡ Some p → turn_of e p ≡ turn_of f p
      → Alike cut side (event_of s e) (event_of t f)
  alike-turn s t m (Step hart) (Step other) first second turn =
      subst₂ (λ (o u : Outcome). Alike cut side o u) (sym (event-stepped s hart p first)) (sym (event-stepped t other p second))
      (alike-instruction cut side alone p own (dispatch s hart) (dispatch t other) (match-dispatch cut side s t m hart other))
  alike-turn s t m (Tick hart) (Tick other) first second turn =
      subst₂ (λ (o u : Outcome). Alike cut side o u) (sym (event-ticked s hart p first)) (sym (event-ticked t other p second))
      (record { records = refl; state = match-ticked cut side p own s t m })
  alike-turn s t m (Step hart) (Tick other) first second turn = absurd (cc (turn))
  alike-turn s t m (Tick hart) (Step other) first second turn = absurd (cc (turn))

-- ---- whose event it is

module _ (cut : Cut) (side : CutSide) where
  -- a process of this side performs it
  pub record Mine (by : Option ℕ) : Type 0 where
    pub process : ℕ
    pub is : by ≡ Some process
    pub own : side_of cut Process process ≡ side
    pub here : same_side (side_of cut Process process) side ≡ true

  -- each event is this side's, or it isn't
  pub whose : (by : Option ℕ) → Mine by ⊎ NotMine cut side by
  whose None = inr (λ p e. absurd (cc (e)))
  whose (Some p) = on (same_side (side_of cut Process p) side) refl
    where
      on : (b : Bool) → same_side (side_of cut Process p) side ≡ b → Mine (Some p) ⊎ NotMine cut side (Some p)
      on true e = inl (record { process = p; is = refl; own = same_side-tells _ _ e; here = e })
      on false e = inr (λ q is. let same : p ≡ q = cc (is) in subst (λ (n : ℕ). side_of cut Process n ≢ side) same (same_side-not _ _ e))

  -- what this side has of an event of its own
  pub of_side-mine : {A : Type 0} (by : Option ℕ) (has : ℕ → List A) (m : Mine by) → of_side cut side by has ≡ has m.process
  of_side-mine by has m = ap (λ (by : Option ℕ). of_side cut side by has) m.is ∙ ap (λ (b : Bool). if b then has m.process else []) m.here

  -- and of any other
  pub of_side-none : {A : Type 0} (by : Option ℕ) (has : ℕ → List A) → NotMine cut side by → of_side cut side by has ≡ []
  of_side-none None has other = refl
  of_side-none (Some p) has other = on (same_side (side_of cut Process p) side) refl
    where
      on : (b : Bool) → same_side (side_of cut Process p) side ≡ b → (if b then has p else []) ≡ []
      on true e = absurd (other p refl (same_side-tells _ _ e))
      on false e = refl
